-- `put_number` writes the upper digits, then the last one: the number falls.
use Rattle.report.proofs.text.+put_number.Given as goal

abbrev pub decreases-put_number : goal.decreases-put_number
decreases-put_number l = l.n
