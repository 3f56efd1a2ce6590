-- What stands at a place: a command of the code, or what is missing of it.
use Rattle.std.specs.Prelude.{ℕ, ◌+◌, Bool, cond, List, leb, eqb, length, get_or, Some, None, Ok, Err}
use Rattle.std.specs.Prelude.{Option as Maybe}
use Rattle.std.specs.Prelude.{Result as Answer}
use Rattle.commands.specs.declared.fetch.Command.TheVariants as code
use Rattle.commands.specs.declared.fetch.Command.{Command as Code}
use Rattle.commands.specs.declared.fetch.Missing.{Missing}
use Rattle.commands.specs.declared.fetch.Missing.TheVariants.{Nothing, Short, Unknown}
use Rattle.sheet.specs.Reading.{Command, size, quiet, rule, fault, start, test, press, end, width, size_at, row_at}

-- the command with this byte at a place; none where no command has it
abbrev pub command_by : List ℕ → ℕ → ℕ → Maybe Code
command_by s at b =
    cond (eqb b 1) (Some (code.Size (size_at s at)))
    (cond (eqb b 2) (Some (code.Rule (row_at s at)))
    (cond (eqb b 3) (Some (code.Fault (row_at s at)))
    (cond (eqb b 4) (Some code.Test)
    (cond (eqb b 5) (Some (code.Press (get_or s (at + 1) 0)))
    (cond (eqb b 6) (Some code.End)
    (cond (eqb b 7) (Some (code.Start (get_or s (at + 1) 0)))
    (cond (eqb b 8) (Some code.Quiet)
    None)))))))

-- the command that stands whole at a place, if any
abbrev pub command_at : List ℕ → ℕ → Maybe Code
command_at s at = cond (leb (at + width (get_or s at 0)) (length s)) (command_by s at (get_or s at 0)) None

-- by cases: is the byte a command's, and are its operands there?
abbrev pub fetch_by : ℕ → Bool → Maybe Code → Answer Code Missing
fetch_by b all (Some command) = cond all (Ok command) (Err (Short b))
fetch_by b all None = Err (Unknown b)

-- the command at a place; no byte, a byte that is no command's, or a command's byte whose operands are missing
abbrev pub fetch_at : List ℕ → ℕ → Answer Code Missing
fetch_at s at =
    cond (leb (length s) at) (Err Nothing)
    (fetch_by (get_or s at 0) (leb (at + width (get_or s at 0)) (length s)) (command_by s at (get_or s at 0)))

-- a command's byte, and what it says
abbrev pub byte_of : Code → ℕ
byte_of (code.Size z) = 1
byte_of (code.Rule r) = 2
byte_of (code.Fault r) = 3
byte_of code.Test = 4
byte_of (code.Press x) = 5
byte_of code.End = 6
byte_of (code.Start t) = 7
byte_of code.Quiet = 8

abbrev pub says : Code → Command
says (code.Size z) = size z
says (code.Rule r) = rule r
says (code.Fault r) = fault r
says code.Test = test
says (code.Press x) = press x
says code.End = end
says (code.Start t) = start t
says code.Quiet = quiet
