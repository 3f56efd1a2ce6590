use Rattle.lists.specs.Proving.{rules}
use Rattle.station.proofs.laws.ToldLaw.{begun-told}
use Rattle.station.proofs.AnswerLaw.{begin-at, begin-refused}
use Rattle.station.proofs.begin.Goals as goal

pub returns-in_err-suit : goal.returns-in_err-suit
returns-in_err-suit c = let s = c.args.sheet.now in
    let answer = begin-refused s c.suit.ensures c.in_err-suit.was (search rules) in record { answer = answer; told = begun-told s _ answer }

pub returns : goal.returns
returns c = let s = c.args.sheet.now in
    let answer = begin-at s c.suit.ensures c.in_ok-suit.was in record { answer = answer; told = begun-told s _ answer }
