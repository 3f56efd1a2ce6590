-- What the search for a nonconforming mutant finds is the judgement.
use Rattle.std.specs.Prelude.{◌≡◌, Some}
use Rattle.lists.specs.Proving.{arith, ℕ, refl, ◌∙◌, ap, Option, some, none, List, length, never}
use Rattle.lists.specs.Lists.{overlay}
use Rattle.sheet.specs.Sheet.{Sheet}
use Rattle.model.specs.Suite.{Passes, compare_of, complete, survivor, judge_of}
use Rattle.model.specs.Log.{suite_log}
use Rattle.model.proofs.laws.JudgeLaw.{judge-none, judge-first}
use Rattle.model.proofs.laws.LogLaw.{passes-gives}
use Rattle.logs.specs.laws.WalkedLaw.{gives-passes}
use Rattle.cubes.specs.declared.goal.Goal.TheVariants.{Nonconforming}
use Rattle.machine.specs.Differences.{Difference, difference_of}
use Rattle.search.specs.Search.{Wanted, In, every, NoneOf}
use Rattle.search.specs.Shown.{Shown}

-- a mutant that passes and is not wanted conforms
unwanted : {sh : Sheet} {b : List ℕ} → (Wanted Nonconforming sh (suite_log sh) b → ⊥) → Passes sh b → compare_of sh b ≡ none
unwanted {sh} {b} h ps = go (compare_of sh b) refl
  where
    go : (o : Option (List ℕ)) → compare_of sh b ≡ o → o ≡ none
    go none e = refl
    go (some xs) e = absurd (h (record { gives = passes-gives sh b ps; meets = λ n. never (cc) }))

-- every mutant is among every one
pub any : {b : List ℕ} → In every b
any = (record { at = λ j h. absurd (omega arith) }, omega arith)

pub none-judged : {sh : Sheet} → NoneOf Nonconforming sh (suite_log sh) every → judge_of sh ≡ complete
none-judged {sh} h = judge-none sh (λ b is. unwanted (h.at b is any))

-- the survivor and its distinguishing sequence stand in the buffers
pub record Survivor (sh : Sheet) (d : Difference) (old_board new_board old_sequence new_sequence : List ℕ) : Type 0 where
  pub mutant : List ℕ
  pub inputs : List ℕ
  pub judged : judge_of sh ≡ survivor mutant inputs
  pub long : d ≡ Some (length inputs)
  pub board : new_board ≡ overlay mutant old_board
  pub sequence : new_sequence ≡ overlay inputs old_sequence

pub first-judged : {sh : Sheet} {d : Difference} {board board' sequence sequence' : List ℕ} → Shown Nonconforming sh (suite_log sh) every d board board' sequence sequence' → Survivor sh d board board' sequence sequence'
first-judged {sh} {d} {board} {board'} {sequence} {sequence'} s = go (compare_of sh s.mutant) refl
  where
    go : (o : Option (List ℕ)) → compare_of sh s.mutant ≡ o → Survivor sh d board board' sequence sequence'
    go none e = absurd (s.first.wanted.meets e)
    go (some xs) e =
        record {
          mutant = s.mutant;
          inputs = xs;
          judged = judge-first sh s.mutant xs s.first.is (gives-passes sh s.mutant s.first.wanted.gives) e (λ b is before. unwanted (s.first.first b is any before));
          long = s.written.difference ∙ ap difference_of e;
          board = s.written.board;
          sequence = rw e at s.written.sequence;
        }
