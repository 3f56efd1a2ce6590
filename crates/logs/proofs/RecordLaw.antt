-- Writing a log: what holds between two observations, and between two tests.
use Rattle.std.specs.Prelude.{◌+◌, ◌-◌, ◌*◌, ◌<◌, ◌≤◌, ◌≡◌, ◌∷◌, ◌++◌}
use Rattle.lists.specs.Proving.{arith, ℕ, zero, suc, refl, sym, ◌∙◌, ap, subst, List, [], length, get_or, set, take, length-set, length-append, append_snoc, add-one}
use mathlib.Core.List.{append_assoc, append-nil}
use lib.Seq.{take-suc-set}
use Rattle.lists.specs.Lists.{joined}
use Rattle.model.specs.Log.{Observation, reset, seen, test_log, tests_log}
use Rattle.model.proofs.laws.SuiteLaw.{Following, specified-uncons}
use Rattle.block.specs.Layout.{pair, rule_output, rule_target}
use Rattle.block.specs.Tabulated.{rule_of}
use Rattle.block.specs.laws.ChoiceLaw.{RuleAt, rule-at}
use Rattle.block.specs.Logged.{log_bytes}
use Rattle.block.specs.laws.LoggedLaw.{bytes-append}
use Rattle.logs.specs.Tests.{inputs_at, tests_from, tests_at, Low, Defined, TestAt}
use Rattle.logs.specs.Recorded.{Written, Recorded}
use Rattle.logs.specs.laws.TestsLaw.{inputs-more, tests-more}

-- nothing yet
pub written_none : {log : List ℕ} {from : ℕ} {whole : List ℕ} → from + length whole ≤ length log → Written log log from from whole whole
written_none l = record { long = refl; room = l; many = refl; is = refl }

-- one byte
pub written_one : {old new : List ℕ} {from to : ℕ} {whole rest : List ℕ} (v : ℕ) → Written old new from to whole (v ∷ rest) → Written old (set new to v) from (to + 1) whole rest
written_one {old} {new} {from} {to} {whole} {rest} v w = record {
  long = length-set new to v ∙ w.long;
  room = omega (arith, w.room, length-set new to v);
  many = omega (arith, w.many);
  is = rw (add-one, take-suc-set new to v (omega (arith, w.room)), append_snoc (take to new) v rest) w.is;
}

-- a SEEN command
pub written-seen : {old new : List ℕ} {from to : ℕ} {whole rest : List ℕ} (x o : ℕ) → Written old new from to whole (17 ∷ x ∷ o ∷ rest) →
    Written old (set (set (set new to 17) (to + 1) x) (to + 2) o) from (to + 3) whole rest
written-seen {old} {new} {from} {to} {whole} {rest} x o w =
    let two : to + 1 + 1 ≡ to + 2 = omega arith in
    let three : to + 2 + 1 ≡ to + 3 = omega arith in
    let first : Written old (set (set new to 17) (to + 1) x) from (to + 2) whole (o ∷ rest) =
    subst (λ (i : ℕ). Written old (set (set new to 17) (to + 1) x) from i whole (o ∷ rest)) two (written_one x (written_one 17 w)) in
    subst (λ (i : ℕ). Written old (set (set (set new to 17) (to + 1) x) (to + 2) o) from i whole rest) three (written_one o first)

-- one part after the other
pub written_both : {old mid new : List ℕ} {from at to : ℕ} {whole middle rest : List ℕ} →
    Written old mid from at whole middle → Written mid new at to middle rest → Written old new from to whole rest
written_both u w = record { long = w.long ∙ u.long; room = w.room; many = w.many ∙ u.many; is = w.is ∙ u.is }

-- a part that is written whole, before others
pub written-before : {old new : List ℕ} {from to : ℕ} {part : List ℕ} (rest : List ℕ) → from + length (part ++ rest) ≤ length old →
    Written old new from to part [] → Written old new from to (part ++ rest) rest
written-before {old} {new} {from} {to} {part} rest l w =
    let f = length-append part rest in
    record {
      long = w.long;
      room = omega (arith, w.long, w.many);
      many = omega (arith, w.many);
      is = rw (append-nil (take to new)) at (ap (λ (t : List ℕ). t ++ rest) w.is) ∙ append_assoc (take from old) part rest;
    }

-- ---- within a test

-- the inputs from `at` on are to be written, from the specification's state s
pub record Testing (m sheet old new : List ℕ) (from to : ℕ) (whole : List ℕ) (s at left : ℕ) : Type 0 where
  pub wrote : Written old new from to whole (log_bytes (test_log (rule_of m) s (inputs_at sheet at left)))
  pub inside : at + 2 * left ≤ length sheet
  pub defined : Defined (rule_of m) s (inputs_at sheet at left)

pub testing-start : {m sheet log : List ℕ} {from at n : ℕ} → TestAt (rule_of m) sheet at n → from + length (log_bytes (test_log (rule_of m) 0 (inputs_at sheet at n))) ≤ length log →
    Testing m sheet log log from from (log_bytes (test_log (rule_of m) 0 (inputs_at sheet at n))) 0 at n
testing-start t l = record { wrote = written_none l; inside = t.inside; defined = t.defined }

pub testing-end : {m sheet old new : List ℕ} {from to : ℕ} {whole : List ℕ} {s at left : ℕ} →
    Testing m sheet old new from to whole s at left → left ≤ 0 → Written old new from to whole []
unfolding inputs_at test_log log_bytes joined
testing-end {left = zero} t l = t.wrote
testing-end {left = suc n} t l = absurd (omega arith)

-- the next input has a rule, and there is room for what is seen
pub record Next (m sheet new : List ℕ) (to s at : ℕ) : Type 0 where
  pub state : s < 16
  pub input : get_or sheet (at + 1) 0 < 16
  pub output : rule_output m (pair s (get_or sheet (at + 1) 0)) < 16
  pub room : to + 2 < length new

module _ {m sheet old new : List ℕ} {from to : ℕ} {whole : List ℕ} {s at left : ℕ} (low : Low (rule_of m))
    (t : Testing m sheet old new from to whole s at left) (l : 0 < left) where
  x : ℕ
  x = get_or sheet (at + 1) 0

  follows : Following (rule_of m) s x (inputs_at sheet (at + 2) (left - 1)) t.defined.expected
  unfolding x
  follows = specified-uncons (rule_of m) s x (inputs_at sheet (at + 2) (left - 1)) t.defined.expected (rw (inputs-more sheet at left l) at t.defined.specifies)

  ruled : RuleAt m s x follows.move
  ruled = rule-at m s x follows.move follows.ruled

  wrote : Written old new from to whole (17 ∷ x ∷ follows.move.output ∷ log_bytes (test_log (rule_of m) follows.move.target (inputs_at sheet (at + 2) (left - 1))))
  unfolding x test_log log_bytes joined
  wrote =
      let e : test_log (rule_of m) s (inputs_at sheet at left) ≡ seen x follows.move.output ∷ test_log (rule_of m) follows.move.target (inputs_at sheet (at + 2) (left - 1)) =
      ap (test_log (rule_of m) s) (inputs-more sheet at left l) ∙ rw follows.ruled refl in
      subst (λ (r : List Observation). Written old new from to whole (log_bytes r)) e t.wrote

  pub testing-next : Next m sheet new to s at
  unfolding x
  testing-next =
      let h = low.at s x follows.move follows.ruled in
      record { state = h.state; input = h.input; output = omega (arith, h.output, ruled.output); room = omega (arith, wrote.room) }

  pub testing-more : {k o next rest : ℕ} → k ≡ pair s (get_or sheet (at + 1) 0) → o ≡ rule_output m k → next ≡ at + 2 → rest ≡ left - 1 →
      Testing m sheet old (set (set (set new to 17) (to + 1) (get_or sheet (at + 1) 0)) (to + 2) o) from (to + 3) whole (rule_target m k) next rest
  unfolding x
  testing-more {k} {o} ek eo en er = rw (en, er)
      let same : o ≡ follows.move.output = eo ∙ ap (rule_output m) ek ∙ sym ruled.output in
      subst (λ (q : ℕ). Testing m sheet old (set (set (set new to 17) (to + 1) x) (to + 2) o) from (to + 3) whole q (at + 2) (left - 1)) (ruled.target ∙ ap (rule_target m) (sym ek))
      (record {
        wrote = written-seen x o (subst (λ (v : ℕ). Written old new from to whole (17 ∷ x ∷ v ∷ log_bytes (test_log (rule_of m) follows.move.target (inputs_at sheet (at + 2) (left - 1))))) (sym same) wrote);
        inside = omega (arith, t.inside);
        defined = record { expected = follows.rest; specifies = follows.specifies };
      })

-- ---- from test to test

-- the tests from t on are to be written
pub record Suiting (m sheet starts lengths old new : List ℕ) (n to t : ℕ) : Type 0 where
  pub wrote : Written old new 0 to (log_bytes (tests_log (rule_of m) (tests_at sheet starts lengths n))) (log_bytes (tests_log (rule_of m) (tests_from sheet starts lengths t (n - t))))

pub suite-start : {m sheet starts lengths log : List ℕ} {n : ℕ} → length (log_bytes (tests_log (rule_of m) (tests_at sheet starts lengths n))) ≤ length log →
    Suiting m sheet starts lengths log log n 0 0
suite-start {m} {sheet} {starts} {lengths} {log} {n} l =
    record { wrote = subst (λ (k : ℕ). Written log log 0 0 (log_bytes (tests_log (rule_of m) (tests_at sheet starts lengths n))) (log_bytes (tests_log (rule_of m) (tests_from sheet starts lengths 0 k)))) (let e : n ≡ n - 0 = omega arith in e) (written_none (omega arith)) }

module _ {m sheet starts lengths old new : List ℕ} {n to t : ℕ} (w : Suiting m sheet starts lengths old new n to t) where
  pub suite-end : n ≤ t → Recorded old new to (log_bytes (tests_log (rule_of m) (tests_at sheet starts lengths n)))
  unfolding tests_from tests_log log_bytes joined
  suite-end l =
      let e : n - t ≡ 0 = omega arith in
      let all : take to new ++ [] ≡ log_bytes (tests_log (rule_of m) (tests_at sheet starts lengths n)) = rw e at w.wrote.is in
      record { long = w.wrote.long; inside = omega (arith, w.wrote.room); is = sym (append-nil (take to new)) ∙ all }

  module _ (l : t < n) {at inputs : ℕ} (ea : at ≡ get_or starts t 0) (ei : inputs ≡ get_or lengths t 0) where
    part : List Observation
    part = reset ∷ test_log (rule_of m) 0 (inputs_at sheet at inputs)

    rest : List Observation
    rest = tests_log (rule_of m) (tests_from sheet starts lengths (t + 1) (n - (t + 1)))

    before : Written old new 0 to (log_bytes (tests_log (rule_of m) (tests_at sheet starts lengths n))) (log_bytes part ++ log_bytes rest)
    unfolding part rest tests_log
    before =
        subst (λ (r : List ℕ). Written old new 0 to (log_bytes (tests_log (rule_of m) (tests_at sheet starts lengths n))) r)
        (ap log_bytes (rw (tests-more sheet starts lengths t n l, ea, ei) refl) ∙ bytes-append part rest) w.wrote

    pub suite-room : to + length (log_bytes (reset ∷ test_log (rule_of m) 0 (inputs_at sheet at inputs))) ≤ length new
    unfolding part
    suite-room = omega (arith, before.room, length-append (log_bytes part) (log_bytes rest))

    pub suite-more : {next : List ℕ} {r : ℕ} → Written new next to r (log_bytes (reset ∷ test_log (rule_of m) 0 (inputs_at sheet at inputs))) [] →
        Suiting m sheet starts lengths old next n r (t + 1)
    unfolding part rest
    suite-more p = record { wrote = written_both before (written-before (log_bytes rest) before.room p) }
