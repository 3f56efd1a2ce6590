-- The whole sheet.
use Rattle.std.proofs.Common.{◌≡◌, ℕ, zero, suc, ◌+◌, ◌<◌, ◌≤◌, Bool, true, false, not, cond, List, length, replicate, refl, ap, sym, ◌∙◌, arith, le-ltb, lt-ltb}
use Rattle.std.specs.Prelude.{ltb, None, Ok, Err}
use Rattle.std.specs.Prelude.{Result as Answer}
use lib.ListN.{get_or-replicate, length-replicate}
use Rattle.lists.specs.Lists.{last}
use Rattle.lists.specs.laws.TestLaw.{never}
use Rattle.sheet.specs.declared.Refusal.{Refusal}
use Rattle.sheet.specs.Sheet.{Sheet, rows_at, rule_at, after, all_reached, open_slots}
use Rattle.sheet.specs.Reading.{Progress, Reading, accepted, refused, go, stop, last_test, first_broken, refuse_or, finishing, one_command, from, blank, reading, summary_of}
use Rattle.sheet.specs.Tables.{refusal_of, read_answer}
use Rattle.sheet.specs.words.Tabled.{place_of}
use Rattle.ending.specs.words.Ending.{Gathered, end_of}
use Rattle.commands.specs.declared.rules.Phase.TheVariants as phase
use Rattle.commands.specs.declared.rules.State.{State}
use Rattle.commands.specs.words.Held.{Holds, HeldFor, Scanned, RulesOf, RulesIn, summary_by}

pub fresh_holds : Holds (record {
  phase = phase.Unsized;
  size = record { states = 0; inputs = 0; outputs = 0 };
  quiet = false;
  rules = record { count = 0; last = None };
  faults = record { count = 0; last = None };
  starts = 0;
  tests = record { count = 0; inputs = 0; state = 0 };
  output = replicate 256 255;
  target = replicate 256 255;
  faulty = replicate 256 0;
}) blank
unfolding blank rows_at rule_at last after last_test
fresh_holds = record {
  phase = refl;
  size = refl;
  quiet = refl;
  bounds = record { states = omega arith; inputs = omega arith; outputs = omega arith };
  rules = record {
    count = refl;
    key = refl;
    most = omega arith;
    least = omega arith;
    below = tt;
    outputs = record { size = length-replicate {A = ℕ} 256 255; at = λ s x hs hx. get_or-replicate 256 (place_of s x) 255 0 (omega arith) };
    targets = record {
      digits = tt;
      table = record { size = length-replicate {A = ℕ} 256 255; at = λ s x hs hx. get_or-replicate 256 (place_of s x) 255 0 (omega arith) };
    };
  };
  faults = record {
    count = refl;
    most = omega arith;
    key = refl;
    digits = tt;
    marks = record { size = length-replicate {A = ℕ} 256 0; at = λ s x hs hx. get_or-replicate 256 (place_of s x) 0 0 (omega arith) };
  };
  starts = record { key = refl; most = omega arith };
  tests = record { count = refl; most = omega arith; inputs = refl; most-inputs = omega arith; state = refl; digit = omega arith };
  ordered = record { quiet = λ _. refl; rules = λ _. refl; faults = λ _. refl; starts = λ _. refl; tests = λ _. refl; begun = λ k. absurd (omega arith) };
}

-- what END looks at
pub gathered : {c : State} {p : Progress} → Holds c p → Gathered c.size c.starts c.quiet c.target c.faulty p.sheet
gathered h = record { size = h.size; starts-are = h.starts; quiet_is = h.quiet; leads = h.rules.targets; faulty = h.faults.marks }

finish-held : {c : State} {p : Progress} (s : List ℕ) (at : ℕ) → Holds c p → HeldFor c (finishing p.sheet s at)
unfolding finishing first_broken
finish-held {c} {p} s at h = one (ltb (at + 1) (length s)) (all_reached p.sheet) (ltb 32 (open_slots p.sheet))
  where
    one : (a b d : Bool) → HeldFor c (cond a (refused 10 (at + 1)) (refuse_or (cond (not b) 11 (cond d 12 0)) at (accepted p.sheet)))
    one true b d = tt
    one false true true = tt
    one false true false = record { progress = p; same = refl; holds = h }
    one false false d = tt

-- the reading of the whole is the reading from here, with what is read so far
pub record Going (s : List ℕ) (c : State) (at : ℕ) : Type 0 where
  pub within : at ≤ length s
  pub fuel : ℕ
  pub enough : length s ≤ fuel + at
  pub progress : Progress
  pub holds : Holds c progress
  pub rest : from (suc fuel) progress s at ≡ from (length s + 1) blank s 0

pub going_start : (s : List ℕ) (c : State) → Holds c blank → Going s c 0
going_start s c h = record { within = omega arith; fuel = length s; enough = omega arith; progress = blank; holds = h; rest = ap (λ (f : ℕ). from f blank s 0) (omega arith) }

module _ (s : List ℕ) {c : State} {at : ℕ} (g : Going s c at) where
  -- after one command more
  pub going_on : (c' : State) (q : Progress) (to : ℕ) → at < to → to ≤ length s → one_command g.progress s at ≡ go q to → Holds c' q → Going s c' to
  unfolding from
  going_on c' q to up in' e h = one g.fuel g.enough (rw e at g.rest)
    where
      one : (f : ℕ) → length s ≤ f + at → from f q s to ≡ from (length s + 1) blank s 0 → Going s c' to
      one zero k r = absurd (omega arith)
      one (suc f) k r = record { within = in'; fuel = f; enough = omega arith; progress = q; holds = h; rest = r }

  -- at its end
  ended : (d : Reading) → one_command g.progress s at ≡ stop d → from (length s + 1) blank s 0 ≡ d
  unfolding from
  ended d e = sym (rw e at g.rest)

  pub going_refused : (c' : State) (why : Refusal) → one_command g.progress s at ≡ stop (refused why.number why.place) → Scanned (from (length s + 1) blank s 0) (Err why) c'
  going_refused c' why e = rw (ended _ e) (record { end = refl; state = tt })

  pub going_end : (r : Answer ℕ Refusal) → one_command g.progress s at ≡ stop (finishing g.progress.sheet s at) → r ≡ end_of (finishing g.progress.sheet s at)
      → Scanned (from (length s + 1) blank s 0) r c
  going_end r e i = rw (ended _ e) (record { end = i; state = finish-held s at g.holds })

-- 1 before all else
pub scan-long : (s os ts : List ℕ) → 16384 < length s → (Err (refusal_of 1 16384) ≡ read_answer (reading s)) × RulesIn (reading s) os ts
unfolding reading
scan-long s os ts h = rw (lt-ltb 16384 (length s) h) (refl, tt)

-- 01's answer, and the tables of the rules
told : (d : Reading) (c : State) (n : ℕ) → Scanned d (Ok n) c → (Ok (summary_by c n) ≡ read_answer d) × RulesIn d c.output c.target
unfolding summary_of
told (accepted sh) c n h =
    let f = h.state.holds in
    let o : n ≡ open_slots sh = cc (h.end) in
    let z : c.size ≡ sh.size = f.size ∙ ap (λ (x : Sheet). x.size) h.state.same in
    let a : c.rules.count ≡ length sh.rules = f.rules.count ∙ ap (λ (x : Sheet). length x.rules) h.state.same in
    let b : c.faults.count ≡ length sh.faults = f.faults.count ∙ ap (λ (x : Sheet). length x.faults) h.state.same in
    let t : c.tests.count ≡ length sh.tests = f.tests.count ∙ ap (λ (x : Sheet). length x.tests) h.state.same in
    let r : RulesOf h.state.progress.sheet.rules c.output c.target = record { outputs-are = f.rules.outputs; leads = f.rules.targets } in
    (rw (o, z, a, b, t), rw h.state.same at r)
told (refused k p) c n h = never (cc (h.end))

module _ (s : List ℕ) (c : State) (few : length s ≤ 16384) where
  pub scan-told : (n : ℕ) → Scanned (from (length s + 1) blank s 0) (Ok n) c → (Ok (summary_by c n) ≡ read_answer (reading s)) × RulesIn (reading s) c.output c.target
  unfolding reading
  scan-told n h = rw (le-ltb 16384 (length s) few) (told _ c n h)

  pub scan-refused : (why : Refusal) (os ts : List ℕ) → Scanned (from (length s + 1) blank s 0) (Err why) c → (Err why ≡ read_answer (reading s)) × RulesIn (reading s) os ts
  unfolding reading
  scan-refused why os ts h = rw (le-ltb 16384 (length s) few) (one _ h)
    where
      one : (d : Reading) → Scanned d (Err why) c → (Err why ≡ read_answer d) × RulesIn d os ts
      one (accepted sh) h = never (cc (h.end))
      one (refused k p) h = (cc (h.end), tt)

-- of a refused sheet nothing is told of its rules
pub nothing-told : (d : Reading) {why : Refusal} → Err why ≡ read_answer d → (os ts : List ℕ) → RulesIn d os ts
nothing-told (accepted sh) e os ts = never (cc (e))
nothing-told (refused k p) e os ts = tt
