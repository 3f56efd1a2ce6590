-- What the scan for the first broken command finds: whole commands, or the offset of the first that is none.
use Rattle.std.specs.Prelude.{◌+◌, ◌<◌, ◌≤◌, ◌≡◌, ◌&&◌, ◌∷◌, ◌++◌}
use Rattle.lists.specs.Proving.{arith, ℕ, suc, refl, sym, ◌∙◌, ap, subst, Bool, true, false, cond, Option, some, none, List, [], length, get_or, drop, length-append, eqb, eqb-true, eq-eqb, ltb, ltb-true, lt-ltb, never}
use Rattle.lists.specs.Lists.{All, joined}
use Rattle.lists.specs.laws.TestLaw.{both, clash}
use mathlib.Core.List.{append_assoc, append-nil}
use Rattle.sheet.specs.Sheet.{Sheet}
use Rattle.sheet.specs.WellFormed.{WellFormed}
use Rattle.model.specs.Log.{Observation, reset, seen}
use Rattle.block.specs.Logged.{observations, command_bytes, log_bytes, LowSeen}
use Rattle.block.specs.laws.LoggedLaw.{bytes-observed}
use Rattle.records.specs.Record.{in_range, broken_from, broken_in}
use Rattle.records.specs.Means.{Within, Led, Whole, Broken, pulsed_in, BrokenAt}

-- ---- from any command on
module _ (k m : ℕ) where
  -- whole commands to the end
  record Spells (pulsed : Bool) (log : List ℕ) : Type 0 where
    commands : List Observation
    bytes : log ≡ log_bytes commands
    within : All (Within k m) commands
    led : Led pulsed commands

  -- whole commands, then a broken one at the offset i
  record Breaks (pulsed : Bool) (at : ℕ) (log : List ℕ) (i : ℕ) : Type 0 where
    before : List Observation
    rest : List ℕ
    bytes : log ≡ log_bytes before ++ rest
    place : i ≡ at + length (log_bytes before)
    within : All (Within k m) before
    led : Led pulsed before
    broken : Broken k m (pulsed_in pulsed before) rest

  abbrev Scanned : Bool → ℕ → List ℕ → Option ℕ → Type 0
  Scanned pulsed at log none = Spells pulsed log
  Scanned pulsed at log (some i) = Breaks pulsed at log i

  led-reset : (pulsed : Bool) (l : List Observation) → Led pulsed (reset ∷ l)
  led-reset true l = tt
  led-reset false l = tt

  led-pulsed : (pulsed : Bool) (l : List Observation) → pulsed ≡ true → Led pulsed l
  led-pulsed true l e = tt
  led-pulsed false l e = never (cc)

  pulsed-true : (l : List Observation) → pulsed_in true l ≡ true
  pulsed-true [] = refl
  pulsed-true (c ∷ l) = refl

  -- one command more in front
  further : (pulsed : Bool) (c : Observation) (at : ℕ) (rest : List ℕ) (o : Option ℕ) → Within k m c → ((l : List Observation) → Led pulsed (c ∷ l)) →
      Scanned true (at + length (command_bytes c)) rest o → Scanned pulsed at (command_bytes c ++ rest) o
  unfolding log_bytes joined
  further pulsed c at rest none w led s =
      record {
        commands = c ∷ s.commands;
        bytes = ap (λ (r : List ℕ). command_bytes c ++ r) s.bytes;
        within = (w, s.within);
        led = led s.commands;
      }
  further pulsed c at rest (some i) w led s =
      record {
        before = c ∷ s.before;
        rest = s.rest;
        bytes = ap (λ (r : List ℕ). command_bytes c ++ r) s.bytes ∙ sym (append_assoc (command_bytes c) (log_bytes s.before) s.rest);
        place = omega (arith, s.place, length-append (command_bytes c) (log_bytes s.before));
        within = (w, s.within);
        led = led s.before;
        broken = subst (λ (p : Bool). Broken k m p s.rest) (pulsed-true s.before) s.broken;
      }

  -- a command that is none
  none_here : (pulsed : Bool) (at v : ℕ) (rest : List ℕ) → (v ≡ 16 → ⊥) → eqb v 17 && pulsed && in_range k m rest ≡ false → Breaks pulsed at (v ∷ rest) at
  unfolding log_bytes joined
  none_here pulsed at v rest n f =
      record {
        before = [];
        rest = v ∷ rest;
        bytes = refl;
        place = omega arith;
        within = tt;
        led = led-none pulsed;
        broken =
            record {
              some_byte = λ e. never (cc);
              no-pulse = λ more e. n (ap (λ (l : List ℕ). get_or l 0 0) e);
              no-seen = λ x o more e lx lo. seen-early x o more (ap (λ (l : List ℕ). get_or l 0 0) e) (ap (λ (l : List ℕ). drop 1 l) e) lx lo pulsed f;
            };
      }
    where
      led-none : (q : Bool) → Led q []
      led-none true = tt
      led-none false = tt

      seen-early : (x o : ℕ) (more : List ℕ) → v ≡ 17 → rest ≡ x ∷ o ∷ more → x < k → o < m → (q : Bool) → eqb v 17 && q && in_range k m rest ≡ false → q ≡ false
      seen-early x o more ev er lx lo false g = refl
      seen-early x o more ev er lx lo true g =
          clash (eqb v 17 && true && in_range k m rest) (rw (eq-eqb v 17 ev, er, lt-ltb 1 (length (x ∷ o ∷ more)) (omega arith), lt-ltb x k lx, lt-ltb o m lo) refl) g

  -- what a scan from a command on finds, by what it finds after the first
  one : (pulsed : Bool) (at v : ℕ) (rest : List ℕ) → ((next : ℕ) → Scanned true next rest (broken_from k m true 0 next rest)) →
      ((next : ℕ) → Scanned true next (drop 2 rest) (broken_from k m true 0 next (drop 2 rest))) → Scanned pulsed at (v ∷ rest) (broken_from k m pulsed 0 at (v ∷ rest))
  unfolding broken_from
  one pulsed at v rest pulse after = go (eqb v 16) refl (eqb v 17 && pulsed && in_range k m rest) refl
    where
      whole : (v : ℕ) (rest : List ℕ) → v ≡ 17 → pulsed ≡ true → 1 < length rest → get_or rest 0 0 < k → get_or rest 1 0 < m →
          ((next : ℕ) → Scanned true next (drop 2 rest) (broken_from k m true 0 next (drop 2 rest))) → Scanned pulsed at (v ∷ rest) (broken_from k m true 2 (suc at) rest)
      whole v [] ev ep l lx lo h = absurd (omega arith)
      whole v (x ∷ []) ev ep l lx lo h = absurd (omega arith)
      whole v (x ∷ o ∷ r) ev ep l lx lo h =
          rw ev (further pulsed (seen x o) at r (broken_from k m true 0 (suc (suc (suc at))) r) (lx, lo) (λ l. led-pulsed pulsed (seen x o ∷ l) ep)
          (subst (λ (n : ℕ). Scanned true n r (broken_from k m true 0 (suc (suc (suc at))) r)) (omega arith) (h (suc (suc (suc at))))))

      go : (b : Bool) → eqb v 16 ≡ b → (c : Bool) → eqb v 17 && pulsed && in_range k m rest ≡ c →
          Scanned pulsed at (v ∷ rest) (cond (cond b true c) (broken_from k m true (cond b 0 2) (suc at) rest) (some at))
      go true e c f =
          rw (eqb-true v 16 e) (further pulsed reset at rest (broken_from k m true 0 (suc at) rest) tt (λ l. led-reset pulsed l)
          (subst (λ (n : ℕ). Scanned true n rest (broken_from k m true 0 (suc at) rest)) (omega arith) (pulse (suc at))))
      go false e true f =
          let h = both (eqb v 17 && pulsed) (in_range k m rest) f in
          let g = both (eqb v 17) pulsed h.0 in
          let j = both (ltb 1 (length rest) && ltb (get_or rest 0 0) k) (ltb (get_or rest 1 0) m) h.1 in
          let i = both (ltb 1 (length rest)) (ltb (get_or rest 0 0) k) j.0 in
          whole v rest (eqb-true v 17 g.0) g.1 (ltb-true 1 (length rest) i.0) (ltb-true (get_or rest 0 0) k i.1) (ltb-true (get_or rest 1 0) m j.1) after
      go false e false f = none_here pulsed at v rest (λ z. clash (eqb v 16) (eq-eqb v 16 z) e) f

  scan : (log : List ℕ) (pulsed : Bool) (at : ℕ) → Scanned pulsed at log (broken_from k m pulsed 0 at log)
  unfolding broken_from log_bytes joined
  scan [] true at = record { commands = []; bytes = refl; within = tt; led = tt }
  scan [] false at = record { commands = []; bytes = refl; within = tt; led = tt }
  scan (v ∷ []) pulsed at = one pulsed at v [] (λ n. scan [] true n) (λ n. scan [] true n)
  scan (v ∷ x ∷ []) pulsed at = one pulsed at v (x ∷ []) (λ n. scan (x ∷ []) true n) (λ n. scan [] true n)
  scan (v ∷ x ∷ o ∷ r) pulsed at = one pulsed at v (x ∷ o ∷ r) (λ n. scan (x ∷ o ∷ r) true n) (λ n. scan r true n)

  -- whole commands in range, a PULSE first, have no broken one
  pub spelled-whole : (l : List Observation) (pulsed : Bool) (at : ℕ) → All (Within k m) l → Led pulsed l → broken_from k m pulsed 0 at (log_bytes l) ≡ none
  unfolding broken_from log_bytes joined
  spelled-whole [] pulsed at w led = refl
  spelled-whole (reset ∷ l) pulsed at w led = spelled-whole l true (suc at) w.1 tt
  spelled-whole (seen x o ∷ l) true at w led =
      rw (lt-ltb 1 (length (x ∷ o ∷ log_bytes l)) (omega arith), lt-ltb x k w.0.0, lt-ltb o m w.0.1) (spelled-whole l true (suc (suc (suc at))) w.1 tt)
  spelled-whole (seen x o ∷ l) false at w led = absurd led

  low : (k ≤ 16) → (m ≤ 16) → (l : List Observation) → All (Within k m) l → All LowSeen l
  low lk lm [] w = tt
  low lk lm (reset ∷ l) w = (tt, low lk lm l w.1)
  low lk lm (seen x o ∷ l) w = ((omega (arith, w.0), omega (arith, w.0)), low lk lm l w.1)

  -- what is observed along the bytes of commands
  pub observed : (k ≤ 16) → (m ≤ 16) → (l : List Observation) → All (Within k m) l → observations (log_bytes l) ≡ l
  unfolding observations
  observed lk lm l w = ap observations (sym (append-nil (log_bytes l))) ∙ bytes-observed l [] (low lk lm l w) ∙ append-nil l

-- ---- a record
module _ (sh : Sheet) (log : List ℕ) where
  -- 02: no command is refused, and then the record is whole
  pub whole : WellFormed sh → broken_in sh log ≡ none → Whole sh log
  unfolding broken_in
  whole wf e = go (subst (λ (o : Option ℕ). Scanned sh.size.inputs sh.size.outputs false 0 log o) e (scan sh.size.inputs sh.size.outputs log false 0))
    where
      go : Spells sh.size.inputs sh.size.outputs false log → Whole sh log
      go s =
          let is : observations log ≡ s.commands = ap observations s.bytes ∙ observed sh.size.inputs sh.size.outputs (omega (arith, wf.size.inputs)) (omega (arith, wf.size.outputs)) s.commands s.within in
          record { bytes = rw is s.bytes; within = rw is s.within; led = rw is s.led }

  -- 02: 20 at the first command that is cut, unknown, out of range, or a SEEN before any PULSE
  pub broken-at : (at : ℕ) → broken_in sh log ≡ some at → BrokenAt sh log at
  unfolding broken_in
  broken-at at e = go (subst (λ (o : Option ℕ). Scanned sh.size.inputs sh.size.outputs false 0 log o) e (scan sh.size.inputs sh.size.outputs log false 0))
    where
      go : Breaks sh.size.inputs sh.size.outputs false 0 log at → BrokenAt sh log at
      go s = record { before = s.before; rest = s.rest; bytes = s.bytes; place = omega (arith, s.place); within = s.within; led = s.led; broken = s.broken }
