-- What is observed at an offset of a log, and the bytes of observations.
use Rattle.std.specs.Prelude.{◌+◌, ◌*◌, ◌/◌, ◌%◌, ◌<◌, ◌≡◌, ◌∷◌, ◌++◌}
use Rattle.lists.specs.Proving.{arith, ℕ, refl, ◌∙◌, ap, List, [], length, get_or, drop, drop-cons, add-one, ne_eqb}
use Rattle.std.proofs.Math.Seq.{get_or-drop}
use Rattle.lists.specs.Lists.{All, joined}
use Rattle.lists.specs.laws.ListLaw.{joined-append}
use Rattle.model.specs.Log.{Observation, reset, seen}
use Rattle.block.specs.Logged.{observations, command_bytes, log_bytes, LowSeen, observation, ObservedAt}

-- ---- at an offset
module _ (log : List ℕ) (at : ℕ) (l : at < length log) where
  suffix : drop at log ≡ get_or log at 0 ∷ drop (at + 1) log
  suffix = rw add-one (drop-cons log at 0 l)

  pub drop-reset : get_or log at 0 ≡ 16 → observations (drop at log) ≡ reset ∷ observations (drop (at + 1) log)
  unfolding observations
  drop-reset e = rw (suffix, e) refl

  pub drop-nothing : (get_or log at 0 ≡ 16 → ⊥) → (get_or log at 0 ≡ 17 → ⊥) → observations (drop at log) ≡ observations (drop (at + 1) log)
  unfolding observations
  drop-nothing n m = rw (suffix, ne_eqb _ _ n, ne_eqb _ _ m) refl

  pub drop-seen : get_or log at 0 ≡ 17 → observations (drop at log) ≡ seen (get_or log (at + 1) 0 % 16) (get_or log (at + 2) 0 % 16) ∷ observations (drop (at + 1) log)
  unfolding observations
  drop-seen e =
      let x : get_or (drop (at + 1) log) 0 0 ≡ get_or log (at + 1) 0 = get_or-drop (at + 1) log 0 0 ∙ ap (λ (i : ℕ). get_or log i 0) (omega arith) in
      let o : get_or (drop (at + 1) log) 1 0 ≡ get_or log (at + 2) 0 = get_or-drop (at + 1) log 1 0 ∙ ap (λ (i : ℕ). get_or log i 0) (omega arith) in
      rw (suffix, e, x, o) refl

-- two bytes that are no commands
pub drop-operands : (log : List ℕ) (at : ℕ) → at + 2 < length log → get_or log (at + 1) 0 < 16 → get_or log (at + 2) 0 < 16 → observations (drop (at + 1) log) ≡ observations (drop (at + 3) log)
drop-operands log at l x o =
    let e : at + 1 + 1 ≡ at + 2 = omega arith in
    let f : at + 2 + 1 ≡ at + 3 = omega arith in
    drop-nothing log (at + 1) (omega arith) (λ z. omega arith) (λ z. omega arith)
    ∙ ap (λ (i : ℕ). observations (drop i log)) e
    ∙ drop-nothing log (at + 2) (omega arith) (λ z. omega arith) (λ z. omega arith)
    ∙ ap (λ (i : ℕ). observations (drop i log)) f

-- a number for each
pub seen-code : (x o : ℕ) → observation (x % 16 * 16 + o % 16) ≡ seen (x % 16) (o % 16)
unfolding observation
seen-code x o =
    let e : (x % 16 * 16 + o % 16) / 16 ≡ x % 16 = omega arith in
    let f : (x % 16 * 16 + o % 16) % 16 ≡ o % 16 = omega arith in
    rw (ne_eqb (x % 16 * 16 + o % 16) 256 (λ z. omega arith), e, f) refl

-- ---- what `observe` finds
module _ {log : List ℕ} {at : ℕ} (l : at < length log) where
  pub observed-reset : get_or log at 0 ≡ 16 → ObservedAt log at (record { code = 256; next = at + 1 })
  unfolding observation
  observed-reset e = record { is = λ h. drop-reset log at l e; nothing = λ h. absurd (omega arith); onward = omega arith; inside = omega arith }

  pub observed-nothing : (get_or log at 0 ≡ 16 → ⊥) → (get_or log at 0 ≡ 17 → ⊥) → ObservedAt log at (record { code = 512; next = at + 1 })
  observed-nothing n m = record { is = λ h. absurd (omega arith); nothing = λ h. drop-nothing log at l n m; onward = omega arith; inside = omega arith }

  module _ (e : get_or log at 0 ≡ 17) {x o : ℕ} (ex : x ≡ get_or log (at + 1) 0) (eo : o ≡ get_or log (at + 2) 0) {v : ℕ} (ev : v ≡ x % 16 * 16 + o % 16) where
    -- only the command is passed over
    pub observed-short : ObservedAt log at (record { code = v; next = at + 1 })
    observed-short =
        record {
          is = λ h. rw (ev, seen-code x o, ex, eo) (drop-seen log at l e);
          nothing = λ h. absurd (omega arith);
          onward = omega arith;
          inside = omega arith;
        }

    -- and its operands
    pub observed-seen : at + 2 < length log → x < 16 → o < 16 → ObservedAt log at (record { code = v; next = at + 3 })
    observed-seen k lx lo =
        record {
          is = λ h. observed-short.is h ∙ ap (λ (r : List Observation). observation v ∷ r) (drop-operands log at k (omega (arith, ex)) (omega (arith, eo)));
          nothing = λ h. absurd (omega arith);
          onward = omega arith;
          inside = omega arith;
        }

-- ---- the bytes of observations
pub bytes-append : (l k : List Observation) → log_bytes (l ++ k) ≡ log_bytes l ++ log_bytes k
unfolding log_bytes
bytes-append l k = joined-append command_bytes l k

pub bytes-observed : (l : List Observation) (rest : List ℕ) → All LowSeen l → observations (log_bytes l ++ rest) ≡ l ++ observations rest
unfolding log_bytes joined observations
bytes-observed [] rest a = refl
bytes-observed (reset ∷ l) rest a = ap (λ (r : List Observation). reset ∷ r) (bytes-observed l rest a.1)
bytes-observed (seen x o ∷ l) rest a =
    let ex : x % 16 ≡ x = omega (arith, a.0) in
    let eo : o % 16 ≡ o = omega (arith, a.0) in
    rw (
      ne_eqb x 16 (λ z. omega (arith, a.0)),
      ne_eqb x 17 (λ z. omega (arith, a.0)),
      ne_eqb o 16 (λ z. omega (arith, a.0)),
      ne_eqb o 17 (λ z. omega (arith, a.0)),
      ex,
      eo,
      bytes-observed l rest a.1,
    )
    refl
