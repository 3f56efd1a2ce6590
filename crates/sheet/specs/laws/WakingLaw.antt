-- The states in which a mutant may wake, and how many choices make up a mutant.
use Rattle.std.specs.Prelude.{ℕ, suc, ◌+◌, ◌<◌, ◌≤◌, ◌≡◌, [], length}
use Rattle.std.proofs.Math.Path.{refl}
use native.Mathlib.Omega.{arith}
use Rattle.std.proofs.Math.ListN.{get_or}
use Rattle.std.proofs.Common.{lt-ltb}
use Rattle.lists.specs.Lists.{All, Ascending}
use Rattle.sheet.specs.Sheet.{Sheet, open_pairs, wakings, waking_choices, waking_slots, open_slots}
use Rattle.sheet.specs.WellFormed.{StartIn, WellFormed}
use Rattle.sheet.specs.Tables.{tables_of}
use Rattle.lists.specs.laws.AllLaw.{all-imp, all_get_d}
use Rattle.lists.specs.laws.MemberLaw.{ascending-few}
use Rattle.sheet.specs.laws.TablesLaw.{below_at}

module _ {sh : Sheet} (w : WellFormed sh) where
  -- each is a state of the sheet, also what stands in past the last
  pub wakings-in : All (λ t. t < sh.size.states) (wakings sh)
  unfolding wakings
  wakings-in =
      let some = w.size.states.some in
      (omega arith, all-imp (λ t. t < sh.size.states) (StartIn sh.size) (λ t h. h.inside) sh.starts w.starts)

  pub waking-in : (c : ℕ) → get_or (wakings sh) c 0 < sh.size.states
  waking-in c = let some = w.size.states.some in all_get_d (λ t. t < sh.size.states) (wakings sh) c 0 wakings-in (omega arith)

  -- no state stands there twice
  pub wakings-ascend : Ascending ◌<◌ (wakings sh)
  unfolding wakings Ascending
  wakings-ascend = (all-imp (λ t. 0 < t) (StartIn sh.size) (λ t h. h.some) sh.starts w.starts, w.starts-ascend)

  -- so they are at most as many as states
  pub few-wakings : waking_choices sh ≤ sh.size.states
  unfolding waking_choices
  few-wakings =
      let all : All (λ t. (0 ≤ t) × (t < sh.size.states)) (wakings sh) = all-imp _ (λ t. t < sh.size.states) (λ t h. (omega arith, h)) (wakings sh) wakings-in in
      let few = ascending-few 0 sh.size.states (wakings sh) (omega arith) all wakings-ascend in
      omega arith

  pub most-wakings : waking_choices sh ≤ 16
  most-wakings = let few = w.size.states.few in omega (arith, few-wakings)

  pub few-starts : length sh.starts ≤ 15
  unfolding waking_choices wakings
  few-starts = omega (arith, most-wakings)

module _ (sh : Sheet) where
  -- state 0 is one of them
  pub some-waking : 1 ≤ waking_choices sh
  unfolding waking_choices wakings
  some-waking = omega arith

  -- without a START there is no choice, with one there is
  pub no-choice : sh.starts ≡ [] → waking_slots sh ≡ 0
  unfolding waking_slots waking_choices wakings
  no-choice e = rw e

  pub a-choice : 1 ≤ length sh.starts → waking_slots sh ≡ 1
  unfolding waking_slots waking_choices wakings
  a-choice h = rw (lt-ltb 1 (suc (length sh.starts)) (omega arith))

  -- the choices of a mutant: first where it wakes, then the open pairs
  pub open-slots : open_slots sh ≡ waking_slots sh + open_pairs sh
  unfolding open_slots
  open-slots = refl

  -- the waking states by choice, in the tables
  pub wakings-at : (c : ℕ) → c < 16 → get_or (tables_of sh).wakings c 0 ≡ get_or (wakings sh) c 0
  unfolding tables_of
  wakings-at c h = below_at 16 (λ i. get_or (wakings sh) i 0) c h
