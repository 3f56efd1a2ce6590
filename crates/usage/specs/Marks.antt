-- The slots that the pairs of a block use.
use Rattle.std.specs.Prelude.{ℕ, ◌%◌, cond, List, ltb, get_or}
use Rattle.std.proofs.Math.Option.{Option, none, some}
use Rattle.model.specs.Machine.{Action}
use Rattle.block.specs.Layout.{pair, waking, site_at}

-- the slot that the pair k uses
unfoldable pub slot_at : List ℕ → ℕ → Option ℕ
slot_at m k = cond (ltb (site_at m k) 32) (some (site_at m k)) none

-- the slot that says where a mutant starts
abbrev pub start_slot_of : List ℕ → Option ℕ
start_slot_of m = slot_at m waking

-- the steps of a machine by its table of next states, at any state and input; its outputs do not matter here
unfoldable pub acts_in : List ℕ → List ℕ → ℕ → ℕ → Action
acts_in m targets s x =
    let k = pair (s % 16) (x % 16) in
    record { move = record { output = 0; target = get_or targets k 0 }; used = slot_at m k }
