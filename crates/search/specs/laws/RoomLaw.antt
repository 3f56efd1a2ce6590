-- Room in both buffers, or none.
use Rattle.std.specs.Prelude.{◌*◌, ◌≤◌, ◌<◌, ◌≡◌, Ok, Err}
use Rattle.lists.specs.Proving.{arith, ℕ, refl, ap, Bool, true, false, List, length, ltb, lt-ltb, le-ltb, dec_lt, never}
use Rattle.sheet.specs.declared.Refusal.{Refusal}
use Rattle.sheet.specs.Sheet.{Sheet}
use Rattle.sheet.specs.Reading.{Result, accepted, refused}
use Rattle.sheet.specs.Tables.{refusal_of, answer_by}
use Rattle.model.specs.Mutant.{slots}
use Rattle.model.specs.Operations.{refuse_if}
use Rattle.block.specs.Layout.{slots_of}
use Rattle.block.specs.Tabled.{Tabled}
use Rattle.search.specs.Rooms.{with_room, room_of}
use Rattle.search.specs.Shown.{Room}

module _ (sh : Sheet) (board sequence : ℕ) where
  -- a refusal ends every operation
  pub room-refused : {why : Refusal} → room_of sh board sequence ≡ Err why → {A : Type 0} (r : Result A) → with_room sh board sequence r ≡ refused why.number why.place
  unfolding room_of
  room-refused {why} e {A} r = go (ltb board (length (slots sh))) (ltb sequence (sh.size.states * sh.size.states)) e
    where
      by : Refusal → Result A
      by w = refused w.number w.place

      go : (t u : Bool) → answer_by (λ (u : Unit {0}). u) (refuse_if t 16 0 (refuse_if u 16 1 (accepted tt))) ≡ Err why →
          refuse_if {A = A} t 16 0 (refuse_if u 16 1 r) ≡ refused why.number why.place
      go true u h = let g : refusal_of 16 0 ≡ why = cc in ap by g
      go false true h = let g : refusal_of 16 1 ≡ why = cc in ap by g
      go false false h = never (cc)

  -- with room it goes on
  pub room-goes-on : room_of sh board sequence ≡ Ok tt → {A : Type 0} (r : Result A) → with_room sh board sequence r ≡ r
  unfolding room_of
  room-goes-on e {A} r = go (ltb board (length (slots sh))) (ltb sequence (sh.size.states * sh.size.states)) e
    where
      go : (t u : Bool) → answer_by (λ (u : Unit {0}). u) (refuse_if t 16 0 (refuse_if u 16 1 (accepted tt))) ≡ Ok tt →
          refuse_if {A = A} t 16 0 (refuse_if u 16 1 r) ≡ r
      go true u h = never (cc)
      go false true h = never (cc)
      go false false h = refl

  pub room-there : length (slots sh) ≤ board → sh.size.states * sh.size.states ≤ sequence → room_of sh board sequence ≡ Ok tt
  unfolding room_of
  room-there lb ls = rw (le-ltb board (length (slots sh)) lb, le-ltb sequence (sh.size.states * sh.size.states) ls) refl

  pub no-board : board < length (slots sh) → room_of sh board sequence ≡ Err (refusal_of 16 0)
  unfolding room_of
  no-board l = rw (lt-ltb board (length (slots sh)) l) refl

  pub no-sequence : length (slots sh) ≤ board → sequence < sh.size.states * sh.size.states → room_of sh board sequence ≡ Err (refusal_of 16 1)
  unfolding room_of
  no-sequence lb l = rw (le-ltb board (length (slots sh)) lb, lt-ltb sequence (sh.size.states * sh.size.states) l) refl

pub has-room : {sh : Sheet} {m : List ℕ} → Tabled sh m → (board sequence : List ℕ) → room_of sh (length board) (length sequence) ≡ Ok tt → Room m board sequence
has-room {sh} {m} tb board sequence e = go (dec_lt (length board) (length (slots sh))) (dec_lt (length sequence) (sh.size.states * sh.size.states))
  where
    go : Dec (length board < length (slots sh)) → Dec (length sequence < sh.size.states * sh.size.states) → Room m board sequence
    go (yes l) d = let h = no-board sh (length board) (length sequence) l in never (cc)
    go (no n) (yes l) = let h = no-sequence sh (length board) (length sequence) (omega arith) l in never (cc)
    go (no n) (no k) = record { choices = omega (arith, tb.count); inputs = rw tb.states (omega arith) }
