-- The suspects of a sheet: how many there are, which states and inputs they are, and which byte of a mutant each uses; and the byte of
-- the waking state.
use Prim.Native.Nat.{ℕ, zero, suc, ◌+◌, ◌<◌, suc-le-suc}
use native.Mathlib.Omega.{arith}
use Rattle.std.specs.Prelude.{◌≡◌, Bool, ◌&&◌, eqb, replicate}
use Rattle.std.proofs.Math.Path.{refl, ap}
use Rattle.std.proofs.Common.{sym, ◌∙◌, get_or-append-add}
use Rattle.std.proofs.Math.Bool.{true, false, cond}
use Rattle.std.proofs.Math.Option.{Option, none, some}
use mathlib.Core.List.{List, [], ◌∷◌, ◌++◌, map, append_assoc}
use borrow.Author.Tests.{eqb-true, eq-eqb, ltb-true, lt-ltb}
use Rattle.std.proofs.Math.Dec.{ltb}
use Rattle.std.proofs.Math.ListN.{length, get_or, length-append}
use Rattle.std.proofs.lemmas.List.{length-map, length-replicate}
use Rattle.lists.specs.Lists.{All, count, up_to, joined}
use Rattle.sheet.specs.Sheet.{Sheet, choices_at, is_open, open_below, open_pairs, wakings, waking_choices, waking_slots, open_slots}
use Rattle.lists.specs.laws.TestLaw.{never}
use Rattle.model.specs.Mutant.{Suspect, keep_open, suspects, slots, later, site_in, slot_of, site_of, start_slot}
use Rattle.lists.specs.laws.TestLaw.{clash}
use Rattle.lists.specs.laws.AllLaw.{all-imp, all_append, all-joined}
use Rattle.lists.specs.laws.MemberLaw.{up_to-below}
use Rattle.lists.specs.laws.ListLaw.{joined-split, length-joined-snoc, get_or-map-below, all-at-index}

-- the suspects of the state s with inputs below i; those of the states below i
abbrev suspects_at : Sheet → ℕ → ℕ → List Suspect
suspects_at sh s i = joined (λ x. keep_open sh s x) (up_to i)

suspects_below : Sheet → ℕ → List Suspect
suspects_below sh i = joined (λ s. suspects_at sh s sh.size.inputs) (up_to i)

pub at_count : (sh : Sheet) (s i : ℕ) → length (suspects_at sh s i) ≡ count (is_open sh s) i
unfolding count up_to joined
at_count sh s zero = refl
at_count sh s (suc i) =
    length-joined-snoc (λ x. keep_open sh s x) i ∙ ap (λ c. c + length (keep_open sh s i)) (at_count sh s i)
    ∙ one_more (is_open sh s i) (record { state = s; input = i }) (count (is_open sh s) i)
  where
    one_more : (b : Bool) (u : Suspect) (c : ℕ) → c + length (cond b (u ∷ []) []) ≡ cond b (suc c) c
    one_more true u c = omega arith
    one_more false u c = omega arith

below-count : (sh : Sheet) (i : ℕ) → length (suspects_below sh i) ≡ open_below sh i
unfolding suspects_below open_below up_to joined
below-count sh zero = refl
below-count sh (suc i) =
    length-joined-snoc (λ s. suspects_at sh s sh.size.inputs) i
    ∙ rw (at_count sh i sh.size.inputs) (ap (λ c. c + count (is_open sh i) sh.size.inputs) (below-count sh i))

-- as many suspects as open pairs
pub suspect-count : (sh : Sheet) → length (suspects sh) ≡ open_pairs sh
unfolding suspects suspects_below open_pairs
suspect-count sh = below-count sh sh.size.states

-- the numbers of choices of the suspects
abbrev pair_choices : Sheet → List ℕ
pair_choices sh = map (λ (u : Suspect). choices_at sh u.state u.input) (suspects sh)

-- a mutant has one byte for where it wakes, if there is a choice, and one for each open pair
pub slot-count : (sh : Sheet) → length (slots sh) ≡ open_slots sh
unfolding slots open_slots
slot-count sh =
    length-append (replicate (waking_slots sh) (waking_choices sh)) (pair_choices sh)
    ∙ rw (length-replicate (waking_slots sh) (waking_choices sh), length-map (suspects sh) (λ (u : Suspect). choices_at sh u.state u.input), suspect-count sh)
    refl

-- the number of choices of a suspect's byte
slot_at : (sh : Sheet) (j d : ℕ) → get_or (slots sh) (waking_slots sh + j) d ≡ get_or (pair_choices sh) j d
unfolding slots
slot_at sh j d =
    let e = length-replicate (waking_slots sh) (waking_choices sh) in
    ap (λ w. get_or (slots sh) (w + j) d) (sym e) ∙ get_or-append-add (replicate (waking_slots sh) (waking_choices sh)) (pair_choices sh) j d

-- a byte that a suspect uses has the suspect's number, those before it counted
slot-of : (sh : Sheet) (o : Option ℕ) (i : ℕ) → slot_of sh o ≡ some i → (j : ℕ) × (o ≡ some j) × (waking_slots sh + j ≡ i)
slot-of sh none i e = never (cc)
slot-of sh (some j) i e = (j, refl, cc)

-- a state and an input of the sheet, and open
pub record IsSuspect (sh : Sheet) (u : Suspect) : Type 0 where
  pub state : u.state < sh.size.states
  pub input : u.input < sh.size.inputs
  pub several : is_open sh u.state u.input ≡ true

-- an open pair of the state s with an input below i; of a state below i
abbrev OpenAt : Sheet → ℕ → ℕ → Suspect → Type 0
OpenAt sh s i u = (u.state ≡ s) × (u.input < i) × (is_open sh u.state u.input ≡ true)

abbrev OpenBelow : Sheet → ℕ → Suspect → Type 0
OpenBelow sh i u = (u.state < i) × (u.input < sh.size.inputs) × (is_open sh u.state u.input ≡ true)

-- not the suspect of this state and input
abbrev Other : ℕ → ℕ → Suspect → Type 0
Other s x u = u.state ≡ s → u.input ≡ x → ⊥

all-at : (sh : Sheet) (s i : ℕ) → All (OpenAt sh s i) (suspects_at sh s i)
all-at sh s i =
    all-joined (OpenAt sh s i) (λ x. keep_open sh s x) (up_to i)
    (all-imp _ (λ (x : ℕ). x < i) (λ x l. kept x l (is_open sh s x) refl) (up_to i) (up_to-below i))
  where
    kept : (x : ℕ) → x < i → (b : Bool) → is_open sh s x ≡ b → All (OpenAt sh s i) (cond b (record { state = s; input = x } ∷ []) [])
    kept x l true e = ((refl, l, e), tt)
    kept x l false e = tt

all-below : (sh : Sheet) (i : ℕ) → All (OpenBelow sh i) (suspects_below sh i)
unfolding suspects_below
all-below sh i =
    all-joined (OpenBelow sh i) (λ s. suspects_at sh s sh.size.inputs) (up_to i)
    (all-imp _ (λ (s : ℕ). s < i)
    (λ s l.
    all-imp (OpenBelow sh i) (OpenAt sh s sh.size.inputs) (λ (u : Suspect) h. (rw h.0 l, h.1, h.2))
    (suspects_at sh s sh.size.inputs) (all-at sh s sh.size.inputs))
    (up_to i) (up_to-below i))

-- every suspect is an open pair of the sheet
pub suspects-are : (sh : Sheet) → All (IsSuspect sh) (suspects sh)
unfolding suspects suspects_below
suspects-are sh =
    all-imp (IsSuspect sh) (OpenBelow sh sh.size.states) (λ (u : Suspect) h. record { state = h.0; input = h.1; several = h.2 })
    (suspects sh) (all-below sh sh.size.states)

-- the byte that a state and an input use belongs to the suspect of that state and input
pub site-in : (us : List Suspect) (s x i : ℕ) (d : Suspect) → site_in us s x ≡ some i →
    (i < length us) × (get_or us i d ≡ record { state = s; input = x })
unfolding site_in
site-in [] s x i d e = never (cc)
site-in (u ∷ us) s x i d e = go (eqb u.state s) refl (eqb u.input x) refl (site_in us s x) (λ j. site-in us s x j d) e
  where
    Found : List Suspect → ℕ → Type 0
    Found vs j = (j < length vs) × (get_or vs j d ≡ record { state = s; input = x })

    next : (o : Option ℕ) → ((j : ℕ) → o ≡ some j → Found us j) → later o ≡ some i → Found (u ∷ us) i
    next none h e' = never (cc)
    next (some j) h e' = let z : suc j ≡ i = cc in rw (← z) (suc-le-suc (h j refl).0, (h j refl).1)

    go : (b : Bool) → eqb u.state s ≡ b → (c : Bool) → eqb u.input x ≡ c → (o : Option ℕ) → ((j : ℕ) → o ≡ some j → Found us j) →
        cond (b && c) (some zero) (later o) ≡ some i → Found (u ∷ us) i
    go true eb true ec o h e' =
        let z : zero ≡ i = cc in
        let es : u.state ≡ s = eqb-true u.state s eb in
        let ex : u.input ≡ x = eqb-true u.input x ec in
        rw (← z) (omega arith, rw (← es, ← ex) refl)
    go true eb false ec o h e' = next o h e'
    go false eb c ec o h e' = next o h e'

no-site : (us : List Suspect) (s x : ℕ) → All (Other s x) us → site_in us s x ≡ none
unfolding site_in
no-site [] s x a = refl
no-site (u ∷ us) s x a = go (eqb u.state s) refl (eqb u.input x) refl (no-site us s x a.1)
  where
    go : (b : Bool) → eqb u.state s ≡ b → (c : Bool) → eqb u.input x ≡ c → site_in us s x ≡ none →
        cond (b && c) (some zero) (later (site_in us s x)) ≡ none
    go true eb true ec ih = absurd (a.0 (eqb-true u.state s eb) (eqb-true u.input x ec))
    go true eb false ec ih = rw ih refl
    go false eb c ec ih = rw ih refl

-- the first suspect with the state and the input
site-after : (us vs : List Suspect) (s x : ℕ) → All (Other s x) us →
    site_in (us ++ record { state = s; input = x } ∷ vs) s x ≡ some (length us)
unfolding site_in
site-after [] vs s x a = rw (eq-eqb s s refl, eq-eqb x x refl) refl
site-after (u ∷ us) vs s x a = go (eqb u.state s) refl (eqb u.input x) refl (site-after us vs s x a.1)
  where
    go : (b : Bool) → eqb u.state s ≡ b → (c : Bool) → eqb u.input x ≡ c →
        site_in (us ++ record { state = s; input = x } ∷ vs) s x ≡ some (length us) →
        cond (b && c) (some zero) (later (site_in (us ++ record { state = s; input = x } ∷ vs) s x)) ≡ some (suc (length us))
    go true eb true ec ih = absurd (a.0 (eqb-true u.state s eb) (eqb-true u.input x ec))
    go true eb false ec ih = rw ih refl
    go false eb c ec ih = rw ih refl

-- how many open pairs stand before (s, x); and how many bytes
abbrev pub open_before : Sheet → ℕ → ℕ → ℕ
open_before sh s x = open_below sh s + count (is_open sh s) x

abbrev pub slots_before : Sheet → ℕ → ℕ → ℕ
slots_before sh s x = waking_slots sh + open_before sh s x

-- the suspects before an open pair, that pair, and others
record Split (sh : Sheet) (s x : ℕ) : Type 0 where
  earlier : List Suspect
  rest : List Suspect
  is : suspects sh ≡ earlier ++ record { state = s; input = x } ∷ rest
  many : length earlier ≡ open_before sh s x
  others : All (Other s x) earlier

module _ (sh : Sheet) (s x : ℕ) where
  split : s < sh.size.states → x < sh.size.inputs → is_open sh s x ≡ true → Split sh s x
  unfolding suspects suspects_below
  split ls lx e =
      let a = joined-split (λ s'. suspects_at sh s' sh.size.inputs) sh.size.states s ls in
      let b = joined-split (λ x'. keep_open sh s x') sh.size.inputs x lx in
      let below = suspects_below sh s in
      let at = suspects_at sh s x in
      let here : Suspect = record { state = s; input = x } in
      let kept : keep_open sh s x ≡ here ∷ [] = rw e refl in
      record {
        earlier = below ++ at;
        rest = b.0 ++ a.0;
        is =
            a.1 ∙ ap (λ l. below ++ (l ++ a.0)) b.1 ∙ ap (λ l. below ++ ((at ++ (l ++ b.0)) ++ a.0)) kept
            ∙ simp append_assoc;
        many = length-append below at ∙ rw (below-count sh s, at_count sh s x) refl;
        others =
            all_append (Other s x) below at
            (all-imp (Other s x) (OpenBelow sh s) (λ (u : Suspect) h es ex. absurd (omega (arith, h.0))) below (all-below sh s))
            (all-imp (Other s x) (OpenAt sh s x) (λ (u : Suspect) h es ex. absurd (omega (arith, h.1))) at (all-at sh s x));
      }

  -- a pair that is not open uses no byte
  pub site-none : is_open sh s x ≡ false → site_of sh s x ≡ none
  unfolding site_of
  site-none e =
      ap (slot_of sh) (no-site (suspects sh) s x
      (all-imp (Other s x) (IsSuspect sh) (λ (u : Suspect) h es ex. clash (is_open sh s x) (rw (es, ex) at h.several) e)
      (suspects sh) (suspects-are sh)))

  -- nor does a pair outside the sheet's states and inputs
  pub site-outside : (s < sh.size.states → x < sh.size.inputs → ⊥) → site_of sh s x ≡ none
  unfolding site_of
  site-outside out =
      ap (slot_of sh) (no-site (suspects sh) s x
      (all-imp (Other s x) (IsSuspect sh) (λ (u : Suspect) h es ex. out (rw es at h.state) (rw ex at h.input))
      (suspects sh) (suspects-are sh)))

  -- an open pair uses the byte with the number of bytes before it
  pub site-open : s < sh.size.states → x < sh.size.inputs → is_open sh s x ≡ true → site_of sh s x ≡ some (slots_before sh s x)
  unfolding site_of
  site-open ls lx e =
      let d = split ls lx e in
      let at : site_in (suspects sh) s x ≡ some (open_before sh s x) =
      rw d.is (site-after d.earlier d.rest s x d.others ∙ ap (λ i. some i) d.many) in
      ap (slot_of sh) at

  -- which byte a pair of the sheet uses
  pub site-number : s < sh.size.states → x < sh.size.inputs → site_of sh s x ≡ cond (is_open sh s x) (some (slots_before sh s x)) none
  site-number ls lx = go (is_open sh s x) refl
    where
      go : (b : Bool) → is_open sh s x ≡ b → site_of sh s x ≡ cond b (some (slots_before sh s x)) none
      go true e = site-open ls lx e
      go false e = site-none e

  -- a byte that a pair uses is a byte of the mutant, has the pair's number of choices, and the pair is open
  pub site-is : (i : ℕ) → site_of sh s x ≡ some i →
      (i < length (slots sh)) × (get_or (slots sh) i 0 ≡ choices_at sh s x) × (is_open sh s x ≡ true)
  unfolding site_of open_slots
  site-is i e =
      let f : Suspect → ℕ = λ u. choices_at sh u.state u.input in
      let d : Suspect = record { state = s; input = x } in
      let at = slot-of sh (site_in (suspects sh) s x) i e in
      let j = at.0 in
      let h = site-in (suspects sh) s x j d at.1 in (
        omega (arith, slot-count sh, suspect-count sh, h.0, at.2),
        ap (λ k. get_or (slots sh) k 0) (sym at.2) ∙ slot_at sh j 0 ∙ get_or-map-below f (suspects sh) j 0 d h.0 ∙ ap f h.1,
        rw h.1 at (all-at-index (IsSuspect sh) (suspects sh) j d h.0 (suspects-are sh)).several,
      )

-- each byte belongs to one pair
pub site-one : (sh : Sheet) (s x s' x' i : ℕ) → site_of sh s x ≡ some i → site_of sh s' x' ≡ some i → (s ≡ s') × (x ≡ x')
unfolding site_of
site-one sh s x s' x' i e e' =
    let d : Suspect = record { state = 0; input = 0 } in
    let at = slot-of sh (site_in (suspects sh) s x) i e in
    let at' = slot-of sh (site_in (suspects sh) s' x') i e' in
    let ej : at'.0 ≡ at.0 = omega (arith, at.2, at'.2) in
    let same = sym (site-in (suspects sh) s x at.0 d at.1).1 ∙ (site-in (suspects sh) s' x' at.0 d (rw ej at at'.1)).1 in
    (ap (λ (u : Suspect). u.state) same, ap (λ (u : Suspect). u.input) same)

-- ---- the byte of the waking state

module _ (sh : Sheet) where
  -- it is the first one and has a choice for each waking state, two at least
  pub waking-slot : (i : ℕ) → start_slot sh ≡ some i →
      (i ≡ 0) × (i < length (slots sh)) × (get_or (slots sh) i 0 ≡ waking_choices sh) × (1 < waking_choices sh)
  unfolding start_slot waking_slots slots
  waking-slot i e = go (waking_choices sh) (ltb 1 (waking_choices sh)) refl e
    where
      go : (c : ℕ) (b : Bool) → ltb 1 c ≡ b → cond b (some zero) none ≡ some i →
          (i ≡ 0) × (i < length (replicate (cond b 1 0) c ++ pair_choices sh)) × (get_or (replicate (cond b 1 0) c ++ pair_choices sh) i 0 ≡ c) × (1 < c)
      go c true eb h = let z : 0 ≡ i = cc in rw (← z) (refl, omega arith, refl, ltb-true 1 c eb)
      go c false eb h = never (cc)

  -- without it state 0 is the only one
  pub waking-none : start_slot sh ≡ none → wakings sh ≡ 0 ∷ []
  unfolding start_slot waking_choices wakings
  waking-none e = go sh.starts e
    where
      go : (ts : List ℕ) → cond (ltb 1 (length (0 ∷ ts))) (some zero) none ≡ none → 0 ∷ ts ≡ 0 ∷ []
      go [] h = refl
      go (t ∷ ts) h = let more = lt-ltb 1 (length (0 ∷ t ∷ ts)) (omega arith) in never (cc)

  -- it belongs to no pair
  pub waking-apart : (s x i : ℕ) → start_slot sh ≡ some i → site_of sh s x ≡ some i → ⊥
  unfolding site_of start_slot waking_slots
  waking-apart s x i e h =
      let at = slot-of sh (site_in (suspects sh) s x) i h in
      go (ltb 1 (waking_choices sh)) at.0 e at.2
    where
      go : (b : Bool) (j : ℕ) → cond b (some zero) none ≡ some i → cond b 1 0 + j ≡ i → ⊥
      go true j f g = let z : 0 ≡ i = cc in omega arith
      go false j f g = never (cc)
