-- The numbers that the code gives to the suspects of a sheet are those of its mutants' slots.
use Rattle.std.specs.Prelude.{◌+◌, ◌*◌, ◌/◌, ◌%◌, ◌<◌, ◌≤◌, ◌≡◌, ◌&&◌, ◌∷◌, ◌++◌}
use Rattle.lists.specs.Proving.{arith, ℕ, zero, suc, refl, sym, ◌∙◌, ap, ap₂, subst, Bool, true, false, cond, by_cases, some, none, List, [], length, get_or, replicate, length-replicate, length-append, ltb, ltb-true, lt-ltb, le-ltb}
use native.Mathlib.Decide.{dec_le}
use native.Mathlib.Nat.{add_assoc}
use mathlib.Core.Path.{fun_ext}
use mathlib.Core.List.{map, append-nil, append_assoc}
use borrow.Author.Tests.{ltb-false}
use lib.ListN.{length-map}
use Rattle.lists.specs.Lists.{maybe, up_to, joined, count, overlay}
use Rattle.sheet.specs.Sheet.{Sheet, choices_at, is_open, open_below, waking_choices, waking_slots}
use Rattle.sheet.specs.Tables.{by_pair}
use Rattle.sheet.specs.WellFormed.{WellFormed}
use Rattle.sheet.specs.laws.TablesLaw.{table_at}
use Rattle.model.specs.Mutant.{Suspect, keep_open, suspects, slots, site_of}
use Rattle.lists.specs.laws.ListLaw.{map-append, joined-append, up_to-snoc, length-joined-snoc}
use Rattle.model.proofs.laws.SuspectLaw.{at_count, slots_before, slot-count, site-outside, site-number}
use Rattle.block.specs.Sites.{open_at, open_choices, Numbered}
use Rattle.block.specs.declared.sites.Sites.{Sites}

-- the slot of each pair, 255 for none; the numbers of choices, 1 past the last; how many slots there are
pub record Sited (sh : Sheet) (r : Sites) : Type 0 where
  pub placed : (i : ℕ) → i < 256 → get_or r.site i 0 ≡ maybe (site_of sh (i / 16) (i % 16)) 255 (λ j. j)
  pub sizes : r.slots ≡ overlay (slots sh) (replicate 32 1)
  pub many : r.count ≡ length (slots sh)

joined_snoc : {B : Type 0} (f : ℕ → List B) (n : ℕ) → joined f (up_to (suc n)) ≡ joined f (up_to n) ++ f n
unfolding joined
joined_snoc f n = ap (joined f) (up_to-snoc n) ∙ joined-append f (up_to n) (n ∷ []) ∙ ap (λ l. joined f (up_to n) ++ l) (append-nil (f n))

joined_same : {B : Type 0} (f g : ℕ → List B) (n : ℕ) → ((i : ℕ) → i < n → f i ≡ g i) → joined f (up_to n) ≡ joined g (up_to n)
unfolding joined up_to
joined_same f g zero h = refl
joined_same f g (suc n) h =
    joined_snoc f n ∙ ap₂ (λ a b. a ++ b) (joined_same f g n (λ i l. h i (omega arith))) (h n (omega arith)) ∙ sym (joined_snoc g n)

-- joined below m, with nothing from n on
joined-cut : {B : Type 0} (g : ℕ → List B) (n m : ℕ) → n ≤ m → joined (λ i. cond (ltb i n) (g i) []) (up_to m) ≡ joined g (up_to n)
unfolding joined up_to
joined-cut g n zero l = let e : n ≡ 0 = omega arith in rw e refl
joined-cut g n (suc m) l =
    by_cases (dec_le n m)
    (λ le. joined_snoc (λ i. cond (ltb i n) (g i) []) m ∙ rw (le-ltb m n le) (append-nil (joined (λ i. cond (ltb i n) (g i) []) (up_to m)) ∙ joined-cut g n m le))
    (λ nl.
    let e : n ≡ suc m = omega arith in
    subst (λ (x : ℕ). joined (λ i. cond (ltb i x) (g i) []) (up_to (suc m)) ≡ joined g (up_to x)) (sym e)
    (joined_same (λ i. cond (ltb i (suc m)) (g i) []) g (suc m) (λ i li. rw (lt-ltb i (suc m) li) refl)))

joined-nothing : {B : Type 0} (n : ℕ) → joined {A = ℕ} {B = B} (λ i. []) (up_to n) ≡ []
unfolding joined up_to
joined-nothing zero = refl
joined-nothing {B} (suc n) = joined_snoc {B = B} (λ i. []) n ∙ append-nil _ ∙ joined-nothing n

-- the number of choices of the waking state, if there is a choice
abbrev pub first : Sheet → List ℕ
first sh = replicate (waking_slots sh) (waking_choices sh)

module _ (sh : Sheet) (wf : WellFormed sh) (choices : List ℕ) (is : choices ≡ by_pair (choices_at sh)) where
  n : ℕ
  n = sh.size.states

  k : ℕ
  k = sh.size.inputs

  choices_of : Suspect → ℕ
  choices_of u = choices_at sh u.state u.input

  -- the suspect at a pair, if it is one
  cut : ℕ → ℕ → List Suspect
  cut s x = cond (ltb s n && ltb x k) (keep_open sh s x) []

  row : ℕ → ℕ → List Suspect
  row s x = joined (cut s) (up_to x)

  below : ℕ → List Suspect
  below s = joined (λ t. row t 16) (up_to s)

  choices-at : (s x : ℕ) → s < 16 → x < 16 → get_or choices (s * 16 + x) 0 ≡ choices_at sh s x
  choices-at s x ls lx =
      let es : (s * 16 + x) / 16 ≡ s = omega arith in
      let ex : (s * 16 + x) % 16 ≡ x = omega arith in
      rw is (table_at (λ i. choices_at sh (i / 16) (i % 16)) (s * 16 + x) (omega arith) ∙ rw (es, ex) refl)

  pub open-at : (s x : ℕ) → s < 16 → x < 16 → open_at sh.size.states sh.size.inputs choices (s * 16 + x) ≡ ((ltb s sh.size.states && ltb x sh.size.inputs) && is_open sh s x)
  unfolding open_at is_open
  open-at s x ls lx =
      let es : (s * 16 + x) / 16 ≡ s = omega arith in
      let ex : (s * 16 + x) % 16 ≡ x = omega arith in
      rw (choices-at s x ls lx, es, ex) refl

  piece : (s x : ℕ) → s < 16 → x < 16 →
      cond (open_at n k choices (s * 16 + x)) (get_or choices (s * 16 + x) 0 ∷ []) [] ≡ map choices_of (cut s x)
  unfolding n k cut choices_of
  piece s x ls lx = rw (open-at s x ls lx, choices-at s x ls lx) (go (ltb s sh.size.states && ltb x sh.size.inputs) (is_open sh s x))
    where
      go : (a b : Bool) → cond (a && b) (choices_at sh s x ∷ []) [] ≡ map choices_of (cond a (cond b (record { state = s; input = x } ∷ []) []) [])
      go true true = refl
      go true false = refl
      go false b = refl

  choices-row : (s x : ℕ) → s < 16 → x ≤ 16 → open_choices (first sh) n k choices (s * 16 + x) ≡ open_choices (first sh) n k choices (s * 16) ++ map choices_of (row s x)
  unfolding open_choices row joined up_to
  choices-row s zero ls lx = let e : s * 16 + 0 ≡ s * 16 = omega arith in rw e (sym (append-nil (open_choices (first sh) n k choices (s * 16))))
  choices-row s (suc x) ls lx =
      let e : s * 16 + suc x ≡ suc (s * 16 + x) = omega arith in
      let before = open_choices (first sh) n k choices (s * 16) in
      rw e
      (ap₂ (λ a b. a ++ b) (choices-row s x ls (omega arith)) (piece s x ls (omega arith))
      ∙ append_assoc before (map choices_of (row s x)) (map choices_of (cut s x))
      ∙ ap (λ l. before ++ l) (sym (map-append choices_of (row s x) (cut s x)) ∙ ap (map choices_of) (sym (joined_snoc (cut s) x))))

  choices-below : (s : ℕ) → s ≤ 16 → open_choices (first sh) n k choices (s * 16) ≡ first sh ++ map choices_of (below s)
  unfolding open_choices below joined up_to
  choices-below zero l = sym (append-nil (first sh))
  choices-below (suc s) l =
      let e : suc s * 16 ≡ s * 16 + 16 = omega arith in
      rw e
      (choices-row s 16 (omega arith) (omega arith) ∙ ap (λ t. t ++ map choices_of (row s 16)) (choices-below s (omega arith))
      ∙ append_assoc (first sh) (map choices_of (below s)) (map choices_of (row s 16))
      ∙ ap (λ l. first sh ++ l) (sym (map-append choices_of (below s) (row s 16)) ∙ ap (map choices_of) (sym (joined_snoc (λ t. row t 16) s))))

  -- a whole row
  row-whole : (s : ℕ) → row s 16 ≡ cond (ltb s n) (joined (λ x. keep_open sh s x) (up_to k)) []
  unfolding row cut n k
  row-whole s = go (ltb s sh.size.states)
    where
      go : (a : Bool) → joined (λ x. cond (a && ltb x sh.size.inputs) (keep_open sh s x) []) (up_to 16) ≡ cond a (joined (λ x. keep_open sh s x) (up_to sh.size.inputs)) []
      go true = joined-cut (λ x. keep_open sh s x) sh.size.inputs 16 wf.size.inputs.few
      go false = joined-nothing 16

  below_all : below 16 ≡ suspects sh
  unfolding below suspects n k
  below_all =
      ap (λ (f : ℕ → List Suspect). joined f (up_to 16)) (fun_ext row-whole)
      ∙ joined-cut (λ s. joined (λ x. keep_open sh s x) (up_to sh.size.inputs)) sh.size.states 16 wf.size.states.few

  -- in all: the numbers of choices of the mutants' bytes
  pub choices-all : open_choices (first sh) sh.size.states sh.size.inputs choices 256 ≡ slots sh
  unfolding slots n k choices_of
  choices-all = choices-below 16 (omega arith) ∙ ap (λ l. first sh ++ map choices_of l) below_all

  pub few-slots : length (open_choices (first sh) sh.size.states sh.size.inputs choices 256) ≤ 32
  few-slots = rw choices-all (omega (arith, slot-count sh, wf.few-open))

  row_count : (s x : ℕ) → s < n → x ≤ k → length (row s x) ≡ count (is_open sh s) x
  unfolding row cut n k
  row_count s x ls lx =
      ap length (joined_same (cut s) (λ i. keep_open sh s i) x (λ i li. rw (lt-ltb s sh.size.states ls, lt-ltb i sh.size.inputs (omega arith)) refl))
      ∙ at_count sh s x

  below-count : (s : ℕ) → s ≤ n → length (below s) ≡ open_below sh s
  unfolding below open_below joined up_to n k
  below-count zero l = refl
  below-count (suc s) l =
      let whole : row s 16 ≡ joined (λ x. keep_open sh s x) (up_to sh.size.inputs) = row-whole s ∙ rw (lt-ltb s sh.size.states (omega arith)) refl in
      length-joined-snoc (λ t. row t 16) s
      ∙ ap₂ (λ a b. a + b) (below-count s (omega arith)) (ap length whole ∙ at_count sh s sh.size.inputs)

  -- before a pair: the number of slots before it
  pub choices-before : (s x : ℕ) → s < sh.size.states → x < sh.size.inputs → length (open_choices (first sh) sh.size.states sh.size.inputs choices (s * 16 + x)) ≡ slots_before sh s x
  unfolding n k
  choices-before s x ls lx =
      let few = wf.size.states.few in
      let few' = wf.size.inputs.few in
      ap length (choices-row s x (omega arith) (omega arith)) ∙ length-append (open_choices (first sh) n k choices (s * 16)) (map choices_of (row s x))
      ∙ ap₂ (λ a b. a + b)
      (ap length (choices-below s (omega arith)) ∙ length-append (first sh) (map choices_of (below s))
      ∙ ap₂ (λ a b. a + b) (length-replicate (waking_slots sh) (waking_choices sh)) (length-map (below s) choices_of ∙ below-count s (omega arith)))
      (length-map (row s x) choices_of ∙ row_count s x ls (omega arith))
      ∙ add_assoc (waking_slots sh) (open_below sh s) (count (is_open sh s) x)

  pub sited : (r : Sites) → Numbered (first sh) sh.size.states sh.size.inputs choices r → Sited sh r
  sited r num =
      record {
        placed = λ i l. ap (λ (t : ℕ). get_or r.site t 0) (split i) ∙ place (i / 16) (i % 16) (omega arith) (omega arith);
        sizes = rw choices-all at num.slots;
        many = rw choices-all at num.count;
      }
    where
      split : (i : ℕ) → i ≡ i / 16 * 16 + i % 16
      split i = omega arith

      place : (s x : ℕ) → s < 16 → x < 16 → get_or r.site (s * 16 + x) 0 ≡ maybe (site_of sh s x) 255 (λ j. j)
      place s x ls lx = num.site (s * 16 + x) (omega arith) ∙ rw (open-at s x ls lx) (go (ltb s sh.size.states) refl (ltb x sh.size.inputs) refl)
        where
          found : (b : Bool) (i : ℕ) → cond b i 255 ≡ maybe (cond b (some i) none) 255 (λ j. j)
          found true i = refl
          found false i = refl

          go : (a : Bool) → ltb s sh.size.states ≡ a → (b : Bool) → ltb x sh.size.inputs ≡ b →
              cond ((a && b) && is_open sh s x) (length (open_choices (first sh) sh.size.states sh.size.inputs choices (s * 16 + x))) 255 ≡ maybe (site_of sh s x) 255 (λ j. j)
          go true ea true eb =
              let hs = ltb-true s sh.size.states ea in
              let hx = ltb-true x sh.size.inputs eb in
              rw (site-number sh s x hs hx, choices-before s x hs hx) (found (is_open sh s x) (slots_before sh s x))
          go true ea false eb = rw (site-outside sh s x (λ hs hx. omega (arith, ltb-false x sh.size.inputs eb))) refl
          go false ea b eb = rw (site-outside sh s x (λ hs hx. omega (arith, ltb-false s sh.size.states ea))) refl
