-- Renaming twice is renaming once; a renaming and its inverse give the sheet back.
use Rattle.std.specs.Prelude.{ℕ, ◌<◌, ◌≡◌, refl, List, [], ◌∷◌, map}
use Rattle.std.proofs.Common.{◌∙◌, ap, ap₂, inl, inr, map-id}
use Rattle.std.proofs.lemmas.Simd.{map-map}
use Rattle.lists.specs.Lists.{All, Before}
use Rattle.lists.specs.laws.AllLaw.{all-imp}
use Rattle.lists.specs.laws.ListLaw.{ascending-of}
use Rattle.sheet.specs.declared.Row.{Row}
use Rattle.sheet.specs.Sheet.{Sheet, pair_of, row_of}
use Rattle.sheet.specs.WellFormed.{RowIn, StartIn, WellFormed}
use Rattle.renaming.specs.Ordering.{sorted, only}
use Rattle.renaming.specs.Renaming.{renamed_row, renamed}
use Rattle.renaming.proofs.laws.SortLaw.{Up, sorted-is, sorted-again}
use Rattle.renaming.proofs.laws.PlaceLaw.{only-keys, rises-only, Inverse}
use Rattle.renaming.proofs.laws.RowsLaw.{row-keys}

map_same : {A B : Type 0} (f g : A → B) (xs : List A) → All (λ x. f x ≡ g x) xs → map f xs ≡ map g xs
map_same f g [] a = refl
map_same {A} {B} f g (x ∷ xs) a = ap₂ (λ (y : B) (ys : List B). y ∷ ys) a.0 (map_same f g xs a.1)

-- ascending by pairs, so by rows
pairs-rows : (q r : Row) → Before (pair_of q) (pair_of r) → Before (row_of q) (row_of r)
unfolding Before
pairs-rows q r (inl l) = inl l
pairs-rows q r (inr (e, inl l)) = inr (e, inl l)
pairs-rows q r (inr (e, inr (f, b))) = absurd b

pub renamed-again : (p q : ℕ → ℕ) (sh : Sheet) → renamed q (renamed p sh) ≡ renamed (λ s. q (p s)) sh
renamed-again p q sh =
    let rows : (l : List Row) → sorted row_of (map (renamed_row q) (sorted row_of (map (renamed_row p) l))) ≡ sorted row_of (map (renamed_row (λ s. q (p s))) l) =
    λ l. sorted-again row_of row-keys (renamed_row q) (map (renamed_row p) l) ∙ ap (sorted row_of) (map-map (renamed_row q) (renamed_row p) l) in
    let starts = sorted-again only only-keys q (map p sh.starts) ∙ ap (sorted only) (map-map q p sh.starts) in
    λ i. record { size = sh.size; quiet = sh.quiet; rules = rows sh.rules i; faults = rows sh.faults i; starts = starts i; tests = sh.tests }

module _ (sh : Sheet) (wf : WellFormed sh) where
  -- only the names of the sheet's states count
  pub renamed-same : (p q : ℕ → ℕ) → ((s : ℕ) → s < sh.size.states → p s ≡ q s) → renamed p sh ≡ renamed q sh
  renamed-same p q h =
      let row : (r : Row) → RowIn sh.size r → renamed_row p r ≡ renamed_row q r =
      λ r a i. record { source = h r.source a.source i; input = r.input; output = r.output; target = h r.target a.target i } in
      let rows : (l : List Row) → All (RowIn sh.size) l → map (renamed_row p) l ≡ map (renamed_row q) l =
      λ l a. map_same (renamed_row p) (renamed_row q) l (all-imp _ (RowIn sh.size) row l a) in
      let starts = map_same p q sh.starts (all-imp _ (StartIn sh.size) (λ t a. h t a.inside) sh.starts wf.starts) in
      λ i. record {
        size = sh.size;
        quiet = sh.quiet;
        rules = sorted row_of (rows sh.rules wf.rules i);
        faults = sorted row_of (rows sh.faults wf.faults i);
        starts = sorted only (starts i);
        tests = sh.tests;
      }

  -- with every name kept the sheet is as it was
  pub renamed-kept : renamed (λ s. s) sh ≡ sh
  renamed-kept =
      let rules = ap (sorted row_of) (map-id sh.rules)
      ∙ sorted-is row_of row-keys sh.rules (ascending-of (RowIn sh.size) (Up pair_of) (Up row_of) (λ q r a b. pairs-rows q r) sh.rules wf.rules wf.rules-ascend) in
      let faults = ap (sorted row_of) (map-id sh.faults) ∙ sorted-is row_of row-keys sh.faults wf.faults-ascend in
      let starts = ap (sorted only) (map-id sh.starts) ∙ sorted-is only only-keys sh.starts (rises-only sh.starts wf.starts-ascend) in
      λ i. record { size = sh.size; quiet = sh.quiet; rules = rules i; faults = faults i; starts = starts i; tests = sh.tests }

  -- a renaming and its inverse give the sheet back
  pub renamed-back : (p q : ℕ → ℕ) → Inverse sh.size.states p q → renamed q (renamed p sh) ≡ sh
  renamed-back p q inv = renamed-again p q sh ∙ renamed-same (λ s. q (p s)) (λ s. s) inv.left ∙ renamed-kept
