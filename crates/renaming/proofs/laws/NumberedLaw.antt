-- 02's Point 12: a numbered sheet is a renaming of the sheet, well-formed and as long; two sheets have one numbered sheet exactly when one is the
-- other renamed; numbering again changes nothing.
use Rattle.std.specs.Prelude.{ℕ, ◌*◌, ◌≡◌, ◌↔◌, List, [], ◌∷◌, length}
use Rattle.std.proofs.Common.{arith, sym, ◌∙◌, ap, subst}
use Rattle.std.proofs.Math.Path.{refl}
use Rattle.sheet.specs.declared.Row.{Row}
use Rattle.sheet.specs.Sheet.{Sheet}
use Rattle.sheet.specs.Encode.{row_bytes, encode}
use Rattle.sheet.specs.WellFormed.{WellFormed}
use Rattle.sheet.specs.laws.PartLaw.{operands-length}
use Rattle.sheet.specs.laws.InjectiveLaw.{encode_injective}
use Rattle.writing.proofs.laws.LengthLaw.{parts-length}
use Rattle.renaming.specs.Renaming.{renamed, Renames, Renamed, number_of, numbered}
use Rattle.renaming.proofs.laws.PlaceLaw.{inverse}
use Rattle.renaming.proofs.laws.RenamedLaw.{well-formed-renamed, rules-many, faults-many, starts-many}
use Rattle.renaming.proofs.laws.AgainLaw.{renamed-again, renamed-same, renamed-back}
use Rattle.renaming.proofs.laws.MetLaw.{numbers, number-now}

pub rows-length : (b : ℕ) (rows : List Row) → length (row_bytes b rows) ≡ 5 * length rows
unfolding row_bytes
rows-length b [] = refl
rows-length b (r ∷ rows) = omega (arith, rows-length b rows)

-- one renaming after another
renames-both : (n : ℕ) (p q : ℕ → ℕ) → Renames n p → Renames n q → Renames n (λ s. q (p s))
renames-both n p q a b =
    record {
      zeroth = ap q a.zeroth ∙ b.zeroth;
      into = λ s l. b.into (p s) (a.into s l);
      apart = λ s t ls lt e. a.apart s t ls lt (b.apart (p s) (p t) (a.into s ls) (a.into t lt) e);
    }

-- a renamed sheet is as long
pub renamed-length : (p : ℕ → ℕ) (sh : Sheet) → WellFormed sh → Renames sh.size.states p → length (encode (renamed p sh)) ≡ length (encode sh)
renamed-length p sh wf ren =
    let now = renamed p sh in
    omega (
      arith,
      parts-length sh,
      parts-length now,
      rows-length 2 sh.rules,
      rows-length 2 now.rules,
      rows-length 3 sh.faults,
      rows-length 3 now.faults,
      operands-length 7 sh.starts,
      operands-length 7 now.starts,
      rules-many p sh wf ren,
      faults-many p sh wf ren,
      starts-many p sh wf ren,
    )

-- what is a renaming one way is one the other way
pub renamed-other : (p : ℕ → ℕ) (a b : Sheet) → WellFormed a → Renamed p a b → (q : ℕ → ℕ) × Renamed q b a
renamed-other p a b wf r =
    let (q, inv) = inverse a.size.states p wf.size.states.some r.renames in (
      q,
      record {
        renames = subst (λ (sh : Sheet). Renames sh.size.states q) (sym r.is) inv.renames;
        is = sym (ap (renamed q) r.is ∙ renamed-back a wf p q inv);
      },
    )

module _ (sh : Sheet) (wf : WellFormed sh) where
  -- the numbered sheet is a renaming of the sheet
  pub numbered_is : Renamed (number_of sh) sh (numbered sh)
  unfolding numbered
  numbered_is = record { renames = numbers sh wf; is = refl }

  -- well-formed
  pub numbered-well-formed : WellFormed (numbered sh)
  unfolding numbered
  numbered-well-formed = well-formed-renamed (number_of sh) sh wf (numbers sh wf)

  -- and as long
  pub numbered-length : length (encode (numbered sh)) ≡ length (encode sh)
  unfolding numbered
  numbered-length = renamed-length (number_of sh) sh wf (numbers sh wf)

  -- a renamed sheet has the same numbered sheet
  numbered-now : (p : ℕ → ℕ) → Renames sh.size.states p → numbered (renamed p sh) ≡ numbered sh
  unfolding numbered
  numbered-now p ren =
      renamed-again p (number_of (renamed p sh)) sh ∙ renamed-same sh wf (λ s. number_of (renamed p sh) (p s)) (number_of sh) (number-now p sh wf ren)

  pub renamed-numbered : (p : ℕ → ℕ) (other : Sheet) → Renamed p sh other → numbered sh ≡ numbered other
  renamed-numbered p other r = sym (ap numbered r.is ∙ numbered-now p r.renames)

  -- numbering again changes nothing
  pub numbered-again : numbered (numbered sh) ≡ numbered sh
  numbered-again = sym (renamed-numbered (number_of sh) (numbered sh) numbered_is)

-- two sheets with one numbered sheet are renamings of one another
pub numbered-renamed : (a b : Sheet) → WellFormed a → WellFormed b → numbered a ≡ numbered b → (p : ℕ → ℕ) × Renamed p a b
unfolding numbered
numbered-renamed a b wa wb e =
    let n = a.size.states in
    let size : a.size.states ≡ b.size.states = ap (λ (sh : Sheet). sh.size.states) e in
    let (q, inv) = inverse b.size.states (number_of b) wb.size.states.some (numbers b wb) in
    let back : Renames n q = rw size inv.renames in (
      λ s. q (number_of a s),
      record {
        renames = renames-both n (number_of a) q (numbers a wa) back;
        is = sym (renamed-back b wb (number_of b) q inv) ∙ ap (renamed q) (sym e) ∙ renamed-again (number_of a) q a;
      },
    )

-- 02: two sheets convert to equal bytes exactly when one is the other with states renamed
pub equal-bytes : (a b : Sheet) → WellFormed a → WellFormed b → (encode (numbered a) ≡ encode (numbered b)) ↔ ((p : ℕ → ℕ) × Renamed p a b)
equal-bytes a b wa wb = (
  λ e. numbered-renamed a b wa wb (encode_injective (numbered a) (numbered b) e),
  λ r. ap encode (renamed-numbered a wa r.0 b r.1),
)
