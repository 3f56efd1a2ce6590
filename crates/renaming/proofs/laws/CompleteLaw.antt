-- 02's Point 12: a renaming keeps a suite complete, both ways.
use Rattle.std.specs.Prelude.{ℕ, refl, ◌↔◌, map}
use Rattle.std.proofs.Common.{sym, subst}
use Rattle.lists.specs.laws.MemberLaw.{mem-map}
use Rattle.sheet.specs.Sheet.{Sheet}
use Rattle.sheet.specs.WellFormed.{WellFormed}
use Rattle.model.specs.Verdict.{Complete}
use Rattle.renaming.specs.Ordering.{only}
use Rattle.renaming.specs.Renaming.{renamed, Renames, Renamed, number_of, numbered}
use Rattle.renaming.proofs.laws.SortLaw.{mem-sorted}
use Rattle.renaming.proofs.laws.PlaceLaw.{only-keys, inverse}
use Rattle.renaming.proofs.laws.RenamedLaw.{row_now, rule-now, well-formed-renamed}
use Rattle.renaming.proofs.laws.AgainLaw.{renamed-back}
use Rattle.renaming.proofs.laws.NumberedLaw.{numbered_is}
use Rattle.renaming.proofs.laws.FollowLaw.{Follows, complete-back}

module _ (p : ℕ → ℕ) (sh : Sheet) (wf : WellFormed sh) (ren : Renames sh.size.states p) where
  -- the renamed sheet has every transition of the sheet
  follows : Follows p sh (renamed p sh)
  follows =
      record {
        size = refl;
        quiet = refl;
        renames = ren;
        ruled = rule-now p sh wf ren;
        faulty = row_now p sh.faults;
        waking = λ t m. mem-sorted only only-keys (map p sh.starts) (p t) (mem-map p m);
      }

  complete-was : Complete (renamed p sh) → Complete sh
  complete-was = complete-back p sh (renamed p sh) wf follows refl

-- complete before is complete after, and back
complete-now : (p : ℕ → ℕ) (sh : Sheet) → WellFormed sh → Renames sh.size.states p → Complete sh → Complete (renamed p sh)
complete-now p sh wf ren c =
    let (q, inv) = inverse sh.size.states p wf.size.states.some ren in
    complete-was q (renamed p sh) (well-formed-renamed p sh wf ren) inv.renames (subst Complete (sym (renamed-back sh wf p q inv)) c)

pub renamed-complete : (p : ℕ → ℕ) (a b : Sheet) → WellFormed a → Renamed p a b → Complete a ↔ Complete b
renamed-complete p a b wf r = (
  λ c. subst Complete (sym r.is) (complete-now p a wf r.renames c),
  λ c. complete-was p a wf r.renames (subst Complete r.is c),
)

-- 02: a complete list is complete afterwards
pub numbered-complete : (sh : Sheet) → WellFormed sh → Complete sh ↔ Complete (numbered sh)
numbered-complete sh wf = renamed-complete (number_of sh) sh (numbered sh) wf (numbered_is sh wf)
