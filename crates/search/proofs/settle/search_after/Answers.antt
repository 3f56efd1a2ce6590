-- `search_after`: of the mutants that have the first i choices of the one given none that stands after it is wanted.
use Rattle.lists.specs.Proving.{arith, refl, sym, ◌∙◌, never}
use Rattle.search.proofs.SearchLaw.{none-found}
use Rattle.search.proofs.AfterLaw.{down, few, left-none, left-all, within, choice-low, left-unset, left-more, left-found}
use Rattle.search.proofs.settle.search_after.Goals as goal

pub settled_as-p-requires : goal.settled_as-p-requires
settled_as-p-requires c = few c.requires.leaving.1

pub loop-i-init : goal.loop-i-init
loop-i-init c = record { left = λ sh le. left-none le c.settled_as-p.ensures; low = few c.requires.leaving.1; ok = c.requires.facts_ok.1; same_store = refl; same-notes = refl }

pub overflow_add-c : goal.overflow_add-c
overflow_add-c c = let le = c.requires.leaving.1 in omega (arith, choice-low le _ (down (c.loop-i.invariant.left _ le) c.loop-i-test.true))

pub search_from-requires : goal.search_from-requires
search_from-requires c =
    let given = c.requires in
    let le = given.leaving.1 in
    let h = down (c.loop-i.invariant.left _ le) c.loop-i-test.true in record { i_bound = ((given.leaving.0, left-unset le _ h), (within le _ h).1); facts_ok = (given.facts_ok.0, c.loop-i.invariant.ok) }

pub returns-then-is_some-clause-answers : goal.returns-then-is_some-clause-answers
returns-then-is_some-clause-answers c = λ sh le.
    let h = down (c.loop-i.invariant.left sh le) c.loop-i-test.true in
    left-found le _ h refl c.in_ok-tried.tried (sym c.is_some.ensures ∙ c.if-is_some.true) (rw c.in_ok-tried.was at (c.search_from.ensures.answers sh (left-unset le _ h)))

pub loop-i-preserved : goal.loop-i-preserved
loop-i-preserved c =
    record {
      left = λ sh le.
          let h = down (c.loop-i.invariant.left sh le) c.loop-i-test.true in
          let told = rw c.in_ok-tried.was at (c.search_from.ensures.answers sh (left-unset le _ h)) in
          left-more le _ h refl (none-found c.in_ok-tried.tried (sym c.is_some.ensures ∙ c.if-is_some.false) told);
      low = omega (arith, c.loop-i.invariant.low);
      ok = c.search_from.ensures.store_ok;
      same_store = cc;
      same-notes = cc;
    }

pub returns : goal.returns
returns c = record { answers = λ sh le. left-all (c.loop-i.invariant.left sh le) c.loop-i-test.false; store_ok = c.loop-i.invariant.ok; store_len = λ e. never cc }
