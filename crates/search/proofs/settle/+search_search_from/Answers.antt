-- `search` and `search_from`: the choices from `from` on and below c at the next slot lead to no wanted mutant.
use Rattle.lists.specs.Proving.{arith, sym, ◌∙◌}
use Rattle.block.specs.laws.TabledLaw.{well-formed}
use Rattle.search.proofs.SearchLaw.{refuted, full, full-answer, searching-set, all-tried, one-tried, one_found, none-found}
use Rattle.search.proofs.settle.+search_search_from.Goals as goal

pub search-refuted-requires : goal.search-refuted-requires
search-refuted-requires t c = (well-formed c.requires.searching.1.tabled, c.requires.facts_ok.0, c.requires.facts_ok.1)

pub search-returns-then-refuted-clause-answers : goal.search-returns-then-refuted-clause-answers
search-returns-then-refuted-clause-answers t c = λ sh w. refuted w c.args.log.now c.refuted.ensures.0 c.if-refuted.true

pub search-returns-then-i-from-clause-answers : goal.search-returns-then-i-from-clause-answers
search-returns-then-i-from-clause-answers t c =
    let en = c.from.ensures ∙ c.slots.ensures in
    λ sh w. rw c.then_some.ensures (full-answer w en c.if-i-from.true _ (c.wanted.ensures sh (full w en c.if-i-from.true)))

pub search_from-returns-then-is_some-clause-answers : goal.search_from-returns-then-is_some-clause-answers
search_from-returns-then-is_some-clause-answers t c =
    let li = c.requires.i_bound.1 in
    let ek = c.choices-end.ensures in
    λ sh w. one_found w li ek (c.loop-c.invariant.tried sh w) c.loop-c.invariant.low c.in_ok-tried.tried (sym c.is_some.ensures ∙ c.if-is_some.true) (rw c.in_ok-tried.was at (c.search.ensures.answers sh (searching-set w li ek c.loop-c-test.true)))

pub search_from-loop-c-preserved : goal.search_from-loop-c-preserved
search_from-loop-c-preserved t c =
    let li = c.requires.i_bound.1 in
    let ek = c.choices-end.ensures in
    record {
      tried = λ sh w.
          let told = rw c.in_ok-tried.was at (c.search.ensures.answers sh (searching-set w li ek c.loop-c-test.true)) in
          one-tried w li ek (c.loop-c.invariant.tried sh w) (none-found c.in_ok-tried.tried (sym c.is_some.ensures ∙ c.if-is_some.false) told);
      low = omega (arith, c.loop-c.invariant.low);
      ok = c.search.ensures.store_ok;
      same_store = cc;
      same-notes = cc;
    }

pub search_from-returns-clause-answers : goal.search_from-returns-clause-answers
search_from-returns-clause-answers t c = λ sh w. all-tried w c.requires.i_bound.1 c.choices-end.ensures (c.loop-c.invariant.tried sh w) c.loop-c-test.false
