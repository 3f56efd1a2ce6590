use Rattle.lists.specs.Proving.{arith, ℕ, sym, length-replicate}
use Rattle.std.proofs.Common.{length-take-le}
use Rattle.block.specs.laws.TabledLaw.{well-formed}
use Rattle.search.proofs.SearchLaw.{few, lent, found_out}
use Rattle.search.proofs.attempts.find_thoroughly.Goals as goal

pub prepare-ready-requires : goal.prepare-ready-requires
prepare-ready-requires c = (well-formed c.requires.1.tabled, rw c.no_facts.ensures (length-replicate {A = ℕ} 1088 0))

pub slice_bounds-facts-end : goal.slice_bounds-facts-end
slice_bounds-facts-end c = few c.prepare-ready.result c.how_many-n.ensures

pub slice_bounds-begin-end : goal.slice_bounds-begin-end
slice_bounds-begin-end c = sym (length-take-le _ _ (few c.prepare-ready.result c.how_many-n.ensures))

pub begin-found-requires : goal.begin-found-requires
begin-found-requires c = record { leaving = c.requires; facts_ok = (lent _ c.how_many-n.ensures c.prepare-ready.ensures.1, c.fresh_store-store.ensures _ _ _) }

pub unwrap-requires : goal.unwrap-requires
unwrap-requires c = found_out _ (λ e. omega (arith, c.begin-found.ensures.store_len e))

pub returns : goal.returns
returns c = λ sh le. rw c.unwrap.ensures at (c.begin-found.ensures.answers sh le)
