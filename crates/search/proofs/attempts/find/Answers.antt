use Rattle.lists.specs.Proving.{arith}
use Rattle.search.proofs.attempts.find.Goals as goal

pub begin-quick-requires : goal.begin-quick-requires
begin-quick-requires c = record { leaving = c.requires; facts_ok = (record { at = λ i h. absurd (omega arith) }, c.fresh_store-store.ensures _ _ _) }
