-- The counters are right: the terms held and those of one report stay far below 32 bits, and no more blocks are used than there are.
use native.Mathlib.Omega.{arith}
use Rattle.counters.proofs.Laws.{max_terms_small, right}
use Rattle.ingest.proofs.has_room.Goals as goal

pub overflow_add-k : goal.overflow_add-k
overflow_add-k c =
    let l = c.args.lent in omega (arith, max_terms_small l.table.now, (right _ _ _ l.right).few, c.requires)

pub overflow_sub-capacity_of : goal.overflow_sub-capacity_of
overflow_sub-capacity_of c = omega (arith, (right _ _ _ c.args.lent.right).inside)
