-- Where the counters are right the used blocks lie in the arena.
use Rattle.blocks.proofs.Capacity.{used-inside}
use Rattle.counters.proofs.Laws.{right}
use Rattle.counters.proofs.lent.Lent.used.Goals as goal

pub invariant_of-result : goal.invariant_of-result
invariant_of-result c =
    let l = c.args.self in record { inside = used-inside l.arena.now l.counters.used (right _ _ _ l.right).inside }
