-- The used blocks lie in the arena.
use Rattle.blocks.proofs.Capacity.{used-inside}
use Rattle.ingest.proofs.Arena.used.Goals as goal

pub invariant_of-result : goal.invariant_of-result
invariant_of-result c =
    let a = c.args.self in record { inside = used-inside a.bytes.now a.k.used a.room.inside }
