use Rattle.std.proofs.Common.{arith}
use Rattle.blocks.proofs.Capacity.{used-inside}
use Rattle.chains.proofs.Places.{place-follows}
use Rattle.chains.proofs.step_from.Goals as goal

pub invariant_of-used : goal.invariant_of-used
invariant_of-used c = record { inside = used-inside c.args.arena.now c.args.used (omega arith) }

pub advance-requires : goal.advance-requires
advance-requires c = (place-follows _ _ _ (omega arith) (omega arith) (omega arith), omega arith)
