-- The head of a used block lies in the arena, and the length of its term is a byte.
use Rattle.blocks.proofs.Capacity.{block_inside}
use Rattle.blocks.proofs.Fields.{head-short}
use Rattle.ingest.proofs.Arena.sound_head.Goals as goal

pub head_of-d-requires : goal.head_of-d-requires
head_of-d-requires c = block_inside c.args.self.bytes.now c.args.self.k.used c.args.self.room.inside c.args.h c.requires

pub is_damaged-requires : goal.is_damaged-requires
is_damaged-requires c = (c.requires, head-short _ _ c.head_of-d.ensures c.args.self.fits)
