use Rattle.std.proofs.Common.{arith}
use Rattle.blocks.specs.Writes.{add_to}
use Rattle.blocks.proofs.Writes.{fits-room}
use Rattle.blocks.proofs.add_to.Goals as goal
use Rattle.blocks.proofs.Sizes.{sizes}

pub put_next-end-requires : goal.put_next-end-requires
put_next-end-requires c = grind (arith, sizes, fits-room)

pub put_growing-requires : goal.put_growing-requires
put_growing-requires c = grind (arith, sizes, fits-room)

pub returns : goal.returns
unfolding add_to
returns c = rw (c.put_growing.ensures, c.put_next-end.ensures.1, c.put_next-end.ensures.0, c.between.ensures)
