-- The tail of a sound head is used, so that it lies in the arena.
use mathlib.Core.Path.{sym, ◌∙◌}
use Rattle.blocks.proofs.Capacity.{block_inside}
use Rattle.chains.proofs.Laws.{head_good}
use Rattle.ingest.proofs.Arena.is_damaged.Goals as goal

pub link_of-first-requires : goal.link_of-first-requires
link_of-first-requires c =
    let a = c.args in
    block_inside a.self.bytes.now a.self.k.used c.args.self.room.inside a.d.tail (head_good a.d a.self.k.used a.h (sym c.is_bad_head.ensures ∙ c.if-is_bad_head.false)).tail
