-- A new term's head goes into a free block, and where there is room for a term the table has a slot.
use native.Mathlib.Omega.{arith}
use Rattle.blocks.proofs.Capacity.{capacity-word, next-inside}
use Rattle.lookup.proofs.Search.{slots_le}
use Rattle.counters.proofs.Laws.{max_terms-slots}
use Rattle.ingest.proofs.open_line.Goals as goal

pub open_head-requires : goal.open_head-requires
open_head-requires c =
    (c.args.line.name.short, omega arith, next-inside c.args.arena.now c.args.k.used (omega (arith, c.requires.0.inside)))

pub enter_at-requires : goal.enter_at-requires
enter_at-requires c =
    let table = c.args.table.now in
    let free = c.requires.1 (max_terms-slots table (omega arith)) in
    (omega (arith, free, slots_le table), omega (arith, c.requires.0.inside, capacity-word c.args.arena.now))
