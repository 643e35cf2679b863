use Rattle.std.proofs.Common.{◌≡◌, ◌-◌, arith}
use Rattle.postings.proofs.Laws.{length-code_le}
use Rattle.blocks.specs.Fields.{link_size, link_of}
use Rattle.blocks.proofs.Writes.{join_stored}
use Rattle.blocks.proofs.join_to.Goals as goal
use Rattle.blocks.proofs.Sizes.{sizes}

-- 4 bytes and a posting of at most 10 fit the block
pub put_first-end-requires : goal.put_first-end-requires
put_first-end-requires c = grind (arith, sizes, length-code_le)

pub put_changing-requires : goal.put_changing-requires
put_changing-requires c = grind (arith, sizes, length-code_le)

pub returns : goal.returns
unfolding link_size
returns c =
    let a = c.args in
    let gap = a.number - link_of a.arena.now a.d.tail in
    let short = length-code_le gap a.count (omega (arith, sizes)) (omega (arith, sizes)) in
    let first : c.between-gap.result.0 ≡ gap = rw (← c.link_of.ensures) c.between-gap.ensures in
    rw (c.put_changing.ensures, c.put_first-end.ensures.1, c.put_first-end.ensures.0, c.write_word-2.ensures, c.place_of-2.ensures, c.clear.ensures, c.write_word.ensures, c.place_of.ensures, first)
    (join_stored a.arena.now a.h a.d a.b a.number a.count (omega (arith, sizes)))
