use Rattle.std.proofs.Common.{◌≡◌, arith}
use lib.ListN.{length-set}
use Rattle.postings.proofs.Laws.{length-code_le}
use Rattle.blocks.specs.Fields.{head_fixed}
use Rattle.blocks.proofs.Writes.{open_stored}
use Rattle.blocks.proofs.open_head.Goals as goal
use Rattle.blocks.proofs.Sizes.{sizes}

-- 18 bytes, a name of at most 36 and a posting of at most 10 fit the block
pub put_first-end-requires : goal.put_first-end-requires
put_first-end-requires c = grind (arith, sizes, length-code_le, length-set)

pub put_changing-requires : goal.put_changing-requires
put_changing-requires c = grind (arith, sizes, length-code_le, length-set)

pub returns : goal.returns
unfolding head_fixed
returns c =
    let a = c.args in
    let short = length-code_le a.number a.count (omega (arith, sizes)) (omega (arith, sizes)) in
    let first : c.between.result.0 ≡ a.number = omega (arith, c.between.ensures) in
    rw (c.put_changing.ensures, c.put_first-end.ensures.1, c.put_first-end.ensures.0, c.write_bytes.ensures, c.write_word.ensures, c.clear.ensures, c.place_of-at.ensures, first)
    (open_stored a.arena.now a.b a.name.now a.number a.count (omega (arith, sizes)))
