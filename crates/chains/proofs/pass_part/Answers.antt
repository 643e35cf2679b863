-- What is passed ends in the part.
use Rattle.std.proofs.Common.{arith}
use Rattle.blocks.specs.Fields.{max_word}
use Rattle.chains.specs.Parts.{passed_to}
use Rattle.chains.proofs.Steps.{part_end_le}
use Rattle.chains.proofs.Parts.{passed_to_lem}
use Rattle.chains.proofs.pass_part.Goals as goal

pub overflow_add-c : goal.overflow_add-c
unfolding passed_to
overflow_add-c c =
    let k = c.args.c in
    let w = c.requires.0 in
    let p = (passed_to_lem w c.args.to).1 in
    rw (c.pass-p.ensures, c.part_bytes.ensures.is)
    (omega (arith, p.at_in, part_end_le (passed_to c.args.arena.now max_word k c.args.to) k.block w.end_in))
