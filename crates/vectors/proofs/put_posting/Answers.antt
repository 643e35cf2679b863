-- A sound head's tail is one of the 24 blocks.
use Rattle.std.proofs.Common.{arith, sym, ◌∙◌}
use Rattle.blocks.proofs.Fields.{head-length}
use Rattle.blocks.proofs.Sizes.{bounds}
use Rattle.chains.proofs.Laws.{Good, head_good}
use Rattle.vectors.proofs.put_posting.Goals as goal

pub is_bad_head-requires : goal.is_bad_head-requires
is_bad_head-requires c = grind (arith, head-length _ _ c.head_of-d.ensures)

pub link_of-first-requires : goal.link_of-first-requires
link_of-first-requires c =
    let g : Good c.head_of-d.result 24 0 = head_good _ 24 0 (sym c.is_bad_head.ensures ∙ c.if-is_bad_head.false) in
    omega (arith, bounds, g.tail)

pub append_posting-requires : goal.append_posting-requires
append_posting-requires c =
    let d = c.head_of-d in
    let g : Good d.result 24 0 = head_good _ 24 0 (sym c.is_bad_head.ensures ∙ c.if-is_bad_head.false) in
    rw (← d.ensures) (
      record { head_in = omega (arith, bounds); tail_in = omega (arith, bounds); inside = g.within; ascends = omega arith; countable = omega arith },
      omega (arith, bounds),
      omega arith,
    )
