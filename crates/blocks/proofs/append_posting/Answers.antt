use Rattle.std.proofs.Common.{◌≡◌, ◌∙◌, sym, true, false}
use Rattle.blocks.specs.Writes.{fits, append}
use Rattle.blocks.proofs.append_posting.Goals as goal

-- the head is read once, and the test is of it
pub returns-then-fitted : goal.returns-then-fitted
unfolding append
returns-then-fitted c =
    let fitted : fits c.head_of-d.result c.args.number c.args.count ≡ true = sym c.fits_in-fitted.ensures ∙ c.if-fitted.true in
    rw (← c.head_of-d.ensures, fitted) (c.if-fitted.true, c.add_to.ensures)

pub returns-else-fitted : goal.returns-else-fitted
unfolding append
returns-else-fitted c =
    let other : fits c.head_of-d.result c.args.number c.args.count ≡ false = sym c.fits_in-fitted.ensures ∙ c.if-fitted.false in
    rw (← c.head_of-d.ensures, other) (c.if-fitted.false, c.join_to.ensures)
