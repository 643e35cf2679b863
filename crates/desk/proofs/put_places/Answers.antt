use Rattle.std.proofs.Common.{◌+◌, ◌*◌, ap, arith}
use Rattle.std.proofs.Math.Seq.{take_all}
use Rattle.desk.specs.Text.{places_text}
use Rattle.desk.proofs.Texts.{puts_none, puts_then, puts_as, puts-length, places_more}
use Rattle.desk.proofs.put_places.Goals as goal

pub loop-number-init : goal.loop-number-init
unfolding places_text
loop-number-init c = puts_none _ _

pub put_place-end-requires : goal.put_place-end-requires
put_place-end-requires c = omega (arith, puts-length c.loop-number.invariant)

pub loop-number-preserved : goal.loop-number-preserved
loop-number-preserved c =
    let l = c.loop-number in
    puts_as {q = 11 * (l.number-index + 1)} (puts_then l.invariant c.put_place-end.ensures) (places_more _ l.number-index (omega arith)) (omega arith)

pub returns : goal.returns
returns c = puts_as c.loop-number.invariant (ap places_text (take_all _ _ (omega arith))) (omega arith)
