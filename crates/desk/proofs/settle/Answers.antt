use Rattle.std.proofs.Common.{sym, ◌∙◌, arith}
use Rattle.std.proofs.lemmas.List.{length-take-le}
use Rattle.desk.proofs.Cutting.{ready_some}
use Rattle.desk.proofs.Serving.{tail-is, serving_start, serving_full, serving_waits, serving_more, serving_stops, ready_inside}
use Rattle.desk.proofs.settle.Goals as goal

pub loop-written-init : goal.loop-written-init
loop-written-init c = serving_start _ _ _ _

pub returns-in_default : goal.returns-in_default
returns-in_default c =
    serving_waits _ _ _ _ c.loop-written.invariant _ (tail-is c.loop-written.taken c.args.input.now) (sym c.in_default.ensures) _ _ c.waiting.ensures

pub slice_bounds-answer_frame-end : goal.slice_bounds-answer_frame-end
slice_bounds-answer_frame-end c = sym (length-take-le _ _ (ready_some c.args.ended _ c.in-Some.n (sym c.in-Some.ensures)).1)

pub overflow_add-taken : goal.overflow_add-taken
overflow_add-taken c =
    let r = ready_inside c.args.ended c.args.input.now _ c.loop-written.taken c.in-Some.n c.loop-written.invariant.few (tail-is c.loop-written.taken c.args.input.now) (sym c.in-Some.ensures) in
    omega (arith, r.1)

pub returns-then-is_overlong : goal.returns-then-is_overlong
returns-then-is_overlong c =
    serving_stops _ _ _ _ c.loop-written.invariant _ (tail-is c.loop-written.taken c.args.input.now) c.in-Some.n (sym c.in-Some.ensures) c.loop-written-test.true
    _ _ _ c.answer_frame-a.ensures (sym c.is_overlong.ensures ∙ c.if-is_overlong.true) _

pub loop-written-smaller : goal.loop-written-smaller
loop-written-smaller c =
    let r = ready_inside c.args.ended c.args.input.now _ c.loop-written.taken c.in-Some.n c.loop-written.invariant.few (tail-is c.loop-written.taken c.args.input.now) (sym c.in-Some.ensures) in
    omega (arith, r.0, r.1)

pub loop-written-preserved : goal.loop-written-preserved
loop-written-preserved c =
    serving_more _ _ _ _ c.loop-written.invariant _ (tail-is c.loop-written.taken c.args.input.now) c.in-Some.n (sym c.in-Some.ensures) c.loop-written-test.true
    _ _ _ c.answer_frame-a.ensures (sym c.is_overlong.ensures ∙ c.if-is_overlong.false)

pub returns : goal.returns
returns c = serving_full _ _ _ _ c.loop-written.invariant c.loop-written-test.false _
