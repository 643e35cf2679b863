-- Row by row. Where the lines are planned, the plan's rows are those that are left.
use mathlib.Core.Path.{sym, ap, ◌∙◌}
use native.Mathlib.Omega.{arith}
use Rattle.std.proofs.lemmas.Result.{err_from_is_err_and}
use Rattle.frames.specs.Refusals.{first_of}
use Rattle.frames.specs.Frames.{report_lines}
use Rattle.counters.specs.Counters.{memory}
use Rattle.counters.proofs.Laws.{right}
use Rattle.ingest.specs.Report.{Needed, plan_rows, lines_plan}
use Rattle.ingest.proofs.Plans.{plan_damaged}
use Rattle.ingest.proofs.Writing.{held_right}
use Rattle.ingest.proofs.Calls.{call-last, call_plan}
use Rattle.ingest.proofs.judge_report.Goals as goal

pub returns-then-lent-eq4294967295 : goal.returns-then-lent-eq4294967295
returns-then-lent-eq4294967295 c =
    let l = c.args.lent in
    let m = memory l.arena.now l.table.now l.counters in
    sym (call-last m c.args.lines.frame.now c.args.lines.sound l.right c.if-lent-eq4294967295.true)

pub invariant_of-arena : goal.invariant_of-arena
invariant_of-arena c =
    let l = c.args.lent in
    let m = memory l.arena.now l.table.now l.counters in
    record { fits = l.fits; room = (held_right m (right _ _ _ l.right) c.if-lent-eq4294967295.false (omega arith)).room }

pub returns-in_err-plan : goal.returns-in_err-plan
returns-in_err-plan c =
    let l = c.args.lent in
    let m = memory l.arena.now l.table.now l.counters in
    let f = c.args.lines.frame.now in
    let p = err_from_is_err_and c.from_residual.result c.from_residual.ensures.1 in
    rw (p.1, p.2, c.in_err-plan.ensures.0)
    (sym (call_plan m f c.args.lines.sound l.right c.if-lent-eq4294967295.false
    ∙ plan_damaged m (lines_plan m (report_lines f)) c.in_err-plan.ensures.1))

pub returns : goal.returns
returns c =
    let l = c.args.lent in
    let m = memory l.arena.now l.table.now l.counters in
    let f = c.args.lines.frame.now in
    c.has_room.ensures
    ∙ sym (call_plan m f c.args.lines.sound l.right c.if-lent-eq4294967295.false
    ∙ ap (λ (n : Needed). first_of (plan_rows m n)) c.in_ok-plan.ensures.0)
