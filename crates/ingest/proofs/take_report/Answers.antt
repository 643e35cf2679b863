-- A refused call leaves the memory, any other writes its lines.
use mathlib.Core.Path.{◌≡◌, refl, sym}
use mathlib.Core.Bool.{true, false}
use Prim.Native.Nat.{◌+◌}
use native.Mathlib.Omega.{arith}
use Rattle.frames.proofs.Refusals.{refusal-some}
use Rattle.counters.specs.Counters.{memory}
use Rattle.frames.specs.Frames.{report_lines}
use Rattle.ingest.specs.Report.{wrote_as, write_lines, taken_of}
use Rattle.ingest.proofs.Calls.{judged, call-refused, call-stopped, call-taken, answers}
use Rattle.ingest.proofs.take_report.Goals as goal

pub overflow_add-number : goal.overflow_add-number
overflow_add-number c =
    let m = memory c.args.arena.now c.args.table.now c.args.k in
    let j = judged m c.args.frame.now (sym c.in-Ok-Ok.ensures.refused) in
    omega (arith, j.numbered)

pub returns-in-Err : goal.returns-in-Err
unfolding taken_of
returns-in-Err c =
    let m = memory c.args.arena.now c.args.table.now c.args.k in
    let e = c.in-Err.ensures in
    let some = refusal-some c.in-Err.refusal in
    rw (c.refused.ensures, e.refused, e.untouched.0, e.untouched.1)
    (answers m c.args.frame.now (call-refused m c.args.frame.now (λ z. omega (arith, some, e.refused, z))))

pub returns-in-Ok-Err : goal.returns-in-Ok-Err
unfolding taken_of
returns-in-Ok-Err c =
    let m = memory c.args.arena.now c.args.table.now c.args.k in
    let e = c.in-Ok-Err.ensures in
    let written : wrote_as (memory c.judge_and_write.new.arena c.judge_and_write.new.table c.in-Ok-Err.stopped.left) true
    ≡ write_lines m (c.args.k.reports + 1) (report_lines c.args.frame.now) = rw c.in-Ok-Err.field-0-is at e.written in
    rw c.refused-in-Ok-Err.ensures (answers m c.args.frame.now (call-stopped m c.args.frame.now (sym e.refused) written refl))

pub returns-in-Ok-Ok : goal.returns-in-Ok-Ok
unfolding taken_of
returns-in-Ok-Ok c =
    let m = memory c.args.arena.now c.args.table.now c.args.k in
    let e = c.in-Ok-Ok.ensures in
    let written : wrote_as (memory c.judge_and_write.new.arena c.judge_and_write.new.table c.in-Ok-Ok.left) false
    ≡ write_lines m (c.args.k.reports + 1) (report_lines c.args.frame.now) = rw c.in-Ok-Ok.field-0-is at e.written in
    answers m c.args.frame.now (call-taken m c.args.frame.now (sym e.refused) written refl)
