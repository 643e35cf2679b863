-- A refused frame decides; else a call that is not refused leaves room to write the lines.
use mathlib.Core.Path.{sym, ◌∙◌}
use native.Mathlib.Omega.{arith}
use Rattle.std.proofs.lemmas.Result.{err_from_is_err_and}
use Rattle.frames.proofs.Laws.{report-refused}
use Rattle.counters.specs.Counters.{memory}
use Rattle.ingest.proofs.Writing.{held_right}
use Rattle.ingest.proofs.Calls.{judged, call-frame, call-lent}
use Rattle.ingest.proofs.judge_and_write.Goals as goal

pub returns-in_err-lines-clause-refused : goal.returns-in_err-lines-clause-refused
returns-in_err-lines-clause-refused c =
    let m = memory c.args.arena.now c.args.table.now c.args.k in
    let p = err_from_is_err_and c.from_residual.result c.from_residual.ensures.1 in
    let r = report-refused c.args.frame.now _ c.in_err-lines.ensures.refused in
    rw (p.1, p.2) (c.in_err-lines.ensures.refused ∙ sym (call-frame m c.args.frame.now (omega (arith, r.0, r.1))))

pub returns-in_err-lent-clause-refused : goal.returns-in_err-lent-clause-refused
returns-in_err-lent-clause-refused c =
    let m = memory c.args.arena.now c.args.table.now c.args.k in
    let p = err_from_is_err_and c.from_residual-in_err-lent.result c.from_residual-in_err-lent.ensures.1 in
    rw (p.1, p.2) (call-lent m c.args.frame.now (sym c.in_ok-lines.ensures.refused) _ c.in_err-lent.ensures.refused)

pub write_lines-requires : goal.write_lines-requires
write_lines-requires c =
    let m = memory c.args.arena.now c.args.table.now c.args.k in
    let j = judged m c.in_ok-lines.lines.frame.now (sym (rw c.in_ok-lent.ensures.lent at c.in_ok-judge_report.ensures)) in
    held_right m j.counters j.numbered (omega arith)
