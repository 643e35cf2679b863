-- The line in hand is the n-th.
use mathlib.Core.Path.{refl}
use Rattle.std.proofs.lemmas.Result.{err_from_is_err_and}
use Rattle.std.proofs.lemmas.List.{length_push}
use Rattle.counters.specs.Counters.{memory}
use Rattle.ingest.proofs.Standing.{all_left, line_turn, lines_end}
use Rattle.ingest.proofs.Writing.{wrote_none, wrote_end, wrote_stop, wrote_more}
use Rattle.ingest.proofs.write_lines.Goals as goal

pub loop-line-init : goal.loop-line-init
loop-line-init c =
    let a = c.args in
    record {
      all = rw c.into_iter-line-iterator.ensures.into_iter_gives (all_left a.lines c.iter-line-items.ensures);
      wrote = wrote_none (memory a.arena.now a.table.now a.k) a.lines.frame.now c.requires;
    }

pub returns-in_err-left : goal.returns-in_err-left
returns-in_err-left c =
    let t = line_turn c.args.lines c.loop-line.invariant.all _ _ c.loop-line.yielded_by _ c.next.new.self c.next.ensures.steps refl c.in-Some.is in
    let p = err_from_is_err_and c.from_residual.result c.from_residual.ensures.1 in
    rw (p.1, p.2) (wrote_stop c.loop-line.invariant.wrote t.more c.in_err-left.ensures refl)

pub loop-line-preserved : goal.loop-line-preserved
loop-line-preserved c =
    let v = c.loop-line.invariant in
    let t = line_turn c.args.lines v.all _ _ c.loop-line.yielded_by _ c.next.new.self c.next.ensures.steps refl c.in-Some.is in
    record {
      all = v.all;
      wrote = rw length_push (wrote_more v.wrote t.more c.in_ok-left.ensures refl);
    }

pub returns : goal.returns
returns c =
    let end = lines_end c.args.lines c.loop-line.invariant.all _ _ c.loop-line.yielded_by _ c.next.new.self c.next.ensures.steps refl c.in-None.is in
    wrote_end c.loop-line.invariant.wrote end
