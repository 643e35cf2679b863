-- A turn fills one place of both.
use Rattle.sums.specs.Rows.{gap_at, mark_at}
use Rattle.sums.proofs.Rows.{filled_more, gap_lane, mark_lane}
use Rattle.sums.proofs.lanes_of.Goals as goal

pub loop-i-preserved : goal.loop-i-preserved
loop-i-preserved c =
    let s = c.args.window.now in
    let i = c.loop-i.i in
    record {
      gaps = filled_more (gap_at s) _ c.loop-i.invariant.gaps c.loop-i-test.true (cc (gap_lane s i));
      marks = filled_more (mark_at s) _ c.loop-i.invariant.marks c.loop-i-test.true (cc (mark_lane s i));
    }
