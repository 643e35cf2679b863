-- The places before i are filled.
use Rattle.sums.specs.Rows.{gap_at, mark_at}
use Rattle.sums.proofs.Rows.{Filled}
use Rattle.sums.proofs.lanes_of.Given as goal

abbrev pub invariant-loop-i : goal.invariant-loop-i
invariant-loop-i l = record {
  gaps : Filled (gap_at l.window) l.gaps l.i;
  marks : Filled (mark_at l.window) l.marks l.i;
}
