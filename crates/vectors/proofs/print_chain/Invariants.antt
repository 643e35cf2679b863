-- A posting that the reader gives is past the last one and no later than the reports, so the reports left get fewer.
use Rattle.std.proofs.Common.{◌-◌, ◌≤◌}
use Rattle.vectors.proofs.print_chain.Given as goal

abbrev pub invariant-loop-place : goal.invariant-loop-place
invariant-loop-place g l = l.place.number ≤ l.reports

abbrev pub decreases-loop-place : goal.decreases-loop-place
decreases-loop-place g l = l.reports - l.place.number
