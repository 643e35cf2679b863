use Rattle.std.proofs.Common.{length, ◌-◌, ◌≤◌}
use Rattle.vectors.proofs.read_full.Given as goal

-- no more was read than there is room for
abbrev pub invariant-loop-n : goal.invariant-loop-n
invariant-loop-n l = l.n ≤ length l.into

abbrev pub decreases-loop-n : goal.decreases-loop-n
decreases-loop-n l = length l.into - l.n
