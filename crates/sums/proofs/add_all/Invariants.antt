-- What is added up from here on completes the sum, and the offset to stop at goes on with every turn.
use Rattle.std.proofs.Common.{◌-◌, ◌+◌, ◌≤◌, length}
use Rattle.sums.specs.Adding.{sum_of, Completes, Small}
use Rattle.sums.proofs.add_all.Given as goal

abbrev pub invariant-loop-sum : goal.invariant-loop-sum
invariant-loop-sum l = record {
  small : Small l.sum;
  completes : Completes l.part (length l.part) (sum_of l.fn.at l.fn.number) l.sum;
  near : l.stop ≤ l.sum.at + 48;
}

abbrev pub decreases-loop-sum : goal.decreases-loop-sum
decreases-loop-sum l = l.n + 48 - l.stop
