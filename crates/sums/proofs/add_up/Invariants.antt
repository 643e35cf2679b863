-- What is added up from here on completes the sum.
use Rattle.std.proofs.Common.{◌-◌}
use Rattle.sums.specs.Adding.{Completes, Small}
use Rattle.sums.proofs.add_up.Given as goal

abbrev pub invariant-loop-sum : goal.invariant-loop-sum
invariant-loop-sum l = record {
  small : Small l.sum;
  completes : Completes l.part l.stop l.fn.from l.sum;
}

abbrev pub decreases-loop-sum : goal.decreases-loop-sum
decreases-loop-sum l = l.stop - l.sum.at
