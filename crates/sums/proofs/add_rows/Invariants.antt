-- What is added up from here on completes the sum.
use Rattle.std.proofs.Common.{◌-◌, length}
use Rattle.sums.specs.Adding.{Completes, Small}
use Rattle.sums.proofs.add_rows.Given as goal

abbrev pub invariant-loop-rows : goal.invariant-loop-rows
invariant-loop-rows l = record {
  small : Small l.sum;
  completes : Completes l.part (length l.part) l.fn.from l.sum;
}

abbrev pub decreases-loop-rows : goal.decreases-loop-rows
decreases-loop-rows l = length l.part - l.sum.at
