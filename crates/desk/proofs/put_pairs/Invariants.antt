-- The texts of the pairs so far, and those of the others.
use Rattle.std.specs.Slice.Iter.{iter_rest}
use Rattle.desk.proofs.Texts.{Putting}
use Rattle.desk.proofs.put_pairs.Given as goal

abbrev pub invariant-loop-number : goal.invariant-loop-number
invariant-loop-number l = record {
  can : (goal.iterator-loop-number).can_next l.number-iterator;
  ends : (goal.iterator-loop-number).is_finite l.number-iterator;
  texts : Putting l.initial.out l.at l.numbers l.counts (iter_rest l.number-iterator.a) (iter_rest l.number-iterator.b) l.end l.out;
}
