use Rattle.postings.proofs.Reading.{Read}
use Rattle.postings.proofs.read_value.Given as goal

abbrev pub invariant-loop-i : goal.invariant-loop-i
invariant-loop-i l = Read l.s l.v l.weight l.i
