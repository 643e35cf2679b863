-- Between two frames: those before are answered.
use Rattle.std.proofs.Common.{◌-◌, length}
use Rattle.counters.specs.Counters.{memory}
use Rattle.desk.proofs.Serving.{Serving}
use Rattle.desk.proofs.settle.Given as goal

abbrev pub invariant-loop-written : goal.invariant-loop-written
invariant-loop-written l = Serving (memory l.initial.arena l.initial.table l.initial.counters) l.input l.ended l.initial.out (memory l.arena l.table l.counters) l.taken l.written l.out

abbrev pub decreases-loop-written : goal.decreases-loop-written
decreases-loop-written l = length l.input - l.taken
