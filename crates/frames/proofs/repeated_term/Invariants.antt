-- What is known where a line may start (`Passed`), and the hashes from there on.
use Rattle.std.proofs.Common.{◌≡◌}
use Rattle.std.specs.Slice.Iter.{iter_rest}
use Rattle.frames.specs.Frames.{count_bytes, fields}
use Rattle.frames.specs.Read.{hashes_of}
use Rattle.frames.proofs.Walk.{Over}
use Rattle.frames.proofs.Repeats.{Passed}
use Rattle.frames.proofs.repeated_term.Given as goal

abbrev pub invariant-loop-c : goal.invariant-loop-c
invariant-loop-c l =
    let f = l.folded.frame.now in
    record {
      can : (goal.iterator-loop-c).can_next l.c-iterator;
      ends : (goal.iterator-loop-c).is_finite l.c-iterator;
      over : Over f count_bytes l.c-iterator.a;
      hashed : iter_rest l.c-iterator.b ≡ hashes_of f (fields count_bytes f l.c-iterator.a.at);
      passed : Passed f l.folded.names.now l.last l.earlier l.c-iterator.a.at;
    }
