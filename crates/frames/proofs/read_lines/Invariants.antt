-- From line to line it is known what rows 4 to 6 say so far, and the hashes (`Reading`).
use Rattle.frames.specs.Frames.{count_bytes}
use Rattle.frames.proofs.Walk.{Over}
use Rattle.frames.proofs.Read.{Reading}
use Rattle.frames.proofs.read_lines.Given as goal

abbrev pub invariant-loop-c : goal.invariant-loop-c
invariant-loop-c l = record {
  can : (goal.iterator-loop-c).can_next l.c-iterator;
  ends : (goal.iterator-loop-c).is_finite l.c-iterator;
  over : Over l.frame count_bytes l.c-iterator;
  read : Reading l.frame l.names l.hashes l.c-iterator.at l.n l.bad l.zero;
}
