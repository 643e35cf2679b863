-- From the place reached on, whole fields that are terms stand up to the frame's end.
use Rattle.std.proofs.Common.{◌≡◌, false}
use Rattle.frames.specs.Frames.{fields, passes_end, bad_term}
use Rattle.frames.proofs.Walk.{Over}
use Rattle.vectors.proofs.print_terms.Given as goal

abbrev pub invariant-loop-c : goal.invariant-loop-c
invariant-loop-c g l = record {
  can : (goal.iterator-loop-c g).can_next l.c-iterator;
  ends : (goal.iterator-loop-c g).is_finite l.c-iterator;
  over : Over l.frame 0 l.c-iterator;
  whole : passes_end 0 l.frame l.c-iterator.at ≡ false;
  good : bad_term l.frame (fields 0 l.frame l.c-iterator.at) ≡ false;
}
