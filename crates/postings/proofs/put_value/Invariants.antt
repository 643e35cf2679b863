-- What is left to write of the value, from i on, completes its code from `at` on.
use Rattle.std.proofs.Common.{◌≡◌, ◌+◌, length}
use Rattle.std.proofs.lemmas.List.Edits.{sets}
use Rattle.postings.specs.Coding.{vbyte}
use Rattle.postings.proofs.put_value.Given as goal

abbrev pub invariant-loop-n : goal.invariant-loop-n
invariant-loop-n l = record {
  place : l.i + length (vbyte l.n) ≡ l.at + length (vbyte l.v);
  same_length : length l.s ≡ length l.fn.s;
  bytes : sets l.s l.i (vbyte l.n) ≡ sets l.fn.s l.at (vbyte l.v);
}

abbrev pub decreases-loop-n : goal.decreases-loop-n
decreases-loop-n l = l.n
