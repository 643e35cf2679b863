-- The folded bytes so far stand at the front, with their hash, and the least of them tells whether all are allowed.
use Rattle.std.proofs.Common.{◌≡◌, take, ltb, fold}
use Rattle.std.proofs.lemmas.List.Edits.{sets}
use Rattle.basics.specs.Lists.{all}
use Rattle.terms.specs.Terms.{allowed, folded, mixed}
use Rattle.terms.proofs.fold.Given as goal

abbrev pub invariant-loop-i : goal.invariant-loop-i
invariant-loop-i l = record {
  stored : l.into ≡ sets l.initial.into 0 (folded (take l.i l.s));
  hashed : l.hash ≡ fold mixed 2166136261 (folded (take l.i l.s));
  barred : ltb 0 l.least ≡ all allowed (take l.i l.s);
}
