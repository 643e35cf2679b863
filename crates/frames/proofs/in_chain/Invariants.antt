-- Whether the whole chain has the term is whether what is left of it has.
use Rattle.std.proofs.Common.{◌≡◌, ◌<◌}
use Rattle.frames.specs.Frames.{folded_at}
use Rattle.frames.specs.Read.{LineAt}
use Rattle.frames.specs.Repeats.{chain}
use Rattle.frames.proofs.Repeats.{has_term}
use Rattle.frames.proofs.in_chain.Given as goal

abbrev pub invariant-loop-at : goal.invariant-loop-at
invariant-loop-at l =
    let f = l.folded.frame.now in
    let t = folded_at f l.c.at in
    record {
      left : has_term f t (chain l.earlier l.last) ≡ has_term f t (chain l.earlier l.at);
      line : 0 < l.at → LineAt f l.folded.names.now l.at;
    }

abbrev pub decreases-loop-at : goal.decreases-loop-at
decreases-loop-at l = l.at
