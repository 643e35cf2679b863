-- A posting that is passed keeps within the part, and within 32 bits.
use Rattle.std.proofs.Common.{◌≡◌, ◌+◌, ◌-◌, Some, refl, sym, ◌∙◌, arith, length, drop, length-drop}
use Rattle.std.proofs.lemmas.List.{take_rest}
use Rattle.postings.specs.Coding.{decoded}
use Rattle.postings.proofs.Laws.{decoded-within}
use Rattle.sums.specs.Adding.{Bounded}
use Rattle.sums.proofs.Adding.{bounded_here}
use Rattle.blocks.specs.Fields.{max_word}
use Rattle.chains.specs.Chains.{part_end}
use Rattle.chains.proofs.Parts.{bounded_next}
use Rattle.chains.proofs.part.Part.next.Goals as goal
use Rattle.chains.proofs.part.Part.next.Goals.{In_ok-d}

-- the bytes behind the posting bound the number that it leads to
next : (c : In_ok-d) → Bounded (drop c.in_ok-d.d.length c.args.self.now.bytes.now) max_word 0 (c.args.self.now.number + c.in_ok-d.d.gap)
next c = bounded_next c.args.self.now.known (sym c.decode.ensures ∙ c.in_ok-d.was)

pub behind-self-requires : goal.behind-self-requires
behind-self-requires c = omega (arith, bounded_here (next (goal.at.behind-self-requires c).In_ok-d), c.d_gap.ensures)

pub invariant_of-self : goal.invariant_of-self
invariant_of-self c =
    let s = c.args.self.now in
    let n : c.behind-self.result ≡ s.number + c.in_ok-d.d.gap = omega (arith, c.d_gap.ensures) in
    record {
      within = rw (take_rest, length-drop) (omega (arith, s.within));
      known = rw (take_rest, n) (next (goal.at.invariant_of-self c).In_ok-d);
    }

pub returns : goal.returns
returns c =
    let s = c.args.self.now in
    let d = c.in_ok-d.d in
    let e : decoded s.bytes.now ≡ Some d = sym c.decode.ensures ∙ c.in_ok-d.was in
    let w = decoded-within s.bytes.now e in
    let i : part_end s.from s.from.block - length (drop d.length s.bytes.now) ≡ part_end s.from s.from.block - length s.bytes.now + d.length
    = omega (arith, length-drop d.length s.bytes.now, w.1, s.within) in
    record {
      gap = d.gap;
      taken = d.length;
      found = e;
      number = omega (arith, c.d_gap.ensures);
      left = take_rest s.bytes.now d.length;
      place = rw (take_rest s.bytes.now d.length, i) refl;
    }
