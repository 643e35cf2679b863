-- Each turn is a law of `Reading`.
use Rattle.std.proofs.Common.{get_or, ◌≤◌, sym, ap, ◌∙◌, arith}
use Rattle.std.proofs.lemmas.Grind.{common_steps}
use Rattle.postings.specs.Coding.{at_most}
use Rattle.postings.proofs.Codes.{at_most_lem, over, none}
use Rattle.postings.proofs.Reading.{ended, zero_byte, last_byte, more_byte, too_long}
use Rattle.postings.proofs.read_value.Goals as goal

pub returns-then-b-lt128-clause-is : goal.returns-then-b-lt128-clause-is
returns-then-b-lt128-clause-is c =
    let zero = zero_byte c.loop-i.invariant c.loop-i-test.true in
    let last = last_byte c.loop-i.invariant c.loop-i-test.true in
    grind (arith, common_steps, at_most_lem, over, none)

pub returns-then-i-eq4-clause-is : goal.returns-then-i-eq4-clause-is
returns-then-i-eq4-clause-is c =
    let high : 128 ≤ get_or c.args.s.now c.loop-i.i 0 = omega arith in
    let byte = c.type_inv.s c.loop-i.i in
    sym (too_long c.loop-i.invariant c.loop-i-test.true high byte.fits c.if-i-eq4.true c.args.most c.requires)

pub loop-i-preserved : goal.loop-i-preserved
loop-i-preserved c =
    let high : 128 ≤ get_or c.args.s.now c.loop-i.i 0 = omega arith in
    let byte = c.type_inv.s c.loop-i.i in
    rw c.from-b.ensures (more_byte c.loop-i.invariant c.loop-i-test.true high byte.fits (omega arith))

pub returns-clause-is : goal.returns-clause-is
returns-clause-is c = sym (ap (at_most c.args.most) (ended c.loop-i.invariant c.loop-i-test.false) ∙ none c.args.most)
