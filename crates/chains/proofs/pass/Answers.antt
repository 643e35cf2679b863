-- Each turn of the loop is a law of `proofs.Passing`.
use Rattle.std.proofs.Common.{◌≡◌, ◌≤◌, ◌+◌, Some, sym, ◌∙◌, drop, arith}
use Rattle.postings.specs.Coding.{decoded}
use Rattle.postings.proofs.Laws.{counted_is, counted_over, decoded_held}
use borrow.Author.Tests.{ne_eqb}
use Rattle.basics.proofs.Cases.{by-eq}
use Rattle.sums.proofs.Adding.{bounded_here, bounded_on}
use Rattle.chains.specs.Parts.{passed}
use Rattle.chains.proofs.Passing.{Goes, goes_within, at_end, arrived, no_posting, over, going_start, going_on, going_ends}
use Rattle.chains.proofs.pass.Given.{Over}
use Rattle.chains.proofs.pass.Goals as goal
use Rattle.chains.proofs.pass.Goals.{In-Some, In-Some-next_number}

-- a posting that is found where the loop goes on, and one whose number was counted: it is passed
module _ (g : Over) where
  found : (c : In-Some g) → decoded (drop c.loop-p.p.at c.args.part.now) ≡ Some c.in-Some.d
  found c = sym c.decode_at.ensures ∙ c.in-Some.is

  number : (c : In-Some-next_number g) → (c.in-Some-next_number.n ≡ c.loop-p.p.number + c.d_gap.result.0) × (c.in-Some-next_number.n ≤ c.args.reports)
  number c = counted_is _ _ _ (sym c.next_number.ensures ∙ c.in-Some-next_number.is)

  further : (c : In-Some-next_number g) → Goes c.args.part.now c.args.reports c.args.to c.loop-p.p c.in-Some.d
  further c = record {
    before_end = c.loop-p-test.true;
    below = c.if-p-to.true;
    found = sym c.decode_at.ensures ∙ c.in-Some.is;
    in_reports_lem = omega (arith, number c);
  }

pub loop-p-init : goal.loop-p-init
loop-p-init g c = record {
  in_reports_lem = c.requires.below;
  few = omega arith;
  known = λ q. c.requires.known (rw q);
  going = going_start c.args.part.now c.args.reports c.args.to _;
}

pub next_number-requires : goal.next_number-requires
next_number-requires g c = λ q.
    let z : g.row.JUDGED ≡ 0 = by-eq g.row.JUDGED 0 (λ z. z) (λ n. cc (rw (ne_eqb g.row.JUDGED 0 n) at q)) in
    omega (arith, bounded_here (bounded_on (c.loop-p.invariant.known z) c.loop-p-test.true (found g (goal.at.next_number-requires g c).In-Some)))

pub overflow_add-p : goal.overflow_add-p
overflow_add-p g c = omega (arith, goes_within _ _ _ (further g (goal.at.overflow_add-p g c).In-Some-next_number))

pub loop-p-smaller : goal.loop-p-smaller
loop-p-smaller g c = let w = goes_within _ _ _ (further g (goal.at.loop-p-smaller g c).In-Some-next_number) in omega (arith, w.0, w.1)

pub loop-p-preserved : goal.loop-p-preserved
loop-p-preserved g c =
    let d = goal.at.loop-p-preserved g c in
    let w = further g d.In-Some-next_number in
    let n = number g d.In-Some-next_number in
    let e : c.in-Some-next_number.n ≡ c.loop-p.p.number + c.in-Some.d.gap = omega (arith, n.0, c.d_gap.ensures) in
    let i = c.loop-p.invariant in
    record {
      in_reports_lem = n.1;
      few = omega (arith, (decoded_held _ _ _ _ w.found).gap.0, i.few);
      known = λ q. rw e (bounded_on (i.known q) w.before_end w.found);
      going = rw e (going_on _ _ _ i.going w);
    }

pub returns-else-p-to : goal.returns-else-p-to
unfolding passed
returns-else-p-to g c = going_ends _ _ _ c.loop-p.invariant.going (arrived c.if-p-to.false)

pub returns-after-loop-p : goal.returns-after-loop-p
unfolding passed
returns-after-loop-p g c = going_ends _ _ _ c.loop-p.invariant.going (at_end c.loop-p-test.false)

pub returns-in_default : goal.returns-in_default
unfolding passed
returns-in_default g c = going_ends _ _ _ c.loop-p.invariant.going (no_posting (sym c.decode_at.ensures ∙ c.in_default.is))

pub returns-in_default-next_number : goal.returns-in_default-next_number
unfolding passed
returns-in_default-next_number g c =
    going_ends _ _ _ c.loop-p.invariant.going (over (found g (goal.at.returns-in_default-next_number g c).In-Some) (rw c.d_gap.ensures at (counted_over _ _ _ (sym c.next_number.ensures ∙ c.in_default-next_number.is))))
