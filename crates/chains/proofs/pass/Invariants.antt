use Rattle.std.proofs.Common.{length, ◌-◌, ◌≡◌, ◌≤◌}
use Rattle.sums.specs.Adding.{Bounded}
use Rattle.chains.proofs.Passing.{Going}
use Rattle.chains.proofs.pass.Given as goal

abbrev pub invariant-loop-p : goal.invariant-loop-p
invariant-loop-p g l =
    record {
      in_reports_lem : l.p.number ≤ l.reports;
      few : l.p.postings ≤ l.p.number;
      known : g.row.JUDGED ≡ 0 → Bounded l.part l.reports l.p.at l.p.number;
      going : Going l.part l.reports l.to l.initial.p l.p;
    }

abbrev pub decreases-loop-p : goal.decreases-loop-p
decreases-loop-p g l = length l.part - l.p.at
