-- The plan so far, with the places of the lines that are left, is the plan of all.
use mathlib.Core.Path.{◌≡◌}
use Prim.Native.Nat.{◌≤◌}
use lib.ListN.{length}
use Rattle.counters.specs.Counters.{memory}
use Rattle.ingest.proofs.Standing.{All}
use Rattle.ingest.proofs.Plans.{Planned}
use Rattle.ingest.proofs.plan_lines.Given as goal

abbrev pub invariant-loop-n : goal.invariant-loop-n
invariant-loop-n l = record {
  all : All l.lines l.initial.line-iterator;
  counted : l.n ≡ length l.yielded;
  near : l.n ≤ length l.lines.hashes.now;
  plan : Planned (memory l.arena.bytes.now l.table l.arena.k) l.lines.frame.now l.plan l.n;
}
