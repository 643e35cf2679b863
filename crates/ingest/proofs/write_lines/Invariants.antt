-- Writing the lines that are left, onto what those before left, is writing all.
use lib.ListN.{length}
use Rattle.counters.specs.Counters.{memory}
use Rattle.ingest.proofs.Standing.{All}
use Rattle.ingest.proofs.Writing.{Wrote}
use Rattle.ingest.proofs.write_lines.Given as goal

abbrev pub invariant-loop-line : goal.invariant-loop-line
invariant-loop-line l = record {
  all : All l.lines l.initial.line-iterator;
  wrote : Wrote (memory l.fn.arena l.fn.table l.fn.k) l.lines.frame.now (memory l.arena l.table l.left) (length l.yielded);
}
