use Rattle.std.proofs.Common.{sym}
use Rattle.frames.proofs.Heads.{headed}
use Rattle.frames.proofs.Read.{all-hashes}
use Rattle.frames.proofs.Reports.{no_field}
use Rattle.frames.proofs.read_report.Goals as goal

pub read_lines-requires : goal.read_lines-requires
read_lines-requires c =
    let h = headed 1 _ (sym c.in_ok-check_head.ensures) in
    record { short = h.short; room = c.requires }

pub invariant_of-folded : goal.invariant_of-folded
invariant_of-folded c = record { room = c.in_ok-count.ensures.read.room }

pub repeated_term-requires : goal.repeated_term-requires
repeated_term-requires c =
    let h = headed 1 _ (sym c.in_ok-check_head.ensures) in
    let r = c.in_ok-count.ensures in
    record {
      short = h.short;
      whole = (no_field _ (sym r.refused)).0;
      folds = r.read.folds;
      hashed = all-hashes _ _ r.read.hashed r.count;
    }
