use Rattle.std.proofs.Common.{ℕ, sym, arith}
use Rattle.std.proofs.lemmas.List.{length-take}
use Rattle.frames.proofs.Read.{all-hashes}
use Rattle.frames.proofs.report.Lines.read.Goals as goal

pub invariant_of-result : goal.invariant_of-result
invariant_of-result c =
    let e = c.in_ok-count.ensures in
    record {
      sound = sym e.refused;
      room = e.read.room;
      folded = e.read.folds;
      hashed = all-hashes c.args.frame.now c.in_ok-count.count e.read.hashed e.count;
      few = omega (arith, length-take {A = ℕ}, e.count, e.read.few);
    }
