use Rattle.frames.proofs.Laws.{sound-lines}
use Rattle.frames.proofs.report.Lines.iter.Goals as goal

pub invariant_of-result : goal.invariant_of-result
invariant_of-result c =
    let s = c.args.self in
    let l = sound-lines s.frame.now s.sound in
    record { room = s.room; folded = s.folded; whole = l.whole; good = l.good; hashed = s.hashed }
