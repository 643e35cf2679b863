use Rattle.std.proofs.Common.{◌≡◌, ◌-◌, get_or, arith}
use Rattle.frames.specs.Read.{name_at}
use Rattle.frames.proofs.Cursor.name.Goals as goal

pub returns : goal.returns
unfolding name_at
returns c =
    let r = c.term_range in
    let e : r.result.end - r.result.start ≡ get_or c.args.folded.frame.now c.args.self.at 0 = omega (arith, r.ensures.0, r.ensures.1) in
    rw (e, r.ensures.0) c.requires.1
