use Rattle.std.proofs.Common.{◌≡◌, ◌-◌, get_or, arith}
use Rattle.frames.proofs.Read.{same_room, put_name}
use Rattle.frames.proofs.Cursor.fold.Goals as goal

pub fold-requires : goal.fold-requires
fold-requires c =
    let r = c.term_range in
    let e : r.result.end - r.result.start ≡ get_or c.args.frame.now c.args.self.at 0 = omega (arith, r.ensures.0, r.ensures.1) in
    rw (c.term.ensures, e, r.ensures.0) (omega (arith, same_room c.args.frame.now c.args.names.now c.args.self.at c.requires.0 c.requires.1))

pub returns-clause-folded : goal.returns-clause-folded
returns-clause-folded c =
    let r = c.term_range in
    let e : r.result.end - r.result.start ≡ get_or c.args.frame.now c.args.self.at 0 = omega (arith, r.ensures.0, r.ensures.1) in
    rw (c.fold.ensures.folded, c.term.ensures, e, r.ensures.0) (put_name c.args.frame.now c.args.names.now c.args.self.at c.requires.0 c.requires.1)
