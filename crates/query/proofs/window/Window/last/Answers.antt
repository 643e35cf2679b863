-- By the law of trailing zeros.
use Rattle.std.proofs.Common.{arith}
use Rattle.query.proofs.Marking.{last-marked}
use Rattle.query.proofs.window.Window.last.Goals as goal

pub overflow_add-result : goal.overflow_add-result
overflow_add-result c =
    let w = c.args.self in
    let r = last-marked w.span.base w.mask c.requires (omega arith) in omega (arith, w.up_to _ r.0 r.1)

pub returns : goal.returns
returns c = last-marked c.args.self.span.base c.args.self.mask c.requires (omega arith)
