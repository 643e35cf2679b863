-- A term is no longer than the buffer for its folded bytes.
use Rattle.std.proofs.Common.{arith, sym, ◌∙◌}
use Rattle.terms.proofs.Laws.{term-length}
use Rattle.vectors.proofs.chain.Goals as goal

pub open_first-requires : goal.open_first-requires
open_first-requires g c = ((term-length _ (sym c.is_term.ensures ∙ c.if-not-is_term.false)).1, omega arith, omega arith)
