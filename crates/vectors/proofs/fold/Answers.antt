-- A term is no longer than the buffer for its folded bytes.
use Rattle.std.proofs.Common.{sym, ◌∙◌}
use Rattle.terms.proofs.Laws.{term-length}
use Rattle.vectors.proofs.fold.Goals as goal

pub print_folded-requires : goal.print_folded-requires
print_folded-requires g c = (term-length c.args.payload.now (sym c.is_term.ensures ∙ c.if-not-is_term.false)).1
