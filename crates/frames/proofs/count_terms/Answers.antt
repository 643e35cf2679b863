use Rattle.std.proofs.lemmas.Iterator.Consumers.{count_from_yields_List}
use Rattle.frames.proofs.Walk.{yields-fields}
use Rattle.frames.proofs.count_terms.Goals as goal

pub returns : goal.returns
returns c = rw c.terms.ensures at (count_from_yields_List _ _ c.count.ensures.ran (yields-fields c.terms.result))
