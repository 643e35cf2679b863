use Rattle.std.proofs.Common.{ltb, length, ◌∙◌, rules, tests}
use Rattle.std.proofs.lemmas.Iterator.Search.{any_from_yields_List}
use Rattle.frames.specs.Frames.{past_field, fields, passes_end}
use Rattle.frames.proofs.Walk.{yields-fields, serves-in, any-list}
use Rattle.frames.proofs.passes_end.Goals as goal

pub any-requires-clause-callable : goal.any-requires-clause-callable
any-requires-clause-callable c = serves-in (λ x q r. search rules) (λ x h. search rules)

pub returns : goal.returns
unfolding passes_end
returns c =
    let s = c.args.left in
    any_from_yields_List (λ at. ltb (length s.frame.now) (past_field s.tail s.frame.now at)) _ _ _ c.any.ensures.ran (yields-fields s) (λ x b q k. search (rules, tests))
    ∙ any-list _ (fields s.tail s.frame.now s.at)
