use Rattle.std.proofs.Common.{not, ◌∙◌, rules, tests}
use Rattle.std.proofs.lemmas.Iterator.Search.{any_from_yields_List}
use Rattle.terms.specs.Terms.{is_term}
use Rattle.frames.specs.Frames.{term_at, fields, bad_term}
use Rattle.frames.proofs.Fields.{field_term}
use Rattle.frames.proofs.Walk.{yields-fields, serves-whole, any-list}
use Rattle.frames.proofs.bad_term.Goals as goal

pub any-requires-clause-callable : goal.any-requires-clause-callable
any-requires-clause-callable c = serves-whole (λ x q r. search rules) c.requires (λ x h. search (rules, field_term))

pub returns : goal.returns
unfolding bad_term
returns c =
    let s = c.args.left in
    any_from_yields_List (λ at. not (is_term (term_at s.frame.now at))) _ _ _ c.any.ensures.ran (yields-fields s) (λ x b q k. search (rules, tests))
    ∙ any-list _ (fields s.tail s.frame.now s.at)
