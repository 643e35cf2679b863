use Rattle.std.proofs.Common.{◌≡◌, ◌∙◌, ◌≤◌, length, sym, rules, tests, arith}
use Rattle.std.proofs.lemmas.Iterator.{YieldsList-from_slice}
use Rattle.std.proofs.lemmas.Iterator.Search.{all_from_yields_List}
use Rattle.std.specs.List.{list_all}
use Rattle.basics.specs.Lists.{all}
use Rattle.terms.specs.Terms.{allowed, max_term}
use Rattle.terms.proofs.Laws.{allowed_not-zero, is_term-allowed}
use Rattle.terms.proofs.is_term.Goals as goal

pub returns-then-s-le-MAX_TERM : goal.returns-then-s-le-MAX_TERM
unfolding all
returns-then-s-le-MAX_TERM c =
    let s = c.args.s.now in
    let low : 1 ≤ length s = omega arith in
    let high : length s ≤ max_term = omega arith in
    let each : c.all.result ≡ list_all allowed s = all_from_yields_List allowed _ _ c.all.result c.all.ensures.ran (YieldsList-from_slice s cc) (λ x b q k. search (rules, tests, allowed_not-zero)) in
    each ∙ sym (is_term-allowed s low high)
