-- Sixteen bytes add up to less than 32 bits hold.
use Rattle.std.proofs.Common.{rules, tests, ◌≤◌, arith}
use Rattle.std.proofs.lemmas.Iterator.{YieldsList-from_slice, YieldsList-from_map}
use Rattle.std.proofs.lemmas.Iterator.Consumers.{fits_by_from_yields_list}
use Rattle.std.proofs.lemmas.List.Elements.{All-from_get_or}
use Rattle.std.proofs.lemmas.List.Sums.{sum_by-le}
use Rattle.sums.proofs.total_of.Goals as goal

pub sum-requires-clause-fits : goal.sum-requires-clause-fits
sum-requires-clause-fits c =
    let xs = c.args.lanes.now in
    let bytes = All-from_get_or (λ x. x ≤ 255) xs 0 (λ k h. omega arith) in
    fits_by_from_yields_list (λ x. x) xs c.map.result _
    (YieldsList-from_map _ (λ x. x) (YieldsList-from_slice xs cc) c.map.ensures.closure (λ x r q k. search (rules, tests)))
    (omega (arith, sum_by-le (λ x. x) 255 xs bytes))
