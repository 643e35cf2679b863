use Rattle.std.proofs.Common.{sym, ap, ◌∙◌, ◌≡◌, ◌-◌, ◌≤◌, ◌<◌, arith}
use Rattle.std.proofs.lemmas.Bool.Decides.{nat_tests}
use Rattle.basics.proofs.Lists.{same_eq}
use Rattle.blocks.specs.Fields.{name_of}
use Rattle.lookup.specs.Lookup.{length_behind, first_entry}
use Rattle.blocks.proofs.Fields.{name_own}
use Rattle.lookup.proofs.Search.{search-first}
use Rattle.lookup.proofs.find_from.Goals as goal

pub returns-then-same_bytes : goal.returns-then-same_bytes
unfolding length_behind
returns-then-same_bytes c =
    let a = c.args in
    let low : 0 < a.entry = grind (arith, nat_tests) in
    let high : a.entry ≤ a.used.blocks = grind (arith, nat_tests) in
    let named : name_of a.used.arena.now (a.entry - 1) ≡ a.name.bytes.now = grind (arith, nat_tests, name_own, same_eq) in
    sym (search-first _ _ _ _ a.entry (c.requires.1 ∙ ap (first_entry a.table.now) a.name.hashed) low high named)
