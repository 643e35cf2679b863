-- What the search found is a used block, or an empty slot.
use Rattle.std.proofs.Common.{◌≡◌, Ok}
use Rattle.lookup.specs.declared.Found.TheVariants.{At, Unknown}
use Rattle.lookup.specs.Lookup.{search as sought}
use Rattle.lookup.proofs.Search.{search-at, search_unknown}
use Rattle.ingest.proofs.write_line.Goals as goal

pub open_line-requires : goal.open_line-requires
open_line-requires c =
    let a = c.args in
    let found : sought a.arena.now a.k.used a.table.now a.line.name.bytes.now ≡ Ok (Unknown c.in-Ok-Unknown.slot) = cc in
    (c.requires.room, λ some. (search_unknown _ _ _ _ _ some found).0)

pub append_line-requires : goal.append_line-requires
append_line-requires c =
    let a = c.args in
    let found : sought a.arena.now a.k.used a.table.now a.line.name.bytes.now ≡ Ok (At c.in-Ok-At.h) = cc in
    (c.requires.room, (search-at _ _ _ _ _ found).below)
