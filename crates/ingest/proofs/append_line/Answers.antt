-- A sound head can take a posting.
use mathlib.Core.Path.{sym, ◌∙◌}
use native.Mathlib.Omega.{arith}
use Rattle.blocks.proofs.Capacity.{next-inside}
use Rattle.ingest.proofs.Places.{head_fine, fine_appends}
use Rattle.ingest.proofs.append_line.Goals as goal

pub fits_in-requires : goal.fits_in-requires
fits_in-requires c =
    let fine = head_fine c.args.arena.now c.args.k c.args.h c.in-Ok.d c.in-Ok.ensures.1 in
    (omega (arith, fine.last), fine.good.within)

pub add_to-requires : goal.add_to-requires
add_to-requires c =
    let a = c.args in
    let fine = head_fine a.arena.now a.k a.h c.in-Ok.d c.in-Ok.ensures.1 in (
      fine_appends a.arena.now a.k a.h c.in-Ok.d c.requires.0 c.requires.1 fine,
      sym c.fits_in.ensures ∙ c.if-fits_in.true,
    )

pub join_to-requires : goal.join_to-requires
join_to-requires c =
    let a = c.args in
    let fine = head_fine a.arena.now a.k a.h c.in-Ok.d c.in-Ok.ensures.1 in (
      fine_appends a.arena.now a.k a.h c.in-Ok.d c.requires.0 c.requires.1 fine,
      omega (arith, next-inside a.arena.now a.k.used (omega (arith, c.requires.0.inside))),
      omega (arith, fine.first),
    )
