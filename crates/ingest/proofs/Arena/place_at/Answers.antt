-- A sound head can take a posting of the next report.
use native.Mathlib.Omega.{arith}
use Rattle.ingest.proofs.Places.{head_fine}
use Rattle.ingest.proofs.Arena.place_at.Goals as goal

pub fits_in-requires : goal.fits_in-requires
fits_in-requires c =
    let w = head_fine c.args.self.bytes.now c.args.self.k c.args.h c.in_ok-d.d c.in_ok-d.ensures.1 in
    (omega (arith, w.last), w.good.within)
