use Rattle.std.proofs.Common.{◌<◌, length, arith}
use Rattle.std.proofs.lemmas.List.{drop-set-lt}
use Rattle.basics.proofs.Mapped.{mapped_more}
use Rattle.basics.proofs.map_into.Goals as goal

pub loop-i-preserved : goal.loop-i-preserved
loop-i-preserved g c =
    let met = c.loop-i-test.true in
    let room : c.loop-i.i < length c.loop-i.into = omega (arith, met, c.loop-i.auto.into, c.requires.fits) in
    let stays = drop-set-lt (length c.args.from.now) c.loop-i.into c.loop-i.i c.f.result met in (
      mapped_more _ _ _ _ _ _ met room c.index-from-i.is c.loop-i.invariant.0 c.f.ensures,
      rw stays c.loop-i.invariant.1,
    )
