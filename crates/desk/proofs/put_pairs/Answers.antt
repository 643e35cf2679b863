use Rattle.std.proofs.Common.{inl, inr, arith}
use Rattle.desk.proofs.Texts.{putting_start, putting_more, putting_all, putting_room}
use Rattle.desk.proofs.put_pairs.Goals as goal

pub loop-number-init : goal.loop-number-init
loop-number-init c = record {
  can = (tt, tt);
  ends = tt;
  texts = rw (c.into_iter-number-iterator.ensures.into_iter_gives, c.zip-number-items.ensures.first, c.iter.ensures.rest, c.zip-number-items.ensures.second.0) (putting_start _ _ _ _ c.requires.1);
}

pub put_pair-end-requires : goal.put_pair-end-requires
put_pair-end-requires c = putting_room c.loop-number.invariant.texts c.in-Some.ensures.steps.0 c.requires.0

pub loop-number-preserved : goal.loop-number-preserved
loop-number-preserved c = record {
  can = (tt, tt);
  ends = tt;
  texts = putting_more c.loop-number.invariant.texts c.in-Some.ensures.steps.0 c.in-Some.ensures.steps.1 c.put_pair-end.ensures;
}

pub returns : goal.returns
returns c =
    let t = c.loop-number.invariant.texts in
    putting_all t (elim c.in-None.ensures.steps [ inl w ↦ w.1.0 | inr w ↦ omega (arith, w.1.0, t.both) ])
