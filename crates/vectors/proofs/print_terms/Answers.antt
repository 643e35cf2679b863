-- Where the loop stands a whole field stands, whose term is one, and behind it the frame is as sound as before.
use Rattle.frames.proofs.Fields.{field_here, field_term, whole-on}
use Rattle.frames.proofs.Conditions.{good_here, good_on}
use Rattle.frames.proofs.Walk.{over-first, over-turn}
use Rattle.terms.proofs.Laws.{term-length}
use Rattle.vectors.proofs.print_terms.Goals as goal

pub loop-c-init : goal.loop-c-init
loop-c-init g c =
    let o = over-first c.into_iter-c-iterator.ensures.into_iter_gives c.terms-c-items.ensures in
    record { can = tt; ends = tt; over = o.0; whole = rw o.1 c.requires.0; good = rw o.1 c.requires.1 }

pub term-requires : goal.term-requires
term-requires g c =
    let f = c.args.frame.now in
    let t = over-turn c.loop-c.invariant.over c.in-Some.ensures.steps in
    rw t.here (field_term 0 f _ (field_here 0 f _ c.loop-c.invariant.whole t.starts))

pub print_folded-requires : goal.print_folded-requires
print_folded-requires g c =
    let f = c.args.frame.now in
    let t = over-turn c.loop-c.invariant.over c.in-Some.ensures.steps in
    rw (c.term.ensures, t.here) (term-length _ (good_here 0 f _ t.starts c.loop-c.invariant.good)).1

pub loop-c-preserved : goal.loop-c-preserved
loop-c-preserved g c =
    let f = c.args.frame.now in
    let t = over-turn c.loop-c.invariant.over c.in-Some.ensures.steps in
    record {
      can = tt;
      ends = tt;
      over = t.over;
      whole = rw t.past (whole-on 0 f _ c.loop-c.invariant.whole t.starts);
      good = rw t.past (good_on 0 f _ t.starts c.loop-c.invariant.good);
    }
