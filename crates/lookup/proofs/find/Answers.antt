-- Each turn is at the next slot.
use Rattle.std.proofs.Common.{◌%◌, ◌<◌, arith}
use Rattle.std.proofs.lemmas.List.{length_push}
use native.Mathlib.Nat.{mod-lt}
use Rattle.lookup.proofs.Search.{searching, meets_all, slot_turn, slots_end, slot_next}
use Rattle.lookup.proofs.find.Goals as goal

pub loop-slot-init : goal.loop-slot-init
loop-slot-init c =
    let o = c.chain-slot-items.ensures in
    let e = c.into_iter-slot-iterator.ensures.into_iter_gives in
    let inside : c.args.name.hash % c.slots_of-t.result < c.slots_of-t.result = mod-lt c.args.name.hash (omega arith) in
    record {
      meets = meets_all inside (rw e o.first) (rw e o.second) (rw e o.first_done) (rw e o.second_done);
      ahead = grind (arith, searching, inside);
    }

pub bounds-table-slot : goal.bounds-table-slot
bounds-table-slot c =
    let t = slot_turn c.loop-slot.invariant.meets _ _ c.loop-slot.yielded_by _ c.next.new.self c.next.ensures.steps c.in-Some.is in
    grind (arith, searching, t.0, t.1, c.loop-slot.invariant.meets.inside)

pub returns-in_default : goal.returns-in_default
returns-in_default c =
    let t = slot_turn c.loop-slot.invariant.meets _ _ c.loop-slot.yielded_by _ c.next.new.self c.next.ensures.steps c.in-Some.is in
    grind (arith, searching, t.0, t.1)

pub returns-then-used-b : goal.returns-then-used-b
returns-then-used-b c =
    let t = slot_turn c.loop-slot.invariant.meets _ _ c.loop-slot.yielded_by _ c.next.new.self c.next.ensures.steps c.in-Some.is in
    grind (arith, searching, t.0, t.1)

pub returns-then-holds_name : goal.returns-then-holds_name
returns-then-holds_name c =
    let t = slot_turn c.loop-slot.invariant.meets _ _ c.loop-slot.yielded_by _ c.next.new.self c.next.ensures.steps c.in-Some.is in
    grind (arith, searching, t.0, t.1)

pub loop-slot-preserved : goal.loop-slot-preserved
loop-slot-preserved c =
    let t = slot_turn c.loop-slot.invariant.meets _ _ c.loop-slot.yielded_by _ c.next.new.self c.next.ensures.steps c.in-Some.is in
    record {
      meets = c.loop-slot.invariant.meets;
      ahead = rw length_push (grind (arith, searching, t.0, t.1, slot_next _ _ _ c.loop-slot.invariant.meets.inside t.0));
    }

pub returns : goal.returns
returns c = grind (arith, searching, slots_end c.loop-slot.invariant.meets _ _ c.loop-slot.yielded_by _ c.next.new.self c.next.ensures.steps c.in-None.is)
