-- The first entries and the lengths behind them are asked for together; then the line in hand is planned.
use mathlib.Core.Path.{refl, sym, ap, ◌∙◌}
use native.Mathlib.Omega.{arith}
use lib.ListN.{length}
use Rattle.std.proofs.lemmas.Result.{err_from_is_err_and}
use Rattle.std.proofs.lemmas.List.{length_push, length-take-le, get_or-take}
use Rattle.lookup.specs.Lookup.{first_entry, length_behind}
use Rattle.counters.specs.Counters.{memory}
use Rattle.ingest.specs.Report.{place_of, placed}
use Rattle.ingest.proofs.Places.{found_below}
use Rattle.ingest.proofs.Standing.{all_left, line_turn, lines_end}
use Rattle.ingest.proofs.Plans.{planned_none, planned_end, planned_stop, planned_more}
use Rattle.ingest.proofs.plan_lines.Goals as goal

pub loop-n-init : goal.loop-n-init
loop-n-init c =
    let m = memory c.args.arena.bytes.now c.args.table.now c.args.arena.k in
    record {
      all = all_left c.args.lines c.iter-line-items.ensures;
      counted = refl;
      near = omega arith;
      plan = planned_none m c.args.lines.frame.now c.default-plan.ensures;
    }

pub bounds-entries-n : goal.bounds-entries-n
bounds-entries-n c =
    let t = line_turn c.args.lines c.loop-n.invariant.all _ _ c.loop-n.yielded_by _ c.next.new.self c.next.ensures.steps c.loop-n.invariant.counted c.in-Some.is in
    omega (arith, t.enough, c.args.lines.few)

pub bounds-lengths-n : goal.bounds-lengths-n
bounds-lengths-n c =
    let t = line_turn c.args.lines c.loop-n.invariant.all _ _ c.loop-n.yielded_by _ c.next.new.self c.next.ensures.steps c.loop-n.invariant.counted c.in-Some.is in
    omega (arith, t.enough, c.args.lines.few)

pub find_from-requires : goal.find_from-requires
find_from-requires c =
    let t = line_turn c.args.lines c.loop-n.invariant.all _ _ c.loop-n.yielded_by _ c.next.new.self c.next.ensures.steps c.loop-n.invariant.counted c.in-Some.is in
    let n = c.loop-n.n in (
      t.some,
      c.first_entries.ensures.each n t.enough ∙ ap (first_entry c.args.table.now) t.nth,
      c.first_lengths.ensures.each n (omega (arith, t.enough, length-take-le (length c.args.lines.hashes.now) c.first_entries.new.entries (omega (arith, c.args.lines.few))))
          ∙ ap (length_behind _ _) (get_or-take _ _ n 0 t.enough),
    )

pub returns-in_err-found : goal.returns-in_err-found
unfolding place_of placed
returns-in_err-found c =
    let t = line_turn c.args.lines c.loop-n.invariant.all _ _ c.loop-n.yielded_by _ c.next.new.self c.next.ensures.steps c.loop-n.invariant.counted c.in-Some.is in
    let p = err_from_is_err_and c.from_residual.result c.from_residual.ensures.1 in
    let e = sym (rw (c.used-used.ensures.0, c.used-used.ensures.1) at c.find_from.ensures) ∙ c.in_err-found.was in
    rw (p.1, p.2) (planned_stop c.loop-n.invariant.plan t.more (rw e))

pub place_found-requires : goal.place_found-requires
place_found-requires c =
    let a = c.args in
    found_below a.arena.bytes.now a.arena.k.used a.table.now c.in-Some.line.name.bytes.now c.in_ok-found.found (sym (rw (c.used-used.ensures.0, c.used-used.ensures.1) at c.find_from.ensures) ∙ c.in_ok-found.was)

pub returns-in_err-place_found : goal.returns-in_err-place_found
unfolding place_of
returns-in_err-place_found c =
    let t = line_turn c.args.lines c.loop-n.invariant.all _ _ c.loop-n.yielded_by _ c.next.new.self c.next.ensures.steps c.loop-n.invariant.counted c.in-Some.is in
    let p = err_from_is_err_and c.from_residual-in_err-place_found.result c.from_residual-in_err-place_found.ensures.1 in
    let e = sym (rw (c.used-used.ensures.0, c.used-used.ensures.1) at c.find_from.ensures) ∙ c.in_ok-found.was in
    rw (p.1, p.2) (planned_stop c.loop-n.invariant.plan t.more (rw e (sym c.place_found.ensures ∙ c.in_err-place_found.was)))

pub with-plan-requires : goal.with-plan-requires
with-plan-requires c =
    let t = line_turn c.args.lines c.loop-n.invariant.all _ _ c.loop-n.yielded_by _ c.next.new.self c.next.ensures.steps c.loop-n.invariant.counted c.in-Some.is in
    let w = c.loop-n.invariant.plan in
    (omega (arith, w.few_terms, t.enough, c.args.lines.few), omega (arith, w.few_blocks, t.enough, c.args.lines.few))

pub loop-n-preserved : goal.loop-n-preserved
unfolding place_of
loop-n-preserved c =
    let t = line_turn c.args.lines c.loop-n.invariant.all _ _ c.loop-n.yielded_by _ c.next.new.self c.next.ensures.steps c.loop-n.invariant.counted c.in-Some.is in
    let v = c.loop-n.invariant in
    let e = sym (rw (c.used-used.ensures.0, c.used-used.ensures.1) at c.find_from.ensures) ∙ c.in_ok-found.was in
    record {
      all = v.all;
      counted = rw (length_push, v.counted);
      near = omega (arith, t.enough);
      plan = rw c.with-plan.ensures (planned_more v.plan t.more (rw e (sym c.place_found.ensures ∙ c.in_ok-place_found.was)));
    }

pub returns : goal.returns
returns c =
    let v = c.loop-n.invariant in
    let end = lines_end c.args.lines v.all _ _ c.loop-n.yielded_by _ c.next.new.self c.next.ensures.steps v.counted c.in-None.is in
    (planned_end v.plan end, omega (arith, v.plan.few_terms, v.near, c.args.lines.few))
