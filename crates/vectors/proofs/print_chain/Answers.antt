-- The length of the term is a byte, and a posting that the reader gives is past the last one and no later than the reports.
use Rattle.std.proofs.Common.{arith, Ok, ap, sym, ◌∙◌}
use Rattle.blocks.proofs.Fields.{head-short}
use Rattle.chains.specs.Chains.{at_head}
use Rattle.chains.proofs.Places.{from-posting}
use Rattle.chains.proofs.Laws.{Stepped, step_follows}
use Rattle.vectors.proofs.print_chain.Goals as goal

pub at_head-place-requires : goal.at_head-place-requires
at_head-place-requires g c = (c.requires.1, head-short _ _ c.head_of-d.ensures (λ i. (c.type_inv.arena i).fits))

pub loop-place-init : goal.loop-place-init
loop-place-init g c = unfold at_head in rw c.at_head-place.ensures (omega arith)

pub loop-place-smaller : goal.loop-place-smaller
loop-place-smaller g c =
    let t : Stepped c.args.arena.now c.args.used c.head_of-d.result.last c.loop-place.place c.in-Ok-Some.step.number c.in-Ok-Some.step.next
    = step_follows _ _ _ _ (from-posting _ _ _ _ c.in-Ok-Some.step.number c.in-Ok-Some.step.count c.in-Ok-Some.step.next (sym c.next.ensures ∙ c.in-Ok-Some.is ∙ ap Ok c.in-Ok-Some.field-0-is)) in
    omega (arith, t.number, t.ascends, t.within)

pub loop-place-preserved : goal.loop-place-preserved
loop-place-preserved g c =
    let t : Stepped c.args.arena.now c.args.used c.head_of-d.result.last c.loop-place.place c.in-Ok-Some.step.number c.in-Ok-Some.step.next
    = step_follows _ _ _ _ (from-posting _ _ _ _ c.in-Ok-Some.step.number c.in-Ok-Some.step.count c.in-Ok-Some.step.next (sym c.next.ensures ∙ c.in-Ok-Some.is ∙ ap Ok c.in-Ok-Some.field-0-is)) in
    omega (arith, t.number, t.within)
