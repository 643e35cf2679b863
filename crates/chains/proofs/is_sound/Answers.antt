-- Each turn reads a block, and what is left to read, judged by the postings counted so far, stays the answer.
use Rattle.std.proofs.Common.{rules, ◌≡◌, Some, ◌+◌, sym, ap, ◌∙◌, arith}
use Rattle.chains.specs.declared.Cursor.{Cursor}
use Rattle.chains.specs.Chains.{at_head, entered}
use Rattle.chains.proofs.Counting.{unsound, start, after, not_read, not-begun, Read, block_read, tail-ended, part_broken, unlinked, entered_is, next_entering}
use Rattle.chains.proofs.is_sound.Goals as goal
use Rattle.chains.proofs.is_sound.Goals.{Else-r-c}
use Rattle.blocks.proofs.Sizes.{bounds}

-- the length of the term is a byte
pub is_bad_head-requires : goal.is_bad_head-requires
is_bad_head-requires c = c.head_in-d.ensures.short

pub at_head-c-requires : goal.at_head-c-requires
at_head-c-requires c = (omega arith, c.head_in-d.ensures.short)

pub returns-then-is_bad_head : goal.returns-then-is_bad_head
returns-then-is_bad_head c = sym (unsound _ _ _ _ c.head_in-d.ensures.fields (sym c.is_bad_head.ensures ∙ c.if-is_bad_head.true))

pub loop-r-init : goal.loop-r-init
unfolding at_head
loop-r-init c = record {
  entering =
      rw c.at_head-c.ensures
      (start _ _ _ _ c.head_in-d.ensures.fields c.args.used.inside c.requires (sym c.is_bad_head.ensures ∙ c.if-is_bad_head.false));
  next_is = rw c.at_head-c.ensures c.linked-next.ensures;
}

pub returns-in_default : goal.returns-in_default
returns-in_default c = sym (not_read c.loop-r.invariant.entering (sym c.in_default.is ∙ c.read_part.ensures))

pub returns-then-r-c : goal.returns-then-r-c
returns-then-r-c c = sym (not-begun c.loop-r.invariant.entering (sym c.in-Some.is ∙ c.read_part.ensures) c.if-r-c.true)

-- a part was read
read : (c : Else-r-c)
    → Read c.args.used.arena.now c.args.used.blocks c.args.reports c.args.h c.head_in-d.result (after c.loop-r.c c.in-Some.r) (c.loop-r.n + (1 + c.in-Some.r.rest.postings))
read c = block_read c.loop-r.invariant.entering (sym c.in-Some.is ∙ c.read_part.ensures) c.if-r-c.false

pub overflow_add-c : goal.overflow_add-c
overflow_add-c c = let w = read (goal.at.overflow_add-c c).Else-r-c in omega (arith, bounds, w.within)

pub overflow_add-n : goal.overflow_add-n
overflow_add-n c = let w = (read (goal.at.overflow_add-n c).Else-r-c).counted in omega (arith, w.few, w.within)

pub overflow_add-n-in-loop-r : goal.overflow_add-n-in-loop-r
overflow_add-n-in-loop-r c = let w = (read (goal.at.overflow_add-n-in-loop-r c).Else-r-c).counted in omega (arith, w.few, w.within)

pub returns-then-not-is_exhausted : goal.returns-then-not-is_exhausted
returns-then-not-is_exhausted c =
    sym (part_broken (read (goal.at.returns-then-not-is_exhausted c).Else-r-c) (sym c.is_exhausted.ensures ∙ c.if-not-is_exhausted.true))

pub returns-then-c : goal.returns-then-c
returns-then-c c =
    c.agrees.ensures
    ∙ sym (tail-ended (read (goal.at.returns-then-c c).Else-r-c) (sym c.is_exhausted.ensures ∙ c.if-not-is_exhausted.false) c.if-c.true)

pub returns-in_default-entered : goal.returns-in_default-entered
returns-in_default-entered c =
    sym (unlinked (read (goal.at.returns-in_default-entered c).Else-r-c) (sym c.is_exhausted.ensures ∙ c.if-not-is_exhausted.false) c.if-c.false
    (rw c.loop-r.invariant.next_is at (sym c.entered.ensures) ∙ c.in_default-entered.is))

pub loop-r-smaller : goal.loop-r-smaller
unfolding entered
loop-r-smaller c =
    let w = entered_is (after c.loop-r.c c.in-Some.r) c.loop-r.next c.in-Some-entered.e (sym c.entered.ensures ∙ c.in-Some-entered.is) in
    omega (arith, w.0, ap (λ (x : Cursor). x.left) w.2)

pub loop-r-preserved : goal.loop-r-preserved
loop-r-preserved c =
    let q = sym c.entered.ensures ∙ c.in-Some-entered.is in
    let next_at : c.loop-r.next ≡ Some c.in-Some-entered.e.block = (entered_is (after c.loop-r.c c.in-Some.r) c.loop-r.next c.in-Some-entered.e q).1 in
    record {
      entering =
          next_entering (read (goal.at.loop-r-preserved c).Else-r-c) (sym c.is_exhausted.ensures ∙ c.if-not-is_exhausted.false) c.if-c.false
          (rw c.loop-r.invariant.next_is at q);
      next_is = search rules;
    }
