use Rattle.std.proofs.Common.{◌≡◌, ◌&&◌, ℕ, Bool, List, ltb, min, get_or, rules, arith, take_all}
use Rattle.std.proofs.lemmas.Bool.Decides.{nat_tests}
use Rattle.basics.specs.Lists.{all}
use Rattle.basics.proofs.Lists.{all_more}
use Rattle.terms.specs.Terms.{allowed, is_term, folded, fnv1a, judged_as}
use Rattle.terms.specs.declared.Judged.{Judged}
use Rattle.terms.proofs.Laws.{allowed_pos, stored_more, mixed_more}
use Rattle.terms.proofs.fold.Goals as goal

-- the lesser of two bytes is over 0 where both are
lesser : (a b : ℕ) → ltb 0 (min a b) ≡ (ltb 0 a && ltb 0 b)
lesser a b = grind (arith, nat_tests)

whole : (s : List ℕ) (t : Bool) (h : ℕ) → t ≡ is_term s → h ≡ fnv1a (folded s) → ◌≡◌ {A = Judged} (record { term = t; hash = h }) (judged_as s)
unfolding judged_as
whole s t h p q = rw (p, q)

pub loop-i-init : goal.loop-i-init
unfolding all folded
loop-i-init c = record { stored = search rules; hashed = search rules; barred = search rules }

pub loop-i-preserved : goal.loop-i-preserved
loop-i-preserved c =
    let s = c.args.s.now in
    let i = c.loop-i.i in
    let v = c.loop-i.invariant in
    record {
      stored = rw (v.stored, c.entry_of-f.ensures) (stored_more s i c.loop-i-test.true c.args.into.now);
      hashed = rw (c.mix-hash.ensures, v.hashed, c.entry_of-f.ensures) (mixed_more s i c.loop-i-test.true);
      barred = cc (c.min-least.ensures, lesser c.loop-i.least c.entry_of-f.result, v.barred, c.entry_of-f.ensures, allowed_pos (get_or s i 0), all_more allowed s 0 i c.loop-i-test.true);
    }

pub returns-then-s-le-MAX_TERM-clause-judged : goal.returns-then-s-le-MAX_TERM-clause-judged
unfolding is_term fnv1a
returns-then-s-le-MAX_TERM-clause-judged c = whole _ _ _ (grind (arith, nat_tests, take_all)) (grind (arith, take_all))

pub returns-else-s-le-MAX_TERM-clause-judged : goal.returns-else-s-le-MAX_TERM-clause-judged
unfolding is_term fnv1a
returns-else-s-le-MAX_TERM-clause-judged c = whole _ _ _ (grind (arith, nat_tests)) (grind (arith, take_all))
