use Rattle.std.proofs.Common.{ℕ, inl, inr, ◌≡◌, ◌<◌, ◌%◌, ◌*◌, ◌∷◌, List, Bool, true, false, get_or, set, refl, sym, ap, ◌∙◌, arith}
use Rattle.frames.specs.declared.Cursor.{Cursor}
use Rattle.frames.specs.declared.Cursors.{Cursors}
use Rattle.frames.specs.Frames.{count_bytes, fields, lines, folded_at, repeated_term}
use Rattle.frames.specs.Read.{hashes_of}
use Rattle.frames.specs.Repeats.{slots, slot_of, chain}
use Rattle.frames.proofs.Read.{hashes-none, first-hash, other-hashes}
use Rattle.frames.proofs.Walk.{Turn, over-first, over-turn, over-end}
use Rattle.frames.proofs.Repeats.{has_term, bucket, Passed, passed_none, passed_end, passed-line, passed_found, passed_more}
use Rattle.frames.proofs.repeated_term.Goals as goal

-- a turn at the line of which x is the hash, r being whether the chain of its bucket has its term
module _ {f names hashes others last earlier : List ℕ} {s t : Cursors} {c : Cursor} {x : ℕ} (p : Passed f names last earlier s.at) (g : Turn f count_bytes s c t)
    (e : hashes ≡ hashes_of f (fields count_bytes f s.at)) (q : hashes ≡ x ∷ others) where
  small : c.at < 5 * slots
  small = omega (arith, g.here, g.starts, (p.chained 0).room)

  bucket-is : x % 256 ≡ bucket (folded_at f s.at)
  unfolding bucket
  bucket-is = ap (λ (h : ℕ). h % 256) (first-hash f s.at e x others q g.starts)

  module _ (r : Bool) (k : r ≡ has_term f (folded_at f c.at) (chain earlier (get_or last (x % 256) 0))) where
    test : has_term f (folded_at f s.at) (chain earlier (get_or last (bucket (folded_at f s.at)) 0)) ≡ r
    test = rw (k, g.here, bucket-is) refl

    found : r ≡ true → repeated_term f (lines f) ≡ true
    found z = passed_found p g.starts (test ∙ z)

    on : r ≡ false → Passed f names (set last (x % 256) c.at) (set earlier (slot_of c.at) (get_or last (x % 256) 0)) t.at
    on z = rw (g.here, g.past, bucket-is) (passed_more p g.starts (test ∙ z))

pub loop-c-init : goal.loop-c-init
loop-c-init c =
    let g = c.into_iter-c-iterator.ensures.into_iter_gives in
    let i : c.into_iter-c-iterator.result.a ≡ c.lines.result = rw g c.zip-c-items.ensures.first in
    let o = over-first i c.lines.ensures in
    let f = c.args.folded.frame.now in
    record {
      can = (tt, tt);
      ends = tt;
      over = o.0;
      hashed = rw (o.1, g) (c.zip-c-items.ensures.second.0 ∙ c.requires.hashed);
      passed = rw o.1 (passed_none f c.args.folded.names.now 256 820 refl refl (omega (arith, c.requires.short)) c.requires.whole c.requires.folds);
    }

pub in_chain-requires : goal.in_chain-requires
in_chain-requires c =
    let i = c.loop-c.invariant in
    let t = over-turn i.over c.in-Some.ensures.steps.0 in
    (i.passed.chained _, rw t.here (passed-line i.passed t.starts))

pub returns-then-in_chain : goal.returns-then-in_chain
returns-then-in_chain c =
    let i = c.loop-c.invariant in
    let t = over-turn i.over c.in-Some.ensures.steps.0 in
    sym (found i.passed t i.hashed c.in-Some.ensures.steps.1 c.in_chain.result c.in_chain.ensures c.if-in_chain.true)

pub bounds-earlier-c : goal.bounds-earlier-c
bounds-earlier-c c =
    let i = c.loop-c.invariant in
    omega (arith, small i.passed (over-turn i.over c.in-Some.ensures.steps.0) i.hashed c.in-Some.ensures.steps.1)

pub overflow_cast-last : goal.overflow_cast-last
overflow_cast-last c =
    let i = c.loop-c.invariant in
    omega (arith, small i.passed (over-turn i.over c.in-Some.ensures.steps.0) i.hashed c.in-Some.ensures.steps.1)

pub loop-c-preserved : goal.loop-c-preserved
loop-c-preserved c =
    let i = c.loop-c.invariant in
    let t = over-turn i.over c.in-Some.ensures.steps.0 in
    record {
      can = (tt, tt);
      ends = tt;
      over = t.over;
      hashed = rw t.past (other-hashes _ _ i.hashed _ _ c.in-Some.ensures.steps.1 t.starts);
      passed = on i.passed t i.hashed c.in-Some.ensures.steps.1 c.in_chain.result c.in_chain.ensures c.if-in_chain.false;
    }

pub returns : goal.returns
returns c =
    let i = c.loop-c.invariant in
    sym (passed_end i.passed
    (elim c.in-None.ensures.steps [
      | inl w ↦ over-end i.over w.1.0
      | inr w ↦ hashes-none _ _ i.hashed w.1.0
    ]))
