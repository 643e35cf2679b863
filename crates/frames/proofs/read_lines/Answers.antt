use Rattle.std.proofs.Common.{ℕ, ◌≡◌, ◌≤◌, ◌+◌, ◌||◌, Bool, not, eqb, length, List, refl, ap, ◌∙◌, set, arith}
use Rattle.std.proofs.lemmas.List.Edits.{sets}
use Rattle.terms.specs.declared.Judged.{Judged}
use Rattle.terms.specs.Terms.{is_term, fnv1a, judged_as}
use Rattle.terms.proofs.Laws.{judged_term, judged_hash}
use Rattle.frames.specs.declared.Cursor.{Cursor}
use Rattle.frames.specs.declared.Cursors.{Cursors}
use Rattle.frames.specs.Frames.{max_body, count_bytes, term_at, count_at, past_field, folded_at}
use Rattle.frames.proofs.Fields.{field_term}
use Rattle.frames.proofs.Walk.{Turn, over-first, over-turn, over-end, turn-field}
use Rattle.frames.proofs.Reports.{field_first}
use Rattle.frames.proofs.Read.{Reading, reading_none, reading_whole, reading_bad, reading_zero, reading_count, reading_read, reading_cut, reading_more}
use Rattle.frames.proofs.read_lines.Goals as goal

-- a turn with the line's term folded and judged
line_read : {f names hashes : List ℕ} {s t : Cursors} {c : Cursor} {n count : ℕ} {bad zero : Bool} (j : Judged) → Reading f names hashes s.at n bad zero → Turn f count_bytes s c t
    → length f ≤ max_body + 3 → past_field count_bytes f c.at ≤ length f → j ≡ judged_as (term_at f c.at) → count ≡ count_at f c.at
    → Reading f (sets names (c.at + 1) (folded_at f c.at)) (set hashes n j.hash) t.at (n + 1) (bad || not j.term) (zero || eqb count 0)
line_read {f} {s = s} {t = t} {n = n} {count = count} {bad = bad} {zero = zero} j r g short ends q k =
    let is_term_here : j.term ≡ is_term (term_at f s.at) = ap (λ (x : Judged). x.term) q ∙ rw g.here (judged_term (term_at f s.at)) in
    let hash_here : j.hash ≡ fnv1a (folded_at f s.at) = ap (λ (x : Judged). x.hash) q ∙ rw g.here (judged_hash (term_at f s.at)) in
    let count-here : count ≡ count_at f s.at = k ∙ rw g.here refl in
    rw g.here (reading_more r g.starts j.hash t.at (bad || not j.term) (zero || eqb count 0) short (rw g.here at ends) hash_here g.past (rw is_term_here refl) (rw count-here refl))

pub loop-c-init : goal.loop-c-init
loop-c-init c =
    let o = over-first c.into_iter-c-iterator.ensures.into_iter_gives c.lines-c-items.ensures in
    record { can = tt; ends = tt; over = o.0; read = rw o.1 (reading_none c.args.frame.now c.args.names.now c.args.hashes.now (omega (arith, c.requires.short, c.requires.room.0)) c.requires.room.1) }

pub returns-then-frame-past-clause-refused : goal.returns-then-frame-past-clause-refused
returns-then-frame-past-clause-refused c =
    let t = over-turn c.loop-c.invariant.over c.in-Some.ensures.steps in
    let e = reading_cut c.loop-c.invariant.read t.starts (rw (← t.here, ← c.past.ensures) c.if-frame-past.true) in
    rw (field_first, e)

pub fold-line-requires : goal.fold-line-requires
fold-line-requires c =
    let t = over-turn c.loop-c.invariant.over c.in-Some.ensures.steps in
    (field_term count_bytes _ _ (turn-field t (rw (← c.past.ensures) c.if-frame-past.false)), c.loop-c.invariant.read.within)

pub count-requires : goal.count-requires
count-requires c =
    let t = over-turn c.loop-c.invariant.over c.in-Some.ensures.steps in
    turn-field t (rw (← c.past.ensures) c.if-frame-past.false)

pub loop-c-preserved : goal.loop-c-preserved
loop-c-preserved c =
    let t = over-turn c.loop-c.invariant.over c.in-Some.ensures.steps in
    record {
      can = tt;
      ends = tt;
      over = t.over;
      read =
          rw c.fold-line.ensures.folded
          (line_read c.fold-line.result c.loop-c.invariant.read t c.requires.short (rw (← c.past.ensures) c.if-frame-past.false) c.fold-line.ensures.judged c.count.ensures);
    }

pub returns-then-bad-clause-refused : goal.returns-then-bad-clause-refused
returns-then-bad-clause-refused c =
    let r = c.loop-c.invariant.read in
    let h = over-end c.loop-c.invariant.over c.in-None.ensures.steps.0 in
    rw (field_first, reading_whole r h, reading_bad r h, c.if-bad.true)

pub returns-then-zero-clause-refused : goal.returns-then-zero-clause-refused
returns-then-zero-clause-refused c =
    let r = c.loop-c.invariant.read in
    let h = over-end c.loop-c.invariant.over c.in-None.ensures.steps.0 in
    rw (field_first, reading_whole r h, reading_bad r h, c.if-bad.false, reading_zero r h, c.if-zero.true)

pub returns-clause-refused : goal.returns-clause-refused
returns-clause-refused c =
    let r = c.loop-c.invariant.read in
    let h = over-end c.loop-c.invariant.over c.in-None.ensures.steps.0 in
    rw (field_first, reading_whole r h, reading_bad r h, c.if-bad.false, reading_zero r h, c.if-zero.false)

pub returns-clause-count : goal.returns-clause-count
returns-clause-count c = reading_count c.loop-c.invariant.read (over-end c.loop-c.invariant.over c.in-None.ensures.steps.0)

pub returns-clause-read : goal.returns-clause-read
returns-clause-read c = reading_read c.loop-c.invariant.read (over-end c.loop-c.invariant.over c.in-None.ensures.steps.0)
