-- The lines of a report: what they need together, and that writing them does not stop.
-- Assumes nothing.
use mathlib.Core.Path.{◌≡◌, refl, ap₂, ◌∙◌}
use Prim.Native.Nat.{ℕ, ◌+◌, ◌-◌, ◌≤◌, ◌<◌}
use mathlib.Core.Bool.{false}
use mathlib.Core.List.{List, [], ◌∷◌, map}
use native.Mathlib.Omega.{arith}
use lib.ListN.{length}
use borrow.Author.Tests.{le-ltb, eq-eqb}
use Rattle.basics.specs.Lists.{any}
use Rattle.frames.specs.Refusals.{first_of}
use Rattle.frames.specs.Frames.{Line}
use Rattle.blocks.specs.Fields.{max_word, capacity}
use Rattle.lookup.specs.Lookup.{slots}
use Rattle.counters.specs.Counters.{Memory, max_terms}
use Rattle.ingest.specs.Report.{place_of, is_damaged, terms_for, blocks_for, total, Needed, plan_of, plan_rows, lines_plan, written, Writing, write_lines}
use Rattle.layout.specs.Index.{Index, used_of}
use Rattle.ledger.specs.Grown.{take_line, take_lines, nowhere, GoodLine, GoodLines, no_line, line}
use Rattle.ledger.proofs.Holds.{Earlier, none, next, earlier_head, earlier_tail, earlier_line}
use Rattle.ledger.proofs.Plan.{needs, news, over, used-line, terms-line, used-lines, terms-lines}
use Rattle.ledger.proofs.Rep.{Rep}
use Rattle.ledger.proofs.Lines.{Wrote, same-capacity, line_rep, line_fine, line_needs, line_news}

-- ---- what lines need together

module _ {m : Memory} {ix : Index} {n : ℕ} (r : Rep m ix n) (small : n < max_word) where
  fine_lines : {ls : List Line} → GoodLines ls → Earlier (n + 1) ix.terms ls → any is_damaged (map (place_of m) ls) ≡ false
  unfolding any
  fine_lines no_line e = refl
  fine_lines (line {l = l} g a gs) e = rw (line_fine r l g small (omega (arith, earlier_head e))) (fine_lines gs (earlier_tail e))

  needs_lines : {ls : List Line} → GoodLines ls → Earlier (n + 1) ix.terms ls → total blocks_for (map (place_of m) ls) ≡ over (needs (n + 1) ix.terms) ls
  unfolding total over
  needs_lines no_line e = refl
  needs_lines (line {l = l} g a gs) e = ap₂ ◌+◌ (line_needs r l g small (omega (arith, earlier_head e))) (needs_lines gs (earlier_tail e))

  news_lines : {ls : List Line} → GoodLines ls → Earlier (n + 1) ix.terms ls → total terms_for (map (place_of m) ls) ≡ over (news ix.terms) ls
  unfolding total over
  news_lines no_line e = refl
  news_lines (line {l = l} g a gs) e = ap₂ ◌+◌ (line_news r l g small (omega (arith, earlier_head e))) (news_lines gs (earlier_tail e))

  -- THE PLAN: nothing is damaged, and what is counted is what the lines take
  pub plan_is : {ls : List Line} → GoodLines ls → Earlier (n + 1) ix.terms ls
      → lines_plan m ls ≡ record { damaged = false; terms = over (news ix.terms) ls; blocks = over (needs (n + 1) ix.terms) ls }
  unfolding lines_plan plan_of
  plan_is gs e = rw (fine_lines gs e, needs_lines gs e, news_lines gs e)

-- none of the rows 10 to 12 holds
rows_pass : (m : Memory) (p : Needed) → p.damaged ≡ false → m.counters.terms + p.terms ≤ max_terms m.table → p.blocks ≤ capacity m.arena - m.counters.used
    → first_of (plan_rows m p) ≡ 0
unfolding plan_rows first_of
rows_pass m p d t b =
    rw (d, le-ltb (max_terms m.table) (m.counters.terms + p.terms) t, le-ltb (capacity m.arena - m.counters.used) p.blocks b)

same_most : (s t : List ℕ) → length s ≡ length t → max_terms s ≡ max_terms t
unfolding max_terms slots
same_most s t e = rw e

-- ---- writing

pub record Written (m : Memory) (w : Writing) (ix : Index) (n : ℕ) : Type 0 where
  pub goes_on : w.stopped ≡ false
  pub wrote : Wrote m w.left ix n

-- a line alone passes the rows
module _ {m : Memory} {ix : Index} {n : ℕ} (r : Rep m ix n) (small : n < max_word) (l : Line) (g : GoodLine l) (e : Earlier (n + 1) ix.terms (l ∷ []))
    (h : used_of (take_line ix (n + 1) l) ≤ capacity m.arena) (t : length (take_line ix (n + 1) l).terms ≤ max_terms m.table) where
  one_passes : first_of (plan_rows m (lines_plan m (l ∷ []))) ≡ 0
  unfolding over
  one_passes =
      rw (plan_is r small (line g nowhere no_line) e)
      (rows_pass m (record { damaged = false; terms = news ix.terms l + 0; blocks = needs (n + 1) ix.terms l + 0 }) refl
      (omega (arith, r.terms_is, terms-line ix (n + 1) l))
      (omega (arith, r.used_is, used-line ix (n + 1) l)))

-- ALL LINES are written, and the memory then stands for the index with them
pub lines_rep : (m : Memory) (ix : Index) (n : ℕ) {ls : List Line} → Rep m ix n → n < max_word → GoodLines ls → Earlier (n + 1) ix.terms ls
    → used_of (take_lines ix (n + 1) ls) ≤ capacity m.arena → length (take_lines ix (n + 1) ls).terms ≤ max_terms m.table
    → Written m (write_lines m (n + 1) ls) (take_lines ix (n + 1) ls) n
unfolding write_lines take_lines
lines_rep m ix n r small no_line e h t = record { goes_on = refl; wrote = record { rep = r; arena_kept = refl; table_kept = refl } }
lines_rep m ix n r small (line {l = l} {ls = ls} g a gs) e h t =
    let ix' : Index = take_line ix (n + 1) l in
    let m' : Memory = written m (n + 1) l (place_of m l) in
    let h₁ : used_of (take_line ix (n + 1) l) ≤ capacity m.arena = omega (arith, used-lines ix' (n + 1) gs) in
    let t₁ : length (take_line ix (n + 1) l).terms ≤ max_terms m.table = omega (arith, terms-lines ix' (n + 1) gs) in
    let w : Wrote m m' ix' n = line_rep r l g small (omega (arith, earlier_head e)) h₁ t₁ in
    let z : Written m' (write_lines m' (n + 1) ls) (take_lines ix' (n + 1) ls) n =
    lines_rep m' ix' n w.rep small gs (earlier_line ix (n + 1) l a (earlier_tail e))
    (rw (same-capacity m'.arena m.arena w.arena_kept) h) (rw (same_most m'.table m.table w.table_kept) t) in
    rw (eq-eqb (first_of (plan_rows m (lines_plan m (l ∷ [])))) 0 (one_passes r small l g (next {l = l} (earlier_head e) none) h₁ t₁))
    (record { goes_on = z.goes_on; wrote = record { rep = z.wrote.rep; arena_kept = z.wrote.arena_kept ∙ w.arena_kept; table_kept = z.wrote.table_kept ∙ w.table_kept } })
