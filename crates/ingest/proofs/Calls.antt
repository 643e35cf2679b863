-- The call: which refusal it meets, row by row, and what it leaves.
-- Assumes nothing.
use mathlib.Core.Path.{◌≡◌, refl, sym, ◌∙◌}
use mathlib.Core.Bool.{Bool, true, false, cond}
use mathlib.Core.List.{List, ◌∷◌}
use Prim.Native.Nat.{ℕ, ◌≤◌, ◌<◌}
use native.Mathlib.Omega.{arith}
use borrow.Author.Tests.{eq-eqb, ne_eqb, eqb-false}
use lib.Dec.{eqb}
use lib.ListN.{length}
use Rattle.basics.proofs.Cases.{by-eq}
use Rattle.frames.specs.Refusals.{Row, ◌if◌, first_of}
use Rattle.frames.specs.Frames.{report_rows, report_refusal, report_lines}
use Rattle.frames.proofs.Refusals.{first_holds, first_passes, first_some, first-none, first-zero, both_zero, first_le, append_le, refusal-some}
use Rattle.frames.proofs.Reports.{report-numbered}
use Rattle.frames.proofs.Laws.{report_le}
use Rattle.refusals.specs.declared.Refusal.{Refusal}
use Rattle.refusals.specs.Numbers.{number_of}
use Rattle.blocks.specs.Fields.{max_word}
use Rattle.counters.specs.Counters.{Memory, wrong_counters}
use Rattle.counters.proofs.Laws.{Right, right}
use Rattle.ingest.specs.Report.{next_number, plan_rows, lines_plan, Writing, write_lines, call_rows, call_refusal, Called, ended, report_call, taken_of}
use Rattle.ingest.specs.declared.Taken.{Taken}
use Rattle.ingest.proofs.Plans.{plan_le}
use Rattle.ingest.proofs.Writing.{lines-arena, lines-table}

-- ---- refusals 8 to 12 of a sound frame

module _ (m : Memory) (f : List ℕ) where
  row8 : Row
  row8 = 8 if wrong_counters m.arena m.table m.counters

  row9 : Row
  row9 = 9 if eqb m.counters.reports max_word

  rows : List Row
  rows = plan_rows m (lines_plan m (report_lines f))

  -- a refused frame decides
  pub call-frame : 0 < report_refusal f → call_refusal m f ≡ report_refusal f
  unfolding call_refusal call_rows report_refusal
  call-frame h = first_some (report_rows f) _ h

  module _ (z : report_refusal f ≡ 0) where
    call-rest : call_refusal m f ≡ first_of (row8 ∷ row9 ∷ rows)
    unfolding call_refusal call_rows report_refusal row8 row9 rows
    call-rest = first-none _ (report-numbered f) z

    -- 8: wrong counters
    pub call_wrong : wrong_counters m.arena m.table m.counters ≡ true → call_refusal m f ≡ 8
    unfolding row8
    call_wrong e = call-rest ∙ first_holds row8 _ e

    -- a refusal that is numbered by row 8 is the call's
    pub call-lent : (r : Refusal) → number_of r ≡ cond (wrong_counters m.arena m.table m.counters) 8 0 → number_of r ≡ call_refusal m f
    call-lent r e = go (wrong_counters m.arena m.table m.counters) refl e
      where
        go : (b : Bool) → wrong_counters m.arena m.table m.counters ≡ b → number_of r ≡ cond b 8 0 → number_of r ≡ call_refusal m f
        go true p q = q ∙ sym (call_wrong p)
        go false p q = absurd (omega (arith, q, refusal-some r))

    module _ (w : wrong_counters m.arena m.table m.counters ≡ false) where
      -- 9: no number is left for another report
      pub call-last : m.counters.reports ≡ max_word → call_refusal m f ≡ 9
      unfolding row8 row9
      call-last e = call-rest ∙ first_passes row8 _ w ∙ first_holds row9 _ (eq-eqb m.counters.reports max_word e)

      -- 10 to 12, over all lines
      pub call_plan : (m.counters.reports ≡ max_word → ⊥) → call_refusal m f ≡ first_of (plan_rows m (lines_plan m (report_lines f)))
      unfolding row8 row9 rows
      call_plan n = call-rest ∙ first_passes row8 _ w ∙ first_passes row9 _ (ne_eqb m.counters.reports max_word n)

  -- a call that is not refused before it writes
  pub record Judged : Type 0 where
    pub frame : report_refusal f ≡ 0
    pub counters : Right m.arena m.table m.counters
    pub numbered : m.counters.reports ≡ max_word → ⊥
    pub plan : first_of (plan_rows m (lines_plan m (report_lines f))) ≡ 0

  pub judged : call_refusal m f ≡ 0 → Judged
  unfolding call_refusal call_rows report_refusal
  judged z =
      let h = both_zero _ (report-numbered f) z in
      let r₈ = first-zero (8 if wrong_counters m.arena m.table m.counters) _ (omega arith) h.1 in
      let r₉ = first-zero (9 if eqb m.counters.reports max_word) _ (omega arith) r₈.1 in
      record {
        frame = h.0;
        counters = right m.arena m.table m.counters r₈.0;
        numbered = eqb-false m.counters.reports max_word r₉.0;
        plan = r₉.1;
      }

  -- a call is refused with 1 to 12 before it writes
  pub call_le : call_refusal m f ≤ 12
  unfolding call_refusal call_rows report_refusal
  call_le =
      append_le 12 _ (report-numbered f) (omega (arith, report_le f))
      (first_le 12 _ _ (omega arith) (first_le 12 _ _ (omega arith) (plan_le m (lines_plan m (report_lines f)))))

-- ---- how it ends

-- a refused call: its number, and the memory as it is then
abbrev pub refused_as : ℕ → Memory → Called
refused_as r m = record { answer = record { refusal = r; number = 0 }; left = m }

-- a report taken under n
abbrev pub taken_as : ℕ → Memory → Called
taken_as n m = record {
  answer = record { refusal = 0; number = n };
  left = record {
    arena = m.arena;
    table = m.table;
    counters = record { used = m.counters.used; terms = m.counters.terms; reports = n };
  };
}

module _ (n : ℕ) (w : Writing) where
  pub ended-stopped : w.stopped ≡ true → ended n w ≡ refused_as 13 w.left
  unfolding ended
  ended-stopped e = rw e

  pub ended-taken : w.stopped ≡ false → ended n w ≡ taken_as n w.left
  unfolding ended
  ended-taken e = rw e

  -- what holds of either holds of the end
  ended_either : (P : Called → Type 0) → P (refused_as 13 w.left) → P (taken_as n w.left) → P (ended n w)
  ended_either P s k = go w.stopped refl
    where
      go : (b : Bool) → w.stopped ≡ b → P (ended n w)
      go true e = rw (ended-stopped e) s
      go false e = rw (ended-taken e) k

module _ (m : Memory) (f : List ℕ) where
  -- a call refused with 1 to 12 leaves the memory
  pub call-refused : (call_refusal m f ≡ 0 → ⊥) → report_call m f ≡ refused_as (call_refusal m f) m
  unfolding report_call
  call-refused n = rw (ne_eqb (call_refusal m f) 0 n)

  -- any other writes the lines
  pub call_writes : call_refusal m f ≡ 0 → report_call m f ≡ ended (next_number m.counters) (write_lines m (next_number m.counters) (report_lines f))
  unfolding report_call
  call_writes e = rw (eq-eqb (call_refusal m f) 0 e)

  -- w is what they came to: 13 where it stopped, else the report is taken
  module _ (e : call_refusal m f ≡ 0) {w : Writing} (q : w ≡ write_lines m (next_number m.counters) (report_lines f)) where
    pub call-stopped : w.stopped ≡ true → report_call m f ≡ refused_as 13 w.left
    call-stopped s = call_writes e ∙ rw (← q) (ended-stopped (next_number m.counters) w s)

    pub call-taken : w.stopped ≡ false → report_call m f ≡ taken_as (next_number m.counters) w.left
    call-taken s = call_writes e ∙ rw (← q) (ended-taken (next_number m.counters) w s)

  -- what holds of all three ways holds of the call
  pub either_way : (P : Called → Type 0) → P (refused_as (call_refusal m f) m)
      → let n = next_number m.counters in
      let x = (write_lines m n (report_lines f)).left in
      P (refused_as 13 x) → P (taken_as n x) → P (report_call m f)
  either_way P r s k =
      let n = next_number m.counters in
      by-eq (call_refusal m f) 0 (λ e. rw (call_writes e) (ended_either n (write_lines m n (report_lines f)) P s k))
      (λ e. rw (call-refused e) r)

  -- arena and table keep their lengths
  pub call-arena : length (report_call m f).left.arena ≡ length m.arena
  call-arena =
      let e = lines-arena (next_number m.counters) (report_lines f) m in
      either_way (λ c. length c.left.arena ≡ length m.arena) refl e e

  pub call-table : length (report_call m f).left.table ≡ length m.table
  call-table =
      let e = lines-table (next_number m.counters) (report_lines f) m in
      either_way (λ c. length c.left.table ≡ length m.table) refl e e

  -- a report is refused with 1 to 13
  pub answer_le : (report_call m f).answer.refusal ≤ 13
  answer_le = either_way (λ c. c.answer.refusal ≤ 13) (omega (arith, call_le m f)) (omega arith) (omega arith)

-- ---- the code's answer r, with the arena a and the table t that it leaves

abbrev pub Answers : Memory → List ℕ → Taken → List ℕ → List ℕ → Type 0
Answers m f r a t =
    (r ≡ taken_of (report_call m f)) × (a ≡ (report_call m f).left.arena) × (t ≡ (report_call m f).left.table)

-- are those of the call that it came to
pub answers : (m : Memory) (f : List ℕ) {x : Called} → report_call m f ≡ x → Answers m f (taken_of x) x.left.arena x.left.table
answers m f e = rw e (refl, refl, refl)
