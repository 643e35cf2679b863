-- Demand 1: how every call ends (document 01, "Where each refusal is checked"). The rows of a call are the conditions of
-- its refusals, in the order of the paper.
use Rattle.std.specs.Prelude.{ℕ, ◌<◌, ◌≡◌, true, false, cond, eqb, List, [], ◌∷◌, ◌++◌}
use Rattle.frames.specs.Refusals.{Row, ◌if◌}
use Rattle.frames.specs.Frames.{report_lines}
use Rattle.counters.specs.Counters.{Memory}
use Rattle.ingest.specs.Report.{next_number, Writing, write_lines, call_rows}
use Rattle.query.specs.Listing.{list_rows}
use Rattle.ledger.specs.Ledger.{told}
use Rattle.ledger.specs.Calls.{Call, start, report, one-term, all-terms, Answer, started, taken, of_one, of_all, Step, cleared, index_step}

-- ---- rows

-- no row holds
pub data Clear : List Row → Type 0 where
  none : Clear []
  and : {r : Row} {rs : List Row} → r.holds ≡ false → Clear rs → Clear (r ∷ rs)

-- the row of number n holds, and none before it does
pub data First : List Row → ℕ → Type 0 where
  here : {r : Row} {rs : List Row} → r.holds ≡ true → First (r ∷ rs) r.number
  later : {r : Row} {rs : List Row} {n : ℕ} → r.holds ≡ false → First rs n → First (r ∷ rs) n

-- what writing a report's lines comes to
abbrev pub writing : Memory → List ℕ → Writing
writing m f = write_lines m (next_number m.counters) (report_lines f)

-- the rows of a call. A start has none. Of a report 1 to 12 are judged before writing, and the last is that writing
-- stops at a line
unfoldable pub rows : Memory → Call → List Row
rows m start = []
rows m (report f) = call_rows m f ++ ((13 if (writing m f).stopped) ∷ [])
rows m (one-term f numbers counts) = list_rows 2 1 m f
rows m (all-terms f numbers) = list_rows 3 8 m f

-- ---- how a call ends

-- the refusal that an answer gives; 0 for none
unfoldable pub refusal : Answer → ℕ
refusal started = 0
refusal (taken a) = a.refusal
refusal (of_one l) = l.answer.refusal
refusal (of_all l) = l.answer.refusal

-- what a call refused with n gives and leaves: no number and no place filled, and arena, table, counters and lists as
-- they were; but with 13 what the lines before left
unfoldable pub refused_with : Memory → Call → ℕ → Step Memory
refused_with m start n = record { answer = started; left = cleared m }
refused_with m (report f) n = record {
  answer = taken (record { refusal = n; number = 0 });
  left = cond (eqb n 13) (writing m f).left m;
}
refused_with m (one-term f numbers counts) n = record {
  answer = of_one (record { answer = told n false 0; numbers = numbers; counts = counts });
  left = m;
}
refused_with m (all-terms f numbers) n = record { answer = of_all (record { answer = told n false 0; numbers = numbers }); left = m }

-- a call is not refused, and none of its rows holds; or it is refused with the number of the first row that holds
pub data Ends (m : Memory) (c : Call) : Type 0 where
  accepted : refusal (index_step m c).answer ≡ 0 → Clear (rows m c) → Ends m c
  refused : {n : ℕ} → 0 < n → First (rows m c) n → index_step m c ≡ refused_with m c n → Ends m c

-- DEMAND 1, of every call on any memory. Writing leaves the number of reports as it was
pub record Refuses : Type 0 where
  pub ends : (m : Memory) (c : Call) → Ends m c
  pub reports : (m : Memory) (f : List ℕ) → (writing m f).left.counters.reports ≡ m.counters.reports
