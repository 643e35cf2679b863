-- Lists of calls, run by the index and by the plain ledger, and demand 3: both agree (document 01, "The plain ledger of
-- demand 3").
use Rattle.std.specs.Prelude.{ℕ, ◌<◌, ◌≡◌, List, [], ◌∷◌, false, cond, eqb, length, get_or, replicate}
use Rattle.frames.specs.Frames.{query_refusal}
use Rattle.counters.specs.declared.Counters.{Counters}
use Rattle.counters.specs.Counters.{Memory, memory}
use Rattle.ingest.specs.declared.ReportAnswer.{ReportAnswer}
use Rattle.ingest.specs.Report.{report_call}
use Rattle.query.specs.Listing.{ListedOne, ListedAll, list_one_call, list_all_call}
use Rattle.ledger.specs.Ledger.{Report, start_of, named_by, names, prescribed_blocks, enter_report, listed, told, fill_two, fill_list}

-- ---- calls and what they answer

-- a start; a report, with its frame; a listing of one term, with its frame and the two lists lent to it; one of all
-- terms, with its frame and its list
pub data Call : Type 0 where
  start : Call
  report : List ℕ → Call
  one-term : List ℕ → List ℕ → List ℕ → Call
  all-terms : List ℕ → List ℕ → Call

-- the answer, with the lent lists as the call leaves them
pub data Answer : Type 0 where
  started : Answer
  taken : ReportAnswer → Answer
  of_one : ListedOne → Answer
  of_all : ListedAll → Answer

-- a call's answer, and what it leaves behind
pub record Step (S : Type 0) : Type 0 where
  pub answer : Answer
  pub left : S

-- ---- the index, on the memory that it is lent

-- a start empties the table, sets the counters to 0 and leaves the arena as it is
unfoldable pub cleared : Memory → Memory
cleared m = memory m.arena (replicate (length m.table) 0) (record { used = 0; terms = 0; reports = 0 })

-- listings leave the memory as it is
unfoldable pub index_step : Memory → Call → Step Memory
index_step m start = record { answer = started; left = cleared m }
index_step m (report f) = record { answer = taken (report_call m f).answer; left = (report_call m f).left }
index_step m (one-term f numbers counts) = record { answer = of_one (list_one_call m f numbers counts); left = m }
index_step m (all-terms f numbers) = record { answer = of_all (list_all_call m f numbers); left = m }

-- ---- the ledger, on its reports; it is fed the lengths of arena and table

-- a listing meets the refusals of Frame and Terms only; a refusal gives its number and zero filled and changes nothing
unfoldable pub ledger_one : List Report → List ℕ → List ℕ → List ℕ → ListedOne
ledger_one rs f numbers counts =
    let r = query_refusal 2 1 f in
    cond (eqb r 0) (fill_two (listed rs (start_of f) (named_by f)) numbers counts) (record { answer = told r false 0; numbers = numbers; counts = counts })

unfoldable pub ledger_all : List Report → List ℕ → List ℕ → ListedAll
ledger_all rs f numbers =
    let r = query_refusal 3 8 f in
    cond (eqb r 0) (fill_list (listed rs (start_of f) (named_by f)) numbers) (record { answer = told r false 0; numbers = numbers })

unfoldable pub ledger_step : ℕ → ℕ → List Report → Call → Step (List Report)
ledger_step bytes entries rs start = record { answer = started; left = [] }
ledger_step bytes entries rs (report f) = record {
  answer = taken (enter_report bytes entries rs f).answer;
  left = (enter_report bytes entries rs f).reports;
}
ledger_step bytes entries rs (one-term f numbers counts) = record { answer = of_one (ledger_one rs f numbers counts); left = rs }
ledger_step bytes entries rs (all-terms f numbers) = record { answer = of_all (ledger_all rs f numbers); left = rs }

-- ---- a list of calls: their answers, and what is there at the end

module _ {S : Type 0} (step : S → Call → Step S) where
  unfoldable pub answers : S → List Call → List Answer
  answers s [] = []
  answers s (c ∷ cs) = (step s c).answer ∷ answers (step s c).left cs

  unfoldable pub final : S → List Call → S
  final s [] = s
  final s (c ∷ cs) = final (step s c).left cs

-- ---- the claim

-- frames are lists of bytes
unfoldable pub frame_of : Call → List ℕ
frame_of start = []
frame_of (report f) = f
frame_of (one-term f numbers counts) = f
frame_of (all-terms f numbers) = f

abbrev pub Bytes : List ℕ → Type 0
Bytes s = (i : ℕ) → get_or s i 0 < 256

pub data Framed : List Call → Type 0 where
  none : Framed []
  one : {c : Call} {cs : List Call} → Bytes (frame_of c) → Framed cs → Framed (c ∷ cs)

-- the counters hold the numbers of prescribed blocks, of different terms and of reports held
pub record Counted (k : Counters) (rs : List Report) : Type 0 where
  pub used : k.used ≡ prescribed_blocks rs
  pub terms : k.terms ≡ length (names rs)
  pub reports : k.reports ≡ length rs

-- an index of any make: what a call does in a state, the counters that the state shows, and how many bytes and entries
-- it was lent, by its own word; of ours these are the lengths of the memory
pub record Make (S : Type 0) : Type 0 where
  pub step : S → Call → Step S
  pub counters : S → Counters
  pub bytes : S → ℕ
  pub entries : S → ℕ

-- the ledger beside a state
abbrev pub ledger_by : {S : Type 0} → Make S → S → List Report → Call → Step (List Report)
ledger_by x s = ledger_step (x.bytes s) (x.entries s)

-- a start and calls behind it, in any state and beside any ledger: every answer and every lent list is the same, and at
-- the end the counters are right
pub record Agree {S : Type 0} (x : Make S) (s : S) (rs : List Report) (cs : List Call) : Type 0 where
  pub same_answers : answers x.step s (start ∷ cs) ≡ answers (ledger_by x s) rs (start ∷ cs)
  pub right_counters : Counted (x.counters (final x.step s (start ∷ cs))) (final (ledger_by x s) rs (start ∷ cs))

abbrev pub Agrees : {S : Type 0} → Make S → Type 0
Agrees {S} x = (s : S) (rs : List Report) (cs : List Call) → Framed cs → Agree x s rs cs

-- the index of this library, whose state is the memory that it is lent
abbrev pub library : Make Memory
library = record { step = index_step; counters = λ m. m.counters; bytes = λ m. length m.arena; entries = λ m. length m.table }

abbrev pub ledger_for : Memory → List Report → Call → Step (List Report)
ledger_for m = ledger_by library m

-- DEMAND 3
abbrev pub Claim : Type 0
Claim = Agrees library
