-- What is claimed of the whole program besides the contracts of its functions.
use Rattle.std.specs.Prelude.{ℕ, ◌<◌, ◌≡◌, List, [], ◌∷◌, ◌++◌, true, cond, Option, Some, None, ◌⊎◌, length}
use Rattle.frames.specs.Frames.{wrong_version}
use Rattle.counters.specs.Counters.{Memory}
use Rattle.ledger.specs.Ledger.{Report, enter_report}
use Rattle.ledger.specs.Calls.{Bytes, ledger_one, ledger_all}
use Rattle.frames.specs.declared.Kind.{Kind}
use Rattle.frames.specs.declared.Kind.TheVariants as kind
use Rattle.desk.specs.Text.{refusal_line, report_line, one_line, all_line}
use Rattle.desk.specs.Desk.{arena_bytes, table_entries, empty_list, kind_of, other_refusal, answered, overlong, frame_length, front_frame, frames, desk_output}

-- ---- the frame that ends the program

-- its length is over 4,096, or the input ends before it does
abbrev pub Last : List ℕ → Type 0
Last s = (overlong s ≡ true) ⊎ (length s < frame_length s)

-- it is printed as refused, under 1 or 2 whatever its kind, and changes nothing
abbrev pub LastRefused : Type 0
LastRefused =
    (m : Memory) (s : List ℕ) → Last s → let f = front_frame s in answered m f ≡ record { line = refusal_line (cond (wrong_version f) 1 2); left = m }

-- ---- the program by the plain ledger

-- the line for a frame and the reports held behind it
pub record Told : Type 0 where
  pub line : List ℕ
  pub left : List Report

unfoldable pub told_as : Option Kind → List Report → List ℕ → Told
told_as (Some kind.Report) rs f =
    let e = enter_report arena_bytes table_entries rs f in record { line = report_line e.answer; left = e.reports }
told_as (Some kind.One) rs f = record { line = one_line (ledger_one rs f empty_list empty_list); left = rs }
told_as (Some kind.All) rs f = record { line = all_line (ledger_all rs f empty_list); left = rs }
told_as None rs f = record { line = refusal_line (other_refusal f); left = rs }

unfoldable pub told_lines : List Report → List (List ℕ) → List ℕ
told_lines rs [] = []
told_lines rs (f ∷ fs) = let t = told_as (kind_of f) rs f in t.line ++ told_lines t.left fs

-- what a program over the plain ledger would write
unfoldable pub ledger_output : List ℕ → List ℕ
ledger_output input = told_lines [] (frames input)

-- for every input of bytes the program writes just that
abbrev pub TellsLedger : Type 0
TellsLedger = (input : List ℕ) → Bytes input → desk_output input ≡ ledger_output input

-- ---- document 01's example: four frames, and what it prints for them

abbrev pub example : List ℕ
example =
    1 ∷ 0 ∷ 16 ∷ 1 ∷ 2 ∷ 122 ∷ 110 ∷ 0 ∷ 0 ∷ 0 ∷ 3 ∷ 3 ∷ 80 ∷ 49 ∷ 55 ∷ 0 ∷ 0 ∷ 0 ∷ 1
    ∷ 1 ∷ 0 ∷ 8 ∷ 1 ∷ 2 ∷ 122 ∷ 110 ∷ 0 ∷ 0 ∷ 0 ∷ 4
    ∷ 1 ∷ 0 ∷ 8 ∷ 2 ∷ 0 ∷ 0 ∷ 0 ∷ 0 ∷ 2 ∷ 122 ∷ 110
    ∷ 1 ∷ 0 ∷ 12 ∷ 3 ∷ 0 ∷ 0 ∷ 0 ∷ 0 ∷ 2 ∷ 122 ∷ 110 ∷ 3 ∷ 112 ∷ 49 ∷ 55 ∷ []

-- the lines `R 1`, `R 2`, `Q 1:3 2:4` and `Q 1`
abbrev pub printed : List ℕ
printed =
    82 ∷ 32 ∷ 49 ∷ 10
    ∷ 82 ∷ 32 ∷ 50 ∷ 10
    ∷ 81 ∷ 32 ∷ 49 ∷ 58 ∷ 51 ∷ 32 ∷ 50 ∷ 58 ∷ 52 ∷ 10
    ∷ 81 ∷ 32 ∷ 49 ∷ 10 ∷ []

abbrev pub ExamplePrinted : Type 0
ExamplePrinted = ledger_output example ≡ printed
