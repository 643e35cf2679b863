-- No report that the ledger takes names a term twice.
-- Assumes nothing.
use mathlib.Core.Path.{◌≡◌, refl, ap, ◌∙◌}
use mathlib.Core.Bool.{false}
use mathlib.Core.List.{List, [], ◌∷◌, map}
use Prim.Native.Nat.{ℕ}
use borrow.Author.Tests.{eq-eqb, ne_eqb}
use Rattle.basics.proofs.Cases.{by-eq}
use Rattle.frames.specs.Refusals.{first_of}
use Rattle.frames.specs.Frames.{lines, folded_at, line_at, repeats_after, repeated_term, report_refusal, report_lines}
use Rattle.frames.proofs.Laws.{SoundReport, sound-report, line-term}
use Rattle.ledger.specs.Ledger.{Report, ledger_rows, enter_report}
use Rattle.ledger.proofs.Words.{lines_same}
use Rattle.ledger.proofs.Reports.{entered-sound}
use Rattle.ledger.proofs.Listing.{terms_in, Distinct, distinct_more}

-- the terms of the lines of a frame
lines-terms : (f ats : List ℕ) → terms_in (map (line_at f) ats) ≡ map (folded_at f) ats
lines-terms f [] = refl
lines-terms f (at ∷ ats) = rw (line-term f at, lines-terms f ats)

pub frame_distinct : (f : List ℕ) → report_refusal f ≡ 0 → repeats_after [] (terms_in (report_lines f)) ≡ false
unfolding report_lines repeated_term
frame_distinct f z =
    let s : SoundReport f = sound-report f z in ap (repeats_after []) (lines-terms f (lines f)) ∙ s.distinct

pub entered_distinct : (b e : ℕ) (rs : List Report) (f : List ℕ) → Distinct rs → Distinct (enter_report b e rs f).reports
unfolding enter_report
entered_distinct b e rs f d =
    by-eq (first_of (ledger_rows b e rs f)) 0
    (λ z. rw (eq-eqb (first_of (ledger_rows b e rs f)) 0 z) (rw (lines_same f) (distinct_more (report_lines f) d (frame_distinct f (entered-sound b e rs f z)))))
    (λ n. rw (ne_eqb (first_of (ledger_rows b e rs f)) 0 n) d)
