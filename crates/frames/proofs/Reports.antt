-- How the check of a report follows its table.
-- Assumes nothing.
use Rattle.std.proofs.Common.{ℕ, ◌≡◌, false, cond, List, [], refl, arith}
use Rattle.std.proofs.lemmas.Bool.Decides.{nat_tests}
use Rattle.basics.specs.Lists.{all}
use Rattle.frames.specs.Refusals.{◌if◌, first_of}
use Rattle.frames.specs.Frames.{count_bytes, first_line, lines, passes_end, bad_term, zero_count, repeated_term, head_rows, field_rows, report_rows, report_refusal}
use Rattle.frames.proofs.Heads.{head-numbered}
use Rattle.frames.proofs.Refusals.{Numbered, numbered, first-zero, both_zero}

module _ (f : List ℕ) where
  pub report-numbered : Numbered (report_rows f)
  unfolding report_rows head_rows field_rows all
  report-numbered = numbered (report_rows f) refl

  field_numbered : Numbered (field_rows f)
  unfolding field_rows all
  field_numbered = numbered (field_rows f) refl

  -- the rows 4, 5 and 6
  pub field_first : first_of (field_rows f) ≡ cond (passes_end count_bytes f first_line) 4 (cond (bad_term f (lines f)) 5 (cond (zero_count f (lines f)) 6 0))
  unfolding first_of field_rows
  field_first = refl

  -- where none of them holds
  pub no_field : first_of (field_rows f) ≡ 0
      → (passes_end count_bytes f first_line ≡ false) × (bad_term f (lines f) ≡ false) × (zero_count f (lines f) ≡ false)
  unfolding first_of field_rows
  no_field z = (grind (arith, nat_tests), grind (arith, nat_tests), grind (arith, nat_tests))

  -- where no row holds
  pub none-holds : report_refusal f ≡ 0
      → (first_of (head_rows 1 f) ≡ 0) × (first_of (field_rows f) ≡ 0) × (repeated_term f (lines f) ≡ false)
  unfolding report_refusal report_rows
  none-holds z =
      let h = both_zero _ (head-numbered 1 f) z in
      let l = both_zero _ field_numbered h.1 in
      (h.0, l.0, (first-zero (7 if repeated_term f (lines f)) [] (omega arith) l.1).0)
