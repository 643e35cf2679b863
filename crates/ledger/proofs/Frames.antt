-- A frame of bytes that is not refused says good lines.
-- Assumes nothing.
use mathlib.Core.Path.{◌≡◌}
use Prim.Native.Nat.{ℕ, ◌+◌, ◌≤◌}
use mathlib.Core.Bool.{true, false, not}
use mathlib.Core.List.{List, [], ◌∷◌, map}
use native.Mathlib.Omega.{arith}
use lib.Dec.{eqb}
use lib.ListN.{get_or}
use borrow.Author.Tests.{eqb-false, not-false}
use Rattle.basics.proofs.Cases.{by-eq}
use Rattle.basics.specs.Words.{word_at}
use Rattle.basics.specs.Lists.{any, same}
use Rattle.basics.proofs.Lists.{or_left, or_right}
use Rattle.terms.specs.Terms.{is_term}
use Rattle.terms.proofs.Laws.{length-folded, term-length}
use Rattle.frames.specs.Frames.{term_at, count_at, lines, bad_term, zero_count, repeats_after, folded_at, repeated_term, report_refusal, line_at, report_lines}
use Rattle.frames.proofs.Laws.{SoundReport, sound-report, line-term, line-count}
use Rattle.blocks.specs.Fields.{max_word}
use Rattle.ledger.specs.Grown.{GoodLine, Apart, nowhere, elsewhere, GoodLines, no_line, line}
use Rattle.ledger.specs.Calls.{Bytes}

module _ (f : List ℕ) (bytes : Bytes f) where
  count_small : (at : ℕ) → count_at f at ≤ max_word
  unfolding count_at word_at
  count_small at =
      omega (arith, bytes (at + 1 + get_or f at 0), bytes (at + 1 + get_or f at 0 + 1), bytes (at + 1 + get_or f at 0 + 2), bytes (at + 1 + get_or f at 0 + 3))

  good_line : (at : ℕ) → is_term (term_at f at) ≡ true → eqb (count_at f at) 0 ≡ false → GoodLine (line_at f at)
  good_line at e z =
      record {
        short = rw (line-term f at, length-folded (term_at f at)) (term-length (term_at f at) e).1;
        count_pos = rw (line-count f at) (by-eq (count_at f at) 0 (λ q. absurd (eqb-false (count_at f at) 0 z q)) (λ q. omega arith));
        count_small = rw (line-count f at) (count_small at);
      }

  -- terms behind w are others
  apart_lines : (w : List ℕ) (seen : List (List ℕ)) (ats : List ℕ) → ((v : List ℕ) → any (same v) seen ≡ false → same v w ≡ false)
      → repeats_after seen (map (folded_at f) ats) ≡ false → Apart w (map (line_at f) ats)
  unfolding repeats_after any
  apart_lines w seen [] h e = nowhere
  apart_lines w seen (at ∷ ats) h e =
      let t : List ℕ = folded_at f at in
      elsewhere {l = line_at f at} (rw (line-term f at) (h t (or_left (any (same t) seen) _ e)))
      (apart_lines w (t ∷ seen) ats (λ v q. h v (or_right (same v t) (any (same v) seen) q)) (or_right (any (same t) seen) _ e))

  good_lines : (seen : List (List ℕ)) (ats : List ℕ) → bad_term f ats ≡ false → zero_count f ats ≡ false
      → repeats_after seen (map (folded_at f) ats) ≡ false → GoodLines (map (line_at f) ats)
  unfolding repeats_after bad_term zero_count any
  good_lines seen [] b z e = no_line
  good_lines seen (at ∷ ats) b z e =
      let t : List ℕ = folded_at f at in
      line {l = line_at f at} (good_line at (not-false _ (or_left (not (is_term (term_at f at))) _ b)) (or_left (eqb (count_at f at) 0) _ z))
      (apart_lines (line_at f at).term (t ∷ seen) ats (λ v q. rw (line-term f at) (or_left (same v t) (any (same v) seen) q)) (or_right (any (same t) seen) _ e))
      (good_lines (t ∷ seen) ats (or_right (not (is_term (term_at f at))) _ b) (or_right (eqb (count_at f at) 0) _ z) (or_right (any (same t) seen) _ e))

  -- A SOUND REPORT has good lines
  pub report_good : report_refusal f ≡ 0 → GoodLines (report_lines f)
  unfolding report_lines repeated_term
  report_good z =
      let s : SoundReport f = sound-report f z in
      good_lines [] (lines f) s.good s.counted s.distinct
