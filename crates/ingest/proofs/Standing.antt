-- The line in hand: the n-th of a sound report.
-- Assumes nothing.
use mathlib.Core.Path.{◌≡◌, refl, sym, ap, ◌∙◌}
use mathlib.Core.List.{List, [], ◌∷◌, map}
use Prim.Native.Nat.{ℕ, zero, suc, ◌+◌, ◌≤◌, ◌<◌}
use native.Mathlib.Numerals.{add-one}
use native.Mathlib.Omega.{arith}
use borrow.Author.Tests.{lt-ltb, le-ltb}
use lib.ListN.{length, get_or, drop, length-map}
use Rattle.std.proofs.Common.{Option, Some, None}
use Rattle.std.specs.Iterator.{AlwaysYields, Yields}
use Rattle.std.proofs.lemmas.Iterator.{YieldsList}
use Rattle.std.proofs.lemmas.Iterator.Consumers.{YieldsList-turn, YieldsList-end}
use Rattle.std.proofs.lemmas.List.{get_or-map, drop_all}
use Rattle.std.proofs.Math.Seq.{drop-cons}
use Rattle.basics.proofs.Cases.{by-lt}
use Rattle.terms.specs.Terms.{fnv1a}
use Rattle.frames.specs.declared.Line.{Line}
use Rattle.frames.specs.declared.Lines.{Lines}
use Rattle.frames.specs.declared.LinesLeft.{LinesLeft}
use Rattle.frames.specs.Frames.{Line as FrameLine, count_bytes, first_line, fields_up_to, fields, lines, line_at, folded_at, report_lines}
use Rattle.frames.specs.Read.{hashes_of}
use Rattle.frames.specs.Lines.{LineGoes}
use Rattle.frames.proofs.Fields.{past_more}
use Rattle.ingest.specs.Report.{line_of}

-- the lines from the n-th on
abbrev pub lines_from : List ℕ → ℕ → List FrameLine
lines_from f n = drop n (report_lines f)

-- the folded term of a line with its count
abbrev pub said : Line → FrameLine
said l = line_of l.name.bytes.now l.count

-- the lines from an offset of the frame on come one after another
walk : (k : ℕ) {f : List ℕ} {at : ℕ} (s : LinesLeft) → s.frame.now ≡ f → s.at ≡ at → length f ≤ at + k
    → AlwaysYields LineGoes said s (map (line_at f) (fields_up_to k count_bytes f at))
unfolding fields_up_to line_at
walk zero s e q h = λ x j g. omega (arith, g.here.starts, ap length e)
walk (suc k) {f} {at} s e q h =
    by-lt at (length f)
    (λ l. rw (lt-ltb at (length f) l) (
      λ j w. omega (arith, w.0, ap length e),
      λ x j g. (
        rw (g.here.name, g.here.count, e, q) refl,
        walk k j (g.frame ∙ e) (rw (e, q) at g.past) (omega (arith, past_more count_bytes f at)),
      ),
    ))
    (λ l. rw (le-ltb at (length f) l) (λ x j g. omega (arith, g.here.starts, ap length e)))

-- all lines are to come
abbrev pub All : Lines → LinesLeft → Type 0
All l s = YieldsList LineGoes said s (report_lines l.frame.now)

module _ (l : Lines) where
  -- x is the n-th line: it has a term, its hash is the n-th, and it comes first of the lines from there on
  pub record InHand (n : ℕ) (x : Line) : Type 0 where
    pub some : 0 < length x.name.bytes.now
    pub enough : n < length l.hashes.now
    pub nth : get_or l.hashes.now n 0 ≡ x.name.hash
    pub more : lines_from l.frame.now n ≡ said x ∷ lines_from l.frame.now (n + 1)

  in_hand : (n : ℕ) {x : Line} → 0 < length x.name.bytes.now → n < length (report_lines l.frame.now) → said x ≡ get_or (report_lines l.frame.now) n (said x)
      → InHand n x
  unfolding hashes_of report_lines line_at
  in_hand n {x} some h q =
      let f = l.frame.now in
      let counted : n < length (lines f) = omega (arith, length-map (lines f) (line_at f)) in
      let term : x.name.bytes.now ≡ folded_at f (get_or (lines f) n 0) = ap (λ (y : FrameLine). y.term) (q ∙ get_or-map (line_at f) (lines f) n 0 (said x) counted) in
      let hash : x.name.hash ≡ fnv1a (folded_at f (get_or (lines f) n 0)) = x.name.hashed ∙ ap fnv1a term in
      record {
        some = some;
        enough = omega (arith, simp length-map at (ap length l.hashed));
        nth = ap (λ (hs : List ℕ). get_or hs n 0) l.hashed ∙ get_or-map (λ (i : ℕ). fnv1a (folded_at f i)) (lines f) n 0 0 counted ∙ sym hash;
        more = rw add-one (drop-cons (report_lines f) n (said x) h ∙ ap (λ (y : FrameLine). y ∷ drop (suc n) (report_lines f)) (sym q));
      }

  pub all_left : {s : LinesLeft} → (s.frame.now ≡ l.frame.now) × (s.at ≡ first_line) → All l s
  unfolding report_lines fields
  all_left {s} o = record { runs = walk (length l.frame.now) s o.0 o.1 (omega arith) }

  module _ {s : LinesLeft} (w : All l s) (xs : List Line) (t : LinesLeft) (y : Yields LineGoes s xs t) (r : Option Line) (u : LinesLeft) (g : LineGoes t r u)
      {n : ℕ} (e : n ≡ length xs) where
    pub line_turn : {x : Line} → r ≡ Some x → InHand n x
    line_turn {x} i = let turn = YieldsList-turn w xs t y r u x i g in rw e (in_hand (length xs) (rw i at g).here.some turn.0 turn.1)

    pub lines_end : r ≡ None → lines_from l.frame.now n ≡ []
    lines_end i = let end = YieldsList-end w xs t y r u i g in drop_all n (report_lines l.frame.now) (omega (arith, end.1))
