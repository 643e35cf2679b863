-- What the crates above use of frames: what a frame that is not refused holds, and how its lines and terms are read one after another.
-- Assumes nothing.
use mathlib.Core.Path.{◌≡◌, refl, sym, ap}
use mathlib.Core.Bool.{false}
use mathlib.Core.List.{List, [], ◌∷◌, ◌++◌, map}
use Prim.Native.Nat.{ℕ, ◌+◌, ◌≤◌, ◌<◌}
use native.Mathlib.Omega.{arith}
use lib.Dec.{ltb, eqb}
use lib.ListN.{length}
use borrow.Author.Tests.{ltb-false, eqb-false}
use Rattle.basics.specs.Lists.{all}
use Rattle.basics.proofs.Cases.{by-lt}
use Rattle.basics.proofs.Lists.{or_left, or_right}
use Rattle.terms.specs.Terms.{max_term}
use Rattle.terms.proofs.Laws.{term-length, length-folded}
use Rattle.refusals.specs.declared.Refusal.{Refusal}
use Rattle.refusals.specs.Numbers.{number_of}
use Rattle.frames.specs.declared.Query.{Query}
use Rattle.frames.specs.Answers.{IsQuery}
use Rattle.frames.specs.Refusals.{Row, ◌if◌, first_of}
use Rattle.frames.specs.Frames.{max_body, count_bytes, first_line, first_term, term_at, count_at, past_field, Field, fields, lines, terms, passes_end, wrong_terms, bad_term, zero_count, repeated_term, head_rows, field_rows, report_rows, query_rows, report_refusal, query_refusal, line_at, folded_at, query_terms}
use Rattle.frames.proofs.Refusals.{Numbered, numbered, first-empty, first-zero, both_zero, first_le, first_some, first-none, refusal-some}
use Rattle.frames.proofs.Heads.{head-numbered, headed, Headed}
use Rattle.frames.proofs.Fields.{fields_end, fields_more, field_here, whole-on}
use Rattle.frames.proofs.Conditions.{good_here, good_on}
use Rattle.frames.proofs.Reports.{no_field, none-holds}

-- ---- frames that are not refused

pub record SoundReport (f : List ℕ) : Type 0 where
  pub long : 4 ≤ length f
  pub short : length f ≤ max_body + 3
  pub uncut : passes_end count_bytes f first_line ≡ false
  pub good : bad_term f (lines f) ≡ false
  pub counted : zero_count f (lines f) ≡ false
  pub distinct : repeated_term f (lines f) ≡ false

pub sound-report : (f : List ℕ) → report_refusal f ≡ 0 → SoundReport f
sound-report f z =
    let h = none-holds f z in
    let d : Headed 1 f = headed 1 f h.0 in
    let l = no_field f h.1 in
    record { long = d.long; short = d.short; uncut = l.0; good = l.1; counted = l.2; distinct = h.2 }

pub record SoundQuery (most : ℕ) (f : List ℕ) : Type 0 where
  pub right : wrong_terms most f ≡ false
  pub good : bad_term f (terms f) ≡ false

pub sound_query : (k most : ℕ) (f : List ℕ) → query_refusal k most f ≡ 0 → SoundQuery most f
unfolding query_refusal query_rows
sound_query k most f z =
    let h = both_zero _ (head-numbered k f) z in
    let r₄ = first-zero (4 if wrong_terms most f) _ (omega arith) h.1 in
    let r₅ = first-zero (5 if bad_term f (terms f)) [] (omega arith) r₄.1 in
    record { right = r₄.0; good = r₅.0 }

-- a refusal handed out is the frame's, and has a number above 0
pub report-refused : (f : List ℕ) (r : Refusal) → number_of r ≡ report_refusal f → (report_refusal f ≡ number_of r) × (0 < number_of r)
report-refused f r e = (sym e, refusal-some r)

pub query_refused : (k most : ℕ) (f : List ℕ) (r : Refusal) → number_of r ≡ query_refusal k most f → (query_refusal k most f ≡ number_of r) × (0 < number_of r)
query_refused k most f r e = (sym e, refusal-some r)

-- rows behind those of a query: one of the query's decides, or none does
pub query_first : (k most : ℕ) (f : List ℕ) (rs : List Row) → 0 < query_refusal k most f → first_of (query_rows k most f ++ rs) ≡ query_refusal k most f
unfolding query_refusal
query_first k most f rs h = first_some (query_rows k most f) rs h

pub query_numbered : (k most : ℕ) (f : List ℕ) → Numbered (query_rows k most f)
unfolding query_rows head_rows all
query_numbered k most f = numbered (query_rows k most f) refl

pub query_passes : (k most : ℕ) (f : List ℕ) (rs : List Row) → query_refusal k most f ≡ 0 → first_of (query_rows k most f ++ rs) ≡ first_of rs
unfolding query_refusal
query_passes k most f rs z = first-none rs (query_numbered k most f) z

-- a sound query's terms do not pass the end
pub query_uncut : (most : ℕ) (f : List ℕ) → wrong_terms most f ≡ false → (first_term ≤ length f) × (passes_end 0 f first_term ≡ false)
unfolding wrong_terms
query_uncut most f e =
    let b = or_right (ltb (length f) first_term) _ e in
    (ltb-false (length f) first_term (or_left (ltb (length f) first_term) _ e), or_left (passes_end 0 f first_term) _ b)

-- there is a term, and there are no more than the kind allows
pub query_some : (most : ℕ) (f : List ℕ) → wrong_terms most f ≡ false → (first_term < length f) × (length (terms f) ≤ most)
unfolding wrong_terms
query_some most f e =
    let b = or_right (passes_end 0 f first_term) _ (or_right (ltb (length f) first_term) _ e) in
    let n = eqb-false (length (terms f)) 0 (or_left (eqb (length (terms f)) 0) _ b) in (
      by-lt first_term (length f) (λ h. h) (λ h. absurd (n (ap length (fields_end 0 f first_term h)))),
      ltb-false most (length (terms f)) (or_right (eqb (length (terms f)) 0) _ b),
    )

-- so whole fields that are terms stand from there on
pub terms_ready : (k most : ℕ) (f : List ℕ) (q : Query) → query_refusal k most f ≡ 0 → IsQuery f q
    → (passes_end 0 f q.terms.at ≡ false) × (bad_term f (fields 0 f q.terms.at) ≡ false)
terms_ready k most f q z p =
    let s : SoundQuery most f = sound_query k most f z in
    rw p.terms ((query_uncut most f s.right).1, s.good)

-- ---- the line at an offset: its folded term and its count

module _ (f : List ℕ) (at : ℕ) where
  pub line-term : (line_at f at).term ≡ folded_at f at
  unfolding line_at
  line-term = refl

  pub line-count : (line_at f at).count ≡ count_at f at
  unfolding line_at
  line-count = refl

-- ---- one line after another

pub lines_more : (f : List ℕ) (at : ℕ) → at < length f → map (line_at f) (fields count_bytes f at) ≡ line_at f at ∷ map (line_at f) (fields count_bytes f (past_field count_bytes f at))
lines_more f at h = rw (fields_more count_bytes f at h)

pub lines_end : (f : List ℕ) (at : ℕ) → length f ≤ at → map (line_at f) (fields count_bytes f at) ≡ []
lines_end f at h = rw (fields_end count_bytes f at h)

-- ---- one term of a query after another

pub terms_more : (f : List ℕ) (at : ℕ) → at < length f → map (folded_at f) (fields 0 f at) ≡ folded_at f at ∷ map (folded_at f) (fields 0 f (past_field 0 f at))
terms_more f at h = rw (fields_more 0 f at h)

pub terms_end : (f : List ℕ) (at : ℕ) → length f ≤ at → map (folded_at f) (fields 0 f at) ≡ []
terms_end f at h = rw (fields_end 0 f at h)

-- ---- fields that are whole and are terms, from an offset on

pub record Sound (tail : ℕ) (f : List ℕ) (at : ℕ) : Type 0 where
  pub whole : passes_end tail f at ≡ false
  pub good : bad_term f (fields tail f at) ≡ false

-- the lines of a report that is not refused
pub sound-lines : (f : List ℕ) → report_refusal f ≡ 0 → Sound count_bytes f first_line
sound-lines f z = let r : SoundReport f = sound-report f z in record { whole = r.uncut; good = r.good }

module _ {tail : ℕ} {f : List ℕ} {at : ℕ} (s : Sound tail f at) (h : at < length f) where
  -- before the end a whole field stands here
  pub sound_field : Field tail f at
  sound_field = field_here tail f at s.whole h

  -- whose term has at most 36 bytes
  pub sound-term : length (term_at f at) ≤ max_term
  sound-term = (term-length (term_at f at) (good_here tail f at h s.good)).1

  -- and as many folded: 1 to 36
  pub sound-name : length (folded_at f at) ≤ max_term
  sound-name = rw (length-folded (term_at f at)) sound-term

  pub sound-some : 0 < length (folded_at f at)
  sound-some = rw (length-folded (term_at f at)) (omega (arith, (term-length (term_at f at) (good_here tail f at h s.good)).0))

  -- and so on from the next
  pub sound-on : Sound tail f (past_field tail f at)
  sound-on = record { whole = whole-on tail f at s.whole h; good = good_on tail f at h s.good }

-- ---- the numbers of the tables

module _ (f : List ℕ) where
  -- a report's frame is refused with 1 to 7
  pub report_le : report_refusal f ≤ 7
  unfolding report_refusal report_rows head_rows field_rows
  report_le =
      let last : first_of [] ≤ 7 = rw first-empty (omega arith) in
      first_le 7 _ _ (omega arith)
      (first_le 7 _ _ (omega arith)
      (first_le 7 _ _ (omega arith)
      (first_le 7 _ _ (omega arith) (first_le 7 _ _ (omega arith) (first_le 7 _ _ (omega arith) (first_le 7 _ _ (omega arith) last))))))

-- with further rows behind, the table of a query's frame has no number over n where theirs are not: its own are 1 to 5
pub query_le : (k most : ℕ) (f : List ℕ) (n : ℕ) (rs : List Row) → 5 ≤ n → first_of rs ≤ n → first_of (query_rows k most f ++ rs) ≤ n
unfolding query_rows head_rows
query_le k most f n rs h l =
    first_le n _ _ (omega arith)
    (first_le n _ _ (omega arith) (first_le n _ _ (omega arith) (first_le n _ _ (omega arith) (first_le n _ _ (omega arith) l))))

-- ---- a query of one term

-- a query of at most one term names exactly one
none_left : (s : List ℕ) → length s ≤ 0 → s ≡ []
none_left [] h = refl
none_left (x ∷ s) h = absurd (omega arith)

pub terms-one : (f : List ℕ) → wrong_terms 1 f ≡ false → query_terms f ≡ folded_at f first_term ∷ []
unfolding query_terms
terms-one f e =
    let q = query_some 1 f e in
    let m = fields_more 0 f first_term q.0 in
    rw (m, none_left (fields 0 f (past_field 0 f first_term)) (omega (arith, ap length m)))
