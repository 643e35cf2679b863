-- Reading a frame: its parts, its fields, the refusals 1 to 7 that it can meet, and what a sound one says.
use Rattle.std.specs.Prelude.{ℕ, zero, suc, ◌+◌, ◌-◌, ◌*◌, ◌≤◌, ◌<◌, List, [], ◌∷◌, ◌++◌, map, Bool, false, cond, not, ◌||◌, ltb, eqb, length, get_or, take, drop}
use Rattle.basics.specs.Words.{word_at}
use Rattle.basics.specs.Lists.{any, same}
use Rattle.terms.specs.Terms.{is_term, folded}
use Rattle.frames.specs.Refusals.{Row, ◌if◌, first_of}

-- ---- the parts of a frame: version, length of the body, and the body, whose first byte is the kind

unfoldable pub version : List ℕ → ℕ
version f = get_or f 0 0

unfoldable pub body_length : List ℕ → ℕ
body_length f = get_or f 1 0 * 256 + get_or f 2 0

unfoldable pub kind : List ℕ → ℕ
kind f = get_or f 3 0

abbrev pub max_body : ℕ
max_body = 4096

-- ---- fields: a length byte, the term, and `tail` bytes more: 4 for a line's count, none in a query

abbrev pub count_bytes : ℕ
count_bytes = 4

-- a report's lines start behind the kind, a query's terms behind the four-byte start
abbrev pub first_line : ℕ
first_line = 4

abbrev pub first_term : ℕ
first_term = 8

-- the term of the field at an offset of the frame: that part of the frame itself
unfoldable pub term_at : List ℕ → ℕ → List ℕ
term_at f at = take (get_or f at 0) (drop (at + 1) f)

-- the count behind it
unfoldable pub count_at : List ℕ → ℕ → ℕ
count_at f at = word_at f (at + 1 + get_or f at 0)

-- the offset past the field
unfoldable pub past_field : ℕ → List ℕ → ℕ → ℕ
past_field tail f at = at + 1 + get_or f at 0 + tail

-- a whole field stands there
pub record Field (tail : ℕ) (f : List ℕ) (at : ℕ) : Type 0 where
  pub starts : at < length f
  pub ends : past_field tail f at ≤ length f

-- where the fields start, from an offset to the frame's end; at most `fuel` of them
unfoldable pub fields_up_to : ℕ → ℕ → List ℕ → ℕ → List ℕ
fields_up_to zero tail f at = []
fields_up_to (suc fuel) tail f at =
    let more = at ∷ fields_up_to fuel tail f (past_field tail f at) in cond (ltb at (length f)) more []

-- a field has at least one byte, so there are no more than the frame has bytes
unfoldable pub fields : ℕ → List ℕ → ℕ → List ℕ
fields tail f at = fields_up_to (length f) tail f at

abbrev pub lines : List ℕ → List ℕ
lines f = fields count_bytes f first_line

abbrev pub terms : List ℕ → List ℕ
terms f = fields 0 f first_term

-- ---- the conditions of refusals 1 to 7

-- 1: under 4 bytes, or a version other than 01
unfoldable pub wrong_version : List ℕ → Bool
wrong_version f = ltb (length f) 4 || not (eqb (version f) 1)

-- 2: a length over 4,096, or other than that of the bytes behind it
unfoldable pub wrong_length : List ℕ → Bool
wrong_length f = ltb max_body (body_length f) || not (eqb (body_length f) (length f - 3))

-- 3: a kind other than the call's
unfoldable pub wrong_kind : ℕ → List ℕ → Bool
wrong_kind k f = not (eqb (kind f) k)

-- 4: a field passes the end of the body
unfoldable pub passes_end : ℕ → List ℕ → ℕ → Bool
passes_end tail f from = any (λ at. ltb (length f) (past_field tail f at)) (fields tail f from)

-- 4 of a query: also a start that passes the end, no term at all, or more terms than the kind allows
unfoldable pub wrong_terms : ℕ → List ℕ → Bool
wrong_terms most f =
    ltb (length f) first_term || (passes_end 0 f first_term || (eqb (length (terms f)) 0 || ltb most (length (terms f))))

-- 5: a field is not a term
unfoldable pub bad_term : List ℕ → List ℕ → Bool
bad_term f ats = any (λ at. not (is_term (term_at f at))) ats

-- 6: a count of 0
unfoldable pub zero_count : List ℕ → List ℕ → Bool
zero_count f ats = any (λ at. eqb (count_at f at) 0) ats

-- 7: a folded term equals one before it
unfoldable pub repeats_after : List (List ℕ) → List (List ℕ) → Bool
repeats_after seen [] = false
repeats_after seen (t ∷ ts) = any (same t) seen || repeats_after (t ∷ seen) ts

abbrev pub folded_at : List ℕ → ℕ → List ℕ
folded_at f at = folded (term_at f at)

unfoldable pub repeated_term : List ℕ → List ℕ → Bool
repeated_term f ats = repeats_after [] (map (folded_at f) ats)

-- ---- which refusal a frame meets: the first that holds

unfoldable pub head_rows : ℕ → List ℕ → List Row
head_rows k f = (1 if wrong_version f) ∷ (2 if wrong_length f) ∷ (3 if wrong_kind k f) ∷ []

-- of a report's lines, but for repeated terms
unfoldable pub field_rows : List ℕ → List Row
field_rows f = (4 if passes_end count_bytes f first_line) ∷ (5 if bad_term f (lines f)) ∷ (6 if zero_count f (lines f)) ∷ []

unfoldable pub report_rows : List ℕ → List Row
report_rows f = head_rows 1 f ++ (field_rows f ++ ((7 if repeated_term f (lines f)) ∷ []))

-- kind 02 has exactly one term, kind 03 has 1 to 8
unfoldable pub query_rows : ℕ → ℕ → List ℕ → List Row
query_rows k most f = head_rows k f ++ ((4 if wrong_terms most f) ∷ (5 if bad_term f (terms f)) ∷ [])

unfoldable pub report_refusal : List ℕ → ℕ
report_refusal f = first_of (report_rows f)

unfoldable pub query_refusal : ℕ → ℕ → List ℕ → ℕ
query_refusal k most f = first_of (query_rows k most f)

-- ---- what a sound frame says

-- a line of a report: a folded term with its count
pub record Line : Type 0 where
  pub term : List ℕ
  pub count : ℕ

unfoldable pub line_at : List ℕ → ℕ → Line
line_at f at = record { term = folded_at f at; count = count_at f at }

-- the lines of a report, in frame order
unfoldable pub report_lines : List ℕ → List Line
report_lines f = map (line_at f) (lines f)

-- the number from which a query lists
unfoldable pub query_start : List ℕ → ℕ
query_start f = word_at f 4

-- the folded terms of a query, in frame order
unfoldable pub query_terms : List ℕ → List (List ℕ)
query_terms f = map (folded_at f) (terms f)
