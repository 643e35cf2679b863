-- The plain ledger (document 01, "The plain ledger of demand 3"): a list of reports, numbered from 1, each a list of
-- folded terms with counts.
use Rattle.std.specs.Prelude.{ℕ, zero, suc, ◌+◌, ◌/◌, List, [], ◌∷◌, ◌++◌, map, Bool, true, false, cond, ◌&&◌, ltb, leb, eqb, length, take, drop}
use Rattle.basics.specs.Lists.{all, any, same}
use Rattle.basics.specs.Words.{word_at}
use Rattle.terms.specs.Terms.{folded}
use Rattle.frames.specs.Refusals.{Row, ◌if◌, first_of}
use Rattle.frames.specs.Frames.{Line, report_rows}
use Rattle.blocks.specs.Fields.{max_word, blocks_in}
use Rattle.blocks.specs.Prescribed.{Posting, prescribed}
use Rattle.lookup.specs.Lookup.{slots_in}
use Rattle.ingest.specs.declared.ReportAnswer.{ReportAnswer}
use Rattle.query.specs.declared.ListAnswer.{ListAnswer}
use Rattle.query.specs.Listing.{ListedOne, ListedAll}

abbrev pub Report : Type 0
Report = List Line

-- ---- what a frame says, read from its front to its end. A frame has no more lines or terms than bytes

-- the lines in these bytes: a length, so many bytes of a term, four of a count, and on behind them
unfoldable pub lines_in : ℕ → List ℕ → List Line
lines_in zero s = []
lines_in (suc fuel) [] = []
lines_in (suc fuel) (n ∷ s) = record { term = folded (take n s); count = word_at (drop n s) 0 } ∷ lines_in fuel (drop (n + 4) s)

-- of a report, behind its kind
unfoldable pub lines_of : List ℕ → Report
lines_of f = lines_in (length f) (drop 4 f)

-- the terms in these bytes: a length, so many bytes of a term, and on behind them
unfoldable pub named_in : ℕ → List ℕ → List (List ℕ)
named_in zero s = []
named_in (suc fuel) [] = []
named_in (suc fuel) (n ∷ s) = folded (take n s) ∷ named_in fuel (drop n s)

-- of a query: behind its kind the start, and behind that the terms
unfoldable pub start_of : List ℕ → ℕ
start_of f = word_at (drop 4 f) 0

unfoldable pub named_by : List ℕ → List (List ℕ)
named_by f = named_in (length f) (drop 8 f)

-- ---- what it holds of a term

-- the postings of term w in the report of number n
unfoldable pub in_report : List ℕ → ℕ → Report → List Posting
in_report w n [] = []
in_report w n (l ∷ ls) =
    cond (same w l.term) (record { number = n; count = l.count } ∷ in_report w n ls) (in_report w n ls)

-- and in reports that are numbered from n on
unfoldable pub in_reports : List ℕ → ℕ → List Report → List Posting
in_reports w n [] = []
in_reports w n (r ∷ rs) = in_report w n r ++ in_reports w (suc n) rs

unfoldable pub postings_of : List Report → List ℕ → List Posting
postings_of rs w = in_reports w 1 rs

-- ---- its different terms, in the order in which they come

unfoldable pub with_name : List (List ℕ) → List ℕ → List (List ℕ)
with_name ws w = cond (any (same w) ws) ws (ws ++ (w ∷ []))

unfoldable pub names_after : List (List ℕ) → Report → List (List ℕ)
names_after ws [] = ws
names_after ws (l ∷ ls) = names_after (with_name ws l.term) ls

unfoldable pub names_from : List (List ℕ) → List Report → List (List ℕ)
names_from ws [] = ws
names_from ws (r ∷ rs) = names_from (names_after ws r) rs

unfoldable pub names : List Report → List (List ℕ)
names rs = names_from [] rs

-- ---- the blocks that it prescribes: those of each of its terms

unfoldable pub sum : List ℕ → ℕ
sum [] = 0
sum (n ∷ ns) = n + sum ns

unfoldable pub prescribed_blocks : List Report → ℕ
prescribed_blocks rs = sum (map (λ w. prescribed (length w) (postings_of rs w)) (names rs))

-- ---- taking a report, with an arena of so many bytes and a table of so many entries

-- the rules that come before 12: 1 to 7, 9 and 11
unfoldable pub earlier_rows : ℕ → List Report → List ℕ → List Row
earlier_rows entries rs f =
    let more = rs ++ (lines_of f ∷ []) in
    report_rows f ++ ((9 if eqb (length rs) max_word) ∷ (11 if ltb (slots_in entries / 2) (length (names more))) ∷ [])

unfoldable pub ledger_rows : ℕ → ℕ → List Report → List ℕ → List Row
ledger_rows bytes entries rs f =
    let more = rs ++ (lines_of f ∷ []) in earlier_rows entries rs f ++ ((12 if ltb (blocks_in bytes) (prescribed_blocks more)) ∷ [])

pub record Entered : Type 0 where
  pub answer : ReportAnswer
  pub reports : List Report

unfoldable pub enter_report : ℕ → ℕ → List Report → List ℕ → Entered
enter_report bytes entries rs f =
    let r = first_of (ledger_rows bytes entries rs f) in
    cond (eqb r 0) (record {
      answer = record { refusal = 0; number = length rs + 1 };
      reports = rs ++ (lines_of f ∷ []);
    }) (record { answer = record { refusal = r; number = 0 }; reports = rs })

-- ---- listing: ascending, the reports at or past the start that hold all of the named terms; the count is that of the first named term

unfoldable pub holds_term : Report → List ℕ → Bool
holds_term r w = any (λ l. same w l.term) r

unfoldable pub count_in : Report → List ℕ → ℕ
count_in [] w = 0
count_in (l ∷ ls) w = cond (same w l.term) l.count (count_in ls w)

-- the count of the first of the terms
unfoldable pub first_count : Report → List (List ℕ) → ℕ
first_count r [] = 0
first_count r (w ∷ ws) = count_in r w

unfoldable pub list_from : ℕ → ℕ → List (List ℕ) → List Report → List Posting
list_from n start ws [] = []
list_from n start ws (r ∷ rs) =
    let on = list_from (suc n) start ws rs in
    cond (leb start n && all (holds_term r) ws) (record { number = n; count = first_count r ws } ∷ on) on

unfoldable pub listed : List Report → ℕ → List (List ℕ) → List Posting
listed rs start ws = list_from 1 start ws rs

-- ---- filling the lent lists, place by place: each report in the next place, later places keep what they have; more remain exactly when one finds no place

abbrev pub told : ℕ → Bool → ℕ → ListAnswer
told refusal more filled = record { refusal = refusal; more = more; filled = filled }

-- one place more is filled than the answer says
abbrev pub onward : ListAnswer → ListAnswer
onward a = told a.refusal a.more (suc a.filled)

unfoldable pub fill_two : List Posting → List ℕ → List ℕ → ListedOne
fill_two [] ns cs = record { answer = told 0 false 0; numbers = ns; counts = cs }
fill_two (p ∷ ps) [] cs = record { answer = told 0 true 0; numbers = []; counts = cs }
fill_two (p ∷ ps) (n ∷ ns) [] = record { answer = told 0 true 0; numbers = n ∷ ns; counts = [] }
fill_two (p ∷ ps) (n ∷ ns) (c ∷ cs) =
    let rest = fill_two ps ns cs in record { answer = onward rest.answer; numbers = p.number ∷ rest.numbers; counts = p.count ∷ rest.counts }

unfoldable pub fill_list : List Posting → List ℕ → ListedAll
fill_list [] ns = record { answer = told 0 false 0; numbers = ns }
fill_list (p ∷ ps) [] = record { answer = told 0 true 0; numbers = [] }
fill_list (p ∷ ps) (n ∷ ns) = let rest = fill_list ps ns in record { answer = onward rest.answer; numbers = p.number ∷ rest.numbers }
