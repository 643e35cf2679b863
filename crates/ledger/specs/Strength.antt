-- What demand 3 shuts out (document 01, "Strength of the contracts", c): six wrong indexes. Each is the ledger itself but
-- for one fault.
use Rattle.std.specs.Prelude.{ℕ, ◌+◌, ◌≡◌, List, [], ◌∷◌, ◌++◌, map, false, eqb, length, replicate}
use Rattle.basics.specs.Lists.{keep}
use Rattle.frames.specs.Frames.{Line}
use Rattle.blocks.specs.Prescribed.{prescribed}
use Rattle.ledger.specs.Ledger.{Report, names, postings_of, prescribed_blocks, told}
use Rattle.ledger.specs.Calls.{Call, start, report, one-term, all-terms, Answer, started, taken, of_one, of_all, Step, ledger_step, answers, Make, Agrees}

-- a fault: what it makes of the reports that are kept, of those that a listing looks at, and of an answer
pub record Fault : Type 0 where
  pub kept : List Report → List Report
  pub seen : List Report → List Report
  pub answered : Answer → Answer

-- ---- an index with a fault, in an arena of 1,000 blocks and a table of 512 entries. Its counters are those of the
-- reports that it keeps

abbrev pub right : List Report → Call → Step (List Report)
right = ledger_step 64000 512

unfoldable pub wrong_step : Fault → List Report → Call → Step (List Report)
wrong_step x rs start = right rs start
wrong_step x rs (report f) = record { answer = x.answered (right rs (report f)).answer; left = x.kept (right rs (report f)).left }
wrong_step x rs (one-term f numbers counts) = record { answer = x.answered (right (x.seen rs) (one-term f numbers counts)).answer; left = rs }
wrong_step x rs (all-terms f numbers) = record { answer = x.answered (right (x.seen rs) (all-terms f numbers)).answer; left = rs }

abbrev pub wrong_index : Fault → Make (List Report)
wrong_index x = record {
  step = wrong_step x;
  counters = λ rs. record { used = prescribed_blocks rs; terms = length (names rs); reports = length rs };
  bytes = λ rs. 64000;
  entries = λ rs. 512;
}

-- ---- the six

abbrev pub as_is : {A : Type 0} → A → A
as_is x = x

-- 12 to all reports, of which none is kept
unfoldable pub full : Answer → Answer
full started = started
full (taken a) = taken (record { refusal = 12; number = 0 })
full (of_one l) = of_one l
full (of_all l) = of_all l

abbrev pub always_full : Fault
always_full = record { kept = λ rs. []; seen = as_is; answered = full }

-- lists nothing ever
abbrev pub nothing_listed : Fault
nothing_listed = record { kept = as_is; seen = λ rs. []; answered = as_is }

-- numbers reports but stores no lines
abbrev pub no_lines : Fault
no_lines = record { kept = map (λ r. []); seen = as_is; answered = as_is }

-- stores only each term's first block: of each report behind those before it, the lines whose postings stand there
unfoldable pub in_first : List Report → List Report → List Report
in_first before [] = []
in_first before (r ∷ rs) =
    let now = before ++ (r ∷ []) in
    keep (λ l. eqb (prescribed (length l.term) (postings_of now l.term)) 1) r ∷ in_first now rs

abbrev pub first_blocks : Fault
first_blocks = record { kept = as_is; seen = in_first []; answered = as_is }

-- makes up a posting count: one more than the line has
unfoldable pub counted_more : Line → Line
counted_more l = record { term = l.term; count = l.count + 1 }

abbrev pub count_made_up : Fault
count_made_up = record { kept = as_is; seen = map (map counted_more); answered = as_is }

-- says "no more", whatever is left
unfoldable pub none_left : Answer → Answer
none_left started = started
none_left (taken a) = taken a
none_left (of_one l) = of_one (record { answer = told l.answer.refusal false l.answer.filled; numbers = l.numbers; counts = l.counts })
none_left (of_all l) = of_all (record { answer = told l.answer.refusal false l.answer.filled; numbers = l.numbers })

abbrev pub no_more : Fault
no_more = record { kept = as_is; seen = as_is; answered = none_left }

unfoldable pub faults : List Fault
faults = always_full ∷ nothing_listed ∷ no_lines ∷ first_blocks ∷ count_made_up ∷ no_more ∷ []

-- and none at all
abbrev pub faultless : Fault
faultless = record { kept = as_is; seen = as_is; answered = as_is }

-- ---- the calls that tell them apart: eleven reports with a term of 36 bytes, one with zn, and four listings

abbrev long : List ℕ
long = replicate 36 97

abbrev long_report : Call
long_report = report (1 ∷ 0 ∷ 42 ∷ 1 ∷ 36 ∷ (long ++ (0 ∷ 0 ∷ 0 ∷ 1 ∷ [])))

unfoldable pub trial : List Call
trial =
    replicate 11 long_report
    ++ (report (1 ∷ 0 ∷ 8 ∷ 1 ∷ 2 ∷ 122 ∷ 110 ∷ 0 ∷ 0 ∷ 0 ∷ 3 ∷ [])
    ∷ one-term (1 ∷ 0 ∷ 42 ∷ 2 ∷ 0 ∷ 0 ∷ 0 ∷ 0 ∷ 36 ∷ long) (replicate 12 0) (replicate 12 0)
    ∷ one-term (1 ∷ 0 ∷ 42 ∷ 2 ∷ 0 ∷ 0 ∷ 0 ∷ 0 ∷ 36 ∷ long) (replicate 1 0) (replicate 1 0)
    ∷ one-term (1 ∷ 0 ∷ 8 ∷ 2 ∷ 0 ∷ 0 ∷ 0 ∷ 0 ∷ 2 ∷ 122 ∷ 110 ∷ []) (replicate 2 0) (replicate 2 0)
    ∷ all-terms (1 ∷ 0 ∷ 8 ∷ 3 ∷ 0 ∷ 0 ∷ 0 ∷ 0 ∷ 2 ∷ 122 ∷ 110 ∷ []) (replicate 2 0)
    ∷ [])

-- ---- the claim

pub data Each (P : Fault → Type 0) : List Fault → Type 0 where
  none : Each P []
  one : {x : Fault} {xs : List Fault} → P x → Each P xs → Each P (x ∷ xs)

-- each answers the trial otherwise than the ledger, and so does not agree with it; without a fault it agrees
pub record Strength : Type 0 where
  pub told_apart : Each (λ x. answers (wrong_step x) [] (start ∷ trial) ≡ answers right [] (start ∷ trial) → ⊥) faults
  pub shut_out : Each (λ x. Agrees (wrong_index x) → ⊥) faults
  pub faultless_agrees : Agrees (wrong_index faultless)
