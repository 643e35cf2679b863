-- The index that a ledger prescribes, as a function of its reports alone; and the reports for which that is done.
use Rattle.std.specs.Prelude.{ℕ, suc, ◌≤◌, ◌≡◌, List, [], ◌∷◌, map, Bool, true, false, cond, ltb, length}
use Rattle.basics.specs.Lists.{same}
use Rattle.terms.specs.Terms.{max_term}
use Rattle.frames.specs.Frames.{Line}
use Rattle.postings.specs.Coding.{max_count}
use Rattle.blocks.specs.Prescribed.{Posting}
use Rattle.layout.specs.Held.{Held}
use Rattle.layout.specs.Held.{head_no}
use Rattle.layout.specs.Index.{Index, empty, with_term, with_posting}
use Rattle.lookup.specs.Lookup.{Known}
use Rattle.ledger.specs.Ledger.{Report}

-- ---- a term among the terms of an index

-- its place; the length of the list where it is not there
unfoldable pub find : List ℕ → List Held → ℕ
find w [] = 0
find w (t ∷ ts) = cond (same w t.name) 0 (suc (find w ts))

abbrev pub knows : List Held → List ℕ → Bool
knows ts w = ltb (find w ts) (length ts)

-- ---- growing, line by line

abbrev pub posting : ℕ → Line → Posting
posting n l = record { number = n; count = l.count }

-- a posting more of a known term, or a new term
abbrev pub take_as : Bool → Index → ℕ → Line → Index
take_as true ix n l = with_posting ix (find l.term ix.terms) (posting n l)
take_as false ix n l = with_term ix l.term (posting n l)

-- a line of report n
unfoldable pub take_line : Index → ℕ → Line → Index
take_line ix n l = take_as (knows ix.terms l.term) ix n l

unfoldable pub take_lines : Index → ℕ → List Line → Index
take_lines ix n [] = ix
take_lines ix n (l ∷ ls) = take_lines (take_line ix n l) n ls

-- reports that are numbered from n on
unfoldable pub take_reports : Index → ℕ → List Report → Index
take_reports ix n [] = ix
take_reports ix n (r ∷ rs) = take_reports (take_lines ix n r) (suc n) rs

unfoldable pub grown : List Report → Index
grown rs = take_reports empty 1 rs

-- what the table holds of its terms, in their order: the name and the head's block
abbrev pub entry_of : Held → Known
entry_of t = record { name = t.name; head = head_no t }

abbrev pub entries_of : Index → List Known
entries_of ix = map entry_of ix.terms

-- ---- reports that can be taken: lines have terms of at most 36 bytes and counts from 1, and no term comes twice

pub record GoodLine (l : Line) : Type 0 where
  pub short : length l.term ≤ max_term
  pub count_pos : 1 ≤ l.count
  pub count_small : l.count ≤ max_count

-- no line has the term w
pub data Apart (w : List ℕ) : List Line → Type 0 where
  nowhere : Apart w []
  elsewhere : {l : Line} {ls : List Line} → same l.term w ≡ false → Apart w ls → Apart w (l ∷ ls)

pub data GoodLines : List Line → Type 0 where
  no_line : GoodLines []
  line : {l : Line} {ls : List Line} → GoodLine l → Apart l.term ls → GoodLines ls → GoodLines (l ∷ ls)

pub data GoodReports : List Report → Type 0 where
  no_report : GoodReports []
  report : {r : Report} {rs : List Report} → GoodLines r → GoodReports rs → GoodReports (r ∷ rs)
