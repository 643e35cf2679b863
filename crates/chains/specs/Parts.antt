-- Reading on within one block's part, posting by posting.
use Rattle.std.specs.Prelude.{◌≡◌, ℕ, zero, suc, ◌+◌, ◌≤◌, ◌<◌, List, Option, Some, None, cond, ◌&&◌, ltb, leb, length, drop}
use Rattle.postings.specs.Coding.{decoded}
use Rattle.postings.specs.declared.Decoded.{Decoded}
use Rattle.sums.specs.declared.Sum.{Sum}
use Rattle.sums.specs.Adding.{sum_of, further, Bounded}
use Rattle.blocks.specs.Fields.{block_size, place}
use Rattle.chains.specs.declared.Cursor.{Cursor}
use Rattle.chains.specs.declared.PartRead.{PartRead}
use Rattle.chains.specs.Chains.{part_end, part_at, stepped, step_at}

-- ---- over the bytes of a part

-- where reading on in a part stopped
abbrev pub Passed : Type 0
Passed = Sum ℕ

-- a posting whose number is at most reports is passed, and what is behind it too; no other is
unfoldable pub onward : (Passed → Passed) → ℕ → Passed → Option Decoded → Passed
onward rest reports p (Some d) = cond (leb (p.number + d.gap) reports) (rest (further p d.gap d.length)) p
onward rest reports p None = p

-- reading on while numbers are below `to`: to the part's end, to a number at or past `to`, or to where no posting
-- stands that can be passed. At most `fuel` postings
unfoldable pub pass_from : ℕ → List ℕ → ℕ → ℕ → Passed → Passed
pass_from zero part reports to p = p
pass_from (suc fuel) part reports to p =
    cond (ltb p.at (length part) && ltb p.number to) (onward (pass_from fuel part reports to) reports p (decoded (drop p.at part))) p

-- reading on from offset `at`, behind the posting of that number. A posting takes at least one byte, so a part has no
-- more postings than bytes
unfoldable pub passed : List ℕ → ℕ → ℕ → ℕ → ℕ → Passed
passed part reports at number to = pass_from (length part) part reports to (sum_of at number)

-- a whole part: its first posting, whose gap counts from `base`, and all behind it. None where no posting stands at its
-- front whose number is at most reports
unfoldable pub opened : List ℕ → ℕ → ℕ → Option Decoded → Option PartRead
opened part reports base (Some d) =
    let first = base + d.gap in
    cond (leb first reports) (Some (record { first = first; rest = passed part reports d.length first reports })) None
opened part reports base None = None

unfoldable pub part_read : List ℕ → ℕ → ℕ → Option PartRead
part_read part reports base = opened part reports base (decoded part)

-- ---- with a cursor

-- another offset in the same block, behind the posting of number n
abbrev pub moved_to : Cursor → ℕ → ℕ → Cursor
moved_to c at n = record c { at = at; number = n }

-- the cursor behind what is passed of its block's part
unfoldable pub passed_to : List ℕ → ℕ → Cursor → ℕ → Cursor
passed_to a reports c to =
    let p = passed (part_at a c) reports 0 c.number to in moved_to c (c.at + p.at) p.number

-- the cursor's next posting, report n with count f, stands in the same part: it is given whatever blocks are used
abbrev pub StepsIn : List ℕ → ℕ → Cursor → ℕ → ℕ → Cursor → Type 0
StepsIn a reports c n f c' = (used : ℕ) → step_at a used reports c ≡ stepped n f c'

-- a cursor behind the first posting of its block
pub record InPart (a : List ℕ) (reports : ℕ) (c : Cursor) : Type 0 where
  pub inside : place c.block + block_size ≤ length a
  pub end_in : c.end ≤ block_size
  pub at_in : c.at ≤ part_end c c.block
  pub begun : 0 < c.first
  pub number_in : c.number ≤ reports

-- no number of its block's part from there on is over reports
abbrev pub Known : List ℕ → ℕ → Cursor → Type 0
Known a reports c = Bounded (part_at a c) reports 0 c.number
