-- Adding up the postings of a part, whatever reports there are.
use Rattle.std.specs.Prelude.{ℕ, zero, suc, ◌+◌, ◌*◌, ◌≤◌, ◌≡◌, List, Option, Some, None, cond, ltb, length, drop}
use Rattle.postings.specs.Coding.{decoded}
use Rattle.postings.specs.declared.Decoded.{Decoded}
use Rattle.sums.specs.declared.Sum.{Sum}

-- before the first posting that is added
abbrev pub sum_of : ℕ → ℕ → Sum ℕ
sum_of at number = record { at = at; number = number; postings = 0 }

-- with one more posting of l bytes whose gap is g
abbrev pub further : Sum ℕ → ℕ → ℕ → Sum ℕ
further p g l = record { at = p.at + l; number = p.number + g; postings = p.postings + 1 }

-- a posting is added and what is behind it too; where none is decoded the sum ends
unfoldable pub add_one : (Sum ℕ → Sum ℕ) → Sum ℕ → Option Decoded → Sum ℕ
add_one rest p (Some d) = rest (further p d.gap d.length)
add_one rest p None = p

-- the postings that start before offset `stop`, at most `fuel` of them
unfoldable pub add_from : ℕ → List ℕ → ℕ → Sum ℕ → Sum ℕ
add_from zero part stop p = p
add_from (suc fuel) part stop p =
    cond (ltb p.at stop) (add_one (add_from fuel part stop) p (decoded (drop p.at part))) p

-- all of them: a posting takes at least one byte, so a part has no more postings than bytes
unfoldable pub added_to : List ℕ → ℕ → Sum ℕ → Sum ℕ
added_to part stop p = add_from (length part) part stop p

-- adding up from `from` on has come to p: what is added up from there on completes the sum
pub record Completes (part : List ℕ) (stop : ℕ) (from p : Sum ℕ) : Type 0 where
  pub sum : added_to part stop p ≡ added_to part stop from

-- from offset `at` on, behind the posting of that number, no number of the part is over `reports`: the last one is the
-- largest
pub record Bounded (part : List ℕ) (reports at number : ℕ) : Type 0 where
  pub last : (added_to part (length part) (sum_of at number)).number ≤ reports

-- a part has fewer than 2 ^ 32 bytes, so that the number that its gaps lead to has at most 64 bits
abbrev pub max_part : ℕ
max_part = 4294967295

-- a posting takes a byte or more, and its gap has 32 bits
pub record Small (p : Sum ℕ) : Type 0 where
  pub number_in : p.number ≤ 4294967295 * (p.at + 1)
  pub postings_in_lem : p.postings ≤ p.at
