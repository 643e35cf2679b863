-- Codes of single bytes: a value below 128 that 4 does not divide is a posting of one byte, and one that 4 divides is
-- followed by the count's. So a byte is a second one where 4 divides the byte before it and that byte starts a code.
-- Where no three bytes on end are divided by 4, the two bytes before it tell: 4 divides the nearer one and not the
-- other.
use Rattle.std.specs.Prelude.{ℕ, zero, suc, ◌+◌, ◌/◌, ◌%◌, ◌≤◌, ◌<◌, ◌≡◌, List, Bool, false, cond, ◌&&◌, ◌||◌, ltb, length, get_or}
use Rattle.sums.specs.declared.RowSum.{RowSum}
use Rattle.sums.specs.Adding.{added_to}

-- ---- one byte

-- whether the byte behind p and q is the second of a code
unfoldable pub is_second : ℕ → ℕ → Bool
is_second q p = cond (ltb 0 (q % 4)) false (ltb 0 (p % 4))

-- what byte r behind p and q adds to the gaps
unfoldable pub gap_of : ℕ → ℕ → ℕ → ℕ
gap_of r q p = cond (is_second q p) 0 (cond (ltb 0 (r % 4)) (r / 4 + 1) (r / 4))

-- whether it is a value of one byte, and not the third on end that 4 divides
unfoldable pub is_fit : ℕ → ℕ → ℕ → Bool
is_fit r q p = ltb 0 r && (ltb r 128 && (ltb 0 (r % 4) || (ltb 0 (q % 4) || ltb 0 (p % 4))))

-- what it adds to the postings; 64, more than the rows below have, where it does not fit
unfoldable pub mark_of : ℕ → ℕ → ℕ → ℕ
mark_of r q p = cond (is_fit r q p) (cond (is_second q p) 0 1) 64

-- the same for the byte two behind offset i
unfoldable pub gap_at : List ℕ → ℕ → ℕ
gap_at s i = gap_of (get_or s (i + 2) 0) (get_or s (i + 1) 0) (get_or s i 0)

unfoldable pub mark_at : List ℕ → ℕ → ℕ
mark_at s i = mark_of (get_or s (i + 2) 0) (get_or s (i + 1) 0) (get_or s i 0)

-- ---- three rows of sixteen bytes, from offset 2 of a window of 50 bytes

-- the sum of f over n places from i on
unfoldable pub sum_from : (ℕ → ℕ) → ℕ → ℕ → ℕ
sum_from f i zero = 0
sum_from f i (suc n) = f i + sum_from f (i + 1) n

-- the three bytes at place j of the rows together
unfoldable pub lane : (ℕ → ℕ) → ℕ → ℕ
lane f j = f j + f (j + 16) + f (j + 32)

-- that for each of the sixteen places
pub record Lane (f : ℕ → ℕ) (xs : List ℕ) : Type 0 where
  pub places : length xs ≡ 16
  pub each : (j : ℕ) → j < 16 → get_or xs j 0 ≡ lane f j

-- what was read of the 48 bytes from offset `at` on is what adding up from there on gives
pub record Rows (part : List ℕ) (at : ℕ) (r : RowSum) : Type 0 where
  pub within : at + 48 ≤ length part
  pub few : r.postings ≤ 48
  pub adds :
      (n k : ℕ) → added_to part (at + 48) (record { at = at; number = n; postings = k })
      ≡ record { at = at + 48; number = n + r.gaps; postings = k + r.postings }
