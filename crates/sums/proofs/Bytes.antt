-- What a byte and the two before it say where all values have one byte.
-- Assumes nothing.
use Prim.Native.Nat.{ℕ, ◌+◌, ◌/◌, ◌%◌, ◌≤◌, ◌<◌}
use mathlib.Core.Path.{◌≡◌}
use mathlib.Core.Bool.{true, false}
use native.Mathlib.Omega.{arith}
use Rattle.std.proofs.lemmas.Bool.Decides.{nat_tests}
use Rattle.sums.specs.Rows.{is_second, gap_of, is_fit, mark_of}

-- ---- second bytes

pub second_yes : (q p : ℕ) → q % 4 ≡ 0 → 0 < p % 4 → is_second q p ≡ true
unfolding is_second
second_yes q p z h = grind (arith, nat_tests)

-- behind a byte that 4 does not divide
pub second-behind : (q p : ℕ) → 0 < q % 4 → is_second q p ≡ false
unfolding is_second
second-behind q p h = grind (arith, nat_tests)

-- one behind a byte that 4 divides
pub second_past : (q p : ℕ) → p % 4 ≡ 0 → is_second q p ≡ false
unfolding is_second
second_past q p z = grind (arith, nat_tests)

-- ---- gaps

pub gap-second : (r q p : ℕ) → is_second q p ≡ true → gap_of r q p ≡ 0
unfolding gap_of
gap-second r q p e = grind (arith, nat_tests)

pub gap-one : (r q p : ℕ) → is_second q p ≡ false → 0 < r % 4 → gap_of r q p ≡ r / 4 + 1
unfolding gap_of
gap-one r q p e h = grind (arith, nat_tests)

pub gap_pair : (r q p : ℕ) → is_second q p ≡ false → r % 4 ≡ 0 → gap_of r q p ≡ r / 4
unfolding gap_of
gap_pair r q p e z = grind (arith, nat_tests)

pub gap_le : (r q p : ℕ) → r < 256 → gap_of r q p ≤ 64
unfolding gap_of
gap_le r q p h = grind (arith, nat_tests)

-- ---- bytes that fit

pub record Fit (r q p : ℕ) : Type 0 where
  pub low : 0 < r
  pub high : r < 128
  pub not_three : r % 4 ≡ 0 → q % 4 ≡ 0 → 0 < p % 4

-- 4 does not divide the byte before a code of two
pub before_pair : (r q p : ℕ) → Fit r q p → is_second q p ≡ false → r % 4 ≡ 0 → 0 < q % 4
unfolding is_second
before_pair r q p w e z = grind (arith, nat_tests)

-- a code has one byte where the byte behind it is no second one
pub of_one_byte : (r q p : ℕ) → Fit r q p → is_second q p ≡ false → is_second r q ≡ false → 0 < r % 4
unfolding is_second
of_one_byte r q p w e c = grind (arith, nat_tests)

pub mark_start : (r q p : ℕ) → Fit r q p → is_second q p ≡ false → mark_of r q p ≡ 1
unfolding mark_of is_fit
mark_start r q p w e = grind (arith, nat_tests)

pub mark_second : (r q p : ℕ) → Fit r q p → is_second q p ≡ true → mark_of r q p ≡ 0
unfolding mark_of is_fit
mark_second r q p w e = grind (arith, nat_tests)

-- a mark below 64 says that the byte fits
pub mark_fits : (r q p : ℕ) → mark_of r q p < 64 → Fit r q p
unfolding mark_of is_fit
mark_fits r q p h = record { low = grind (arith, nat_tests); high = grind (arith, nat_tests); not_three = λ x y. grind (arith, nat_tests) }

pub mark_le : (r q p : ℕ) → mark_of r q p ≤ 64
unfolding mark_of is_fit
mark_le r q p = grind (arith, nat_tests)
