-- Marks in a window of 64 reports: each report of a window has a bit of a 64-bit number, the first report the highest.
use Rattle.std.specs.Prelude.{ℕ, ◌+◌, ◌-◌, ◌/◌, ◌%◌, ◌^◌, ◌≤◌, ◌<◌, ◌≡◌, List, Option, Some, None, Bool, true, false, cond, leb, eqb, length, set}

abbrev pub width : ℕ
width = 64

-- report n lies in the window from base on
pub record In (base n : ℕ) : Type 0 where
  pub from : base ≤ n
  pub below : n < base + width

-- the bit of report n there
unfoldable pub bit_of : ℕ → ℕ → ℕ
bit_of base n = 2 ^ (63 - (n - base))

-- whether report n is marked
unfoldable pub is_marked : ℕ → ℕ → ℕ → Bool
is_marked mask base n = eqb (mask / bit_of base n % 2) 1

-- the first report marked stands z behind the window's first
pub record FirstMarked (mask z : ℕ) : Type 0 where
  pub near : z < width
  pub own : (base : ℕ) → is_marked mask base (base + z) ≡ true
  pub before : (base n : ℕ) → base ≤ n → n < base + z → is_marked mask base n ≡ false

-- the marks without the report that stands z behind the window's first
pub record Without (mask z mask' : ℕ) : Type 0 where
  pub less : mask' < mask
  pub marks : (base n : ℕ) → In base n → is_marked mask' base n ≡ cond (eqb n (base + z)) false (is_marked mask base n)

-- ---- marks that come one after another

-- the marks with report n, where it is not past `to`
unfoldable pub with_mark : ℕ → ℕ → ℕ → ℕ → ℕ
with_mark base to mask n = cond (leb n to) (mask + bit_of base n) mask

-- the marks of a window so far: none behind report n
pub record Settled (base n mask : ℕ) : Type 0 where
  pub in_bits : mask < 2 ^ 64
  pub behind : (i : ℕ) → In base i → n < i → is_marked mask base i ≡ false

-- ---- the marked reports in a list

-- marked reports put into a list, one place after another: each time the first one, which is marked no more then
pub data Puts (base mask₀ : ℕ) (numbers₀ : List ℕ) (n₀ : ℕ) : ℕ → List ℕ → ℕ → Type 0 where
  none : Puts base mask₀ numbers₀ n₀ mask₀ numbers₀ n₀
  put : {mask z mask' n : ℕ} {numbers : List ℕ} → Puts base mask₀ numbers₀ n₀ mask numbers n → FirstMarked mask z → Without mask z mask' → n < length numbers
      → Puts base mask₀ numbers₀ n₀ mask' (set numbers n (base + z)) (n + 1)

-- all of them, so that n places are filled; or as many as there are places, so that some are left
abbrev pub PutOut : ℕ → ℕ → List ℕ → ℕ → List ℕ → Option ℕ → Type 0
PutOut base mask numbers₀ n₀ numbers (Some n) = Puts base mask numbers₀ n₀ 0 numbers n
PutOut base mask numbers₀ n₀ numbers None = (left : ℕ) × (0 < left) × Puts base mask numbers₀ n₀ left numbers (length numbers)
