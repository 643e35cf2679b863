-- Marks in a window of 64 reports: which reports are marked where one is added, and where the first is taken out.
-- Assumes nothing.
use Prim.Native.Nat.{ℕ, zero, suc, ◌+◌, ◌-◌, ◌*◌, ◌/◌, ◌%◌, ◌^◌, ◌≤◌, ◌<◌, min}
use mathlib.Core.Path.{◌≡◌, refl, sym, ap, ◌∙◌}
use mathlib.Core.Bool.{true, false, cond, ◌&&◌, true≢false}
use native.Mathlib.Omega.{arith}
use native.Mathlib.Nat.{add-mul-div_right, div-eq_of_lt, one-mul, mod-eq_of_lt, mul_assoc, le-div_iff_mul-le, div-lt_iff_lt-mul, pow-suc, mod-lt}
use lib.Dec.{leb, eqb}
use lib.Pow.{pow-add, pow_pos, pow_mono, pow-lt, shl-shr, shr-shr, high, field, mod-mod-pow, ones_split, ones_lt}
use lib.Bits.{bit_and, and_step, shifted_even}
use lib.Count.{count_leading_zeros, leading_top, count_trailing_zeros, under}
use borrow.Author.Tests.{eqb-true, eqb-false, eq-eqb, ne_eqb, le-leb, lt-leb}
use Rattle.basics.proofs.Cases.{by-lt, by-eq}
use Rattle.query.specs.Marks.{width, In, bit_of, is_marked, FirstMarked, Without, with_mark, Settled}

-- ---- the bits of a number

-- bit s of m
abbrev bit : ℕ → ℕ → ℕ
bit m s = m / 2 ^ s % 2

-- the bit of report n
abbrev place : ℕ → ℕ → ℕ
place base n = 63 - (n - base)

bit_lt : (m s : ℕ) → bit m s < 2
bit_lt m s = mod-lt (m / 2 ^ s) (omega arith)

even_suc : (q : ℕ) → q % 2 ≡ 0 → (q + 1) % 2 ≡ 1
even_suc q e = omega arith

half_suc : (q : ℕ) → q % 2 ≡ 0 → (q + 1) / 2 ≡ q / 2
half_suc q e = omega arith

pred_even : (q : ℕ) → (q + 1) % 2 ≡ 1 → q % 2 ≡ 0
pred_even q e = omega arith

even_more : (q p : ℕ) → (q + p * 2) % 2 ≡ q % 2
even_more q p = omega arith

-- 2 ^ s is one more at s
module _ (m s : ℕ) where
  add_high : (m + 2 ^ s) / 2 ^ s ≡ m / 2 ^ s + 1
  add_high = ap (λ (x : ℕ). (m + x) / 2 ^ s) (sym (one-mul (2 ^ s))) ∙ add-mul-div_right m 1 (pow_pos s)

  add_bit : bit m s ≡ 0 → bit (m + 2 ^ s) s ≡ 1
  add_bit e = ap (λ (x : ℕ). x % 2) add_high ∙ even_suc (m / 2 ^ s) e

  -- where it was not there, nothing is carried past it
  add-past : bit m s ≡ 0 → (d : ℕ) → (m + 2 ^ s) / 2 ^ (s + (1 + d)) ≡ m / 2 ^ (s + (1 + d))
  add-past e d =
      sym (split_past (m + 2 ^ s)) ∙ ap (λ (x : ℕ). x / 2 / 2 ^ d) add_high ∙ ap (λ (x : ℕ). x / 2 ^ d) (half_suc (m / 2 ^ s) e)
      ∙ split_past m
    where
      split_past : (x : ℕ) → x / 2 ^ s / 2 / 2 ^ d ≡ x / 2 ^ (s + (1 + d))
      split_past x = shr-shr (x / 2 ^ s) 1 d ∙ shr-shr x s (1 + d)

  -- and no bit before it changes
  add-before : (d t : ℕ) → s ≡ d + 1 + t → bit (m + 2 ^ s) t ≡ bit m t
  add-before d t e =
      ap (λ (x : ℕ). (m + x) / 2 ^ t % 2) (ap (λ (x : ℕ). 2 ^ x) e ∙ pow-add 2 (d + 1) t)
      ∙ ap (λ (x : ℕ). x % 2) (add-mul-div_right m (2 ^ (d + 1)) (pow_pos t))
      ∙ ap (λ (x : ℕ). (m / 2 ^ t + x) % 2) (pow-add 2 d 1)
      ∙ even_more (m / 2 ^ t) (2 ^ d)

  add_other : bit m s ≡ 0 → (t : ℕ) → (t ≡ s → ⊥) → bit (m + 2 ^ s) t ≡ bit m t
  add_other e t z =
      by-lt s t
      (λ l. let f : s + (1 + (t - suc s)) ≡ t = omega arith in
      ap (λ (x : ℕ). (m + 2 ^ s) / 2 ^ x % 2) (sym f) ∙ ap (λ (x : ℕ). x % 2) (add-past e (t - suc s)) ∙ ap (λ (x : ℕ). bit m x) f)
      (λ l. add-before (s - suc t) t (omega arith))

  add-fits : bit m s ≡ 0 → s < 64 → m < 2 ^ 64 → m + 2 ^ s < 2 ^ 64
  add-fits e l h =
      let f : s + (1 + (63 - s)) ≡ 64 = omega arith in
      no_more (m + 2 ^ s) m (ap (λ (x : ℕ). (m + 2 ^ s) / 2 ^ x) (sym f) ∙ add-past e (63 - s) ∙ ap (λ (x : ℕ). m / 2 ^ x) f) h
    where
      no_more : (x y : ℕ) → x / 18446744073709551616 ≡ y / 18446744073709551616 → y < 18446744073709551616 → x < 18446744073709551616
      no_more x y e h = omega arith

-- a number with bit s is at least 2 ^ s, and has not the bit without it
module _ (m s : ℕ) (e : bit m s ≡ 1) where
  bit_le : 2 ^ s ≤ m
  bit_le = by-lt m (2 ^ s) (λ l. absurd (no (m / 2 ^ s) (div-eq_of_lt l) e)) (λ l. l)
    where
      no : (q : ℕ) → q ≡ 0 → q % 2 ≡ 1 → ⊥
      no q z e = omega arith

  back : m - 2 ^ s + 2 ^ s ≡ m
  back = go m (2 ^ s) bit_le
    where
      go : (m p : ℕ) → p ≤ m → m - p + p ≡ m
      go m p h = omega arith

  sub_bit : bit (m - 2 ^ s) s ≡ 0
  sub_bit = pred_even ((m - 2 ^ s) / 2 ^ s) (ap (λ (x : ℕ). x % 2) (sym (add_high (m - 2 ^ s) s)) ∙ ap (λ (x : ℕ). bit x s) back ∙ e)

  sub_other : (t : ℕ) → (t ≡ s → ⊥) → bit (m - 2 ^ s) t ≡ bit m t
  sub_other t z = sym (add_other (m - 2 ^ s) s sub_bit t z) ∙ ap (λ (x : ℕ). bit x t) back

-- the bits of all ones
ones_bit : (s : ℕ) → s < 64 → bit 18446744073709551615 s ≡ 1
ones_bit s h =
    let f : 1 + (63 - s) + s ≡ 64 = omega arith in
    ap (λ (x : ℕ). (2 ^ x - 1) / 2 ^ s % 2) (sym f)
    ∙ ap (λ (x : ℕ). x / 2 ^ s % 2) (ones_split (1 + (63 - s)) s)
    ∙ ap (λ (x : ℕ). x % 2) (high (2 ^ (1 + (63 - s)) - 1) s (ones_lt s))
    ∙ ap (λ (x : ℕ). (x - 1) % 2) (pow-add 2 1 (63 - s))
    ∙ odd (2 ^ (63 - s)) (pow_pos (63 - s))
  where
    odd : (p : ℕ) → 0 < p → (2 * p - 1) % 2 ≡ 1
    odd p h = omega arith

-- the bits of a number shifted up: those past the 64th are lost, the others stand s - k lower in m, and below the shift there are none
cut_bit : (y s : ℕ) → s < 64 → bit (y % 18446744073709551616) s ≡ bit y s
cut_bit y s h =
    let f : 63 - s + 1 + s ≡ 64 = omega arith in
    ap (λ (x : ℕ). y % 2 ^ x / 2 ^ s % 2) (sym f) ∙ ap (λ (x : ℕ). x % 2) (field y (63 - s + 1) s) ∙ mod-mod-pow (y / 2 ^ s) (63 - s) 1

module _ (m k s : ℕ) where
  up_bit : k ≤ s → bit (m * 2 ^ k) s ≡ bit m (s - k)
  up_bit h =
      let f : k + (s - k) ≡ s = omega arith in
      ap (λ (x : ℕ). m * 2 ^ k / 2 ^ x % 2) (sym f) ∙ ap (λ (x : ℕ). x % 2) (sym (shr-shr (m * 2 ^ k) k (s - k)))
      ∙ ap (λ (x : ℕ). x / 2 ^ (s - k) % 2) (shl-shr m k)

  up_none : s < k → bit (m * 2 ^ k) s ≡ 0
  up_none h =
      let d = k - suc s in
      let f : suc d + s ≡ k = omega arith in
      ap (λ (x : ℕ). m * 2 ^ x / 2 ^ s % 2) (sym f)
      ∙ ap (λ (x : ℕ). m * x / 2 ^ s % 2) (pow-add 2 (suc d) s)
      ∙ ap (λ (x : ℕ). x / 2 ^ s % 2) (sym (mul_assoc m (2 ^ suc d) (2 ^ s)))
      ∙ ap (λ (x : ℕ). x % 2) (shl-shr (m * 2 ^ suc d) s)
      ∙ shifted_even m d

-- the highest bit, and those above it
top_bit : (m j : ℕ) → 2 ^ j ≤ m → m < 2 ^ suc j → bit m j ≡ 1
top_bit m j l h =
    one (m / 2 ^ j) ((le-div_iff_mul-le (pow_pos j)).1 (omega (arith, l, one-mul (2 ^ j)))) ((div-lt_iff_lt-mul (pow_pos j)).1 (omega (arith, h, pow-suc 2 j)))
  where
    one : (q : ℕ) → 1 ≤ q → q < 2 → q % 2 ≡ 1
    one q l h = omega arith

above_bit : (m s : ℕ) → m < 2 ^ s → bit m s ≡ 0
above_bit m s h = ap (λ (x : ℕ). x % 2) (div-eq_of_lt h)

-- the highest of 64 bits shifted down
top_down : (d : ℕ) → d < 64 → 9223372036854775808 / 2 ^ d ≡ 2 ^ (63 - d)
top_down d h =
    let f : 63 - d + d ≡ 63 = omega arith in
    ap (λ (x : ℕ). 2 ^ x / 2 ^ d) (sym f) ∙ ap (λ (x : ℕ). x / 2 ^ d) (pow-add 2 (63 - d) d) ∙ shl-shr (2 ^ (63 - d)) d

-- a bit but the lowest is one of the half
bit_half : (m s : ℕ) → bit m (suc s) ≡ bit (m / 2) s
bit_half m s = let f : suc s ≡ 1 + s = omega arith in ap (λ (x : ℕ). m / 2 ^ x % 2) f ∙ ap (λ (x : ℕ). x % 2) (sym (shr-shr m 1 s))

bit_lowest : (m : ℕ) → bit m 0 ≡ m % 2
bit_lowest m = omega arith

-- the bits of both
both_half : (a b : ℕ) → bit_and a b / 2 ≡ bit_and (a / 2) (b / 2)
both_half a b = ap (λ (x : ℕ). x / 2) (and_step a b) ∙ go (bit_and (a / 2) (b / 2)) (a % 2) (b % 2) (mod-lt a (omega arith))
  where
    go : (x r t : ℕ) → r < 2 → (x * 2 + min r t) / 2 ≡ x
    go x r t h = omega arith

both_lowest : (a b : ℕ) → bit_and a b % 2 ≡ min (a % 2) (b % 2)
both_lowest a b = ap (λ (x : ℕ). x % 2) (and_step a b) ∙ go (bit_and (a / 2) (b / 2)) (a % 2) (b % 2) (mod-lt a (omega arith))
  where
    go : (x r t : ℕ) → r < 2 → (x * 2 + min r t) % 2 ≡ min r t
    go x r t h = omega arith

both_bit : (s a b : ℕ) → bit (bit_and a b) s ≡ min (bit a s) (bit b s)
both_bit zero a b = bit_lowest (bit_and a b) ∙ both_lowest a b ∙ sym (rw (bit_lowest a, bit_lowest b))
both_bit (suc s) a b = bit_half (bit_and a b) s ∙ ap (λ (x : ℕ). bit x s) (both_half a b) ∙ both_bit s (a / 2) (b / 2) ∙ sym (rw (bit_half a s, bit_half b s))

-- the lowest bit of m is bit t: those below it are not there
record Lowest (m t : ℕ) : Type 0 where
  own : bit m t ≡ 1
  below : (s : ℕ) → s < t → bit m s ≡ 0

lowest_bit : (k m : ℕ) → 0 < m → m < 2 ^ k → (count_trailing_zeros k m < k) × Lowest m (count_trailing_zeros k m)
unfolding count_trailing_zeros
lowest_bit zero m p h = absurd (omega arith)
lowest_bit (suc k) m p h = go (m % 2) refl (λ e. lowest_bit k (m / 2) (omega arith) ((div-lt_iff_lt-mul (omega arith)).1 (omega (arith, h, pow-suc 2 k))))
  where
    go : (r : ℕ) → m % 2 ≡ r → (m % 2 ≡ 0 → (count_trailing_zeros k (m / 2) < k) × Lowest (m / 2) (count_trailing_zeros k (m / 2)))
        → (under r (count_trailing_zeros k (m / 2)) < suc k) × Lowest m (under r (count_trailing_zeros k (m / 2)))
    go zero e ih =
        let t = count_trailing_zeros k (m / 2) in
        let x = ih e in
        (omega (arith, x.0), record { own = bit_half m t ∙ x.1.own; below = below x.1 })
      where
        below : Lowest (m / 2) (count_trailing_zeros k (m / 2)) → (s : ℕ) → s < suc (count_trailing_zeros k (m / 2)) → bit m s ≡ 0
        below l zero h = bit_lowest m ∙ e
        below l (suc s) h = bit_half m s ∙ l.below s (omega arith)
    go (suc r) e ih = (omega arith, record { own = bit_lowest m ∙ odd; below = λ s h. absurd (omega arith) })
      where
        odd : m % 2 ≡ 1
        odd = omega (arith, e)

-- ---- the mark of a report is its bit

module _ (mask base n : ℕ) where
  marked_yes : bit mask (place base n) ≡ 1 → is_marked mask base n ≡ true
  unfolding is_marked bit_of
  marked_yes e = eq-eqb (bit mask (place base n)) 1 e

  marked_no : bit mask (place base n) ≡ 0 → is_marked mask base n ≡ false
  unfolding is_marked bit_of
  marked_no e = ne_eqb (bit mask (place base n)) 1 (λ f. omega (arith, e, f))

  bit_yes : is_marked mask base n ≡ true → bit mask (place base n) ≡ 1
  unfolding is_marked bit_of
  bit_yes e = eqb-true (bit mask (place base n)) 1 e

  bit_no : is_marked mask base n ≡ false → bit mask (place base n) ≡ 0
  unfolding is_marked bit_of
  bit_no e = go (bit mask (place base n)) (bit_lt mask (place base n)) (eqb-false (bit mask (place base n)) 1 e)
    where
      go : (b : ℕ) → b < 2 → (b ≡ 1 → ⊥) → b ≡ 0
      go b h z = omega arith

marked-same : (m m' base n : ℕ) → bit m (place base n) ≡ bit m' (place base n) → is_marked m base n ≡ is_marked m' base n
unfolding is_marked bit_of
marked-same m m' base n e = ap (λ (x : ℕ). eqb x 1) e

place_lt : (base n : ℕ) → place base n < 64
place_lt base n = omega arith

places_differ : (base i n : ℕ) → In base i → In base n → (i ≡ n → ⊥) → place base i ≡ place base n → ⊥
places_differ base i n g h z e = z (omega arith)

-- no report is marked
pub marked-none : (base n : ℕ) → is_marked 0 base n ≡ false
marked-none base n = marked_no 0 base n (above_bit 0 (place base n) (pow_pos (place base n)))

-- those up to `to` are where all ones are shifted up to the bit of `to`
pub marked_upto : (base to n : ℕ) → In base to → In base n
    → is_marked (18446744073709551615 * 2 ^ (63 - (to - base)) % 18446744073709551616) base n ≡ leb n to
marked_upto base to n t h =
    let k = 63 - (to - base) in
    let s = place base n in
    let cut = cut_bit (18446744073709551615 * 2 ^ k) s (place_lt base n) in
    by-lt to n
    (λ l. rw (lt-leb n to l) (marked_no _ base n (cut ∙ up_none 18446744073709551615 k s (omega (arith, t.from, t.below, h.from, h.below)))))
    (λ l. rw (le-leb n to l) (marked_yes _ base n (cut ∙ up_bit 18446744073709551615 k s (omega (arith, t.from, t.below, h.from, h.below)) ∙ ones_bit (s - k) (omega arith))))

-- one more
module _ (mask base n : ℕ) (h : In base n) (e : is_marked mask base n ≡ false) where
  pub added_fits : mask < 2 ^ 64 → mask + bit_of base n < 2 ^ 64
  unfolding bit_of
  added_fits b = add-fits mask (place base n) (bit_no mask base n e) (place_lt base n) b

  pub added_own : is_marked (mask + bit_of base n) base n ≡ true
  unfolding bit_of
  added_own = marked_yes (mask + bit_of base n) base n (add_bit mask (place base n) (bit_no mask base n e))

  pub added_other : (i : ℕ) → In base i → (i ≡ n → ⊥) → is_marked (mask + bit_of base n) base i ≡ is_marked mask base i
  unfolding bit_of
  added_other i g z =
      marked-same (mask + bit_of base n) mask base i (add_other mask (place base n) (bit_no mask base n e) (place base i) (places_differ base i n g h z))

-- the marks with report n: n is marked where it is not past `to`, and nothing else changes
pub with_yes : (base to mask n : ℕ) → n ≤ to → with_mark base to mask n ≡ mask + bit_of base n
unfolding with_mark
with_yes base to mask n h = rw (le-leb n to h)

pub with_no : (base to mask n : ℕ) → to < n → with_mark base to mask n ≡ mask
unfolding with_mark
with_no base to mask n h = rw (lt-leb n to h)

module _ (base to mask n : ℕ) (h : to < base + width) (g : base ≤ n) (e : In base n → is_marked mask base n ≡ false) where
  in_window : n ≤ to → In base n
  in_window l = record { from = g; below = omega arith }

  pub with_own : In base n → is_marked (with_mark base to mask n) base n ≡ leb n to
  with_own i =
      by-lt to n
      (λ l. rw (with_no base to mask n l, lt-leb n to l) (e i))
      (λ l. rw (with_yes base to mask n l, le-leb n to l) (added_own mask base n i (e i)))

  pub with_other : (i : ℕ) → In base i → (i ≡ n → ⊥) → is_marked (with_mark base to mask n) base i ≡ is_marked mask base i
  with_other i j z =
      by-lt to n
      (λ l. rw (with_no base to mask n l))
      (λ l. let k : In base n = in_window l in rw (with_yes base to mask n l) (added_other mask base n k (e k) i j z))

  pub with_fits : mask < 2 ^ 64 → with_mark base to mask n < 2 ^ 64
  with_fits b =
      by-lt to n
      (λ l. rw (with_no base to mask n l) b)
      (λ l. let k : In base n = in_window l in rw (with_yes base to mask n l) (added_fits mask base n k (e k) b))

-- marks that are all before report n', and n'
pub settled_with : (base to mask n n' : ℕ) → to < base + width → base ≤ n' → n < n' → Settled base n mask → Settled base n' (with_mark base to mask n')
settled_with base to mask n n' h g l s =
    let e : In base n' → is_marked mask base n' ≡ false = λ i. s.behind n' i l in
    record {
      in_bits = with_fits base to mask n' h g e s.in_bits;
      behind = λ i j k. with_other base to mask n' h g e i j (λ q. omega (arith, q, k)) ∙ s.behind i j (omega arith);
    }

-- the first mark
pub settled_start : (base to n : ℕ) → to < base + width → base ≤ n → Settled base n (with_mark base to 0 n)
settled_start base to n h g =
    let e : In base n → is_marked 0 base n ≡ false = λ _. marked-none base n in
    record {
      in_bits = with_fits base to 0 n h g e (omega arith);
      behind = λ i j k. with_other base to 0 n h g e i j (λ q. omega (arith, q, k)) ∙ marked-none base i;
    }

-- ---- the bit of a report, the marks of both, the last report marked and the first

pub bit_down : (base n : ℕ) → In base n → 9223372036854775808 / 2 ^ (n - base) ≡ bit_of base n
unfolding bit_of
bit_down base n h = top_down (n - base) (omega (arith, h.from, h.below))

pub both_marked : (mask other base n : ℕ) → is_marked (bit_and mask other) base n ≡ is_marked mask base n && is_marked other base n
unfolding is_marked bit_of
both_marked mask other base n =
    ap (λ (x : ℕ). eqb x 1) (both_bit (place base n) mask other)
    ∙ go (bit mask (place base n)) (bit other (place base n)) (bit_lt mask (place base n)) (bit_lt other (place base n))
  where
    go : (x y : ℕ) → x < 2 → y < 2 → eqb (min x y) 1 ≡ eqb x 1 && eqb y 1
    go x y h i =
        by-eq x 1
        (λ p.
        let z : min x y ≡ y = omega arith in rw (z, p))
        (λ p.
        let z : min x y ≡ 0 = omega (arith, p, h) in
        let o : x ≡ 0 = omega (arith, p, h) in
        rw (z, o))

pub lowest_near : (mask : ℕ) → 0 < mask → mask < 2 ^ 64 → count_trailing_zeros 64 mask < 64
lowest_near mask p h = (lowest_bit 64 mask p h).0

pub last-marked : (base mask : ℕ) → 0 < mask → mask < 2 ^ 64
    → let r = base + (63 - count_trailing_zeros 64 mask) in In base r × (is_marked mask base r ≡ true) × ((n : ℕ) → In base n → is_marked mask base n ≡ true → n ≤ r)
last-marked base mask p h = go (count_trailing_zeros 64 mask) (lowest_bit 64 mask p h).0 (lowest_bit 64 mask p h).1
  where
    go : (t : ℕ) → t < 64 → Lowest mask t
        → In base (base + (63 - t)) × (is_marked mask base (base + (63 - t)) ≡ true) × ((n : ℕ) → In base n → is_marked mask base n ≡ true → n ≤ base + (63 - t))
    go t l w = (
      record { from = omega arith; below = omega arith },
      (let f : place base (base + (63 - t)) ≡ t = omega arith in marked_yes mask base (base + (63 - t)) (ap (bit mask) f ∙ w.own)),
      λ n i e.
          by-lt (place base n) t
          (λ u. absurd (omega (arith, bit_yes mask base n e, w.below (place base n) u)))
          (λ u. omega (arith, u, i.from, i.below)),
    )

-- the first report marked stands as far behind the window's first as the number has leading zeros
pub first_marked : (mask : ℕ) → 0 < mask → mask < 2 ^ 64 → FirstMarked mask (count_leading_zeros 64 mask)
first_marked mask p h = go (count_leading_zeros 64 mask) t.0 t.1 t.2 t.3
  where
    t : (j : ℕ) × (count_leading_zeros 64 mask + suc j ≡ 64) × (2 ^ j ≤ mask) × (mask < 2 ^ suc j)
    t = leading_top 64 mask p h

    go : (z j : ℕ) → z + suc j ≡ 64 → 2 ^ j ≤ mask → mask < 2 ^ suc j → FirstMarked mask z
    go z j e l u = record {
      near = omega arith;
      own = λ base. let f : j ≡ place base (base + z) = omega arith in marked_yes mask base (base + z) (ap (bit mask) (sym f) ∙ top_bit mask j l u);
      before = λ base n a b.
          let f : suc j ≤ place base n = omega arith in
          marked_no mask base n (above_bit mask (place base n) (omega (arith, pow_mono f)));
    }

-- the marks without a report that is marked
module _ (mask first : ℕ) (h : first < width) (e : is_marked mask 0 first ≡ true) where
  own_bit : bit mask (63 - first) ≡ 1
  own_bit = let f : place 0 first ≡ 63 - first = omega arith in ap (bit mask) (sym f) ∙ bit_yes mask 0 first e

  taken : (1 * 2 ^ (63 - first)) % 18446744073709551616 ≡ 2 ^ (63 - first)
  taken = let l : 63 - first < 64 = omega arith in ap (λ (x : ℕ). x % 18446744073709551616) (one-mul (2 ^ (63 - first))) ∙ mod-eq_of_lt (pow-lt l)

  pub taken_le : (1 * 2 ^ (63 - first)) % 18446744073709551616 ≤ mask
  taken_le = rw taken (bit_le mask (63 - first) own_bit)

  pub without_first : Without mask first (mask - (1 * 2 ^ (63 - first)) % 18446744073709551616)
  without_first =
      rw taken
      (record {
        less = omega (arith, pow_pos (63 - first), bit_le mask (63 - first) own_bit);
        marks = λ base n i. by-eq n (base + first) (own base n i) (other base n i);
      })
    where
      own : (base n : ℕ) → In base n → n ≡ base + first → is_marked (mask - 2 ^ (63 - first)) base n ≡ cond (eqb n (base + first)) false (is_marked mask base n)
      own base n i q =
          let f : 63 - first ≡ place base n = omega arith in
          rw (eq-eqb n (base + first) q) (marked_no (mask - 2 ^ (63 - first)) base n (ap (bit (mask - 2 ^ (63 - first))) (sym f) ∙ sub_bit mask (63 - first) own_bit))

      other : (base n : ℕ) → In base n → (n ≡ base + first → ⊥) → is_marked (mask - 2 ^ (63 - first)) base n ≡ cond (eqb n (base + first)) false (is_marked mask base n)
      other base n i z =
          rw (ne_eqb n (base + first) z)
          (marked-same (mask - 2 ^ (63 - first)) mask base n (sub_other mask (63 - first) own_bit (place base n) (λ f. z (omega (arith, f, h, i)))))

-- what is marked without a report was marked before
pub marked-less : {mask z mask' : ℕ} → Without mask z mask' → (base n : ℕ) → In base n → is_marked mask' base n ≡ true → is_marked mask base n ≡ true
marked-less {mask} {z} w base n i e =
    by-eq n (base + z)
    (λ q. absurd (true≢false (sym e ∙ w.marks base n i ∙ rw (eq-eqb n (base + z) q))))
    (λ q. sym (w.marks base n i ∙ rw (ne_eqb n (base + z) q)) ∙ e)
