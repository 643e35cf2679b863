-- Laws of a value's code, and of reading a value.
-- Assumes nothing.
use mathlib.Core.Path.{◌≡◌, refl, ap, ◌∙◌}
use mathlib.Core.List.{List, [], ◌∷◌, ◌++◌}
use mathlib.Core.Logic.{◌⊎◌, inl, inr}
use Prim.Native.Nat.{ℕ, zero, suc, ◌+◌, ◌-◌, ◌*◌, ◌/◌, ◌%◌, ◌^◌, ◌≤◌, ◌<◌}
use native.Mathlib.Omega.{arith}
use native.Mathlib.Numerals.{add-one}
use lib.ListN.{length, drop, set}
use lib.Seq.{sets}
use native.Mathlib.Nat.{mul-suc}
use lib.Pow.{pow-add, pow_pos, pow_mono}
use borrow.Author.Tests.{lt-ltb, le-ltb}
use Rattle.basics.proofs.Cases.{by-lt}
use Rattle.std.specs.Prelude.{None}
use Rattle.postings.specs.Coding.{groups, vbyte, valued, onto, value, code_length}

-- ---- the two steps of a code

-- any bound that is enough gives the same bytes
agree : (k j n : ℕ) → n ≤ k → n ≤ j → groups k n ≡ groups j n
unfolding groups
agree zero zero n h h' = refl
agree zero (suc j) n h h' = rw (lt-ltb n 128 (omega arith))
agree (suc k) zero n h h' = rw (lt-ltb n 128 (omega arith))
agree (suc k) (suc j) n h h' =
    by-lt n 128 (λ l. rw (lt-ltb n 128 l))
    (λ l. rw (le-ltb n 128 l) (ap (λ (s : List ℕ). (128 + n % 128) ∷ s) (agree k j (n / 128) (omega arith) (omega arith))))

pub last : (n : ℕ) → n < 128 → vbyte n ≡ n ∷ []
unfolding groups vbyte
last zero h = refl
last (suc n) h = rw (lt-ltb (suc n) 128 h)

pub more : (n : ℕ) → 128 ≤ n → vbyte n ≡ (128 + n % 128) ∷ vbyte (n / 128)
unfolding groups vbyte
more zero h = absurd (omega arith)
more (suc n) h =
    rw (le-ltb (suc n) 128 h)
    (ap (λ (s : List ℕ). (128 + suc n % 128) ∷ s) (agree n (suc n / 128) (suc n / 128) (omega arith) (omega arith)))

-- what holds of a value below 128, and of a value if it does of the 128th part, holds of every value
pub by_bytes : (P : ℕ → Type 0) → ((n : ℕ) → n < 128 → P n) → ((n : ℕ) → 128 ≤ n → P (n / 128) → P n) → (n : ℕ) → P n
by_bytes P one step n = go n n (omega arith)
  where
    go : (k n : ℕ) → n ≤ k → P n
    go zero n h = one n (omega arith)
    go (suc k) n h = by-lt n 128 (one n) (λ l. step n l (go k (n / 128) (omega arith)))

-- ---- reading a value

module _ (b : ℕ) (s : List ℕ) where
  pub value-last : 0 < b → b < 128 → value (b ∷ s) ≡ valued b 1
  unfolding value
  value-last p h = rw (lt-ltb b 128 h, lt-ltb 0 b p)

  pub value_more : 128 ≤ b → b < 256 → value (b ∷ s) ≡ onto b (value s)
  unfolding value
  value_more p h = rw (le-ltb b 128 p, lt-ltb b 256 h)

  pub value-zero : b ≡ 0 → value (b ∷ s) ≡ None
  unfolding value
  value-zero e = rw e

  pub value-over : 256 ≤ b → value (b ∷ s) ≡ None
  unfolding value
  value-over h = rw (le-ltb b 128 (omega arith), le-ltb b 256 h)

pub onto-number : (b v l : ℕ) → onto b (valued v l) ≡ valued (b - 128 + 128 * v) (l + 1)
unfolding onto
onto-number b v l = refl

pub onto-none : (b : ℕ) → onto b None ≡ None
unfolding onto
onto-none b = refl

-- a value's code, with anything after it, is read as the value
pub value-vbyte : (n : ℕ) → 0 < n → (s : List ℕ) → value (vbyte n ++ s) ≡ valued n (length (vbyte n))
value-vbyte =
    by_bytes (λ (n : ℕ). 0 < n → (s : List ℕ) → value (vbyte n ++ s) ≡ valued n (length (vbyte n)))
    (λ n h p s. rw (last n h) (value-last n s p h))
    (λ n h ih p s.
    let m : List ℕ = vbyte (n / 128) in
    let e : 128 + n % 128 - 128 + 128 * (n / 128) ≡ n = omega arith in
    rw (more n h)
    (value_more (128 + n % 128) (m ++ s) (omega arith) (omega arith) ∙ ap (onto (128 + n % 128)) (ih (omega arith) s)
    ∙ onto-number (128 + n % 128) (n / 128) (length m) ∙ rw (e, add-one)))

-- what a value that was read says of the bytes
pub record Front (s : List ℕ) (v l : ℕ) : Type 0 where
  pub pos : 0 < v
  pub len : l ≡ length (vbyte v)
  pub bytes : s ≡ vbyte v ++ drop l s

abbrev pub View : List ℕ → Type 0
View s = (value s ≡ None) ⊎ ((v : ℕ) × (l : ℕ) × (value s ≡ valued v l) × Front s v l)

vbyte-onto : (b v : ℕ) → 128 ≤ b → b < 256 → 0 < v → vbyte (b - 128 + 128 * v) ≡ b ∷ vbyte v
vbyte-onto b v h h' p =
    let d : (b - 128 + 128 * v) / 128 ≡ v = omega arith in
    let m : 128 + (b - 128 + 128 * v) % 128 ≡ b = omega arith in
    more (b - 128 + 128 * v) (omega arith) ∙ rw (d, m)

view_onto : (b : ℕ) (s : List ℕ) → 128 ≤ b → b < 256 → View s → View (b ∷ s)
view_onto b s h h' (inl e) = inl (value_more b s h h' ∙ ap (onto b) e ∙ onto-none b)
view_onto b s h h' (inr t) =
    let v : ℕ = t.0 in
    let l : ℕ = t.1 in
    let f : Front s v l = t.3 in
    let e : vbyte (b - 128 + 128 * v) ≡ b ∷ vbyte v = vbyte-onto b v h h' f.pos in
    let p : 0 < v = f.pos in
    inr (
      b - 128 + 128 * v,
      l + 1,
      value_more b s h h' ∙ ap (onto b) t.2 ∙ onto-number b v l,
      record {
        pos = omega arith;
        len = rw (e, add-one) (ap suc f.len);
        bytes = rw (e, add-one) (ap (λ (r : List ℕ). b ∷ r) f.bytes);
      },
    )

pub view : (s : List ℕ) → View s
unfolding value
view [] = inl refl
view (b ∷ s) =
    by-lt b 128
    (λ h. by-lt 0 b
    (λ p. inr (b, 1, value-last b s p h, record { pos = p; len = rw (last b h); bytes = rw (last b h) }))
    (λ p. inl (value-zero b s (omega arith))))
    (λ h. by-lt b 256 (λ h'. view_onto b s h h' (view s)) (λ h'. inl (value-over b s h')))

-- ---- the length of a code

pub length_last : (n : ℕ) → n < 128 → length (vbyte n) ≡ 1
length_last n h = rw (last n h)

pub length_more : (n : ℕ) → 128 ≤ n → length (vbyte n) ≡ length (vbyte (n / 128)) + 1
length_more n h = rw (more n h, add-one)

pub length_pos : (n : ℕ) → 0 < length (vbyte n)
length_pos n = by-lt n 128 (λ h. omega (arith, length_last n h)) (λ h. omega (arith, length_more n h))

-- a store of the first byte of a code, and the rest stored after it
pub sets_last : (s : List ℕ) (i n : ℕ) → n < 128 → set s i n ≡ sets s i (vbyte n)
sets_last s i n h = rw (last n h)

pub sets_more : (s : List ℕ) (i n : ℕ) → 128 ≤ n → sets (set s i (128 + n % 128)) (i + 1) (vbyte (n / 128)) ≡ sets s i (vbyte n)
sets_more s i n h = rw (more n h, add-one)

-- a value of more than 7 k bits and at most 7 (k + 1) takes k + 1 bytes
pub length-is : (k n : ℕ) → 2 ^ (7 * k) ≤ n → n < 2 ^ (7 * k + 7) → length (vbyte n) ≡ k + 1
length-is zero n lo hi = length_last n hi
length-is (suc k) n lo hi =
    let e : 2 ^ (7 * suc k) ≡ 2 ^ (7 * k) * 128 = ap (λ (x : ℕ). 2 ^ x) (mul-suc 7 k) ∙ pow-add 2 (7 * k) 7 in
    let e' : 2 ^ (7 * suc k + 7) ≡ 2 ^ (7 * suc k) * 128 = pow-add 2 (7 * suc k) 7 in
    let e'' : 2 ^ (7 * k + 7) ≡ 2 ^ (7 * k) * 128 = pow-add 2 (7 * k) 7 in
    let p : 0 < 2 ^ (7 * k) = pow_pos (7 * k) in
    rw (more n (omega arith), length-is k (n / 128) (omega arith) (omega arith)) (omega arith)

-- a value of at most 7 (k + 1) bits takes at most k + 1 bytes
pub length_le : (k n : ℕ) → n < 2 ^ (7 * k + 7) → length (vbyte n) ≤ k + 1
length_le zero n h = omega (arith, length_last n h)
length_le (suc k) n h =
    let e : 2 ^ (7 * suc k + 7) ≡ 2 ^ (7 * k + 7) * 128 = ap (λ (x : ℕ). 2 ^ (x + 7)) (mul-suc 7 k) ∙ pow-add 2 (7 * k + 7) 7 in
    by-lt n 128 (λ u. omega (arith, length_last n u)) (λ u. omega (arith, length_more n u, length_le k (n / 128) (omega arith)))

-- a value of m bits takes code_length m bytes
pub length_bits : (m n : ℕ) → n < 2 ^ m → 2 ^ m ≤ 2 * n + 1 → length (vbyte n) ≡ code_length m
unfolding code_length
length_bits zero n hi lo = length_last n (omega arith)
length_bits (suc m) n hi lo =
    let k : ℕ = m / 7 in
    let a : 2 ^ (7 * (m / 7)) ≤ 2 ^ m = pow_mono (omega arith) in
    let b : 2 ^ suc m ≤ 2 ^ (7 * (m / 7) + 7) = pow_mono (omega arith) in
    length-is (m / 7) n (omega arith) (omega arith) ∙ omega arith
