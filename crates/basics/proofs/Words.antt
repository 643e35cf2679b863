-- Laws of 32-bit numbers in four bytes.
-- Assumes nothing.
use mathlib.Core.Path.{◌≡◌, refl, ◌∙◌}
use mathlib.Core.List.{List, ◌++◌}
use Prim.Native.Nat.{ℕ, zero, suc, ◌+◌, ◌*◌, ◌/◌, ◌%◌, ◌^◌, ◌≤◌, ◌<◌}
use native.Mathlib.Nat.{add-zero, add_assoc}
use native.Mathlib.Omega.{arith}
use lib.ListN.{length, get_or}
use lib.Seq.{sets, set-get_or}
use Rattle.basics.specs.Words.{word, word_at}
use Rattle.basics.proofs.Stores.{get_or-sets, get_or-sets_before, get_or-sets_after}

-- a number takes four bytes
pub length-word : (n : ℕ) → length (word n) ≡ 4
unfolding word
length-word n = refl

-- each of them below 256, for a number of 32 bits
pub word_byte : (n : ℕ) → n < 2 ^ 32 → (i : ℕ) → get_or (word n) i 0 < 256
unfolding word
word_byte n h zero = omega arith
word_byte n h (suc zero) = omega arith
word_byte n h (suc (suc zero)) = omega arith
word_byte n h (suc (suc (suc zero))) = omega arith
word_byte n h (suc (suc (suc (suc i)))) = omega arith

-- the number is read back from its bytes at the front
pub word_at_front : (n : ℕ) (s : List ℕ) → word_at (word n ++ s) 0 ≡ n
unfolding word word_at
word_at_front n s = omega arith

-- ---- a number read after a store

-- at a place below or past it, what was there
pub word_at-before : (s : List ℕ) (i : ℕ) (a : List ℕ) (at : ℕ) → at + 4 ≤ i → word_at (sets s i a) at ≡ word_at s at
unfolding word_at
word_at-before s i a at h =
    rw (
      get_or-sets_before s i a at 0 (omega arith),
      get_or-sets_before s i a (at + 1) 0 (omega arith),
      get_or-sets_before s i a (at + 2) 0 (omega arith),
      get_or-sets_before s i a (at + 3) 0 (omega arith),
    )

pub word_at_after : (s : List ℕ) (i : ℕ) (a : List ℕ) (at : ℕ) → i + length a ≤ at → word_at (sets s i a) at ≡ word_at s at
unfolding word_at
word_at_after s i a at h =
    rw (
      get_or-sets_after s i a at 0 (omega arith),
      get_or-sets_after s i a (at + 1) 0 (omega arith),
      get_or-sets_after s i a (at + 2) 0 (omega arith),
      get_or-sets_after s i a (at + 3) 0 (omega arith),
    )

-- at a place within it, what stands there in the list that was stored
pub word_at-within : (s : List ℕ) (i : ℕ) (a : List ℕ) (k : ℕ) → k + 4 ≤ length a → i + length a ≤ length s → word_at (sets s i a) (i + k) ≡ word_at a k
unfolding word_at
word_at-within s i a k h l =
    simp (
      add_assoc,
      get_or-sets s i a k 0 (omega arith) (omega arith),
      get_or-sets s i a (k + 1) 0 (omega arith) (omega arith),
      get_or-sets s i a (k + 2) 0 (omega arith) (omega arith),
      get_or-sets s i a (k + 3) 0 (omega arith) (omega arith),
    )

-- a number stored is read back
pub word_at-stored : (s : List ℕ) (at n : ℕ) → at + 4 ≤ length s → word_at (sets s at (word n)) at ≡ n
unfolding word word_at
word_at-stored s at n h =
    let e = word_at-within s at (word n) 0 (omega arith) (omega arith) in
    (rw add-zero at e) ∙ omega arith

-- bytes that hold a number are left as they are where it is stored again
pub word_again : (s : List ℕ) (at : ℕ) → ((i : ℕ) → get_or s i 0 < 256) → sets s at (word (word_at s at)) ≡ s
unfolding word word_at
word_again s at byte =
    let b₀ = get_or s at 0 in
    let b₁ = get_or s (at + 1) 0 in
    let b₂ = get_or s (at + 2) 0 in
    let b₃ = get_or s (at + 3) 0 in
    let n = b₀ * 16777216 + b₁ * 65536 + b₂ * 256 + b₃ in
    let h₁ = byte (at + 1) in
    let h₂ = byte (at + 2) in
    let h₃ = byte (at + 3) in
    let e₀ : n / 16777216 ≡ b₀ = omega arith in
    let e₁ : n / 65536 % 256 ≡ b₁ = omega arith in
    let e₂ : n / 256 % 256 ≡ b₂ = omega arith in
    let e₃ : n % 256 ≡ b₃ = omega arith in
    let p₁ : suc at ≡ at + 1 = omega arith in
    let p₂ : suc (at + 1) ≡ at + 2 = omega arith in
    let p₃ : suc (at + 2) ≡ at + 3 = omega arith in
    rw (e₀, e₁, e₂, e₃, set-get_or s at 0, p₁, set-get_or s (at + 1) 0, p₂, set-get_or s (at + 2) 0, p₃, set-get_or s (at + 3) 0)
