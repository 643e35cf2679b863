-- Stores of several elements, one after the other.
-- Assumes nothing.
use mathlib.Core.Path.{◌≡◌, refl, ◌∙◌}
use mathlib.Core.List.{List, [], ◌∷◌, ◌++◌, append_assoc}
use Prim.Native.Nat.{ℕ, zero, suc, ◌+◌, ◌-◌, ◌≤◌, ◌<◌}
use native.Mathlib.Nat.{add-zero, zero-add}
use native.Mathlib.Numerals.{add-one}
use native.Mathlib.Omega.{arith}
use lib.ListN.{length, get_or, set, drop, replicate, length-set, length-replicate}
use lib.Seq.{sets, sets-eq, drop-drop, set-set, set_comm, get_or-set_same, get_or-set_other}
use borrow.Rule.Slice.PartMut.{put_mid}
use Rattle.basics.proofs.Lists.{drop-replicate}

-- the first of several stores, and those that are left
pub sets-cons : {A : Type 0} (s : List A) (i : ℕ) (x : A) (t : List A) → sets s i (x ∷ t) ≡ sets (set s i x) (i + 1) t
sets-cons s i x t = rw add-one

-- b stored behind a is a ++ b stored at once
pub sets-append : (s : List ℕ) (i : ℕ) (a b : List ℕ) → sets (sets s i a) (i + length a) b ≡ sets s i (a ++ b)
sets-append s i [] b = rw add-zero
sets-append s i (x ∷ a) b =
    let e : i + suc (length a) ≡ suc i + length a = omega arith in
    rw e (sets-append (set s i x) (suc i) a b)

-- the same, where the place behind a is known by an equation
pub sets_behind : (s : List ℕ) (i : ℕ) (a : List ℕ) (j : ℕ) (b : List ℕ) → j ≡ i + length a → sets (sets s i a) j b ≡ sets s i (a ++ b)
sets_behind s i a j b e = rw e (sets-append s i a b)

-- the same for what two calls left
pub sets_two : (s : List ℕ) (i : ℕ) (a b : List ℕ) {t u : List ℕ} {j : ℕ} → t ≡ sets s i a → j ≡ i + length a → u ≡ sets t j b → u ≡ sets s i (a ++ b)
sets_two s i a b p q r = r ∙ rw (p, q) (sets-append s i a b)

-- a list stored at the front of n times a
pub sets_front : {A : Type 0} (s : List A) (n : ℕ) (a : A) → length s ≤ n → sets (replicate n a) 0 s ≡ s ++ replicate (n - length s) a
sets_front s n a h =
    let e : 0 + length s ≤ length (replicate n a) = rw (zero-add, length-replicate) h in
    sets-eq s (replicate n a) 0 e ∙ rw (zero-add, drop-replicate)

-- what a write to the part of k elements from the a-th on leaves
pub put_mid_sets : {A : Type 0} (a k : ℕ) (s z : List A) → length z ≡ k → a + k ≤ length s → put_mid a k s z ≡ sets s a z
put_mid_sets a k s z e h =
    let fits : a + length z ≤ length s = omega arith in
    rw (drop-drop, sets-eq z s a fits, e, append_assoc)

-- ---- stores at several places

module _ {A : Type 0} where
  -- one element stored in front of others
  set_before : (s : List A) (i : ℕ) (x : A) (j : ℕ) (b : List A) → i < j → set (sets s j b) i x ≡ sets (set s i x) j b
  set_before s i x j [] h = refl
  set_before s i x j (y ∷ b) h = set_before (set s j y) i x (suc j) b (omega arith) ∙ rw (set_comm s j i y x (λ e. omega arith))

  -- stores at disjoint places, in either order
  pub sets_comm : (s : List A) (i : ℕ) (a : List A) (j : ℕ) (b : List A) → i + length a ≤ j → sets (sets s j b) i a ≡ sets (sets s i a) j b
  sets_comm s i [] j b h = refl
  sets_comm s i (x ∷ a) j b h = rw (set_before s i x j b (omega arith)) (sets_comm (set s i x) (suc i) a j b (omega arith))

  -- a store over a store at the same place that is as long or longer: the rest of that one stays
  pub sets_over : (s : List A) (i : ℕ) (z a : List A) → length a ≤ length z → sets (sets s i z) i a ≡ sets s i (a ++ drop (length a) z)
  sets_over s i z [] h = refl
  sets_over s i [] (x ∷ a) h = absurd (omega arith)
  sets_over s i (y ∷ z) (x ∷ a) h =
      rw (set_before (set s i y) i x (suc i) z (omega arith), set-set s i y x) (sets_over (set s i x) (suc i) z a (omega arith))

  -- ---- what is read after a store: elsewhere what was there, and there what was stored

  pub get_or-sets_before : (s : List A) (i : ℕ) (a : List A) (k : ℕ) (d : A) → k < i → get_or (sets s i a) k d ≡ get_or s k d
  get_or-sets_before s i [] k d h = refl
  get_or-sets_before s i (x ∷ a) k d h =
      get_or-sets_before (set s i x) (suc i) a k d (omega arith) ∙ get_or-set_other s i k x d (λ e. omega arith)

  pub get_or-sets_after : (s : List A) (i : ℕ) (a : List A) (k : ℕ) (d : A) → i + length a ≤ k → get_or (sets s i a) k d ≡ get_or s k d
  get_or-sets_after s i [] k d h = refl
  get_or-sets_after s i (x ∷ a) k d h =
      get_or-sets_after (set s i x) (suc i) a k d (omega arith) ∙ get_or-set_other s i k x d (λ e. omega arith)

  pub get_or-sets : (s : List A) (i : ℕ) (a : List A) (k : ℕ) (d : A) → k < length a → i + k < length s → get_or (sets s i a) (i + k) d ≡ get_or a k d
  get_or-sets s i [] k d h l = absurd (omega arith)
  get_or-sets s i (x ∷ a) zero d h l =
      rw add-zero (get_or-sets_before (set s i x) (suc i) a i d (omega arith) ∙ get_or-set_same s i x d (omega arith))
  get_or-sets s i (x ∷ a) (suc k) d h l =
      let e : i + suc k ≡ suc i + k = omega arith in
      rw e (get_or-sets (set s i x) (suc i) a k d (omega arith) (simp length-set (omega arith)))
