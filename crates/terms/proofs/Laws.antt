-- What the crates above use of terms, their folding and their hash.
-- Assumes nothing.
use mathlib.Core.Path.{◌≡◌, refl, sym, ap, ◌∙◌}
use mathlib.Core.Bool.{not, true, false, ◌&&◌}
use mathlib.Core.List.{List, [], ◌∷◌, ◌++◌, map}
use Prim.Native.Nat.{ℕ, ◌+◌, ◌^◌, ◌≤◌, ◌<◌}
use native.Mathlib.Nat.{zero-add}
use native.Mathlib.Omega.{arith}
use borrow.Author.Tests.{leb-true, le-leb}
use lib.Dec.{eqb, leb, ltb}
use lib.ListN.{length, get_or, set, take, length-map, length-take, get_or-map}
use lib.Seq.{sets, sets-eq, take_at}
use Rattle.basics.specs.Lists.{all}
use Rattle.basics.proofs.Stores.{sets_behind}
use Rattle.basics.proofs.Lists.{and_left, and_right, all-at}
use Rattle.std.specs.List.{fold}
use Rattle.std.proofs.lemmas.Bool.Decides.{nat_tests}
use Rattle.std.proofs.lemmas.List.{take_more, map-append}
use Rattle.std.proofs.lemmas.List.Sums.{fold_push}
use Rattle.terms.specs.Terms.{max_term, allowed, capital, fold_byte, folded, is_term, mixed, fnv1a, judged_as}

-- ---- a byte

-- the allowed bytes are those from 21 to 7E
pub allowed_range : (b : ℕ) → allowed b ≡ true → (0x21 ≤ b) × (b ≤ 0x7e)
unfolding allowed
allowed_range b e = grind (arith, nat_tests)

-- an allowed byte does not fold to 0
pub allowed-fold_pos : (b : ℕ) → allowed b ≡ true → 0 < fold_byte b
unfolding fold_byte allowed capital
allowed-fold_pos b e = grind (arith, nat_tests)

pub allowed_not-zero : (b : ℕ) → not (eqb (fold_byte b) 0) ≡ allowed b
unfolding fold_byte allowed capital
allowed_not-zero b = grind (arith, nat_tests)

-- a folded byte is a byte
pub fold_byte_lem : (b : ℕ) → fold_byte b < 256
unfolding fold_byte allowed capital
fold_byte_lem b = grind (arith, nat_tests)

-- folding twice is folding once
pub fold-fold : (b : ℕ) → fold_byte (fold_byte b) ≡ fold_byte b
unfolding fold_byte allowed capital
fold-fold b = grind (arith, nat_tests)

-- ---- a list of bytes

-- folding keeps the length
pub length-folded : (s : List ℕ) → length (folded s) ≡ length s
unfolding folded
length-folded s = length-map s fold_byte

-- one byte
pub folded-at : (s : List ℕ) (i : ℕ) → get_or (folded s) i 0 ≡ fold_byte (get_or s i 0)
unfolding folded fold_byte allowed
folded-at s i = get_or-map fold_byte s i 0

-- stored at the front of a list they are its front
pub folded_front : (s into : List ℕ) {after : List ℕ} → after ≡ sets into 0 (folded s) → length s ≤ length into → take (length s) after ≡ folded s
folded_front s into e h =
    let l : 0 + length (folded s) ≤ length into = rw (zero-add, length-folded s) h in
    ap (take (length s)) (e ∙ sets-eq (folded s) into 0 l) ∙ take_at (folded s) _ (length s) (length-folded s)

-- folding twice is folding once
pub folded-folded : (s : List ℕ) → folded (folded s) ≡ folded s
unfolding folded
folded-folded [] = refl
folded-folded (b ∷ s) = rw (fold-fold b, folded-folded s)

-- ---- a term

-- a term has 1 to 36 bytes
pub term-length : (s : List ℕ) → is_term s ≡ true → (1 ≤ length s) × (length s ≤ max_term)
unfolding is_term
term-length s e =
    let l = and_left (leb 1 (length s) && leb (length s) max_term) (all allowed s) e in (
      leb-true 1 (length s) (and_left (leb 1 (length s)) (leb (length s) max_term) l),
      leb-true (length s) max_term (and_right (leb 1 (length s)) (leb (length s) max_term) l),
    )

-- and all of them are allowed
pub term-allowed : (s : List ℕ) → is_term s ≡ true → all allowed s ≡ true
unfolding is_term
term-allowed s e = and_right (leb 1 (length s) && leb (length s) max_term) (all allowed s) e

pub term-allowed-at : (s : List ℕ) → is_term s ≡ true → (i : ℕ) → i < length s → allowed (get_or s i 0) ≡ true
term-allowed-at s e = all-at allowed s 0 (term-allowed s e)

-- 1 to 36 bytes are a term exactly when all are allowed
pub is_term-allowed : (s : List ℕ) → 1 ≤ length s → length s ≤ max_term → is_term s ≡ all allowed s
unfolding is_term
is_term-allowed s l h = rw (le-leb 1 (length s) l, le-leb (length s) max_term h)

-- a list of more bytes than a term has is none
pub is_term_long : (s : List ℕ) → max_term < length s → is_term s ≡ false
unfolding is_term
is_term_long s h = grind (arith, nat_tests)

-- the folded bytes of a term are from 1 to 255
pub term_byte : (s : List ℕ) → is_term s ≡ true → (i : ℕ) → i < length s → (0 < get_or (folded s) i 0) × (get_or (folded s) i 0 < 256)
term_byte s e i h = rw (folded-at s i) (allowed-fold_pos (get_or s i 0) (term-allowed-at s e i h), fold_byte_lem (get_or s i 0))

-- ---- the hash

-- a hash has 32 bits
pub mixed_small : (hash b : ℕ) → mixed hash b < 2 ^ 32
unfolding mixed
mixed_small hash b = omega arith

pub mixed_all_small : (hash : ℕ) (s : List ℕ) → hash < 2 ^ 32 → fold mixed hash s < 2 ^ 32
mixed_all_small hash [] h = h
mixed_all_small hash (b ∷ s) h = mixed_all_small (mixed hash b) s (mixed_small hash b)

pub fnv1a_small : (s : List ℕ) → fnv1a s < 2 ^ 32
unfolding fnv1a
fnv1a_small s = mixed_all_small 2166136261 s (omega arith)

-- ---- bytes folded and judged in one pass

-- a byte is allowed exactly when it does not fold to 0
pub allowed_pos : (b : ℕ) → ltb 0 (fold_byte b) ≡ allowed b
unfolding fold_byte allowed capital
allowed_pos b = grind (arith, nat_tests)

-- one byte more of a list: folded, stored behind those before it, and mixed into their hash
module _ (s : List ℕ) (i : ℕ) (h : i < length s) where
  folded_more : folded (take (i + 1) s) ≡ folded (take i s) ++ (fold_byte (get_or s i 0) ∷ [])
  unfolding folded
  folded_more = ap (map fold_byte) (take_more s i 0 h) ∙ map-append fold_byte (take i s) (get_or s i 0 ∷ [])

  pub stored_more : (into : List ℕ) → set (sets into 0 (folded (take i s))) i (fold_byte (get_or s i 0)) ≡ sets into 0 (folded (take (i + 1) s))
  stored_more into =
      let e : i ≡ 0 + length (folded (take i s)) = rw (zero-add, length-folded, length-take) (omega arith) in
      sets_behind into 0 (folded (take i s)) i (fold_byte (get_or s i 0) ∷ []) e ∙ ap (sets into 0) (sym folded_more)

  pub mixed_more : mixed (fold mixed 2166136261 (folded (take i s))) (fold_byte (get_or s i 0)) ≡ fold mixed 2166136261 (folded (take (i + 1) s))
  mixed_more = sym (ap (fold mixed 2166136261) folded_more ∙ fold_push mixed 2166136261 (folded (take i s)) (fold_byte (get_or s i 0)))

pub judged_term : (s : List ℕ) → (judged_as s).term ≡ is_term s
unfolding judged_as
judged_term s = refl

pub judged_hash : (s : List ℕ) → (judged_as s).hash ≡ fnv1a (folded s)
unfolding judged_as
judged_hash s = refl
