-- Laws of the tests on lists, and of parts of lists.
-- Assumes nothing.
use Prim.Native.Nat.{ℕ, zero, suc, ◌+◌, ◌<◌}
use mathlib.Core.Path.{◌≡◌, refl}
use mathlib.Core.Bool.{Bool, true, false, ◌&&◌, ◌||◌}
use mathlib.Core.List.{List, [], ◌∷◌, ◌++◌, map}
use native.Mathlib.Omega.{arith}
use native.Mathlib.Nat.{le_of_suc-le-suc}
use Rattle.std.proofs.lemmas.Slice.Eq.{bytes_eq-Decides}
use lib.ListN.{length, get_or, take, drop}
pub use lib.Seq.{take-nil}
pub use Rattle.std.proofs.lemmas.List.{drop-replicate}
use Rattle.std.proofs.lemmas.List.{take_more}
use Rattle.std.proofs.lemmas.Bool.{false_from_ne_true}
use Rattle.std.proofs.lemmas.List.Folds.{list_all-append, list_all-map}
use Rattle.basics.specs.Lists.{all, keep, same}

-- ---- conjunctions

pub and_left : (a b : Bool) → a && b ≡ true → a ≡ true
and_left true b e = refl
and_left false b e = e

pub and_right : (a b : Bool) → a && b ≡ true → b ≡ true
and_right true b e = e
and_right false b e = cc

pub and-false : (a : Bool) → a && false ≡ false
and-false true = refl
and-false false = refl

pub and-true : (a : Bool) → a && true ≡ a
and-true true = refl
and-true false = refl

-- ---- a test at every element

module _ {A : Type 0} (f : A → Bool) where
  -- a test that passes at all elements passes at each
  pub all-at : (s : List A) (d : A) → all f s ≡ true → (i : ℕ) → i < length s → f (get_or s i d) ≡ true
  unfolding all
  all-at [] d e i h = absurd (omega arith)
  all-at (x ∷ s) d e zero h = and_left (f x) (all f s) e
  all-at (x ∷ s) d e (suc i) h = all-at s d (and_right (f x) (all f s) e) i (le_of_suc-le-suc h)

  -- the test at the elements of two lists, one behind the other
  pub all_append : (s t : List A) → all f (s ++ t) ≡ all f s && all f t
  unfolding all
  all_append s t = list_all-append f s t

  -- the test at one element more
  pub all_more : (s : List A) (d : A) (i : ℕ) → i < length s → all f (take (i + 1) s) ≡ (all f (take i s) && f (get_or s i d))
  unfolding all
  all_more s d i h = rw (take_more s i d h, all_append, and-true)

  -- the test at what a map makes of each element
  pub all_map : {B : Type 0} (g : B → A) (s : List B) → all f (map g s) ≡ all (λ x. f (g x)) s
  unfolding all
  all_map g s = list_all-map f g s

-- ---- the elements that a test keeps

module _ {A : Type 0} (f : A → Bool) where
  -- an element that passes is kept, another is left out
  pub keep_passes : (x : A) (s : List A) → f x ≡ true → keep f (x ∷ s) ≡ x ∷ keep f s
  unfolding keep
  keep_passes x s e = rw e

  pub keep_fails : (x : A) (s : List A) → f x ≡ false → keep f (x ∷ s) ≡ keep f s
  unfolding keep
  keep_fails x s e = rw e

  -- tests that agree keep the same
  pub keep_agrees : (g : A → Bool) → ((x : A) → f x ≡ g x) → (s : List A) → keep f s ≡ keep g s
  unfolding keep
  keep_agrees g e [] = refl
  keep_agrees g e (x ∷ s) = rw (e x, keep_agrees g e s)

-- ---- a map of a part

module _ {A B : Type 0} (f : A → B) where
  pub map-take : (i : ℕ) (s : List A) → map f (take i s) ≡ take i (map f s)
  map-take zero s = refl
  map-take (suc i) [] = refl
  map-take (suc i) (x ∷ s) = rw (map-take i s)

  pub map-drop : (i : ℕ) (s : List A) → map f (drop i s) ≡ drop i (map f s)
  map-drop zero s = refl
  map-drop (suc i) [] = refl
  map-drop (suc i) (x ∷ s) = map-drop i s

-- ---- disjunctions

pub or_left : (a b : Bool) → a || b ≡ false → a ≡ false
or_left true b e = e
or_left false b e = refl

pub or_right : (a b : Bool) → a || b ≡ false → b ≡ false
or_right true b e = cc
or_right false b e = e

-- ---- the same list

pub same_eq : (s t : List ℕ) → same s t ≡ true → s ≡ t
unfolding same
same_eq s t = (bytes_eq-Decides s t).0

pub eq_same : (s t : List ℕ) → s ≡ t → same s t ≡ true
unfolding same
eq_same s t = (bytes_eq-Decides s t).1

pub same_refl : (s : List ℕ) → same s s ≡ true
same_refl s = eq_same s s refl

-- lists that differ fail the test
pub ne_same : (s t : List ℕ) → (s ≡ t → ⊥) → same s t ≡ false
ne_same s t n = false_from_ne_true (same s t) (λ e. n (same_eq s t e))
