-- What is made of the elements of one list and stands at the front of another, one element after the other.
-- Assumes nothing.
use mathlib.Core.Path.{◌≡◌}
use mathlib.Core.List.{List, [], ◌∷◌, ◌++◌}
use Prim.Native.Nat.{ℕ, ◌+◌, ◌<◌}
use lib.ListN.{length, get_or, set, take}
use Rattle.std.specs.List.{AllZip}
use Rattle.std.proofs.lemmas.List.{take_more, take_more_set}
use Rattle.std.proofs.lemmas.Slice.Zip.{all_zipped_more}

module _ {A B : Type 0} where
  -- one element more
  pub mapped_more : (R : A → B → Type 0) (from : List A) (to : List B) (i : ℕ) (x : A) (y : B)
      → i < length from → i < length to → x ≡ get_or from i x → AllZip R (take i from) (take i to) → R x y
      → AllZip R (take (i + 1) from) (take (i + 1) (set to i y))
  mapped_more R from to i x y h l e so_far new =
      let met : take (i + 1) from ≡ take i from ++ x ∷ [] = rw e (take_more from i x h) in
      rw (met, take_more_set to i y l) (all_zipped_more R (take i from) (take i to) x y so_far new)
