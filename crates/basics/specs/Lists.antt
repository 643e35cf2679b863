-- Tests on lists.
use Rattle.std.specs.Prelude.{ℕ, List, Bool}
use Rattle.std.specs.Str.{bytes_eq}
use Rattle.std.specs.List.{list_all, list_any, filter}

module _ {A : Type 0} where
  -- the test passes at every element
  unfoldable pub all : (A → Bool) → List A → Bool
  all f s = list_all f s

  -- the test passes at some element
  unfoldable pub any : (A → Bool) → List A → Bool
  any f s = list_any f s

  -- the elements at which the test passes
  unfoldable pub keep : (A → Bool) → List A → List A
  keep f s = filter f s

-- two lists of numbers are the same
unfoldable pub same : List ℕ → List ℕ → Bool
same s t = bytes_eq s t
