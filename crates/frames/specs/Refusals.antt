-- A table of refusals: numbers with their conditions, in the order in which they are judged.
use Rattle.std.specs.Prelude.{ℕ, List, [], ◌∷◌, Bool, cond}

pub record Row : Type 0 where
  pub number : ℕ
  pub holds : Bool

infix 10 ◌if◌
abbrev pub ◌if◌ : ℕ → Bool → Row
n if b = record { number = n; holds = b }

-- the number of the first row whose condition holds; 0 where none does
unfoldable pub first_of : List Row → ℕ
first_of [] = 0
first_of (r ∷ rs) = cond r.holds r.number (first_of rs)
