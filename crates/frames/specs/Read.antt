-- What reading a report's frame leaves to those who look its lines up.
use Rattle.std.specs.Prelude.{◌≡◌, ℕ, ◌+◌, ◌≤◌, List, ◌++◌, map, length, get_or, take, drop}
use Rattle.terms.specs.Terms.{fnv1a}
use Rattle.frames.specs.Frames.{count_bytes, first_line, Field, fields, lines, folded_at}

-- the bytes of `names` that stand where the term of the field at an offset stands in the frame
unfoldable pub name_at : List ℕ → List ℕ → ℕ → List ℕ
name_at f names at = take (get_or f at 0) (drop (at + 1) names)

-- from an offset on, each line's folded term stands there
abbrev pub Folds : List ℕ → List ℕ → ℕ → Type 0
Folds f names at = map (name_at f names) (fields count_bytes f at) ≡ map (folded_at f) (fields count_bytes f at)

-- a whole line starts at an offset, and its folded term stands there
pub record LineAt (f names : List ℕ) (at : ℕ) : Type 0 where
  pub whole : Field count_bytes f at
  pub folds : name_at f names at ≡ folded_at f at

-- more than a frame has lines: each has 5 bytes or more, and 4,095 follow the kind
abbrev pub max_lines : ℕ
max_lines = 820

-- the hashes of lines
unfoldable pub hashes_of : List ℕ → List ℕ → List ℕ
hashes_of f ats = map (λ at. fnv1a (folded_at f at)) ats

-- from the n-th on, `hashes` has those of the lines from an offset on
pub record Hashed (f : List ℕ) (at n : ℕ) (hashes : List ℕ) : Type 0 where
  pub rest : List ℕ
  pub is : drop n hashes ≡ hashes_of f (fields count_bytes f at) ++ rest

pub record Read (f names hashes : List ℕ) : Type 0 where
  pub room : length f ≤ length names
  pub folds : Folds f names first_line
  pub hashed : Hashed f first_line 0 hashes
  pub few : length (lines f) ≤ max_lines
