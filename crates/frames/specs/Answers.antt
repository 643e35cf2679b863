-- How the kinds of calls are coded in a frame, and what a sound query's frame is read as.
use Rattle.std.specs.Prelude.{ℕ, ◌≡◌, ◌<◌, ◌⊎◌, List, Result, MatchResult}
use Rattle.frames.specs.declared.Kind.{Kind}
use Rattle.frames.specs.declared.Kind.TheVariants.{Report, One, All}
use Rattle.frames.specs.declared.UnknownKind.{UnknownKind}
use Rattle.frames.specs.declared.Query.{Query}
use Rattle.frames.specs.Frames.{first_term, query_start}

-- the byte of a kind
abbrev pub byte_of : Kind → ℕ
byte_of Report = 1
byte_of One = 2
byte_of All = 3

-- the kind whose byte this is, or that byte where it is the kind of no call
abbrev pub IsKind : ℕ → Result Kind UnknownKind → Type 0
IsKind b r = MatchResult r (λ k. byte_of k ≡ b) (λ e. (e.0 ≡ b) × ((b ≡ 0) ⊎ (3 < b)))

-- the number from which to list, and where the first term stands
pub record IsQuery (f : List ℕ) (q : Query) : Type 0 where
  pub start : q.start ≡ query_start f
  pub terms : q.terms.at ≡ first_term
