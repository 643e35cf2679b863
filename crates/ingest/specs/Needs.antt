-- What the private functions of this crate need of the memory that they are lent, once refusals 8 and 9 are past, and
-- how they make plans, write a line and refuse.
use Rattle.std.specs.Prelude.{ℕ, ◌+◌, ◌≤◌, ◌<◌, ◌≡◌, Result, Ok, Err, MatchResult, true, false, cond, List, [], ◌∷◌, eqb}
use Rattle.frames.specs.Frames.{max_body, Line}
use Rattle.frames.specs.Refusals.{first_of}
use Rattle.refusals.specs.declared.Refusal.{Refusal}
use Rattle.refusals.specs.declared.Refusal.TheVariants.{Damaged}
use Rattle.lookup.specs.declared.Found.{Found}
use Rattle.lookup.specs.declared.Found.TheVariants.{At, Unknown}
use Rattle.blocks.specs.declared.Head.{Head}
use Rattle.blocks.specs.Fields.{max_word, capacity, head_of}
use Rattle.counters.specs.declared.Counters.{Counters}
use Rattle.counters.specs.Counters.{Memory, memory, max_terms}
use Rattle.ingest.specs.declared.Place.{Place}
use Rattle.ingest.specs.declared.Plan.{Plan}
use Rattle.ingest.specs.declared.Stopped.{Stopped}
use Rattle.ingest.specs.declared.Taken.{Taken}
use Rattle.ingest.specs.Report.{damaged_head, Placed, terms_for, blocks_for, Needed, plan_of, plan_rows, written, Writing, wrote_as}

-- the used blocks lie in the arena, and another report can be numbered
pub record Room (a : List ℕ) (k : Counters) : Type 0 where
  pub inside : k.used ≤ capacity a
  pub numbered : k.reports < max_word

-- and the terms held are no more than the table allows
pub record Held (a table : List ℕ) (k : Counters) : Type 0 where
  pub room : Room a k
  pub few : k.terms ≤ max_terms table

-- what judging a known term's head comes to: its fields where it is sound, else damage
abbrev pub HeadIs : List ℕ → Counters → ℕ → Result Head Refusal → Type 0
HeadIs a k h r =
    MatchResult r (λ d. (d ≡ head_of a h) × (damaged_head a k h d ≡ false)) (λ e. (e ≡ Damaged) × (damaged_head a k h (head_of a h) ≡ true))

-- a head found is a used block
abbrev pub Below : ℕ → Found → Type 0
Below used (At h) = h < used
Below used (Unknown s) = Unit {0}

-- a plan with one line more
unfoldable pub with_place : Plan → Place → Plan
with_place n p = record { terms = n.terms + terms_for (Ok p); blocks = n.blocks + blocks_for (Ok p) }

-- the needs of lines that are not damaged
abbrev pub needed : Plan → Needed
needed p = record { damaged = false; terms = p.terms; blocks = p.blocks }

-- a plan of what lines need, or damage where one of them is damaged
abbrev pub Plans : Needed → Result Plan Refusal → Type 0
Plans n r = MatchResult r (λ p. (n ≡ needed p) × (p.terms ≤ max_body)) (λ e. (e ≡ Damaged) × (n.damaged ≡ true))

-- one line at its place, judged on its own: it is written where neither 10, 11 nor 12 holds, else writing stops there
unfoldable pub write_one : Memory → ℕ → Line → Placed → Writing
write_one m n l p =
    cond (eqb (first_of (plan_rows m (plan_of (p ∷ [])))) 0) (wrote_as (written m n l p) false) (wrote_as m true)

-- what a function that writes leaves in arena and table, with the counters that it returns
abbrev pub wrote : List ℕ → List ℕ → Result Counters Stopped → Writing
wrote a t (Ok k) = wrote_as (memory a t k) false
wrote a t (Err s) = wrote_as (memory a t s.left) true

-- the answer of a refusal, with the counters that the call leaves
abbrev pub refused_with : ℕ → Counters → Taken
refused_with r k = record { answer = record { refusal = r; number = 0 }; counters = k }
