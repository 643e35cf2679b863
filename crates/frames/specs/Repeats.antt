-- How repeated lines are found: lines whose folded terms share a bucket are chained, each to the one before it.
use Rattle.std.specs.Prelude.{ℕ, zero, suc, ◌-◌, ◌*◌, ◌/◌, ◌≤◌, ◌<◌, List, [], ◌∷◌, cond, eqb, length, get_or}
use Rattle.frames.specs.Read.{LineAt}

-- a line has at least five bytes, so that no two lines have one slot
abbrev pub slot_of : ℕ → ℕ
slot_of at = at / 5

-- the chain from an offset on: each leads to an earlier one, 0 ends it
unfoldable pub chain_up_to : ℕ → List ℕ → ℕ → List ℕ
chain_up_to zero earlier at = []
chain_up_to (suc fuel) earlier at =
    let more = at ∷ chain_up_to fuel earlier (get_or earlier (slot_of at) 0) in cond (eqb at 0) [] more

-- each offset leads to a smaller one, so at most `at` of them follow
unfoldable pub chain : List ℕ → ℕ → List ℕ
chain earlier at = chain_up_to at earlier at

-- the length of `earlier`: more than a frame has lines
abbrev pub slots : ℕ
slots = 820

-- what following a chain needs: every offset of the frame has its slot, a slot leads to an offset before all that have
-- it, and a whole line stands at each but 0
pub record Chained (f names : List ℕ) (earlier : List ℕ) (last : ℕ) : Type 0 where
  pub room : length f ≤ 5 * slots
  pub falls : (slot : ℕ) → get_or earlier slot 0 ≤ 5 * slot - 1
  pub whole : (slot : ℕ) → 0 < get_or earlier slot 0 → LineAt f names (get_or earlier slot 0)
  pub start : 0 < last → LineAt f names last
