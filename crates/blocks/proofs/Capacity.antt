-- Laws of the arena's capacity: blocks below it lie in the arena.
-- Assumes nothing.
use mathlib.Core.Path.{◌≡◌}
use mathlib.Core.List.{List}
use Prim.Native.Nat.{ℕ, ◌+◌, ◌≤◌, ◌<◌}
use native.Mathlib.Omega.{arith}
use lib.ListN.{length}
use Rattle.blocks.specs.Fields.{max_word, block_size, capacity, place}
use Rattle.blocks.proofs.Sizes.{sizes}

-- arenas of one length hold as many blocks
pub capacity_as : (a z : List ℕ) → length z ≡ length a → capacity z ≡ capacity a
unfolding capacity
capacity_as a z e = rw e

module _ (a : List ℕ) where
  -- blocks are numbered with 32 bits
  pub capacity-word : capacity a ≤ max_word
  unfolding capacity
  capacity-word = omega (arith, sizes)

  module _ (used : ℕ) (u : used ≤ capacity a) where
    -- the used blocks lie in the arena
    pub used-inside : place used ≤ length a
    unfolding capacity
    used-inside = omega (arith, sizes)

    -- and so each of them does
    pub block_inside : (b : ℕ) → b < used → place b + block_size ≤ length a
    block_inside b h = omega (arith, sizes, used-inside)

  -- another block, where one is left
  pub next-inside : (b : ℕ) → b < capacity a → place b + block_size ≤ length a
  unfolding capacity
  next-inside b h = omega (arith, sizes)
