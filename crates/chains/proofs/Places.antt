-- A step from any place: it is the cursor's step where the place lies in a used block, and damage elsewhere.
-- Assumes nothing.
use Prim.Native.Nat.{ℕ, ◌≤◌, ◌<◌}
use mathlib.Core.Path.{◌≡◌}
use mathlib.Core.Bool.{Bool, true, false, cond}
use mathlib.Core.List.{List}
use borrow.Author.Tests.{le-leb, lt-ltb}
use Rattle.blocks.specs.Fields.{block_size, link_size, capacity}
use Rattle.blocks.proofs.Capacity.{used-inside}
use Rattle.chains.specs.declared.Cursor.{Cursor}
use Rattle.chains.specs.Chains.{stepped, damage, step_at, is_place, step_from, Follows}

module _ (a : List ℕ) (used reports : ℕ) (c : Cursor) where
  -- a posting that it gives is the cursor's
  pub from-posting : (n f : ℕ) (c' : Cursor) → step_from a used reports c ≡ stepped n f c' → step_at a used reports c ≡ stepped n f c'
  unfolding step_from
  from-posting n f c' e = go (is_place a used c) e
    where
      go : (b : Bool) → cond b (step_at a used reports c) damage ≡ stepped n f c' → step_at a used reports c ≡ stepped n f c'
      go true e = e
      go false e = cc

  -- the postings that a reader gives at a place in a used block are the cursor's
  pub from_place : used ≤ capacity a → c.block < used → link_size ≤ c.end → c.end ≤ block_size → step_from a used reports c ≡ step_at a used reports c
  unfolding step_from is_place
  from_place r u f h = rw (le-leb used (capacity a) r, lt-ltb c.block used u, le-leb link_size c.end f, le-leb c.end block_size h)

-- what following needs of a place in a used block
pub place-follows : (a : List ℕ) (used : ℕ) (c : Cursor) → used ≤ capacity a → c.block < used → c.end ≤ block_size → Follows a used c
place-follows a used c r u h = record { inside = used-inside a used r; in_use = u; end_in = h }
