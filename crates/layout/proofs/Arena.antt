-- Blocks of an arena: a store inside one leaves every other, and where the fields of a block stand in it.
-- Assumes nothing.
use mathlib.Core.Path.{◌≡◌, refl, sym, ap, ◌∙◌}
use Prim.Native.Nat.{ℕ, ◌+◌, ◌-◌, ◌≤◌, ◌<◌}
use mathlib.Core.Bool.{Bool, true, false}
use mathlib.Core.List.{List}
use native.Mathlib.Omega.{arith}
use native.Mathlib.Nat.{add-zero, add_assoc}
use lib.Dec.{eqb}
use lib.ListN.{length, get_or, take, drop, length-take, length-drop}
use lib.Seq.{sets, get_or-take, get_or-drop, take-take, drop-drop}
use borrow.Author.Tests.{eqb-true, eqb-false}
use Rattle.basics.specs.Words.{word_at}
use Rattle.basics.proofs.Cases.{by-lt}
use Rattle.basics.proofs.Parts.{drop-take, take-before, drop-behind, take-sets, drop-sets}
use Rattle.blocks.specs.Fields.{block_size, place}
use Rattle.layout.specs.Index.{block_at}
use Rattle.blocks.proofs.Sizes.{sizes}

pub length_block : (a : List ℕ) (b : ℕ) → place b + block_size ≤ length a → length (block_at a b) ≡ block_size
unfolding block_at
length_block a b h = simp (length-take, length-drop) (omega arith)

-- ---- stores

-- THE FRAME: a store inside block b leaves every other block
pub store_other : (a : List ℕ) (b c o : ℕ) (vs : List ℕ) → o + length vs ≤ block_size → (c ≡ b → ⊥) → block_at (sets a (place b + o) vs) c ≡ block_at a c
unfolding block_at
store_other a b c o vs h ne =
    by-lt c b
    (λ lt. let e : place b + o ≡ place c + (place (b - c) + o) = omega arith in
    rw (e, drop-sets (place c) a (place (b - c) + o) vs) (take-before block_size (drop (place c) a) (place (b - c) + o) vs (omega (arith, sizes))))
    (λ ge. rw (drop-behind (place c) a (place b + o) vs (omega (arith, sizes))))

-- and is a store into the block itself
pub store_same : (a : List ℕ) (b o : ℕ) (vs : List ℕ) → o + length vs ≤ block_size → block_at (sets a (place b + o) vs) b ≡ sets (block_at a b) o vs
unfolding block_at
store_same a b o vs h = rw (drop-sets (place b) a o vs, take-sets block_size (drop (place b) a) o vs h)

-- a store where a test passes
abbrev pub store_if : Bool → List ℕ → ℕ → List ℕ → List ℕ
store_if true s o vs = sets s o vs
store_if false s o vs = s

-- both as a test on the block's number
pub store_block : (a : List ℕ) (b o : ℕ) (vs : List ℕ) (k : ℕ) → o + length vs ≤ block_size
    → block_at (sets a (place b + o) vs) k ≡ store_if (eqb k b) (block_at a k) o vs
store_block a b o vs k h = go (eqb k b) refl
  where
    go : (t : Bool) → eqb k b ≡ t → block_at (sets a (place b + o) vs) k ≡ store_if t (block_at a k) o vs
    go true e = rw (eqb-true k b e) (store_same a b o vs h)
    go false e = store_other a b k o vs h (eqb-false k b e)

-- at the front of the block
pub store_front : (a : List ℕ) (b : ℕ) (vs : List ℕ) (k : ℕ) → length vs ≤ block_size → block_at (sets a (place b) vs) k ≡ store_if (eqb k b) (block_at a k) 0 vs
store_front a b vs k h = ap (λ (i : ℕ). block_at (sets a i vs) k) (sym (add-zero (place b))) ∙ store_block a b 0 vs k (omega arith)

-- ---- fields

pub byte_block : (a : List ℕ) (b o : ℕ) → o < block_size → get_or a (place b + o) 0 ≡ get_or (block_at a b) o 0
unfolding block_at
byte_block a b o h = rw (get_or-take block_size (drop (place b) a) o 0 h, get_or-drop)

pub word_block : (a : List ℕ) (b o : ℕ) → o + 4 ≤ block_size → word_at a (place b + o) ≡ word_at (block_at a b) o
unfolding word_at
word_block a b o h =
    rw (
      add_assoc (place b) o 1,
      add_assoc (place b) o 2,
      add_assoc (place b) o 3,
      byte_block a b o (omega arith),
      byte_block a b (o + 1) (omega arith),
      byte_block a b (o + 2) (omega arith),
      byte_block a b (o + 3) (omega arith),
    )

pub part_block : (a : List ℕ) (b from n : ℕ) → from + n ≤ block_size → take n (drop (place b + from) a) ≡ take n (drop from (block_at a b))
unfolding block_at
part_block a b from n h = rw (drop-take, drop-drop, take-take n (block_size - from) (drop (place b + from) a) (omega arith))
