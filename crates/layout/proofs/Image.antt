-- An index that stands in an arena: each of its terms stands there, in blocks of its own.
-- Assumes nothing.
use mathlib.Core.Path.{◌≡◌, refl, sym, ap, ap₂, ◌∙◌}
use Prim.Native.Nat.{ℕ, zero, suc, ◌+◌, ◌-◌, ◌≤◌, ◌<◌}
use mathlib.Core.Bool.{Bool, true, false}
use mathlib.Core.List.{List, ◌++◌}
use native.Mathlib.Omega.{arith}
use lib.Dec.{eqb}
use lib.ListN.{length, take, drop}
use lib.Seq.{take-add}
use borrow.Author.Tests.{eqb-true, eqb-false, eq-eqb, ne_eqb}
use Rattle.blocks.specs.Fields.{block_size, place}
use Rattle.layout.specs.Held.{head_no}
use Rattle.layout.specs.Index.{Index, Owner, term_at, owner_at, no_at, used_of, Linked, block_at, Image, empty}
use Rattle.layout.proofs.Held.{nos-closed}
use Rattle.layout.proofs.Standing.{Standing}
use Rattle.blocks.proofs.Sizes.{sizes}

-- ---- the block numbers of a linked index

module _ {ix : Index} (l : Linked ix) (i : ℕ) (hi : i < length ix.terms) where
  term_is : (j : ℕ) → j < length (term_at ix i).nos → (owner_at ix (no_at ix i j)).term ≡ i
  term_is j h = ap (λ (o : Owner). o.term) (l.owns i j hi h).owner

  ord-is : (j : ℕ) → j < length (term_at ix i).nos → (owner_at ix (no_at ix i j)).ord ≡ j
  ord-is j h = ap (λ (o : Owner). o.ord) (l.owns i j hi h).owner

  -- which of the term's blocks is block k
  pub same_test : (k j : ℕ) → k < used_of ix → (owner_at ix k).term ≡ i → j < length (term_at ix i).nos → eqb k (no_at ix i j) ≡ eqb (owner_at ix k).ord j
  same_test k j h e g = go (eqb (owner_at ix k).ord j) refl
    where
      go : (b : Bool) → eqb (owner_at ix k).ord j ≡ b → eqb k (no_at ix i j) ≡ b
      go true q = eq-eqb k (no_at ix i j) (sym (l.owned k h).no_is ∙ rw (e, eqb-true (owner_at ix k).ord j q))
      go false q = ne_eqb k (no_at ix i j) (λ z. eqb-false _ _ q (ap (λ (n : ℕ). (owner_at ix n).ord) z ∙ ord-is j g))

  -- another term's block is none of them
  pub other_test : (k j : ℕ) → ((owner_at ix k).term ≡ i → ⊥) → j < length (term_at ix i).nos → eqb k (no_at ix i j) ≡ false
  other_test k j ne g = ne_eqb k (no_at ix i j) (λ z. ne (ap (λ (n : ℕ). (owner_at ix n).term) z ∙ term_is j g))

  -- every term stands in the arena
  pub standing : {a : List ℕ} → Image a ix → Standing a (used_of ix) (term_at ix i)
  standing im =
      let last : ℕ = length (term_at ix i).nos - 1 in
      record {
        sound = l.sound i hi;
        inside = im.inside;
        in_use = λ j h. (l.owns i j hi h).used;
        apart = λ j h. same_test (no_at ix i j) last (l.owns i j hi h).used (term_is j h) (omega arith) ∙ ap (λ (n : ℕ). eqb n last) (ord-is j h);
        bytes = λ j h. im.bytes (no_at ix i j) (l.owns i j hi h).used ∙ rw (l.owns i j hi h).owner;
      }

-- different terms have different heads
pub heads_apart : {ix : Index} → Linked ix → (i m : ℕ) → i < length ix.terms → m < length ix.terms
    → head_no (term_at ix i) ≡ head_no (term_at ix m) → i ≡ m
heads_apart {ix} l i m hi hm e =
    let h : (j : ℕ) → j < length ix.terms → 0 < length (term_at ix j).nos = λ j g. omega (arith, nos-closed (l.sound j g)) in
    sym (term_is l i hi 0 (h i hi)) ∙ ap (λ (n : ℕ). (owner_at ix n).term) e ∙ term_is l m hm 0 (h m hm)

-- ---- the empty index

pub image-empty : (a : List ℕ) → Image a empty
image-empty a = record { inside = omega arith; bytes = λ k h. absurd (omega arith) }

-- ---- the bytes of the used blocks

-- two arenas that hold one index are the same in its blocks, byte for byte: here in the first n of them
pub image_same : {a b : List ℕ} (ix : Index) → Image a ix → Image b ix → (n : ℕ) → n ≤ used_of ix → take (place n) a ≡ take (place n) b
unfolding block_at
image_same ix i j zero h = refl
image_same {a} {b} ix i j (suc n) h =
    let e : place (suc n) ≡ place n + block_size = omega (arith, sizes) in
    let one : take block_size (drop (place n) a) ≡ take block_size (drop (place n) b) = i.bytes n (omega arith) ∙ sym (j.bytes n (omega arith)) in
    rw (e, take-add (place n) block_size a, take-add (place n) block_size b) (ap₂ ◌++◌ (image_same ix i j n (omega arith)) one)
