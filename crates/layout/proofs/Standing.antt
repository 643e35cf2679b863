-- A term whose blocks stand in an arena: what their fields say.
-- Assumes nothing.
use mathlib.Core.Path.{◌≡◌, refl, sym, ap, ◌∙◌}
use Prim.Native.Nat.{ℕ, suc, ◌+◌, ◌-◌, ◌≤◌, ◌<◌}
use mathlib.Core.List.{List}
use native.Mathlib.Omega.{arith}
use native.Mathlib.Nat.{add-zero}
use lib.Dec.{eqb}
use lib.ListN.{length, get_or-eq_default}
use Rattle.basics.specs.Words.{word_at}
use Rattle.blocks.specs.Fields.{term_length, name_part, block_size, head_fixed, place, link_of, head_of, name_of}
use Rattle.layout.specs.Held.{Held, block_no, head_no, tail_no, chain, head_for, link_at, written, block_bytes}
use Rattle.layout.specs.Index.{Sound, block_at}
use Rattle.layout.proofs.Held.{nos-closed}
use Rattle.layout.proofs.Arena.{byte_block, word_block, part_block}
use Rattle.layout.proofs.Forms.{link_form, tail-form, last-form, postings_form, end_form, length-name-form, name-form}
use Rattle.blocks.proofs.Sizes.{sizes}

-- its blocks are in use, the tail is none of the others, and the arena has their bytes
pub record Standing (a : List ℕ) (used : ℕ) (t : Held) : Type 0 where
  pub sound : Sound used t
  pub inside : place used ≤ length a
  pub in_use : (j : ℕ) → j < length t.nos → block_no t j < used
  pub apart : (j : ℕ) → j < length t.nos → eqb (block_no t j) (tail_no t) ≡ eqb j (length t.nos - 1)
  pub bytes : (j : ℕ) → j < length t.nos → block_at a (block_no t j) ≡ block_bytes t j

module _ {a : List ℕ} {used : ℕ} {t : Held} (st : Standing a used t) where
  -- it has a head, and a tail
  pub nos_pos : 0 < length t.nos
  nos_pos = omega (arith, nos-closed st.sound)

  pub tail_lt : length t.nos - 1 < length t.nos
  tail_lt = omega (arith, nos_pos)

  -- its blocks lie in the arena
  pub block_in_lem : (j : ℕ) → j < length t.nos → place (block_no t j) + block_size ≤ length a
  block_in_lem j h = omega (arith, sizes, st.in_use j h, st.inside)

  -- THE FIELDS of its head
  pub head-is : head_of a (head_no t) ≡ head_for t
  unfolding head_of block_bytes written
  head-is =
      let h : ℕ = head_no t in
      rw (
        word_block a h 4 (omega (arith, sizes)),
        word_block a h 8 (omega (arith, sizes)),
        word_block a h 12 (omega (arith, sizes)),
        byte_block a h 16 (omega (arith, sizes)),
        byte_block a h 17 (omega (arith, sizes)),
        st.bytes 0 nos_pos,
        tail-form,
        last-form,
        postings_form,
        end_form,
        length-name-form,
      )
      (unfold head_for in refl)

  pub name_is : name_of a (head_no t) ≡ t.name
  unfolding name_of term_length name_part block_bytes written
  name_is =
      let h : ℕ = head_no t in
      let s : block_at a h ≡ block_bytes t 0 = st.bytes 0 nos_pos in
      rw (byte_block a h 17 (omega (arith, sizes)), s, length-name-form, part_block a h head_fixed (length t.name) (omega (arith, sizes, st.sound.short)), s)
      (name-form _ (head_for t) t.name _)

  -- the link of any block
  pub link_is : (j : ℕ) → j < length t.nos → link_of a (block_no t j) ≡ link_at t j
  unfolding link_of block_bytes written
  link_is j h =
      let b : ℕ = block_no t j in
      ap (word_at a) (sym (add-zero (place b))) ∙ word_block a b 0 (omega (arith, sizes)) ∙ rw (st.bytes j h) (link_form j _ _ _ _)

  -- in the tail its first number
  pub tail_link : link_of a (tail_no t) ≡ (chain t).reach.first
  tail_link = link_is (length t.nos - 1) tail_lt ∙ get_or-eq_default t.nos (chain t).reach.first {n = suc (length t.nos - 1)} (omega arith)
