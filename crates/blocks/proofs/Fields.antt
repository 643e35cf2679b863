-- Laws of a head's fields, and of where a block's postings begin.
-- Assumes nothing.
use mathlib.Core.Path.{◌≡◌, ap}
use mathlib.Core.List.{List}
use mathlib.Core.Bool.{false}
use Prim.Native.Nat.{ℕ, ◌+◌, ◌-◌, ◌≤◌, ◌<◌}
use native.Mathlib.Omega.{arith}
use native.Mathlib.Nat.{add_assoc}
use borrow.Author.Tests.{eq-eqb, ne_eqb}
use lib.ListN.{length, get_or, drop, length-take, length-drop}
use lib.Seq.{drop-drop, length-take-le}
use Rattle.basics.specs.Lists.{same}
use Rattle.basics.proofs.Lists.{ne_same}
use Rattle.basics.proofs.Parts.{drop-take}
use Rattle.terms.specs.Terms.{max_term}
use Rattle.blocks.specs.declared.Head.{Head}
use Rattle.blocks.specs.Fields.{block_size, head_fixed, link_size, place, head_of, term_length, name_part, name_of, part_start, part_of}
use Rattle.blocks.proofs.Sizes.{head_room}

-- the length of a head's term is its byte 17
pub head-length : (a : List ℕ) (h : ℕ) {d : Head} → d ≡ head_of a h → d.length ≡ get_or a (place h + 17) 0
unfolding head_of
head-length a h e = ap (λ (d : Head). d.length) e

pub head-short : (a : List ℕ) (h : ℕ) {d : Head} → d ≡ head_of a h → ((i : ℕ) → get_or a i 0 < 256) → d.length < 256
head-short a h e byte = rw (head-length a h e) (byte (place h + 17))

-- ---- the term of a head

module _ (a : List ℕ) (b : ℕ) where
  -- where its length is n it is the part of so many bytes
  pub name_own : (n : ℕ) → term_length a b ≡ n → name_part a b n ≡ name_of a b
  unfolding name_of
  name_own n e = rw e

  -- a head with another length holds another term, since behind its fixed bytes stand more than a term has
  pub name_other : (w : List ℕ) → place b + block_size ≤ length a → length w ≤ max_term → (term_length a b ≡ length w → ⊥) → same (name_of a b) w ≡ false
  unfolding name_of name_part
  name_other w inside short ne =
      ne_same (name_of a b) w (λ e. ne (omega (arith, head_room, inside, short, simp (length-take, length-drop) at (ap length e))))

-- ---- where postings begin

-- the postings of the head itself begin behind its term, those of any other block behind its link
module _ (d : Head) (h b : ℕ) where
  pub part_own : b ≡ h → part_start d h b ≡ head_fixed + d.length
  unfolding part_start
  part_own e = rw (eq-eqb b h e)

  pub part_other : (b ≡ h → ⊥) → part_start d h b ≡ link_size
  unfolding part_start
  part_other n = rw (ne_eqb b h n)

-- n bytes further on in a block's part, and how many bytes a part has
module _ (a : List ℕ) (b from : ℕ) where
  pub drop-part : (n to : ℕ) → drop n (part_of a b from to) ≡ part_of a b (from + n) to
  unfolding part_of
  drop-part n to =
      let e : to - (from + n) ≡ to - from - n = omega arith in rw (drop-take, drop-drop, e, add_assoc (place b) from n)

  pub length-part : (to : ℕ) → place b + to ≤ length a → length (part_of a b from to) ≡ to - from
  unfolding part_of
  length-part to h = length-take-le (to - from) (drop (place b + from) a) (rw length-drop (omega arith))
