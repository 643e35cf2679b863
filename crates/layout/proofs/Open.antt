-- A new term's head, written into the arena, gives the bytes of the index with that term.
-- Assumes nothing.
use mathlib.Core.Path.{◌≡◌, refl, sym, ◌∙◌}
use Prim.Native.Nat.{ℕ, ◌+◌, ◌≤◌, ◌<◌}
use mathlib.Core.List.{List, [], ◌∷◌, ◌++◌}
use native.Mathlib.Omega.{arith}
use lib.Dec.{eqb}
use lib.ListN.{length, length-append}
use lib.Seq.{length-sets}
use borrow.Author.Tests.{eq-eqb, ne_eqb}
use Rattle.basics.specs.Words.{word}
use Rattle.basics.proofs.Cases.{by-lt}
use Rattle.basics.proofs.Parts.{sets-whole}
use Rattle.postings.specs.Coding.{code}
use Rattle.postings.proofs.Laws.{length-code_le}
use Rattle.terms.specs.Terms.{max_term}
use Rattle.blocks.specs.Fields.{block_size, head_fixed, place}
use Rattle.blocks.specs.Writes.{padded, changing, head_bytes, open_head}
use Rattle.blocks.specs.Prescribed.{Posting}
use Rattle.blocks.proofs.Writes.{length-padded}
use Rattle.layout.specs.Chains.{After}
use Rattle.layout.specs.Held.{block_bytes}
use Rattle.layout.specs.Index.{Index, term_at, owner_at, used_of, Linked, block_at, Image, with_term}
use Rattle.layout.proofs.Arena.{length_block, store_if, store_front}
use Rattle.layout.proofs.Bytes.{bytes-fresh}
use Rattle.layout.proofs.Linked.{keeps-term, old_term, new_term, new_owner, used-term}
use Rattle.blocks.proofs.Sizes.{sizes}

pub open_length : (a : List ℕ) (b : ℕ) (name : List ℕ) (n f : ℕ) → length (open_head a b name n f) ≡ length a
unfolding open_head
open_length a b name n f = length-sets a (place b) (padded (head_bytes b name n f))

length-head : (b : ℕ) (name : List ℕ) (p : Posting) → length name ≤ max_term → After 0 p → length (padded (head_bytes b name p.number p.count)) ≡ block_size
unfolding head_bytes word changing
length-head b name p h f =
    let c : List ℕ = code p.number p.count in
    let front : List ℕ = word p.number ++ changing b p.number 1 (head_fixed + length name + length c) ++ (length name ∷ []) ++ name in
    length-padded (front ++ c) (rw (length-append front c) (omega (arith, sizes, length-code_le p.number p.count (omega (arith, sizes)) (omega (arith, sizes)))))

module _ (a : List ℕ) (ix : Index) (name : List ℕ) (p : Posting) (im : Image a ix) (l : Linked ix) (h : length name ≤ max_term) (f : After 0 p) where
  open_block : (k : ℕ) → block_at (open_head a (used_of ix) name p.number p.count) k
      ≡ store_if (eqb k (used_of ix)) (block_at a k) 0 (padded (head_bytes (used_of ix) name p.number p.count))
  unfolding open_head
  open_block k = store_front a (used_of ix) (padded (head_bytes (used_of ix) name p.number p.count)) k (omega (arith, length-head (used_of ix) name p h f))

  open_old : (k : ℕ) → k < used_of ix → block_at (open_head a (used_of ix) name p.number p.count) k
      ≡ block_bytes (term_at (with_term ix name p) (owner_at (with_term ix name p) k).term) (owner_at (with_term ix name p) k).ord
  open_old k lt =
      rw (
        open_block k,
        ne_eqb k (used_of ix) (λ q. omega arith),
        (keeps-term ix name p).owner_is k lt,
        old_term ix name p (owner_at ix k).term (l.owned k lt).term_lt,
      ) (im.bytes k lt)

  open_new : place (used_of ix) + block_size ≤ length a → block_at (open_head a (used_of ix) name p.number p.count) (used_of ix)
      ≡ block_bytes (term_at (with_term ix name p) (owner_at (with_term ix name p) (used_of ix)).term) (owner_at (with_term ix name p) (used_of ix)).ord
  open_new room =
      let u : ℕ = used_of ix in
      rw (open_block u, eq-eqb u u refl, new_owner ix name p, new_term ix name p, bytes-fresh)
      (sets-whole (block_at a u) (padded (head_bytes u name p.number p.count)) (length_block a u room ∙ sym (length-head u name p h f)))

  -- A NEW TERM
  pub image-term : place (used_of (with_term ix name p)) ≤ length a → Image (open_head a (used_of ix) name p.number p.count) (with_term ix name p)
  image-term room =
      record {
        inside = rw (open_length a (used_of ix) name p.number p.count) room;
        bytes = λ k g. by-lt k (used_of ix) (open_old k)
            (λ ge. let q : k ≡ used_of ix = omega (arith, sizes, used-term ix name p) in rw q (open_new (omega (arith, sizes, used-term ix name p))));
      }
