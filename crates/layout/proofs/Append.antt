-- One posting more, written into the arena, gives the bytes of the index with that posting.
-- Assumes nothing.
use mathlib.Core.Path.{◌≡◌, refl, sym, ◌∙◌}
use Prim.Native.Nat.{ℕ, ◌+◌, ◌-◌, ◌≤◌, ◌<◌}
use mathlib.Core.Bool.{Bool, true, false, cond}
use mathlib.Core.List.{List, ◌++◌}
use native.Mathlib.Omega.{arith}
use lib.Dec.{eqb}
use lib.ListN.{length, length-append}
use lib.Seq.{sets}
use borrow.Author.Tests.{leb-true, eq-eqb, ne_eqb}
use Rattle.basics.specs.Words.{word}
use Rattle.basics.proofs.Cases.{by-eq}
use Rattle.basics.proofs.Parts.{sets-whole, get_or-last}
use Rattle.postings.proofs.Laws.{length-code_le}
use Rattle.blocks.specs.Fields.{block_size, link_size, place, link_of, head_of}
use Rattle.blocks.specs.Writes.{padded, growing, changing, fits, add_to, join_to, append}
use Rattle.blocks.specs.Prescribed.{Posting, Reach}
use Rattle.blocks.proofs.Writes.{length-padded, length-add_to, length-join_to}
use Rattle.chains.specs.Chains.{last_from}
use Rattle.layout.specs.Chains.{After, coded, d_entry, b_entry, stays}
use Rattle.layout.specs.Held.{Held, postings_of, block_no, head_no, tail_no, chain, head_for, block_bytes}
use Rattle.layout.specs.Index.{Index, term_at, owner_at, no_owner, used_of, Linked, block_at, Image, grown, with_posting_as, with_posting}
use Rattle.layout.proofs.Held.{tail_at, nos-closed, fits-stays, head-stays, head-next}
use Rattle.layout.proofs.Arena.{length_block, store_if, store_block, store_front}
use Rattle.layout.proofs.Bytes.{fields_at, fields, offset_in, bytes_in, bytes-grown, bytes_next}
use Rattle.layout.proofs.Linked.{joined_is, by-joined, mine, other}
use Rattle.layout.proofs.Standing.{Standing, nos_pos, tail_lt, head-is, tail_link}
use Rattle.layout.proofs.Image.{same_test, other_test, standing}
use Rattle.blocks.proofs.Sizes.{sizes}

-- ---- what is stored lies in a block

growing_fits : (last postings end : ℕ) → 8 + length (growing last postings end) ≤ block_size
unfolding word
growing_fits last postings end = omega (arith, sizes)

fields_fit : (tail last postings end : ℕ) → 4 + length (changing tail last postings end) ≤ block_size
unfolding changing word
fields_fit tail last postings end = omega (arith, sizes)

length_new : (n : ℕ) (c : List ℕ) → length c ≤ 10 → length (padded (word n ++ c)) ≡ block_size
unfolding word
length_new n c h = length-padded (word n ++ c) (omega (arith, sizes))

-- ---- the arena's length is kept

pub append-length : (a : List ℕ) (h b n f : ℕ) → length (append a h b n f) ≡ length a
unfolding append
append-length a h b n f = go (fits (head_of a h) n f)
  where
    go : (t : Bool) → length (cond t (add_to a h (head_of a h) n f) (join_to a h (head_of a h) b n f)) ≡ length a
    go true = length-add_to a h (head_of a h) n f
    go false = length-join_to a h (head_of a h) b n f

-- ---- the stores, block by block

module _ (a : List ℕ) (h : ℕ) (t : Held) (p : Posting) where
  add_block : stays (chain t).reach p ≡ true → (k : ℕ) → block_at (add_to a h (head_for t) p.number p.count) k
      ≡ store_if (eqb k h) (store_if (eqb k (tail_no t)) (block_at a k) (head_for t).end (coded (d_entry (chain t).reach p))) 8
      (growing p.number ((head_for t).postings + 1) ((head_for t).end + length (coded (d_entry (chain t).reach p))))
  unfolding add_to head_for
  add_block e k =
      let r : Reach = (chain t).reach in
      let c : List ℕ = coded (d_entry r p) in
      let room : r.offset + length c ≤ block_size = unfold stays in leb-true _ _ e in
      rw (store_block (sets a (place (tail_no t) + r.offset) c) h 8 _ k (growing_fits _ _ _), store_block a (tail_no t) r.offset c k room)

  module _ (used : ℕ) (first : link_of a (tail_no t) ≡ (chain t).reach.first) (small : length (coded (b_entry (chain t).reach p)) ≤ 10) where
    join_block : (k : ℕ) → block_at (join_to a h (head_for t) used p.number p.count) k
        ≡ store_if (eqb k h) (store_if (eqb k used) (store_if (eqb k (tail_no t)) (block_at a k) 0 (word used)) 0
        (padded (word p.number ++ coded (b_entry (chain t).reach p)))) 4
        (changing used p.number ((head_for t).postings + 1) (link_size + length (coded (b_entry (chain t).reach p))))
    unfolding join_to head_for
    join_block k =
        let c : List ℕ = coded (b_entry (chain t).reach p) in
        let a₁ : List ℕ = sets a (place (tail_no t)) (word used) in
        let new : List ℕ = padded (word p.number ++ c) in
        rw (
          first,
          store_block (sets a₁ (place used) new) h 4 _ k (fields_fit _ _ _ _),
          store_front a₁ used new k (omega (arith, length_new p.number c small)),
          store_front a (tail_no t) (word used) k (unfold word in omega (arith, sizes)),
        )

-- ---- a term that stands in the arena

module _ (a : List ℕ) (used : ℕ) (t : Held) (p : Posting) (st : Standing a used t) where
  -- what is written, by the term's own fields
  abbrev writes : Bool → List ℕ
  writes true = add_to a (head_no t) (head_for t) p.number p.count
  writes false = join_to a (head_no t) (head_for t) used p.number p.count

  append-is : (b : Bool) → stays (chain t).reach p ≡ b → append a (head_no t) used p.number p.count ≡ writes b
  unfolding append
  append-is true e = rw (head-is st, fits-stays t p, e)
  append-is false e = rw (head-is st, fits-stays t p, e)

  length_writes : (b : Bool) → length (writes b) ≡ length a
  length_writes true = length-add_to a (head_no t) (head_for t) p.number p.count
  length_writes false = length-join_to a (head_no t) (head_for t) used p.number p.count

  not_new : (j : ℕ) → j < length t.nos → eqb used (block_no t j) ≡ false
  not_new j h = ne_eqb used (block_no t j) (λ q. omega (arith, st.in_use j h))

  module _ (f : After (last_from 0 (postings_of t)) p) where
    small : length (coded (b_entry (chain t).reach p)) ≤ 10
    small = length-code_le (p.number - (chain t).reach.first) p.count (omega arith) (omega arith)

    -- the blocks in use
    writes_block : (b : Bool) → stays (chain t).reach p ≡ b → (k : ℕ) → k < used → block_at (writes b) k
        ≡ store_if (eqb k (head_no t)) (store_if (eqb k (tail_no t)) (block_at a k) (offset_in b t) (bytes_in b used t p)) (fields_at b) (fields b (head_for (grown b used t p)))
    writes_block true e k h = rw (head-stays used t p e) (add_block a (head_no t) t p e k)
    writes_block false e k h = rw (head-next used t p e, join_block a (head_no t) t p used (tail_link st) small k, ne_eqb k used (λ q. omega arith))

    -- and the new one
    writes_new : stays (chain t).reach p ≡ false → place used + block_size ≤ length a
        → block_at (writes false) used ≡ block_bytes (grown false used t p) (length t.nos)
    writes_new e room =
        let c : List ℕ = coded (b_entry (chain t).reach p) in
        rw (
          join_block a (head_no t) t p used (tail_link st) small used,
          not_new 0 (nos_pos st),
          not_new (length t.nos - 1) (tail_lt st),
          eq-eqb used used refl,
          bytes_next used t p st.sound e,
        )
        (sets-whole (block_at a used) (padded (word p.number ++ c)) (length_block a used room ∙ sym (length_new p.number c small)))

-- ---- in an index

module _ (a : List ℕ) (ix : Index) (i : ℕ) (p : Posting) (im : Image a ix) (l : Linked ix) (hi : i < length ix.terms)
    (f : After (last_from 0 (postings_of (term_at ix i))) p) where
  st : Standing a (used_of ix) (term_at ix i)
  st = standing l i hi im

  -- the block k, whose owner has its place kept
  writes_old : (b : Bool) → stays (chain (term_at ix i)).reach p ≡ b → (k : ℕ) → k < used_of ix
      → block_at (writes a (used_of ix) (term_at ix i) p st b) k ≡ block_bytes (term_at (with_posting_as b ix i p) (owner_at ix k).term) (owner_at ix k).ord
  writes_old b e k h =
      let t : Held = term_at ix i in
      let last : ℕ = length t.nos - 1 in
      let n : last ≡ tail_at t = omega (arith, nos-closed st.sound) in
      rw (writes_block a (used_of ix) t p st f b e k h, im.bytes k h)
      (by-eq (owner_at ix k).term i
      (λ q. rw (same_test l i hi k 0 h q (nos_pos st), same_test l i hi k last h q (tail_lt st), n, q, mine b ix i p hi)
      (sym (bytes-grown (used_of ix) t p st.sound b e (owner_at ix k).ord (omega (arith, nos-closed st.sound, rw q at (l.owned k h).ord_lt)))))
      (λ ne. rw (other_test l i hi k 0 ne (nos_pos st), other_test l i hi k last ne (tail_lt st), other b ix i p hi (owner_at ix k).term ne)))

  image_as : (b : Bool) → stays (chain (term_at ix i)).reach p ≡ b → place (used_of (with_posting_as b ix i p)) ≤ length a
      → Image (writes a (used_of ix) (term_at ix i) p st b) (with_posting_as b ix i p)
  image_as b e room =
      record {
        inside = rw (length_writes a (used_of ix) (term_at ix i) p st b) room;
        bytes = λ k h. by-joined b ix.owners _ k h (λ lt. rw (joined_is b ix.owners _ no_owner k lt) (writes_old b e k lt))
            (λ q z. rw (q, z, get_or-last ix.owners (record { term = i; ord = length (term_at ix i).nos }) no_owner, mine false ix i p hi)
            (writes_new a (used_of ix) (term_at ix i) p st f (e ∙ q) (omega (arith, sizes, rw (q, length-append) at room))));
      }

  -- ONE POSTING MORE
  pub image-posting : place (used_of (with_posting ix i p)) ≤ length a
      → Image (append a (head_no (term_at ix i)) (used_of ix) p.number p.count) (with_posting ix i p)
  unfolding with_posting
  image-posting room =
      let b : Bool = stays (chain (term_at ix i)).reach p in
      rw (append-is a (used_of ix) (term_at ix i) p st b refl, fits-stays (term_at ix i) p) (image_as b refl (rw (fits-stays (term_at ix i) p) at room))
