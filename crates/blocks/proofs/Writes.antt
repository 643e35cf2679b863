-- Laws of the bytes that are written into blocks.
-- Assumes nothing.
use mathlib.Core.Path.{◌≡◌, ◌∙◌, ap}
use mathlib.Core.Bool.{true}
use mathlib.Core.List.{List, [], ◌∷◌, ◌++◌, append_assoc}
use Prim.Native.Nat.{ℕ, ◌+◌, ◌-◌, ◌≤◌}
use native.Mathlib.Omega.{arith}
use borrow.Author.Tests.{leb-true}
use Rattle.std.proofs.lemmas.Bool.Decides.{nat_tests}
use Rattle.postings.proofs.Laws.{length-code_le}
use lib.ListN.{length, replicate, length-append, length-replicate}
use lib.Seq.{sets, length-sets}
use Rattle.basics.specs.Words.{word}
use Rattle.basics.proofs.Lists.{drop-replicate}
use Rattle.basics.proofs.Stores.{sets_behind, sets_comm, sets_over}
use Rattle.basics.proofs.Words.{length-word}
use Rattle.postings.specs.Coding.{code}
use Rattle.blocks.specs.declared.Head.{Head}
use Rattle.blocks.specs.Fields.{block_size, head_fixed, link_size, place, link_of}
use Rattle.blocks.specs.Writes.{padded, growing, changing, head_bytes, open_head, fits, add_to, join_to}
use Rattle.blocks.proofs.Sizes.{sizes}

-- ---- a cleared block

pub length-padded : (s : List ℕ) → length s ≤ block_size → length (padded s) ≡ block_size
unfolding padded
length-padded s h = simp (length-append, length-replicate) (omega (arith, sizes))

-- bytes written at the front of a cleared block
pub padded-over : (a : List ℕ) (p : ℕ) (s : List ℕ) → length s ≤ block_size → sets (sets a p (padded [])) p s ≡ sets a p (padded s)
unfolding padded block_size
padded-over a p s h =
    sets_over a p (replicate block_size 0) s (rw length-replicate h) ∙ ap (λ (z : List ℕ). sets a p (s ++ z)) (drop-replicate (length s) block_size 0)

-- ---- the fields of a head

pub length-changing : (tail last postings end : ℕ) → length (changing tail last postings end) ≡ 13
unfolding changing
length-changing tail last postings end = simp (length-append, length-word)

pub length-head_bytes : (b : ℕ) (name : List ℕ) (n f : ℕ) → length (head_bytes b name n f) ≡ head_fixed + length name + length (code n f)
unfolding head_bytes
length-head_bytes b name n f = simp (length-append, length-word, length-changing) (omega (arith, sizes))

-- ---- what the stores of the code come to

-- the fields of a head that every posting changes, one after the other
pub growing-stored : (a : List ℕ) (p last postings end : ℕ)
    → sets (sets (sets a (p + 8) (word last)) (p + 12) (word postings)) (p + 16) (end ∷ []) ≡ sets a (p + 8) (growing last postings end)
growing-stored a p last postings end =
    let l₁ : length (word last) ≡ 4 = length-word last in
    let l₂ : length (word postings) ≡ 4 = length-word postings in
    rw (
      sets_behind a (p + 8) (word last) (p + 12) (word postings) (omega (arith, sizes)),
      sets_behind a (p + 8) (word last ++ word postings) (p + 16) (end ∷ []) (simp length-append (omega (arith, sizes))),
    )

-- with the tail before them
pub changing-stored : (a : List ℕ) (p tail last postings end : ℕ)
    → sets (sets a (p + 4) (word tail)) (p + 8) (growing last postings end) ≡ sets a (p + 4) (changing tail last postings end)
unfolding changing
changing-stored a p tail last postings end =
    let l : length (word tail) ≡ 4 = length-word tail in
    sets_behind a (p + 4) (word tail) (p + 8) (growing last postings end) (omega (arith, sizes))

-- a new term's block: cleared, then its number, the length of the name, the name, the posting, and at last the fields that change
pub open_stored : (a : List ℕ) (b : ℕ) (name : List ℕ) (n f : ℕ) → head_fixed + length name + length (code n f) ≤ block_size
    → sets (sets (sets (sets (sets (sets a (place b) (padded [])) (place b) (word n)) (place b + 17) (length name ∷ [])) (place b + head_fixed) name) (place b + (head_fixed + length name)) (code n f)) (place b + 4) (changing b n 1 (head_fixed + length name + length (code n f)))
    ≡ open_head a b name n f
unfolding open_head head_bytes
open_stored a b name n f h =
    let p = place b in
    let w = word n in
    let e = changing b n 1 (head_fixed + length name + length (code n f)) in
    let l = length name ∷ [] in
    let s = sets a p (padded []) in
    let t = sets s p w in
    let r = l ++ name ++ code n f in
    let lw : length w ≡ 4 = length-word n in
    let le : length e ≡ 13 = length-changing b n 1 (head_fixed + length name + length (code n f)) in
    let fit : length (w ++ e ++ r) ≤ block_size = simp length-append (omega (arith, sizes)) in
    rw (
      sets_behind t (p + 17) l (p + head_fixed) name (omega (arith, sizes)),
      sets_behind t (p + 17) (l ++ name) (p + (head_fixed + length name)) (code n f) (simp length-append (omega (arith, sizes))),
      sets_comm t (p + 4) e (p + 17) r (omega (arith, sizes)),
      sets_behind s p w (p + 4) e (omega (arith, sizes)),
      sets_behind s p (w ++ e) (p + 17) r (simp length-append (omega (arith, sizes))),
      padded-over a p (w ++ e ++ r) fit,
    )
    (simp append_assoc)

-- a block that a chain goes on in: the block before leads to it; it is cleared, then its number, its first posting, and at last the head's fields
pub join_stored : (a : List ℕ) (h : ℕ) (d : Head) (b n f : ℕ) → link_size + length (code (n - link_of a d.tail) f) ≤ block_size
    → sets (sets (sets (sets (sets a (place d.tail) (word b)) (place b) (padded [])) (place b) (word n)) (place b + link_size) (code (n - link_of a d.tail) f)) (place h + 4) (changing b n (d.postings + 1) (link_size + length (code (n - link_of a d.tail) f)))
    ≡ join_to a h d b n f
unfolding join_to
join_stored a h d b n f l =
    let c = code (n - link_of a d.tail) f in
    let s = sets a (place d.tail) (word b) in
    let lw : length (word n) ≡ 4 = length-word n in
    let fit : length (word n ++ c) ≤ block_size = simp length-append (omega (arith, sizes)) in
    rw (sets_behind (sets s (place b) (padded [])) (place b) (word n) (place b + link_size) c (omega (arith, sizes)), padded-over s (place b) (word n ++ c) fit)

-- ---- a posting in the tail

-- a posting that fits ends in the block
pub fits-room : (d : Head) (n f : ℕ) → fits d n f ≡ true → d.end + length (code (n - d.last) f) ≤ block_size
unfolding fits
fits-room d n f e = leb-true (d.end + length (code (n - d.last) f)) block_size e

-- ---- the arena keeps its length

pub length-open_head : (a : List ℕ) (b : ℕ) (name : List ℕ) (n f : ℕ) → length (open_head a b name n f) ≡ length a
unfolding open_head
length-open_head a b name n f = length-sets a (place b) (padded (head_bytes b name n f))

pub length-add_to : (a : List ℕ) (h : ℕ) (d : Head) (n f : ℕ) → length (add_to a h d n f) ≡ length a
unfolding add_to
length-add_to a h d n f = simp length-sets

pub length-join_to : (a : List ℕ) (h : ℕ) (d : Head) (b n f : ℕ) → length (join_to a h d b n f) ≡ length a
unfolding join_to
length-join_to a h d b n f = simp length-sets

-- what the test of a posting's room takes
pub ruleset fitting = (nat_tests, length-code_le)
