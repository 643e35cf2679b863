-- Writing postings into blocks (document 01, "Blocks"; source document 001, algorithm 1).
use Rattle.std.specs.Prelude.{ℕ, ◌+◌, ◌-◌, ◌≤◌, ◌<◌, List, [], ◌∷◌, ◌++◌, Bool, cond, leb, length, replicate}
use Rattle.std.proofs.lemmas.List.Edits.{sets}
use Rattle.basics.specs.Words.{word}
use Rattle.postings.specs.Coding.{code}
use Rattle.blocks.specs.declared.Head.{Head}
use Rattle.blocks.specs.Fields.{max_word, block_size, head_fixed, link_size, place, link_of, head_of}

-- a block is cleared when taken
unfoldable pub padded : List ℕ → List ℕ
padded s = s ++ replicate (block_size - length s) 0

-- the fields of a head that every posting changes: last report, number of postings, write offset
abbrev pub growing : ℕ → ℕ → ℕ → List ℕ
growing last postings end = word last ++ word postings ++ (end ∷ [])

-- and before them the tail block, which a posting in a new block changes
unfoldable pub changing : ℕ → ℕ → ℕ → ℕ → List ℕ
changing tail last postings end = word tail ++ growing last postings end

-- ---- a new term: its head at block b, with report n and count f. A head's first gap counts from 0

unfoldable pub head_bytes : ℕ → List ℕ → ℕ → ℕ → List ℕ
head_bytes b name n f =
    word n ++ changing b n 1 (head_fixed + length name + length (code n f)) ++ (length name ∷ []) ++ name ++ code n f

unfoldable pub open_head : List ℕ → ℕ → List ℕ → ℕ → ℕ → List ℕ
open_head a b name n f = sets a (place b) (padded (head_bytes b name n f))

-- ---- one more posting of the term with head h: report n, count f

-- it fits by byte 63 with its d-gap, counted from the last report
unfoldable pub fits : Head → ℕ → ℕ → Bool
fits d n f = leb (d.end + length (code (n - d.last) f)) block_size

-- it goes to the write offset of the tail
unfoldable pub add_to : List ℕ → ℕ → Head → ℕ → ℕ → List ℕ
add_to a h d n f =
    let c = code (n - d.last) f in
    sets (sets a (place d.tail + d.end) c) (place h + 8) (growing n (d.postings + 1) (d.end + length c))

-- or block b becomes the tail, and its first posting carries a b-gap, counted from the first number of the block
-- before; the block before now leads to b
unfoldable pub join_to : List ℕ → ℕ → Head → ℕ → ℕ → ℕ → List ℕ
join_to a h d b n f =
    let c = code (n - link_of a d.tail) f in
    sets (sets (sets a (place d.tail) (word b)) (place b) (padded (word n ++ c))) (place h + 4)
    (changing b n (d.postings + 1) (link_size + length c))

unfoldable pub append : List ℕ → ℕ → ℕ → ℕ → ℕ → List ℕ
append a h b n f = let d = head_of a h in cond (fits d n f) (add_to a h d n f) (join_to a h d b n f)

-- what one posting more needs of the head: head and tail lie in the arena, the write offset in the block, numbers
-- ascend and postings can be counted
pub record Appends (a : List ℕ) (h : ℕ) (d : Head) (n : ℕ) : Type 0 where
  pub head_in : place h + block_size ≤ length a
  pub tail_in : place d.tail + block_size ≤ length a
  pub inside : d.end ≤ block_size
  pub ascends : d.last < n
  pub countable : d.postings < max_word
