-- The twelve marked cases of document 01: ten postings, a single value, and the chain of a term of 36 bytes. One
-- computed test shows them right.
use Rattle.std.specs.Prelude.{ℕ, zero, suc, ◌+◌, ◌-◌, ◌*◌, List, [], ◌∷◌, ◌++◌, map, Bool, ◌&&◌, eqb, length, replicate}
use Rattle.basics.specs.Lists.{all, same}
use Rattle.postings.specs.Marked.{marked}
use Rattle.postings.specs.Marked as coding
use Rattle.blocks.specs.Fields.{block_size, head_fixed, link_size, link_of, head_of, part_of}
use Rattle.blocks.specs.Writes.{open_head, append}

-- a coding, or a term with the postings part that its head holds when it is full and the part of the block behind it
pub data Case : Type 0 where
  coded : coding.Case → Case
  chained : List ℕ → List ℕ → List ℕ → Case

unfoldable pub cases : List Case
cases = map coded marked ++ (chained (replicate 36 0x61) (replicate 10 0x01) (0x25 ∷ []) ∷ [])

-- an arena of two blocks that holds the term in reports 1 to n + 1, count 1 each
unfoldable pub grown : List ℕ → ℕ → List ℕ
grown name zero = open_head (replicate (2 * block_size) 0) 0 name 1 1
grown name (suc n) = append (grown name n) 0 1 (n + 2) 1

-- with as many reports as its part has bytes the head is full to offset 64; one report more stands alone in block 1
unfoldable pub right : Case → Bool
right (coded c) = coding.right c
right (chained name part next) =
    let n = length part in
    let start = head_fixed + length name in
    let full = grown name (n - 1) in
    let more = grown name n in
    same (part_of full 0 start block_size) part && eqb (head_of full 0).end block_size
    && eqb (head_of more 0).tail 1
    && eqb (link_of more 1) (n + 1)
    && eqb (head_of more 0).end (link_size + length next)
    && same (part_of more 1 link_size (link_size + length next)) next

unfoldable pub marked_right : Bool
marked_right = all right cases
