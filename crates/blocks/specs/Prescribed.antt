-- The blocks that a term's postings prescribe (document 01, "The plain ledger of demand 3"), as a function of the
-- postings alone.
use Rattle.std.specs.Prelude.{ℕ, ◌+◌, ◌-◌, List, [], ◌∷◌, cond, leb, length}
use Rattle.postings.specs.Coding.{code}

-- where a block is full, where the postings of a head begin but for its term, and where those of any other block: said
-- here in the ledger's own words
abbrev pub full : ℕ
full = 64

abbrev pub behind_fields : ℕ
behind_fields = 18

abbrev pub behind_link : ℕ
behind_link = 4

-- a report that holds a term, with the count there
pub record Posting : Type 0 where
  pub number : ℕ
  pub count : ℕ

-- where a chain has got to: blocks so far, the offset reached in the last one, its first number, the last number
pub record Reach : Type 0 where
  pub blocks : ℕ
  pub offset : ℕ
  pub first : ℕ
  pub last : ℕ

-- a head, whose postings begin at `start`, with its first posting
unfoldable pub opened : ℕ → Posting → Reach
opened start p = record {
  blocks = 1;
  offset = start + length (code p.number p.count);
  first = p.number;
  last = p.number;
}

-- one posting more: in the block reached if it fits by byte 63 with its d-gap, else at byte 4 of the next with its
-- b-gap
unfoldable pub onward : Reach → Posting → Reach
onward r p =
    let d = r.offset + length (code (p.number - r.last) p.count) in
    cond (leb d full) (record { blocks = r.blocks; offset = d; first = r.first; last = p.number }) (record {
      blocks = r.blocks + 1;
      offset = behind_link + length (code (p.number - r.first) p.count);
      first = p.number;
      last = p.number;
    })

unfoldable pub reached : Reach → List Posting → Reach
reached r [] = r
reached r (p ∷ ps) = reached (onward r p) ps

-- how many blocks the postings of a term of so many bytes take
unfoldable pub prescribed : ℕ → List Posting → ℕ
prescribed n [] = 0
prescribed n (p ∷ ps) = (reached (opened (behind_fields + n) p) ps).blocks
