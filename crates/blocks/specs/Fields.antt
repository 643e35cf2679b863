-- The arena and the fields of its blocks (document 01, "Memory lent to the index" and "Blocks"; source document 001,
-- figure 3).
use Rattle.std.specs.Prelude.{ℕ, ◌+◌, ◌-◌, ◌*◌, ◌/◌, min, List, cond, eqb, length, get_or, take, drop}
use Rattle.basics.specs.Words.{word_at}
use Rattle.blocks.specs.declared.Head.{Head}

-- ---- sizes

-- the bytes that are counted as one: by them the arena has room for blocks, and a block stands at its number times
-- them
abbrev pub unit : ℕ
unit = 64

-- the bytes of a block
unfoldable pub block_size : ℕ
block_size = 64

-- the bytes of a head before its term, and of any other block before its postings
unfoldable pub head_fixed : ℕ
head_fixed = 18

unfoldable pub link_size : ℕ
link_size = 4

-- blocks are numbered with 32 bits
abbrev pub max_word : ℕ
max_word = 4294967295

-- how many blocks an arena of so many bytes holds
abbrev pub blocks_in : ℕ → ℕ
blocks_in bytes = min (bytes / unit) max_word

unfoldable pub capacity : List ℕ → ℕ
capacity a = blocks_in (length a)

-- where block b stands in the arena
abbrev pub place : ℕ → ℕ
place b = unit * b

-- ---- fields

-- the next block's number; in the tail, the block's first report number
unfoldable pub link_of : List ℕ → ℕ → ℕ
link_of a b = word_at a (place b)

-- of a head: the tail block, the last report, the number of postings, the write offset in the tail, the length of the
-- term
unfoldable pub head_of : List ℕ → ℕ → Head
head_of a h = record {
  tail = word_at a (place h + 4);
  last = word_at a (place h + 8);
  postings = word_at a (place h + 12);
  end = get_or a (place h + 16) 0;
  length = get_or a (place h + 17) 0;
}

-- the length of a head's term, the bytes where a term of length n stands, and the term
unfoldable pub term_length : List ℕ → ℕ → ℕ
term_length a h = get_or a (place h + 17) 0

unfoldable pub name_part : List ℕ → ℕ → ℕ → List ℕ
name_part a h n = take n (drop (place h + head_fixed) a)

unfoldable pub name_of : List ℕ → ℕ → List ℕ
name_of a h = name_part a h (term_length a h)

-- where the postings of block b begin in the chain of head h: every block but the head itself is read as one of the
-- other blocks
unfoldable pub part_start : Head → ℕ → ℕ → ℕ
part_start d h b = cond (eqb b h) (head_fixed + d.length) link_size

-- the bytes of block b from offset `from` up to offset `to`
unfoldable pub part_of : List ℕ → ℕ → ℕ → ℕ → List ℕ
part_of a b from to = take (to - from) (drop (place b + from) a)
