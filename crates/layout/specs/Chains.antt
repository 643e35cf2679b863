-- A term's postings laid out as a chain of blocks (document 01, "Blocks"): which posting goes to which block, and with
-- which gap.
use Rattle.std.specs.Prelude.{ℕ, ◌+◌, ◌-◌, ◌≤◌, ◌<◌, List, [], ◌∷◌, ◌++◌, Bool, true, false, leb, length, get_or}
use Rattle.postings.specs.Coding.{max_count, code}
use Rattle.blocks.specs.Fields.{max_word, block_size}
use Rattle.blocks.specs.Prescribed.{Posting, Reach, opened, onward}

-- ---- postings that a chain can hold

-- a posting that may stand behind number `last`
pub record After (last : ℕ) (p : Posting) : Type 0 where
  pub above : last < p.number
  pub number_small : p.number ≤ max_word
  pub count_pos : 1 ≤ p.count
  pub count_small : p.count ≤ max_count

-- postings that may stand behind number `last`, one behind the other
pub data Rising : ℕ → List Posting → Type 0 where
  none : {last : ℕ} → Rising last []
  next : {last : ℕ} {p : Posting} {ps : List Posting} → After last p → Rising p.number ps → Rising last (p ∷ ps)

-- ---- entries and blocks

-- what is coded of a posting: a gap and the count
pub record Entry : Type 0 where
  pub gap : ℕ
  pub count : ℕ

abbrev pub coded : Entry → List ℕ
coded e = code e.gap e.count

unfoldable pub codes : List Entry → List ℕ
codes [] = []
codes (e ∷ es) = coded e ++ codes es

-- a block holds one entry at least. The gap of its first counts from the first number of the block before (a b-gap; in
-- the head from 0), that of any other from the number before (a d-gap)
pub record Block : Type 0 where
  pub opening : Entry
  pub others : List Entry

abbrev pub entries : Block → List Entry
entries k = k.opening ∷ k.others

-- the entry of a posting in the block reached, and in the next
abbrev pub d_entry : Reach → Posting → Entry
d_entry r p = record { gap = p.number - r.last; count = p.count }

abbrev pub b_entry : Reach → Posting → Entry
b_entry r p = record { gap = p.number - r.first; count = p.count }

-- ---- a chain, grown posting by posting

-- its blocks but the tail, the tail, and where it has got to
pub record Chain : Type 0 where
  pub closed : List Block
  pub tail : Block
  pub reach : Reach

-- a head whose postings begin at `start`, with its first posting
unfoldable pub begun : ℕ → Posting → Chain
begun start p = record {
  closed = [];
  tail = record { opening = record { gap = p.number; count = p.count }; others = [] };
  reach = opened start p;
}

-- the posting ends by byte 63 of the block reached
unfoldable pub stays : Reach → Posting → Bool
stays r p = leb (r.offset + length (coded (d_entry r p))) block_size

-- one posting more: in the tail, or in a new block
abbrev pub put_as : Bool → Chain → Posting → Chain
put_as true c p = record {
  closed = c.closed;
  tail = record { opening = c.tail.opening; others = c.tail.others ++ (d_entry c.reach p ∷ []) };
  reach = onward c.reach p;
}
put_as false c p = record {
  closed = c.closed ++ (c.tail ∷ []);
  tail = record { opening = b_entry c.reach p; others = [] };
  reach = onward c.reach p;
}

unfoldable pub put : Chain → Posting → Chain
put c p = put_as (stays c.reach p) c p

unfoldable pub puts : Chain → List Posting → Chain
puts c [] = c
puts c (p ∷ ps) = puts (put c p) ps

-- the blocks of a chain, and the j-th of them
abbrev pub blocks : Chain → List Block
blocks c = c.closed ++ (c.tail ∷ [])

abbrev pub block_in : Chain → ℕ → Block
block_in c j = get_or c.closed j c.tail
