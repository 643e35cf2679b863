-- A held term: its postings, the blocks that they take, and the 64 bytes of each of these blocks.
use Rattle.std.specs.Prelude.{ℕ, zero, suc, ◌+◌, ◌-◌, List, [], ◌∷◌, ◌++◌, length, get_or}
use Rattle.basics.specs.Words.{word}
use Rattle.blocks.specs.declared.Head.{Head}
use Rattle.blocks.specs.Fields.{head_fixed}
use Rattle.blocks.specs.Writes.{padded, changing}
use Rattle.blocks.specs.Prescribed.{Posting}
use Rattle.layout.specs.Chains.{codes, entries, Chain, begun, puts, block_in}

-- its name, its postings, and the numbers of its blocks in the order of the chain
pub record Held : Type 0 where
  pub name : List ℕ
  pub first : Posting
  pub rest : List Posting
  pub nos : List ℕ

abbrev pub postings_of : Held → List Posting
postings_of t = t.first ∷ t.rest

-- the number of its j-th block, of its head and of its tail
abbrev pub block_no : Held → ℕ → ℕ
block_no t j = get_or t.nos j 0

abbrev pub head_no : Held → ℕ
head_no t = block_no t 0

abbrev pub tail_no : Held → ℕ
tail_no t = block_no t (length t.nos - 1)

-- where the postings of its head begin
abbrev pub start_of : Held → ℕ
start_of t = head_fixed + length t.name

unfoldable pub chain : Held → Chain
chain t = puts (begun (start_of t) t.first) t.rest

-- ---- bytes

-- the fields of its head
unfoldable pub head_for : Held → Head
head_for t = record {
  tail = tail_no t;
  last = (chain t).reach.last;
  postings = suc (length t.rest);
  end = (chain t).reach.offset;
  length = length t.name;
}

-- the link of its j-th block: the number of the next, or in the tail the block's first number
abbrev pub link_at : Held → ℕ → ℕ
link_at t j = get_or t.nos (suc j) (chain t).reach.first

-- the fields of a chain's j-th block and then x: the head, j = 0, has all the fields, another block its link alone
unfoldable pub form : ℕ → ℕ → Head → List ℕ → List ℕ → List ℕ
form zero link d name x = word link ++ changing d.tail d.last d.postings d.end ++ (length name ∷ []) ++ name ++ x
form (suc j) link d name x = word link ++ x

-- the codes of its j-th block, what is written of that block, and all of its bytes
abbrev pub codes_at : Held → ℕ → List ℕ
codes_at t j = codes (entries (block_in (chain t) j))

unfoldable pub written : Held → ℕ → List ℕ
written t j = form j (link_at t j) (head_for t) t.name (codes_at t j)

unfoldable pub block_bytes : Held → ℕ → List ℕ
block_bytes t j = padded (written t j)
