-- Reading a chain of blocks (document 01, "Blocks"; its damage as "Where each refusal is checked" lists it for
-- listing).
use Rattle.std.specs.Prelude.{ℕ, zero, suc, ◌+◌, ◌-◌, ◌≤◌, ◌<◌, List, [], ◌∷◌, Option, Some, None, Result, Ok, Err, Bool, true, false, cond, ◌&&◌, ◌||◌, ltb, leb, eqb, length, get_or}
use Rattle.postings.specs.Coding.{counted, decoded}
use Rattle.postings.specs.declared.Decoded.{Decoded}
use Rattle.blocks.specs.declared.Head.{Head}
use Rattle.blocks.specs.Fields.{block_size, head_fixed, link_size, capacity, place, link_of, head_of, part_start, part_of}
use Rattle.blocks.specs.Prescribed.{Posting}
use Rattle.chains.specs.declared.Cursor.{Cursor}
use Rattle.chains.specs.declared.Step.{Step}
use Rattle.refusals.specs.declared.Refusal.{Refusal}
use Rattle.refusals.specs.declared.Refusal.TheVariants.{Damaged}

-- ---- one posting after another
-- A cursor is a place in a chain: the block and the offset in it, the last number read, the block's first number (0
-- before its first posting), how many more blocks there can be, and from the head the tail block and the write offset
-- there.

-- where the postings part of block b ends
unfoldable pub part_end : Cursor → ℕ → ℕ
part_end c b = cond (eqb b c.tail) c.end block_size

-- the bytes of the cursor's part, from the cursor on
abbrev pub part_at : List ℕ → Cursor → List ℕ
part_at a c = part_of a c.block c.at (part_end c c.block)

-- the block's part is read: to the write offset in the tail, elsewhere to the block's end or a null byte
unfoldable pub exhausted : List ℕ → Cursor → Bool
exhausted a c =
    cond (eqb c.block c.tail) (leb c.end c.at) (leb block_size c.at || eqb (get_or a (place c.block + c.at) 0) 0)

-- what a step gives: a posting with the place behind it; the chain's end; or damage
abbrev pub Stepped : Type 0
Stepped = Result (Option Step) Refusal

-- report n with count f, and place c behind it
abbrev pub stepped : ℕ → ℕ → Cursor → Stepped
stepped n f c = Ok (Some (record { number = n; count = f; next = c }))

abbrev pub at_end : Stepped
at_end = Ok None

abbrev pub damage : Stepped
damage = Err Damaged

-- a number that was counted, where it is past the last one
abbrev pub past_last : ℕ → Option ℕ → Option ℕ
past_last last (Some n) = cond (ltb last n) (Some n) None
past_last last None = None

-- the cursor past a posting of l bytes with number n
abbrev pub past : Cursor → ℕ → ℕ → Cursor
past c n l = record c { at = c.at + l; number = n; first = cond (eqb c.first 0) n c.first }

-- the step to a posting with number n: damage where none was counted
unfoldable pub step_to : Cursor → Decoded → Option ℕ → Stepped
step_to c d (Some n) = stepped n d.count (past c n d.length)
step_to c d None = damage

-- the posting that stands at the cursor, its gap counted from `base`: damage if there is none, or its number is over
-- reports or not past the last one
unfoldable pub given : ℕ → Cursor → ℕ → Option Decoded → Stepped
given reports c base (Some d) = step_to c d (past_last c.number (counted reports base d.gap))
given reports c base None = damage

unfoldable pub read_at : List ℕ → ℕ → Cursor → ℕ → Stepped
read_at a reports c base = given reports c base (decoded (part_at a c))

-- the block that a block's link leads to, where it is used
abbrev pub linked : List ℕ → ℕ → ℕ → Option ℕ
linked a used b = cond (ltb (link_of a b) used) (Some (link_of a b)) None

-- the start of block b, behind the one at the cursor
unfoldable pub entered : Cursor → ℕ → Cursor
entered c b = record c { block = b; at = link_size; first = 0; left = c.left - 1 }

-- there, where the link leads to a used block and there are not more blocks than used
abbrev pub entered_at : Cursor → Option ℕ → Option Cursor
entered_at c (Some b) = cond (ltb 0 c.left) (Some (entered c b)) None
entered_at c None = None

-- the next block: damage if it is not used, or there are more blocks than used. Its first posting carries a b-gap
unfoldable pub next_block : List ℕ → ℕ → ℕ → Cursor → Stepped
next_block a used reports c =
    let b = link_of a c.block in
    cond (eqb c.left 0 || leb used b) damage (read_at a reports (entered c b) c.first)

-- one step. A head's first gap counts from 0; every posting but a block's first carries a d-gap, counted from the last
-- number. A block without a posting is damage
unfoldable pub step_at : List ℕ → ℕ → ℕ → Cursor → Stepped
step_at a used reports c =
    cond (exhausted a c)
    (cond (eqb c.first 0) damage (cond (eqb c.block c.tail) at_end (next_block a used reports c)))
    (read_at a reports c (cond (eqb c.first 0) 0 c.number))

-- a place in a used block of the arena, with a write offset that lies in a block
unfoldable pub is_place : List ℕ → ℕ → Cursor → Bool
is_place a used c = leb used (capacity a) && (ltb c.block used && (leb link_size c.end && leb c.end block_size))

-- a step from any place; damage where it is none
unfoldable pub step_from : List ℕ → ℕ → ℕ → Cursor → Stepped
step_from a used reports c = cond (is_place a used c) (step_at a used reports c) damage

-- ---- a whole chain

pub data Reading : Type 0 where
  damaged : Reading
  whole : List Posting → Reading

unfoldable pub onto : Posting → Reading → Reading
onto p damaged = damaged
onto p (whole ps) = whole (p ∷ ps)

-- a posting and what is read behind it, or the end
unfoldable pub follow : (Cursor → Reading) → Stepped → Reading
follow rest (Ok (Some s)) = onto (record { number = s.number; count = s.count }) (rest s.next)
follow rest (Ok None) = whole []
follow rest (Err r) = damaged

-- the postings from a cursor on. Numbers ascend up to reports, so more steps than reports are never needed
unfoldable pub run : ℕ → List ℕ → ℕ → ℕ → Cursor → Reading
run zero a used reports c = damaged
run (suc fuel) a used reports c = follow (run fuel a used reports) (step_at a used reports c)

-- before the first posting of head h
unfoldable pub at_head : Head → ℕ → ℕ → Cursor
at_head d used h = record {
  tail = d.tail;
  end = d.end;
  block = h;
  at = head_fixed + d.length;
  number = 0;
  first = 0;
  left = used - 1;
}

-- a tail that is not used, or a write offset out of place: not past the start of its block's part, or over 64
unfoldable pub bad_head : Head → ℕ → ℕ → Bool
bad_head d used h = leb used d.tail || (leb d.end (part_start d h d.tail) || ltb block_size d.end)

-- the number of the last posting; `number` where there is none
unfoldable pub last_from : ℕ → List Posting → ℕ
last_from number [] = number
last_from number (p ∷ ps) = last_from p.number ps

-- the postings agree with the head's number of postings and last report
unfoldable pub agreeing : Head → Reading → Reading
agreeing d damaged = damaged
agreeing d (whole ps) = cond (eqb (length ps) d.postings && eqb (last_from 0 ps) d.last) (whole ps) damaged

-- the chain of head h
unfoldable pub chain_of : List ℕ → ℕ → ℕ → ℕ → Reading
chain_of a used reports h =
    let d = head_of a h in cond (bad_head d used h) damaged (agreeing d (run (suc reports) a used reports (at_head d used h)))

unfoldable pub is_whole : Reading → Bool
is_whole damaged = false
is_whole (whole ps) = true

-- what following a cursor needs: its block is used, used blocks lie in the arena, and the write offset lies in the
-- block
pub record Follows (a : List ℕ) (used : ℕ) (c : Cursor) : Type 0 where
  pub inside : place used ≤ length a
  pub in_use : c.block < used
  pub end_in : c.end ≤ block_size
