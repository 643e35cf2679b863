-- What the functions of this crate share: a named term's chain, the postings of a head, and cursors that move forward
-- together.
use Rattle.std.specs.Prelude.{◌≡◌, ℕ, suc, ◌+◌, ◌-◌, ◌≤◌, ◌<◌, List, [], map, Option, Some, None, Result, Ok, Err, Bool, true, false, cond, ◌||◌, ltb, leb, eqb, length, get_or, take, set}
use Rattle.basics.specs.Lists.{keep}
use Rattle.refusals.specs.declared.Refusal.{Refusal}
use Rattle.refusals.specs.declared.Refusal.TheVariants.{Damaged}
use Rattle.refusals.specs.Numbers.{number_of}
use Rattle.frames.specs.Frames.{query_refusal, query_start, query_terms}
use Rattle.counters.specs.Counters.{Memory}
use Rattle.postings.specs.Coding.{decoded}
use Rattle.blocks.specs.Fields.{link_size, head_of, capacity}
use Rattle.blocks.specs.Prescribed.{Posting}
use Rattle.chains.specs.declared.Cursor.{Cursor}
use Rattle.chains.specs.Parts.{StepsIn, InPart}
use Rattle.chains.specs.Chains.{Reading, part_at, stepped, next_block, run, at_head, is_whole, chain_of, Follows}
use Rattle.lookup.specs.declared.Found.{Found}
use Rattle.lookup.specs.declared.Found.TheVariants.{At, Unknown}
use Rattle.counters.specs.declared.Counters.{Counters}
use Rattle.query.specs.declared.ListAnswer.{ListAnswer}
use Rattle.query.specs.declared.listed.Listed.{Listed}
use Rattle.query.specs.Listing.{ListedOne, ListedAll, refused, postings_in, holds, common, damaged_terms, matches}

-- ---- the answer of a listing

abbrev pub listed_as : Bool → ℕ → ListAnswer
listed_as more filled = record { refusal = 0; more = more; filled = filled }

abbrev pub answer_as : Result Listed Refusal → ListAnswer
answer_as (Ok l) = listed_as l.more l.filled
answer_as (Err r) = refused (number_of r)

-- ---- one term

-- the head of a term's chain as the search found it: none where the term is unknown, and damage where the chain is not
-- whole
unfoldable pub chain_as : List ℕ → Counters → Result Found Refusal → Result (Option ℕ) Refusal
chain_as a k (Ok (At h)) = cond (is_whole (chain_of a k.used k.reports h)) (Ok (Some h)) (Err Damaged)
chain_as a k (Ok (Unknown s)) = Ok None
chain_as a k (Err r) = Err r

-- head h is used and its chain is sound
pub record Readable (a : List ℕ) (k : Counters) (h : ℕ) : Type 0 where
  pub inside : k.used ≤ capacity a
  pub in_use : h < k.used
  pub sound : is_whole (chain_of a k.used k.reports h) ≡ true

-- the postings of a head's chain at or past the start
unfoldable pub from_start : List ℕ → Counters → ℕ → ℕ → List Posting
from_start a k h start = keep (λ p. leb start p.number) (postings_in (chain_of a k.used k.reports h))

abbrev pub filled_as : ListAnswer → List ℕ → List ℕ → ListedOne
filled_as r numbers counts = record { answer = r; numbers = numbers; counts = counts }

-- lists filled while a cursor moves on within a part: before the start a posting is passed over, from there on it is
-- stored in the next place
pub data Fills (a : List ℕ) (reports start : ℕ) (c₀ : Cursor) (numbers₀ counts₀ : List ℕ) (n₀ : ℕ) : Cursor → List ℕ → List ℕ → ℕ → Type 0 where
  none : Fills a reports start c₀ numbers₀ counts₀ n₀ c₀ numbers₀ counts₀ n₀
  over : {c c' : Cursor} {numbers counts : List ℕ} {n m f : ℕ} → Fills a reports start c₀ numbers₀ counts₀ n₀ c numbers counts n
      → StepsIn a reports c m f c' → m < start
      → Fills a reports start c₀ numbers₀ counts₀ n₀ c' numbers counts n
  stored : {c c' : Cursor} {numbers counts : List ℕ} {n m f : ℕ} → Fills a reports start c₀ numbers₀ counts₀ n₀ c numbers counts n
      → StepsIn a reports c m f c' → start ≤ m → n < length numbers → n < length counts
      → Fills a reports start c₀ numbers₀ counts₀ n₀ c' (set numbers n m) (set counts n f) (n + 1)

-- and they are filled as far as they can be: where both have room, no posting stands at the cursor
pub record FillsOut (a : List ℕ) (reports start : ℕ) (c₀ : Cursor) (numbers₀ counts₀ : List ℕ) (n₀ : ℕ) (c : Cursor) (numbers counts : List ℕ) (n : ℕ) : Type 0 where
  pub fills : Fills a reports start c₀ numbers₀ counts₀ n₀ c numbers counts n
  pub stops : n < length numbers → n < length counts → decoded (part_at a c) ≡ None

-- ---- all terms

abbrev pub all_as : ListAnswer → List ℕ → ListedAll
all_as r numbers = record { answer = r; numbers = numbers }

-- what is left to read from a cursor on
abbrev pub left : List ℕ → Counters → Cursor → Reading
left a k c = run (suc (k.reports - c.number)) a k.used k.reports c

-- a cursor in a chain that is sound from there on
pub record Stands (a : List ℕ) (k : Counters) (c : Cursor) : Type 0 where
  pub follows : Follows a k.used c
  pub far : link_size ≤ c.end
  pub sound : is_whole (left a k c) ≡ true
  pub within : c.number ≤ k.reports
  pub in_part : 0 < c.first → InPart a k.reports c

-- report n is the one at the cursor or one behind it
unfoldable pub ahead : List ℕ → Counters → Cursor → ℕ → Bool
ahead a k c n = eqb c.number n || holds (postings_in (left a k c)) n

-- cursor r is c moved forward: it has the same reports from `number` on
pub record Passing (a : List ℕ) (k : Counters) (c : Cursor) (number : ℕ) (r : Cursor) : Type 0 where
  pub stands : Stands a k r
  pub same : (n : ℕ) → number ≤ n → ahead a k c n ≡ ahead a k r n

-- by whole blocks, as far as they can be passed: it stopped behind a posting of the tail, or of a block behind which
-- the next one begins with a number over `number`
pub record Skipped (a : List ℕ) (k : Counters) (c : Cursor) (number : ℕ) (r : Cursor) : Type 0 where
  pub passing : Passing a k c number r
  pub forward : c.number ≤ r.number
  pub begun : 0 < r.first
  pub last : {n f : ℕ} {r' : Cursor} → (r.block ≡ r.tail → ⊥) → next_block a k.used k.reports r ≡ stepped n f r' → number < n

-- to the first report from `number` on: it has none of them where it stopped before `number`
pub record Sought (a : List ℕ) (k : Counters) (c : Cursor) (number : ℕ) (r : Cursor) : Type 0 where
  pub passing : Passing a k c number r
  pub none_left : r.number < number → (n : ℕ) → number ≤ n → ahead a k r n ≡ false

-- the reports of a head's chain
abbrev pub postings_at : List ℕ → Counters → ℕ → List Posting
postings_at a k h = postings_in (chain_of a k.used k.reports h)

-- 1 to 8 heads with sound chains
pub record Heads (a : List ℕ) (k : Counters) (hs : List ℕ) : Type 0 where
  pub some : 0 < length hs
  pub few : length hs ≤ 8
  pub readable : (i : ℕ) → i < length hs → Readable a k (get_or hs i 0)

-- what stands in the places that no head has
abbrev pub nowhere : Cursor
nowhere = record { tail = 0; end = 0; block = 0; at = 0; number = 0; first = 0; left = 0 }

-- a cursor before the first posting of each head
pub record Opened (a : List ℕ) (k : Counters) (hs : List ℕ) (cs : List Cursor) : Type 0 where
  pub eight : length cs ≡ 8
  pub at : (i : ℕ) → i < length hs → get_or cs i nowhere ≡ at_head (head_of a (get_or hs i 0)) k.used (get_or hs i 0)

-- the reports that all heads' chains hold, at or past the start
unfoldable pub all_from : List ℕ → Counters → List ℕ → ℕ → List Posting
all_from a k hs start = common start (map (postings_at a k) hs)

-- a sound query's frame, with room for the heads of its terms
pub record Named (a : List ℕ) (k : Counters) (f hs : List ℕ) : Type 0 where
  pub inside : k.used ≤ capacity a
  pub sound : query_refusal 3 8 f ≡ 0
  pub room : length hs ≡ 8

-- what the chains of the named terms tell: damage; or that nothing matches; or the matches, by the first n heads
unfoldable pub Told : Memory → List ℕ → List ℕ → Result (Option ℕ) Refusal → Type 0
Told m f hs (Err r) = (r ≡ Damaged) × (damaged_terms m (query_terms f) ≡ true)
Told m f hs (Ok None) = (damaged_terms m (query_terms f) ≡ false) × (matches m f ≡ [])
Told m f hs (Ok (Some n)) =
    (damaged_terms m (query_terms f) ≡ false)
    × (n ≤ length hs)
    × Heads m.arena m.counters (take n hs)
    × (matches m f ≡ all_from m.arena m.counters (take n hs) (query_start f))

-- by how many postings a head has the chains are asked in their order; 0 where there is no such block
unfoldable pub rarity : List ℕ → ℕ → ℕ
rarity a h = cond (ltb h (capacity a)) (head_of a h).postings 0
