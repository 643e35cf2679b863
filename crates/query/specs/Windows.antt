-- Windows of 64 reports, as chains are asked for them.
use Rattle.std.specs.Prelude.{ℕ, zero, suc, ◌+◌, ◌^◌, ◌≤◌, ◌<◌, ◌≡◌, min, max, List, Bool, true, ◌&&◌, leb, length, get_or}
use Rattle.blocks.specs.Fields.{max_word}
use Rattle.chains.specs.declared.Cursor.{Cursor}
use Rattle.chains.specs.Chains.{stepped, step_at}
use Rattle.counters.specs.declared.Counters.{Counters}
use Rattle.query.specs.declared.Marked.{Marked}
use Rattle.query.specs.declared.window.Window.{Window}
use Rattle.query.specs.Listing.{holds}
use Rattle.query.specs.Needs.{Stands, Sought, ahead, postings_at, nowhere}
use Rattle.query.specs.Marks.{In, is_marked, with_mark}

-- ---- the marks of a chain

-- a cursor has moved on, posting by posting, and each report that it came to is marked, up to `to`
pub data Marking (a : List ℕ) (k : Counters) (base to : ℕ) (c₀ : Cursor) (m₀ : ℕ) : Cursor → ℕ → Type 0 where
  none : Marking a k base to c₀ m₀ c₀ m₀
  on : {c c' : Cursor} {m n f : ℕ} → Marking a k base to c₀ m₀ c m → c.number < to → step_at a k.used k.reports c ≡ stepped n f c'
      → Marking a k base to c₀ m₀ c' (with_mark base to m n)

-- the reports of a chain from cursor c up to `to` are marked, and no others; cursor r is c moved on to the first report
-- at or past `to`
pub record MarkedTo (a : List ℕ) (k : Counters) (base to : ℕ) (c r : Cursor) (mask : ℕ) : Type 0 where
  pub sought : Sought a k c to r
  pub in_bits : mask < 2 ^ 64
  pub marks : (n : ℕ) → In base n → is_marked mask base n ≡ ahead a k c n && leb n to

-- ---- a window as chains are asked for it

-- its last report, or the last that there can be
abbrev pub window_end : ℕ → ℕ
window_end base = min (base + 63) max_word

-- before a chain is asked all its reports up to that one are marked, and the next window begins behind it
pub record Begun (first : ℕ) (w : Window) : Type 0 where
  pub base : w.span.base ≡ first
  pub to : w.span.to ≡ window_end first
  pub marks : (n : ℕ) → In first n → is_marked w.mask first n ≡ leb n w.span.to
  pub next : w.next ≡ w.span.to + 1

-- what is left of it where a chain was asked, which gave the marks m: the reports marked by both; a window has none
-- marked behind its last one
pub record Narrowed (w : Window) (m : Marked) (r : Window) : Type 0 where
  pub base : r.span.base ≡ w.span.base
  pub in_bits : r.mask < 2 ^ 64
  pub marks : (n : ℕ) → In w.span.base n → is_marked r.mask w.span.base n ≡ is_marked w.mask w.span.base n && is_marked m.mask w.span.base n
  pub next : r.next ≡ max w.next m.place.number

-- ---- the chains of several heads

-- the chains of the first i heads hold report n
unfoldable pub all_hold : List ℕ → Counters → List ℕ → ℕ → ℕ → Bool
all_hold a k hs zero n = true
all_hold a k hs (suc i) n = all_hold a k hs i n && holds (postings_at a k (get_or hs i 0)) n

-- a cursor for each head, which has the reports from `low` on of the head's chain
pub record Streams (a : List ℕ) (k : Counters) (hs : List ℕ) (low : ℕ) (cs : List Cursor) : Type 0 where
  pub stands : (j : ℕ) → j < length hs → Stands a k (get_or cs j nowhere)
  pub same : (j : ℕ) → j < length hs → (n : ℕ) → low ≤ n → holds (postings_at a k (get_or hs j 0)) n ≡ ahead a k (get_or cs j nowhere) n
