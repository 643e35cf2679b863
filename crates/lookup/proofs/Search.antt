-- A search, slot by slot, in any table: what each slot met does, and what an answer tells.
-- Assumes nothing.
use mathlib.Core.Path.{◌≡◌, refl, sym, ◌∙◌}
use mathlib.Core.Bool.{Bool, true, false, cond}
use mathlib.Core.List.{List, ◌++◌}
use Rattle.std.specs.Prelude.{Result, Ok, Err, Option, Some, None}
use Rattle.std.specs.Iterator.{Yields}
use Prim.Native.Nat.{ℕ, zero, suc, ◌+◌, ◌-◌, ◌%◌, ◌≤◌, ◌<◌}
use native.Mathlib.Nat.{mod-lt}
use native.Mathlib.Omega.{arith}
use Rattle.std.proofs.lemmas.Bool.Decides.{nat_tests}
use borrow.Author.Tests.{lt-ltb, le-ltb, eq-eqb, ne_eqb}
use lib.Dec.{ltb, eqb}
use lib.ListN.{length, get_or, get_or-append, length-append, length-set}
use Rattle.std.specs.List.{range_with_len}
use Rattle.std.specs.declared.iter.Chain.{Chain}
use Rattle.std.specs.declared.ops.Range.{Range}
use Rattle.std.specs.Iterator.Adapters.{chain_steps, chain_first, chain_second, chain_first_done, chain_second_done}
use Rattle.std.proofs.iter.Yields.{nat_range_steps}
use Rattle.std.proofs.lemmas.Iterator.{YieldsList, YieldsList-from_range}
use Rattle.std.proofs.lemmas.Iterator.Consumers.{YieldsList-from_chain, YieldsList-turn, YieldsList-end}
use Rattle.std.proofs.lemmas.List.{get_or-append_right}
use Rattle.std.proofs.lemmas.List.FromFn.{length-range_with_len, get_or-range_with_len}
use Rattle.basics.specs.Lists.{same}
use Rattle.basics.proofs.Cases.{by-lt, by-eq}
use Rattle.basics.proofs.Lists.{same_eq, eq_same}
use Rattle.terms.specs.Terms.{fnv1a}
use Rattle.blocks.specs.Fields.{name_of}
use Rattle.blocks.proofs.Sizes.{block_unit}
use Rattle.refusals.specs.declared.Refusal.{Refusal}
use Rattle.refusals.specs.declared.Refusal.TheVariants.{Damaged}
use Rattle.lookup.specs.Lookup.{slots, next_slot, search_from, search, enter, first_entry}
use Rattle.lookup.specs.declared.Found.{Found}
use Rattle.lookup.specs.declared.Found.TheVariants.{At, Unknown}

-- ---- slots

-- a slot is an entry of the table
pub slots_le : (table : List ℕ) → slots table ≤ length table
unfolding slots
slots_le table = omega arith

-- entering a term leaves the number of entries, and of slots
pub length-enter : (table : List ℕ) (s b : ℕ) → length (enter table s b) ≡ length table
unfolding enter
length-enter table s b = length-set table s (b + 1)

pub slots-enter : (table : List ℕ) (s b : ℕ) → slots (enter table s b) ≡ slots table
unfolding slots enter
slots-enter table s b = rw length-set

-- one slot on
pub next_plain : (t s : ℕ) → (s + 1 ≡ t → ⊥) → next_slot t s ≡ s + 1
unfolding next_slot
next_plain t s n = rw (ne_eqb (s + 1) t n)

-- the first slot follows the last
pub next_last : (t s : ℕ) → s + 1 ≡ t → next_slot t s ≡ 0
unfolding next_slot
next_last t s e = rw (eq-eqb (s + 1) t e)

pub next_lt : (t s : ℕ) → s < t → next_slot t s < t
unfolding next_slot
next_lt t s h = grind (arith, nat_tests)

-- the n-th slot from slot s on, and all of them
abbrev pub nth_slot : ℕ → ℕ → ℕ → ℕ
nth_slot t s n = cond (ltb (s + n) t) (s + n) (s + n - t)

abbrev pub all_slots : ℕ → ℕ → List ℕ
all_slots t s = range_with_len s (t - s) ++ range_with_len 0 s

module _ (t s n : ℕ) (h : s < t) (l : n < t) where
  pub slot_nth : (d : ℕ) → get_or (all_slots t s) n d ≡ nth_slot t s n
  slot_nth d = grind (arith, nat_tests, length-range_with_len, get_or-append, get_or-append_right, get_or-range_with_len)

  pub slot_next : next_slot t (nth_slot t s n) ≡ nth_slot t s (n + 1)
  unfolding next_slot
  slot_next = grind (arith, nat_tests)

abbrev Slots : Type 0
Slots = Chain (Range ℕ) (Range ℕ)

abbrev slots_go : Slots → Option ℕ → Slots → Type 0
slots_go = chain_steps nat_range_steps nat_range_steps

-- a chain of two ranges that gives them all
pub record Meets (t s : ℕ) (c : Slots) : Type 0 where
  pub inside : s < t
  pub gives : YieldsList slots_go (λ x. x) c (all_slots t s)

module _ {t s : ℕ} where
  pub meets_all : {c : Slots} → s < t → chain_first c ≡ record { start = s; end = t } → chain_second c ≡ record { start = 0; end = s }
      → chain_first_done c ≡ false → chain_second_done c ≡ false → Meets t s c
  meets_all h a b d e =
      let first = YieldsList-from_range s t (t - s) a refl in
      let second = YieldsList-from_range 0 s s b (omega arith) in
      record { inside = h; gives = YieldsList-from_chain first second d e }

  as_many : s < t → length (all_slots t s) ≡ t
  as_many h = grind (arith, length-append, length-range_with_len)

  module _ {c : Slots} (w : Meets t s c) (xs : List ℕ) (d : Slots) (y : Yields slots_go c xs d) (r : Option ℕ) (u : Slots) (g : slots_go d r u) where
    -- a turn: the next slot
    pub slot_turn : {x : ℕ} → r ≡ Some x → (length xs < t) × (x ≡ nth_slot t s (length xs))
    slot_turn {x} i =
        let turn = YieldsList-turn w.gives xs d y r u x i g in
        let l : length xs < t = omega (arith, turn.0, as_many w.inside) in
        (l, turn.1 ∙ slot_nth t s (length xs) w.inside l x)

    -- the end: all have been met
    pub slots_end : r ≡ None → length xs ≡ t
    slots_end i = (YieldsList-end w.gives xs d y r u i g).1 ∙ as_many w.inside

-- slot k is met: fewer than `left` slots on from slot s of t, and those before it are filled
pub data Way (t : ℕ) (table : List ℕ) : ℕ → ℕ → ℕ → Type 0 where
  here : {left k : ℕ} → Way t table (suc left) k k
  on : {left s k : ℕ} → (get_or table s 0 ≡ 0 → ⊥) → Way t table left (next_slot t s) k → Way t table (suc left) s k

-- an empty slot that is met
pub record Vacant (t : ℕ) (table : List ℕ) (left s k : ℕ) : Type 0 where
  pub way : Way t table left s k
  pub inside : k < t
  pub empty : get_or table k 0 ≡ 0

-- block b is used, and as a head it holds the name w
pub record Stands (a : List ℕ) (used : ℕ) (w : List ℕ) (b : ℕ) : Type 0 where
  pub below : b < used
  pub named : name_of a b ≡ w

-- ---- the entry where a search begins

module _ (table : List ℕ) (hash : ℕ) where
  -- without slots it is 0
  pub first-none : slots table ≡ 0 → first_entry table hash ≡ 0
  unfolding first_entry
  first-none e = rw (eq-eqb (slots table) 0 e)

  -- with slots it is that of the hash
  pub first_some : 0 < slots table → first_entry table hash ≡ get_or table (hash % slots table) 0
  unfolding first_entry
  first_some h = rw (ne_eqb (slots table) 0 (λ e. omega arith))

-- ---- a search from a slot on

module _ (a : List ℕ) (used : ℕ) (table w : List ℕ) where
  -- the block of slot s
  abbrev pub block : ℕ → ℕ
  block s = get_or table s 0 - 1

  abbrev pub from : ℕ → ℕ → Result Found Refusal
  from left s = search_from left a used table w s

  abbrev pub next : ℕ → ℕ
  next s = next_slot (slots table) s

  -- no slot is left
  pub from-none : (left s : ℕ) → left ≤ 0 → from left s ≡ Err Damaged
  unfolding search_from
  from-none zero s h = refl
  from-none (suc left) s h = absurd (omega arith)

  -- the tests at slot s
  pub from_some : (left s : ℕ) → 0 < left
      → from left s
      ≡ cond (eqb (get_or table s 0) 0) (Ok (Unknown s)) (cond (ltb (block s) used) (cond (same (name_of a (block s)) w) (Ok (At (block s))) (from (left - 1) (next s))) (Err Damaged))
  unfolding search_from
  from_some zero s h = absurd (omega arith)
  from_some (suc left) s h =
      let e : suc left - 1 ≡ left = omega arith in
      rw e

  -- the ways that they go
  pub data Step (left s : ℕ) : Type 0 where
    vacant : get_or table s 0 ≡ 0 → from (suc left) s ≡ Ok (Unknown s) → Step left s
    unused : (get_or table s 0 ≡ 0 → ⊥) → used ≤ block s → from (suc left) s ≡ Err Damaged → Step left s
    found : (get_or table s 0 ≡ 0 → ⊥) → Stands a used w (block s) → from (suc left) s ≡ Ok (At (block s)) → Step left s
    passed : (get_or table s 0 ≡ 0 → ⊥) → (name_of a (block s) ≡ w → ⊥) → from (suc left) s ≡ from left (next s) → Step left s

  pub step : (left s : ℕ) → Step left s
  unfolding search_from
  step left s =
      by-eq (get_or table s 0) 0
      (λ e. vacant e (rw (eq-eqb (get_or table s 0) 0 e)))
      (λ n.
      by-lt (block s) used (λ l. compared n l (same (name_of a (block s)) w) refl)
      (λ g. unused n g (rw (ne_eqb (get_or table s 0) 0 n, le-ltb (block s) used g))))
    where
      compared : (get_or table s 0 ≡ 0 → ⊥) → block s < used → (b : Bool) → same (name_of a (block s)) w ≡ b → Step left s
      compared n l true e =
          found n (record { below = l; named = same_eq (name_of a (block s)) w e })
          (rw (ne_eqb (get_or table s 0) 0 n, lt-ltb (block s) used l, e))
      compared n l false e =
          passed n (λ q. cc (eq_same (name_of a (block s)) w q))
          (rw (ne_eqb (get_or table s 0) 0 n, lt-ltb (block s) used l, e))

  -- what is found is used, and holds the name
  from_at : (left s b : ℕ) → from left s ≡ Ok (At b) → Stands a used w b
  unfolding search_from
  from_at zero s b e = cc
  from_at (suc left) s b e = go (step left s) (from_at left (next s) b)
    where
      go : Step left s → (from left (next s) ≡ Ok (At b) → Stands a used w b) → Stands a used w b
      go (vacant z q) ih = cc
      go (unused n g q) ih = cc
      go (found n m q) ih =
          let z : block s ≡ b = cc in
          rw z at m
      go (passed n m q) ih = ih (sym q ∙ e)

  -- where nothing is found a slot is empty
  pub from_unknown : (left s k : ℕ) → s < slots table → from left s ≡ Ok (Unknown k) → Vacant (slots table) table left s k
  unfolding search_from
  from_unknown zero s k h e = cc
  from_unknown (suc left) s k h e = go (step left s) (from_unknown left (next s) k (next_lt (slots table) s h))
    where
      further : (get_or table s 0 ≡ 0 → ⊥) → Vacant (slots table) table left (next s) k → Vacant (slots table) table (suc left) s k
      further n v = record { way = on n v.way; inside = v.inside; empty = v.empty }

      go : Step left s → (from left (next s) ≡ Ok (Unknown k) → Vacant (slots table) table left (next s) k) → Vacant (slots table) table (suc left) s k
      go (vacant n q) ih =
          let z : s ≡ k = cc in
          rw (← z) record { way = here; inside = h; empty = n }
      go (unused n g q) ih = cc
      go (found n m q) ih = cc
      go (passed n m q) ih = further n (ih (sym q ∙ e))

-- ---- the whole search

module _ (a : List ℕ) (used : ℕ) (table w : List ℕ) where
  -- without slots every term is unknown
  pub search-none : slots table ≡ 0 → search a used table w ≡ Ok (Unknown 0)
  unfolding search
  search-none e = rw (eq-eqb (slots table) 0 e)

  -- with slots the search begins at that of the hash
  pub search-some : 0 < slots table → search a used table w ≡ search_from (slots table) a used table w (fnv1a w % slots table)
  unfolding search
  search-some h = rw (ne_eqb (slots table) 0 (λ e. omega arith))

  -- a term found has a used block that holds its name
  pub search-at : (b : ℕ) → search a used table w ≡ Ok (At b) → Stands a used w b
  search-at b e =
      by-eq (slots table) 0
      (λ n. cc (search-none n))
      (λ n. from_at a used table w (slots table) (fnv1a w % slots table) b (sym (search-some (omega arith)) ∙ e))

  -- the slot of an unknown term is empty
  pub search_unknown : (s : ℕ) → 0 < slots table → search a used table w ≡ Ok (Unknown s) → (s < slots table) × (get_or table s 0 ≡ 0)
  search_unknown s h e =
      let v : Vacant (slots table) table (slots table) (fnv1a w % slots table) s
      = from_unknown a used table w (slots table) (fnv1a w % slots table) s (mod-lt (fnv1a w) h) (sym (search-some h) ∙ e) in
      (v.inside, v.empty)

  -- a first entry that leads to a used block with the name ends the search
  pub search-first : (e : ℕ) → e ≡ first_entry table (fnv1a w) → 0 < e → e ≤ used → name_of a (e - 1) ≡ w → search a used table w ≡ Ok (At (e - 1))
  unfolding first_entry
  search-first e p low high named =
      let some : 0 < slots table = grind (arith, nat_tests) in
      let same_name = eq_same (name_of a (e - 1)) w named in
      let here = from_some a used table w (slots table) (fnv1a w % slots table) some in
      let begin = search-some some in
      grind (arith, nat_tests)

-- what the turns of a search take
pub ruleset searching = (block_unit, nat_tests, slots_le, from_some, from-none, search-none, search-some)

-- what the entry where a search begins takes
pub ruleset starting = (slots_le, first-none, first_some)
