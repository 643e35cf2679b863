-- Finding a term in the table (document 01, "Memory lent to the index", "Finding a term"; damage at look-up).
use Rattle.std.specs.Prelude.{ℕ, zero, suc, ◌+◌, ◌-◌, ◌%◌, ◌<◌, min, ◌≡◌, List, [], ◌∷◌, Result, Ok, Err, cond, ◌&&◌, ltb, leb, eqb, length, get_or, set, replicate}
use Rattle.basics.specs.Lists.{same}
use Rattle.terms.specs.Terms.{fnv1a}
use Rattle.blocks.specs.Fields.{max_word, term_length, name_of}
use Rattle.refusals.specs.declared.Refusal.{Refusal}
use Rattle.refusals.specs.declared.Refusal.TheVariants.{Damaged}
use Rattle.lookup.specs.declared.Found.{Found}
use Rattle.lookup.specs.declared.Found.TheVariants.{At, Unknown}

-- T: how many entries of a table of so many are slots
abbrev pub slots_in : ℕ → ℕ
slots_in entries = min entries max_word

unfoldable pub slots : List ℕ → ℕ
slots table = slots_in (length table)

-- one slot on, wrapping
unfoldable pub next_slot : ℕ → ℕ → ℕ
next_slot t s = cond (eqb (s + 1) t) 0 (s + 1)

-- from slot s to a match or an empty slot; `left` slots are still to be met. Damage: a slot met whose block is not
-- used, or all slots filled and none a match
unfoldable pub search_from : ℕ → List ℕ → ℕ → List ℕ → List ℕ → ℕ → Result Found Refusal
search_from zero a used table name s = Err Damaged
search_from (suc left) a used table name s =
    let on = search_from left a used table name (next_slot (slots table) s) in
    let e = get_or table s 0 in
    cond (eqb e 0) (Ok (Unknown s)) (cond (ltb (e - 1) used) (cond (same (name_of a (e - 1)) name) (Ok (At (e - 1))) on) (Err Damaged))

-- the search for a folded term, from the slot of its hash on. Where the table has no slot every term is unknown
unfoldable pub search : List ℕ → ℕ → List ℕ → List ℕ → Result Found Refusal
search a used table name =
    cond (eqb (slots table) 0) (Ok (Unknown 0)) (search_from (slots table) a used table name (fnv1a name % slots table))

-- a new term's head in the empty slot met: block number + 1
unfoldable pub enter : List ℕ → ℕ → ℕ → List ℕ
enter table s b = set table s (b + 1)

-- ---- the table that terms prescribe

-- a known term: its name, and its head's block
pub record Known : Type 0 where
  pub name : List ℕ
  pub head : ℕ

-- the first empty slot from slot s on, wrapping; `left` slots are still to be met. 0 where all of them are filled
unfoldable pub empty_from : ℕ → List ℕ → ℕ → ℕ
empty_from zero table s = 0
empty_from (suc left) table s = cond (eqb (get_or table s 0) 0) s (empty_from left table (next_slot (slots table) s))

-- the slot that a new term takes: the first empty one from the slot of its hash on
unfoldable pub slot_for : List ℕ → List ℕ → ℕ
slot_for table name = empty_from (slots table) table (fnv1a name % slots table)

-- each term's head entered, in the order in which the terms came
unfoldable pub enter_all : List ℕ → List Known → List ℕ
enter_all table [] = table
enter_all table (k ∷ ks) = enter_all (enter table (slot_for table k.name) k.head) ks

-- a table of n entries that holds these terms: nulls, and each term entered
unfoldable pub table_of : ℕ → List Known → List ℕ
table_of n ks = enter_all (replicate n 0) ks

-- ---- what several searches ask for before any of them compares

-- the entry of the slot where the search for a hash begins; 0 where there is no slot
unfoldable pub first_entry : List ℕ → ℕ → ℕ
first_entry table hash = cond (eqb (slots table) 0) 0 (get_or table (hash % slots table) 0)

-- the length of the term in the head that an entry leads to; 0 where it leads to no used block
unfoldable pub length_behind : List ℕ → ℕ → ℕ → ℕ
length_behind a used e = cond (ltb 0 e && leb e used) (term_length a (e - 1)) 0

-- the first entries are those of the hashes
pub record Entries (table hashes entries : List ℕ) : Type 0 where
  pub each : (i : ℕ) → i < length hashes → get_or entries i 0 ≡ first_entry table (get_or hashes i 0)

-- the first lengths are those behind the entries
pub record Lengths (a : List ℕ) (used : ℕ) (entries lengths : List ℕ) : Type 0 where
  pub each : (i : ℕ) → i < length entries → get_or lengths i 0 ≡ length_behind a used (get_or entries i 0)
