-- The three counters (document 01, "Memory lent to the index") and refusal 8.
use Rattle.std.specs.Prelude.{ℕ, ◌/◌, List, Bool, ◌||◌, ltb}
use Rattle.blocks.specs.Fields.{capacity}
use Rattle.lookup.specs.Lookup.{slots}
use Rattle.counters.specs.declared.Counters.{Counters}

-- what a call is lent: arena, table, counters
pub record Memory : Type 0 where
  pub arena : List ℕ
  pub table : List ℕ
  pub counters : Counters

abbrev pub memory : List ℕ → List ℕ → Counters → Memory
memory a table k = record { arena = a; table = table; counters = k }

-- at most half of the slots hold a term
unfoldable pub max_terms : List ℕ → ℕ
max_terms table = slots table / 2

-- 8: used over capacity, terms over T div 2, or terms over used
unfoldable pub wrong_counters : List ℕ → List ℕ → Counters → Bool
wrong_counters a table k =
    ltb (capacity a) k.used || (ltb (max_terms table) k.terms || ltb k.used k.terms)
