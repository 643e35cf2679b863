-- Laws of the counters.
-- Assumes nothing.
use mathlib.Core.Path.{◌≡◌}
use mathlib.Core.Bool.{false}
use mathlib.Core.List.{List}
use Prim.Native.Nat.{ℕ, ◌≤◌, ◌<◌}
use native.Mathlib.Omega.{arith}
use Rattle.std.proofs.lemmas.Bool.Decides.{nat_tests}
use lib.ListN.{length}
use Rattle.blocks.specs.Fields.{capacity}
use Rattle.lookup.specs.Lookup.{slots}
use Rattle.counters.specs.declared.Counters.{Counters}
use Rattle.counters.specs.Counters.{max_terms, wrong_counters}

-- tables of one length may hold as many terms
pub max_terms_as : (s t : List ℕ) → length t ≡ length s → max_terms t ≡ max_terms s
unfolding max_terms slots
max_terms_as s t e = rw e

-- a table that may hold a term has slots
pub max_terms-slots : (table : List ℕ) → 0 < max_terms table → 0 < slots table
unfolding max_terms
max_terms-slots table h = omega arith

-- and may hold fewer than 32 bits count
pub max_terms_small : (table : List ℕ) → max_terms table < 2147483648
unfolding max_terms slots
max_terms_small table = omega arith

module _ (a table : List ℕ) (k : Counters) where
  -- counters that refusal 8 lets pass
  pub record Right : Type 0 where
    pub inside : k.used ≤ capacity a
    pub few : k.terms ≤ max_terms table
    pub housed : k.terms ≤ k.used

  pub right : wrong_counters a table k ≡ false → Right
  unfolding wrong_counters
  right e =
      record { inside = grind (arith, nat_tests); few = grind (arith, nat_tests); housed = grind (arith, nat_tests) }
