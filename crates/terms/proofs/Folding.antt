-- The folding table of the code and its rule: each entry is its byte folded, which one test computes at all of them.
-- Assumes nothing.
use mathlib.Core.Path.{◌≡◌}
use mathlib.Core.Bool.{Bool}
use Prim.Native.Nat.{ℕ, ◌<◌}
use lib.Dec.{eqb, eqb→eq}
use lib.ListN.{get_or}
use Rattle.basics.proofs.Table.{at}
use Rattle.terms.specs.Terms.{allowed, capital, fold_byte}
use Rattle.terms.specs.declared.TheConstants.{FOLDED}

right : ℕ → ℕ → Bool
right b entry = eqb entry (fold_byte b)

-- the entry of a byte is the byte folded
pub rule : (b : ℕ) → b < 256 → get_or FOLDED b 0 ≡ fold_byte b
unfolding right fold_byte allowed capital
rule b h = eqb→eq (get_or FOLDED b 0) (fold_byte b) (at right FOLDED tt b h)
