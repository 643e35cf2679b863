-- Cases on numbers, into any goal.
-- Assumes nothing.
use mathlib.Core.Path.{◌≡◌}
use Prim.Native.Nat.{ℕ, ◌≤◌, ◌<◌}
use native.Mathlib.Omega.{arith}
use native.Mathlib.Decide.{dec_lt, ℕ_discrete}

-- by whether a is below b
pub by-lt {ℓ} : {C : Type ℓ} (a b : ℕ) → (a < b → C) → (b ≤ a → C) → C
by-lt {C} a b f g = go (dec_lt a b)
  where
    go : Dec (a < b) → C
    go (yes h) = f h
    go (no h) = g (omega arith)

-- by whether a equals b
pub by-eq {ℓ} : {C : Type ℓ} (a b : ℕ) → (a ≡ b → C) → ((a ≡ b → ⊥) → C) → C
by-eq {C} a b f g = go (ℕ_discrete a b)
  where
    go : Dec (a ≡ b) → C
    go (yes e) = f e
    go (no n) = g n
