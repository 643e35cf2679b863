-- Laws of a table of refusals.
-- Assumes nothing.
use mathlib.Core.Path.{◌≡◌, refl, sym, ◌∙◌}
use mathlib.Core.Bool.{Bool, true, false}
use mathlib.Core.List.{List, [], ◌∷◌, ◌++◌, map}
use Prim.Native.Nat.{ℕ, ◌≤◌, ◌<◌}
use native.Mathlib.Omega.{arith}
use lib.Dec.{ltb}
use borrow.Author.Tests.{ltb-true}
use Rattle.basics.specs.Lists.{all}
use Rattle.basics.proofs.Cases.{by-eq}
use Rattle.basics.proofs.Lists.{and_left, and_right}
use Rattle.refusals.specs.declared.Refusal.{Refusal}
use Rattle.refusals.specs.declared.Refusal.TheVariants.{WrongVersion, WrongLength, WrongKind, WrongFields, BadTerm, ZeroCount, RepeatedTerm, WrongCounters, NumbersSpent, Damaged, TableFull, ArenaFull, Stopped}
use Rattle.refusals.specs.Numbers.{number_of}
use Rattle.frames.specs.Refusals.{Row, first_of}

-- every row has a number above 0, so that 0 means that none holds
pub data Numbered : List Row → Type 0 where
  none : Numbered []
  one : {r : Row} {rs : List Row} → 0 < r.number → Numbered rs → Numbered (r ∷ rs)

-- shown by computing over the numbers alone
pub numbered : (rs : List Row) → all (ltb 0) (map (λ r. r.number) rs) ≡ true → Numbered rs
unfolding all
numbered [] e = none
numbered (r ∷ rs) e =
    let n = ltb 0 r.number in
    let ns = all (ltb 0) (map (λ (r : Row). r.number) rs) in
    one (ltb-true 0 r.number (and_left n ns e)) (numbered rs (and_right n ns e))

pub first-empty : first_of [] ≡ 0
unfolding first_of
first-empty = refl

-- a row that holds decides; one that does not is passed over
pub first_holds : (r : Row) (rs : List Row) → r.holds ≡ true → first_of (r ∷ rs) ≡ r.number
unfolding first_of
first_holds r rs e = rw e

pub first_passes : (r : Row) (rs : List Row) → r.holds ≡ false → first_of (r ∷ rs) ≡ first_of rs
unfolding first_of
first_passes r rs e = rw e

-- a first part in which a row holds decides
some_case : (t : Bool) (r : Row) (a b : List Row) → r.holds ≡ t → 0 < first_of (r ∷ a) → (0 < first_of a → first_of (a ++ b) ≡ first_of a) → first_of (r ∷ a ++ b) ≡ first_of (r ∷ a)
some_case true r a b e h ih = first_holds r (a ++ b) e ∙ sym (first_holds r a e)
some_case false r a b e h ih = first_passes r (a ++ b) e ∙ ih (rw (first_passes r a e) at h) ∙ sym (first_passes r a e)

pub first_some : (a b : List Row) → 0 < first_of a → first_of (a ++ b) ≡ first_of a
unfolding first_of
first_some [] b h = absurd (omega arith)
first_some (r ∷ a) b h = some_case r.holds r a b refl h (first_some a b)

-- a first part in which none holds is passed over
none_case : (t : Bool) (r : Row) (a b : List Row) → r.holds ≡ t → 0 < r.number → first_of (r ∷ a) ≡ 0 → (first_of a ≡ 0 → first_of (a ++ b) ≡ first_of b) → first_of (r ∷ a ++ b) ≡ first_of b
none_case true r a b e p z ih = absurd (omega (arith, first_holds r a e))
none_case false r a b e p z ih = first_passes r (a ++ b) e ∙ ih (sym (first_passes r a e) ∙ z)

pub first-none : {a : List Row} (b : List Row) → Numbered a → first_of a ≡ 0 → first_of (a ++ b) ≡ first_of b
first-none b none z = refl
first-none b (one {r = r} {rs = a} p n) z = none_case r.holds r a b refl p z (first-none b n)

-- where none holds, the first row does not
zero_case : (t : Bool) (r : Row) (rs : List Row) → r.holds ≡ t → 0 < r.number → first_of (r ∷ rs) ≡ 0 → (r.holds ≡ false) × (first_of rs ≡ 0)
zero_case true r rs e p z = absurd (omega (arith, first_holds r rs e))
zero_case false r rs e p z = (e, sym (first_passes r rs e) ∙ z)

pub first-zero : (r : Row) (rs : List Row) → 0 < r.number → first_of (r ∷ rs) ≡ 0 → (r.holds ≡ false) × (first_of rs ≡ 0)
first-zero r rs p z = zero_case r.holds r rs refl p z

-- and neither does any of a first part or of a second
append_case : {a : List Row} (b : List Row) → Numbered a → first_of (a ++ b) ≡ 0 → first_of a ≡ 0
append_case {a} b n z = by-eq (first_of a) 0 (λ e. e) (λ p. absurd (p (sym (first_some a b (omega arith)) ∙ z)))

pub both_zero : {a : List Row} (b : List Row) → Numbered a → first_of (a ++ b) ≡ 0 → (first_of a ≡ 0) × (first_of b ≡ 0)
both_zero {a} b n z = let e = append_case b n z in (e, sym (first-none b n e) ∙ z)

-- the number found is at most n where all numbers are
le_case : (t : Bool) (n : ℕ) (r : Row) (rs : List Row) → r.holds ≡ t → r.number ≤ n → first_of rs ≤ n → first_of (r ∷ rs) ≤ n
le_case true n r rs e h l = rw (first_holds r rs e) h
le_case false n r rs e h l = rw (first_passes r rs e) l

pub first_le : (n : ℕ) (r : Row) (rs : List Row) → r.number ≤ n → first_of rs ≤ n → first_of (r ∷ rs) ≤ n
first_le n r rs h l = le_case r.holds n r rs refl h l

pub append_le : (n : ℕ) {a : List Row} (b : List Row) → Numbered a → first_of a ≤ n → first_of b ≤ n → first_of (a ++ b) ≤ n
append_le n {a} b m h l = by-eq (first_of a) 0 (λ e. rw (first-none b m e) l) (λ e. rw (first_some a b (omega arith)) h)

-- a refusal's number is above 0
pub refusal-some : (r : Refusal) → 0 < number_of r
refusal-some WrongVersion = omega arith
refusal-some WrongLength = omega arith
refusal-some WrongKind = omega arith
refusal-some WrongFields = omega arith
refusal-some BadTerm = omega arith
refusal-some ZeroCount = omega arith
refusal-some RepeatedTerm = omega arith
refusal-some WrongCounters = omega arith
refusal-some NumbersSpent = omega arith
refusal-some Damaged = omega arith
refusal-some TableFull = omega arith
refusal-some ArenaFull = omega arith
refusal-some Stopped = omega arith
