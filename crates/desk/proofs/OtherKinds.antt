-- The kind of a frame chooses its call; a kind that no call has is refused as reading a report refuses it.
-- Assumes nothing.
use Prim.Native.Nat.{ℕ, ◌<◌}
use mathlib.Core.Path.{◌≡◌}
use mathlib.Core.List.{List}
use mathlib.Core.Bool.{Bool, true, false, cond}
use native.Mathlib.Omega.{arith}
use borrow.Author.Tests.{ne_eqb}
use Rattle.frames.specs.Refusals.{first_of}
use Rattle.frames.specs.Frames.{kind, wrong_version, wrong_length, wrong_kind, head_rows, field_rows, report_rows, report_refusal}
use Rattle.std.proofs.Common.{Some, None}
use Rattle.frames.specs.declared.Kind.TheVariants.{Report}
use Rattle.desk.specs.Desk.{kind_of, other_refusal}

module _ (f : List ℕ) where
  pub kind-report : kind f ≡ 1 → kind_of f ≡ Some Report
  unfolding kind_of
  kind-report e = rw e

  -- a kind other than 01 gives 1, 2 or 3 when the frame is read as a report
  pub other_report : (kind f ≡ 1 → ⊥) → report_refusal f ≡ other_refusal f
  unfolding report_refusal report_rows head_rows field_rows wrong_kind other_refusal first_of
  other_report h = rw (ne_eqb (kind f) 1 h)

  pub other_not_report : kind_of f ≡ None → kind f ≡ 1 → ⊥
  other_not_report e k = let z : ◌≡◌ {A = ℕ} 0 1 = cc (kind-report k) in omega arith

  pub other_some : 0 < other_refusal f
  unfolding other_refusal first_of
  other_some = some (wrong_version f) (wrong_length f)
    where
      some : (a b : Bool) → 0 < cond a 1 (cond b 2 3)
      some true b = omega arith
      some false true = omega arith
      some false false = omega arith
