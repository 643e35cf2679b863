-- Refusals 1 to 3, which every call judges first.
-- Assumes nothing.
use Rattle.std.proofs.Common.{ℕ, ◌≡◌, ◌+◌, ◌≤◌, List, length, refl, arith}
use Rattle.std.proofs.lemmas.Bool.Decides.{nat_tests}
use Rattle.basics.specs.Lists.{all}
use Rattle.frames.specs.Refusals.{first_of}
use Rattle.frames.proofs.Refusals.{Numbered, numbered}
use Rattle.frames.specs.Frames.{max_body, kind, wrong_version, wrong_length, wrong_kind, head_rows}

module _ (k : ℕ) (f : List ℕ) where
  pub head-numbered : Numbered (head_rows k f)
  unfolding head_rows all
  head-numbered = numbered (head_rows k f) refl

  -- a frame that none of the three refuses
  pub record Headed : Type 0 where
    pub long : 4 ≤ length f
    pub short : length f ≤ max_body + 3
    pub of_kind : kind f ≡ k

  pub headed : first_of (head_rows k f) ≡ 0 → Headed
  unfolding first_of head_rows wrong_version wrong_length wrong_kind
  headed z = record { long = grind (arith, nat_tests); short = grind (arith, nat_tests); of_kind = grind (arith, nat_tests) }
