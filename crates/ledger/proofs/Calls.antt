-- The induction over calls: a relation that a start begins and that every call keeps, with equal answers, gives the claim.
-- Assumes nothing.
use mathlib.Core.Path.{◌≡◌, refl, ap, ap₂}
use mathlib.Core.List.{List, [], ◌∷◌}
use Prim.Native.Nat.{ℕ}
use lib.ListN.{length}
use Rattle.counters.specs.Counters.{Memory}
use Rattle.ledger.specs.Ledger.{Report}
use Rattle.ledger.specs.Calls.{
  Call,
  start,
  Answer,
  started,
  cleared,
  index_step,
  ledger_step,
  answers,
  final,
  frame_of,
  Bytes,
  Framed,
  none,
  one,
  Counted,
  ledger_for,
  Agree,
  library,
}

-- what one call has to show where R relates a memory to a ledger's reports: the answers are the same, and R relates what is left
pub record Carry (R : ℕ → ℕ → Memory → List Report → Type 0) (b e : ℕ) (m : Memory) (rs : List Report) (k : Call) : Type 0 where
  pub answer : (index_step m k).answer ≡ (ledger_step b e rs k).answer
  pub left : R b e (index_step m k).left (ledger_step b e rs k).left

-- R relates a memory to a ledger's reports, for an arena of so many bytes and a table of so many entries
pub record Carries (R : ℕ → ℕ → Memory → List Report → Type 0) : Type 0 where
  -- it holds after a start
  pub starts : (b e : ℕ) (m : Memory) → length m.arena ≡ b → length m.table ≡ e → R b e (cleared m) []
  -- every call carries it on
  pub steps : (b e : ℕ) (m : Memory) (rs : List Report) (k : Call) → Bytes (frame_of k) → R b e m rs → Carry R b e m rs k
  -- the counters are right
  pub counted : (b e : ℕ) (m : Memory) (rs : List Report) → R b e m rs → Counted m.counters rs

module _ {R : ℕ → ℕ → Memory → List Report → Type 0} (c : Carries R) (b e : ℕ) where
  all-answers : (m : Memory) (rs : List Report) {cs : List Call} → Framed cs → R b e m rs → answers index_step m cs ≡ answers (ledger_step b e) rs cs
  unfolding answers
  all-answers m rs none r = refl
  all-answers m rs (one {c = k} {cs = cs} h hs) r =
      let s = c.steps b e m rs k h r in ap₂ ◌∷◌ s.answer (all-answers (index_step m k).left (ledger_step b e rs k).left hs s.left)

  at_end : (m : Memory) (rs : List Report) {cs : List Call} → Framed cs → R b e m rs → R b e (final index_step m cs) (final (ledger_step b e) rs cs)
  unfolding final
  at_end m rs none r = r
  at_end m rs (one {c = k} {cs = cs} h hs) r =
      at_end (index_step m k).left (ledger_step b e rs k).left hs (c.steps b e m rs k h r).left

module _ (R : ℕ → ℕ → Memory → List Report → Type 0) (c : Carries R) (m : Memory) (rs : List Report) (cs : List Call) (h : Framed cs) where
  abbrev b : ℕ
  b = length m.arena

  abbrev e : ℕ
  e = length m.table

  -- after a start and the calls
  pub carried : R b e (final index_step m (start ∷ cs)) (final (ledger_for m) rs (start ∷ cs))
  unfolding final index_step ledger_step
  carried = at_end c b e (cleared m) [] h (c.starts b e m refl refl)

  -- the claim
  pub claim : Agree library m rs cs
  unfolding answers index_step ledger_step
  claim = record {
    same_answers = ap (λ (l : List Answer). started ∷ l) (all-answers c b e (cleared m) [] h (c.starts b e m refl refl));
    right_counters = c.counted b e (final index_step m (start ∷ cs)) (final (ledger_for m) rs (start ∷ cs)) carried;
  }
