-- What lines need together: the plan from line to line, and refusals 10 to 12.
-- Assumes nothing.
use mathlib.Core.Path.{◌≡◌, refl, ap, ◌∙◌}
use mathlib.Core.Bool.{true, false}
use mathlib.Core.List.{List, [], ◌∷◌, map}
use Prim.Native.Nat.{ℕ, ◌+◌, ◌-◌, ◌≤◌}
use native.Mathlib.Nat.{add-zero}
use native.Mathlib.Omega.{arith}
use borrow.Author.Tests.{ltb-false}
use lib.Dec.{ltb}
use Rattle.std.specs.Prelude.{Ok, Err}
use Rattle.basics.specs.Lists.{any}
use Rattle.frames.specs.Refusals.{◌if◌, first_of}
use Rattle.frames.specs.Frames.{Line, report_lines}
use Rattle.frames.proofs.Refusals.{first-empty, first_holds, first-zero, first_le}
use Rattle.blocks.specs.Fields.{capacity}
use Rattle.refusals.specs.declared.Refusal.{Refusal}
use Rattle.refusals.specs.declared.Refusal.TheVariants.{Damaged}
use Rattle.counters.specs.Counters.{Memory, max_terms}
use Rattle.ingest.specs.declared.Place.{Place}
use Rattle.ingest.specs.declared.Place.TheVariants.{New, Stays, Spills}
use Rattle.ingest.specs.declared.Plan.{Plan}
use Rattle.ingest.specs.Report.{Placed, place_of, is_damaged, terms_for, blocks_for, total, Needed, plan_of, plan_rows, lines_plan}
use Rattle.ingest.specs.Needs.{with_place, needed}
use Rattle.ingest.proofs.Places.{place_damage}
use Rattle.ingest.proofs.Standing.{lines_from}

-- ---- refusals 10 to 12

module _ (m : Memory) (p : Needed) where
  -- 10: a line is damaged
  pub plan_damaged : p.damaged ≡ true → first_of (plan_rows m p) ≡ 10
  unfolding plan_rows
  plan_damaged e = first_holds (10 if p.damaged) _ e

  -- what passes them
  pub record Passed : Type 0 where
    pub sound : p.damaged ≡ false
    pub terms : m.counters.terms + p.terms ≤ max_terms m.table
    pub blocks : p.blocks ≤ capacity m.arena - m.counters.used

  pub passed : first_of (plan_rows m p) ≡ 0 → Passed
  unfolding plan_rows
  passed z =
      let t = ltb (max_terms m.table) (m.counters.terms + p.terms) in
      let b = ltb (capacity m.arena - m.counters.used) p.blocks in
      let r₁₀ = first-zero (10 if p.damaged) _ (omega arith) z in
      let r₁₁ = first-zero (11 if t) _ (omega arith) r₁₀.1 in
      let r₁₂ = first-zero (12 if b) [] (omega arith) r₁₁.1 in
      record {
        sound = r₁₀.0;
        terms = ltb-false (max_terms m.table) (m.counters.terms + p.terms) r₁₁.0;
        blocks = ltb-false (capacity m.arena - m.counters.used) p.blocks r₁₂.0;
      }

  pub plan_le : first_of (plan_rows m p) ≤ 12
  unfolding plan_rows
  plan_le =
      first_le 12 _ _ (omega arith) (first_le 12 _ _ (omega arith) (first_le 12 _ _ (omega arith) (rw first-empty (omega arith))))

-- ---- one line more

-- a line needs at most a term and a block
pub terms_le : (p : Place) → terms_for (Ok p) ≤ 1
unfolding terms_for
terms_le (New s) = omega arith
terms_le (Stays h) = omega arith
terms_le (Spills h) = omega arith

pub blocks_le : (p : Place) → blocks_for (Ok p) ≤ 1
unfolding blocks_for
blocks_le (New s) = omega arith
blocks_le (Stays h) = omega arith
blocks_le (Spills h) = omega arith

-- ---- from line to line

-- the places of the lines of a report from the n-th on
abbrev pub places : Memory → List ℕ → ℕ → List Placed
places m f n = map (place_of m) (lines_from f n)

-- the plan of the first n lines, of which none is damaged, with those from there on
pub record Planned (m : Memory) (f : List ℕ) (plan : Plan) (n : ℕ) : Type 0 where
  pub sound : any is_damaged (places m f 0) ≡ any is_damaged (places m f n)
  pub terms : total terms_for (places m f 0) ≡ plan.terms + total terms_for (places m f n)
  pub blocks : total blocks_for (places m f 0) ≡ plan.blocks + total blocks_for (places m f n)
  pub few_terms : plan.terms ≤ n
  pub few_blocks : plan.blocks ≤ n

-- a plan of nothing is that of none
pub planned_none : (m : Memory) (f : List ℕ) {plan : Plan} → (plan.terms ≡ 0) × (plan.blocks ≡ 0) → Planned m f plan 0
planned_none m f z =
    record {
      sound = refl;
      terms = omega (arith, z.0);
      blocks = omega (arith, z.1);
      few_terms = omega (arith, z.0);
      few_blocks = omega (arith, z.1);
    }

module _ {m : Memory} {f : List ℕ} {plan : Plan} {n : ℕ} (w : Planned m f plan n) where
  -- where no line is left it is the plan of all
  pub planned_end : lines_from f n ≡ [] → lines_plan m (report_lines f) ≡ needed plan
  unfolding lines_plan plan_of total any
  planned_end e =
      let z : places m f n ≡ [] = ap (map (place_of m)) e in
      rw (w.sound ∙ ap (any is_damaged) z, w.terms, w.blocks, z) (rw (add-zero plan.terms, add-zero plan.blocks))

  module _ {l : Line} (more : lines_from f n ≡ l ∷ lines_from f (n + 1)) where
    here : places m f n ≡ place_of m l ∷ places m f (n + 1)
    here = ap (map (place_of m)) more

    -- a damaged line decides
    pub planned_stop : {r : Refusal} → place_of m l ≡ Err r → (r ≡ Damaged) × ((lines_plan m (report_lines f)).damaged ≡ true)
    unfolding lines_plan plan_of any is_damaged
    planned_stop e = (place_damage m l e, w.sound ∙ rw (here, e))

    pub planned_more : {p : Place} → place_of m l ≡ Ok p → Planned m f (with_place plan p) (n + 1)
    unfolding with_place total any is_damaged
    planned_more {p} e =
        record {
          sound = w.sound ∙ rw (here, e);
          terms = omega (arith, w.terms, rw e at (ap (total terms_for) here));
          blocks = omega (arith, w.blocks, rw e at (ap (total blocks_for) here));
          few_terms = omega (arith, w.few_terms, terms_le p);
          few_blocks = omega (arith, w.few_blocks, blocks_le p);
        }
