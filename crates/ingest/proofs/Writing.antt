-- Writing: what one line takes and keeps, and lines one after another.
-- Assumes nothing.
use mathlib.Core.Path.{◌≡◌, refl, sym, ap, ◌∙◌}
use mathlib.Core.Bool.{Bool, true, false, cond}
use mathlib.Core.List.{List, [], ◌∷◌}
use Prim.Native.Nat.{ℕ, ◌+◌, ◌≤◌}
use native.Mathlib.Nat.{add-zero}
use native.Mathlib.Omega.{arith}
use borrow.Author.Tests.{eq-eqb, ne_eqb}
use lib.Dec.{eqb}
use lib.ListN.{length}
use Rattle.std.specs.Prelude.{Ok, Err}
use Rattle.basics.specs.Lists.{any}
use Rattle.basics.proofs.Cases.{by-eq}
use Rattle.frames.specs.Refusals.{first_of}
use Rattle.frames.specs.Frames.{Line, report_lines}
use Rattle.blocks.specs.Fields.{max_word}
use Rattle.blocks.proofs.Capacity.{capacity_as}
use Rattle.blocks.proofs.Writes.{length-open_head, length-add_to, length-join_to}
use Rattle.refusals.specs.declared.Refusal.{Refusal}
use Rattle.lookup.proofs.Search.{length-enter}
use Rattle.counters.specs.Counters.{Memory}
use Rattle.counters.proofs.Laws.{max_terms_as, Right}
use Rattle.ingest.specs.declared.Place.TheVariants.{New, Stays, Spills}
use Rattle.ingest.specs.Report.{next_number, place_of, Placed, is_damaged, terms_for, blocks_for, total, plan_of, plan_rows, lines_plan, written, Writing, wrote_as, write_lines}
use Rattle.ingest.specs.Needs.{Held, write_one}
use Rattle.ingest.proofs.Standing.{lines_from}
use Rattle.ingest.proofs.Plans.{passed}

abbrev pub HeldIn : Memory → Type 0
HeldIn m = Held m.arena m.table m.counters

-- counters that refusals 8 and 9 let pass leave room
pub held_right : (m : Memory) → Right m.arena m.table m.counters → (m.counters.reports ≡ max_word → ⊥) → m.counters.reports ≤ max_word
    → HeldIn m
held_right m r n h = record { room = record { inside = r.inside; numbered = omega (arith, n) }; few = r.few }

-- ---- one line

module _ (m : Memory) (n : ℕ) (l : Line) where
  -- it takes the blocks and terms that its place needs, and leaves the reports
  pub written-used : (p : Placed) → (written m n l p).counters.used ≡ m.counters.used + blocks_for p
  unfolding written blocks_for
  written-used (Err r) = sym (add-zero m.counters.used)
  written-used (Ok (New s)) = refl
  written-used (Ok (Stays h)) = sym (add-zero m.counters.used)
  written-used (Ok (Spills h)) = refl

  pub written-terms : (p : Placed) → (written m n l p).counters.terms ≡ m.counters.terms + terms_for p
  unfolding written terms_for
  written-terms (Err r) = sym (add-zero m.counters.terms)
  written-terms (Ok (New s)) = refl
  written-terms (Ok (Stays h)) = sym (add-zero m.counters.terms)
  written-terms (Ok (Spills h)) = sym (add-zero m.counters.terms)

  pub written-reports : (p : Placed) → (written m n l p).counters.reports ≡ m.counters.reports
  unfolding written
  written-reports (Err r) = refl
  written-reports (Ok (New s)) = refl
  written-reports (Ok (Stays h)) = refl
  written-reports (Ok (Spills h)) = refl

  -- arena and table keep their lengths
  pub written-arena : (p : Placed) → length (written m n l p).arena ≡ length m.arena
  unfolding written
  written-arena (Err r) = refl
  written-arena (Ok (New s)) = rw length-open_head
  written-arena (Ok (Stays h)) = rw length-add_to
  written-arena (Ok (Spills h)) = rw length-join_to

  pub written-table : (p : Placed) → length (written m n l p).table ≡ length m.table
  unfolding written
  written-table (Err r) = refl
  written-table (Ok (New s)) = length-enter m.table s m.counters.used
  written-table (Ok (Stays h)) = refl
  written-table (Ok (Spills h)) = refl

  -- so a line that was judged leaves blocks and terms within their bounds
  pub written_held : (p : Placed) → HeldIn m → first_of (plan_rows m (plan_of (p ∷ []))) ≡ 0 → HeldIn (written m n l p)
  unfolding plan_of total
  written_held p h z =
      let w = passed m (plan_of (p ∷ [])) z in
      record {
        room = record {
          inside = rw (written-used p, capacity_as m.arena (written m n l p).arena (written-arena p)) (omega (arith, w.blocks, h.room.inside));
          numbered = rw (written-reports p) h.room.numbered;
        };
        few = rw (written-terms p, max_terms_as m.table (written m n l p).table (written-table p)) (omega (arith, w.terms));
      }

-- ---- one line, judged on its own

-- a damaged one stops
pub one_damaged : (m : Memory) (n : ℕ) (l : Line) (r : Refusal) → write_one m n l (Err r) ≡ wrote_as m true
unfolding write_one plan_rows first_of plan_of any is_damaged
one_damaged m n l r = refl

-- what it keeps where it is written, it keeps
module _ (m : Memory) (n : ℕ) (l : Line) (p : Placed) where
  pub one-keeps : (P : Memory → Type 0) → P m → (first_of (plan_rows m (plan_of (p ∷ []))) ≡ 0 → P (written m n l p)) → P (write_one m n l p).left
  unfolding write_one
  one-keeps P h on =
      by-eq (first_of (plan_rows m (plan_of (p ∷ [])))) 0
      (λ e. rw (eq-eqb (first_of (plan_rows m (plan_of (p ∷ [])))) 0 e) (on e))
      (λ e. rw (ne_eqb (first_of (plan_rows m (plan_of (p ∷ [])))) 0 e) h)

-- ---- one line after another

module _ (n : ℕ) where
  pub write_none : (m : Memory) → write_lines m n [] ≡ wrote_as m false
  unfolding write_lines
  write_none m = refl

  -- a line, and where it does not stop those behind it
  pub write_more : (m : Memory) (l : Line) (ls : List Line) → let w = write_one m n l (place_of m l) in write_lines m n (l ∷ ls) ≡ cond w.stopped w (write_lines w.left n ls)
  unfolding write_lines lines_plan write_one
  write_more m l ls = go (eqb (first_of (plan_rows m (plan_of (place_of m l ∷ [])))) 0) (written m n l (place_of m l))
    where
      go : (b : Bool) (x : Memory)
          → let w = cond b (wrote_as x false) (wrote_as m true) in cond b (write_lines x n ls) (wrote_as m true) ≡ cond w.stopped w (write_lines w.left n ls)
      go true x = refl
      go false x = refl

  -- what each line that is judged keeps, all keep
  pub lines_keep : (P : Memory → Type 0) → ((m : Memory) (l : Line) → P m → first_of (plan_rows m (plan_of (place_of m l ∷ []))) ≡ 0 → P (written m n l (place_of m l)))
      → (ls : List Line) (m : Memory) → P m → P (write_lines m n ls).left
  lines_keep P on [] m h = rw (write_none m) h
  lines_keep P on (l ∷ ls) m h =
      let w = write_one m n l (place_of m l) in
      rw (write_more m l ls) (go w.stopped w.left (one-keeps m n l (place_of m l) P h (on m l h)) (lines_keep P on ls w.left))
    where
      go : (b : Bool) (x : Memory) → P x → (P x → P (write_lines x n ls).left) → P (cond b (wrote_as x b) (write_lines x n ls)).left
      go true x k rest = k
      go false x k rest = rest k

  -- arena and table keep their lengths
  pub lines-arena : (ls : List Line) (m : Memory) → length (write_lines m n ls).left.arena ≡ length m.arena
  lines-arena ls m =
      lines_keep (λ x. length x.arena ≡ length m.arena) (λ x l h e. written-arena x n l (place_of x l) ∙ h) ls m refl

  pub lines-table : (ls : List Line) (m : Memory) → length (write_lines m n ls).left.table ≡ length m.table
  lines-table ls m =
      lines_keep (λ x. length x.table ≡ length m.table) (λ x l h e. written-table x n l (place_of x l) ∙ h) ls m refl

-- ---- the lines of a report, from the n-th on

-- the memory m that the first n lines of f made of m₀
pub record Wrote (m₀ : Memory) (f : List ℕ) (m : Memory) (n : ℕ) : Type 0 where
  pub held : HeldIn m
  pub reports : m.counters.reports ≡ m₀.counters.reports
  pub rest : write_lines m₀ (next_number m₀.counters) (report_lines f) ≡ write_lines m (next_number m₀.counters) (lines_from f n)

pub wrote_none : (m : Memory) (f : List ℕ) → HeldIn m → Wrote m f m 0
wrote_none m f h = record { held = h; reports = refl; rest = refl }

module _ {m₀ : Memory} {f : List ℕ} {m : Memory} {n : ℕ} (w : Wrote m₀ f m n) where
  -- where no line is left all are written
  pub wrote_end : lines_from f n ≡ [] → wrote_as m false ≡ write_lines m₀ (next_number m₀.counters) (report_lines f)
  wrote_end e = sym (w.rest ∙ rw e (write_none (next_number m₀.counters) m))

  -- the line there, and what it leaves
  module _ {l : Line} (more : lines_from f n ≡ l ∷ lines_from f (n + 1)) {x : Memory} {b : Bool}
      (q : wrote_as x b ≡ write_one m (next_number m.counters) l (place_of m l)) where
    left_is : wrote_as x b ≡ write_one m (next_number m₀.counters) l (place_of m l)
    left_is = q ∙ ap (λ (r : ℕ). write_one m (r + 1) l (place_of m l)) w.reports

    rest-is : write_lines m₀ (next_number m₀.counters) (report_lines f) ≡ cond b (wrote_as x b) (write_lines x (next_number m₀.counters) (lines_from f (n + 1)))
    rest-is = w.rest ∙ rw (more, write_more (next_number m₀.counters) m l (lines_from f (n + 1)), ← left_is)

    -- where it stops, nothing else is written
    pub wrote_stop : b ≡ true → wrote_as x b ≡ write_lines m₀ (next_number m₀.counters) (report_lines f)
    wrote_stop e = sym (rest-is ∙ rw e)

    -- else writing goes on behind it
    pub wrote_more : b ≡ false → Wrote m₀ f x (n + 1)
    wrote_more e =
        let k = next_number m₀.counters in
        let p = place_of m l in
        let left : x ≡ (write_one m k l p).left = ap (λ (v : Writing). v.left) left_is in
        rw left record {
          held = one-keeps m k l p HeldIn w.held (written_held m k l p w.held);
          reports = one-keeps m k l p (λ y. y.counters.reports ≡ m₀.counters.reports) w.reports (λ z. written-reports m k l p ∙ w.reports);
          rest = rest-is ∙ rw (e, left);
        }
