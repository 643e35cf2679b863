-- DEMAND 1: how every call ends.
-- Assumes nothing.
use Prim.Native.Nat.{ℕ, ◌<◌}
use mathlib.Core.Path.{◌≡◌, refl, sym, ap, ◌∙◌}
use mathlib.Core.Bool.{Bool, true, false, cond}
use mathlib.Core.List.{List, [], ◌∷◌, ◌++◌}
use native.Mathlib.Omega.{arith}
use lib.Dec.{eqb}
use borrow.Author.Tests.{eq-eqb, ne_eqb}
use Rattle.std.specs.Prelude.{Ok, Err}
use Rattle.basics.proofs.Cases.{by-eq}
use Rattle.basics.specs.Lists.{all}
use Rattle.frames.specs.Refusals.{Row, ◌if◌, first_of}
use Rattle.frames.specs.Frames.{Line, report_lines, head_rows, field_rows, report_rows, query_rows}
use Rattle.frames.proofs.Refusals.{Numbered, numbered, first-zero, first_some, first-none, first_holds, first_passes, first-empty}
use Rattle.frames.proofs.Refusals as table
use Rattle.counters.specs.Counters.{Memory}
use Rattle.ingest.specs.declared.Place.TheVariants.{New, Stays, Spills}
use Rattle.ingest.specs.Report.{Placed, plan_rows, lines_plan, place_of, written, Writing, write_lines, next_number, call_rows, call_refusal, Called}
use Rattle.ingest.proofs.Calls.{call_le, call-refused, call-stopped, call-taken}
use Rattle.query.specs.Listing.{list_rows, list_refusal, list_one, list_all, list_one_call, list_all_call}
use Rattle.ledger.specs.Calls.{Call, start, report, one-term, all-terms, index_step}
use Rattle.ledger.specs.Refusing.{Clear, none, and, First, here, later, writing, rows, refusal, refused_with, Ends, accepted, refused, Refuses}

-- ---- the first row that holds

first_clear : (rs : List Row) → Numbered rs → first_of rs ≡ 0 → Clear rs
first_clear [] table.none e = none
first_clear (r ∷ rs) (table.one p n) e = let z = first-zero r rs p e in and z.0 (first_clear rs n z.1)

row_as : (r : Row) (rs : List Row) (b : Bool) → r.holds ≡ b → ((first_of rs ≡ 0 → ⊥) → First rs (first_of rs))
    → (cond b r.number (first_of rs) ≡ 0 → ⊥) → First (r ∷ rs) (cond b r.number (first_of rs))
row_as r rs true q ih n = here q
row_as r rs false q ih n = later q (ih n)

first_row : (rs : List Row) → (first_of rs ≡ 0 → ⊥) → First rs (first_of rs)
unfolding first_of
first_row [] n = absurd (n refl)
first_row (r ∷ rs) n = row_as r rs r.holds refl (first_row rs) n

-- ---- writing leaves the number of reports

written_reports : (m : Memory) (n : ℕ) (l : Line) (p : Placed) → (written m n l p).counters.reports ≡ m.counters.reports
unfolding written
written_reports m n l (Ok (New s)) = refl
written_reports m n l (Ok (Stays h)) = refl
written_reports m n l (Ok (Spills h)) = refl
written_reports m n l (Err r) = refl

line_as : (m x : Memory) (on : Writing) (b : Bool) → x.counters.reports ≡ m.counters.reports → on.left.counters.reports ≡ x.counters.reports
    → (cond b on (record { stopped = true; left = m })).left.counters.reports ≡ m.counters.reports
line_as m x on true e q = q ∙ e
line_as m x on false e q = refl

lines_reports : (n : ℕ) (ls : List Line) (m : Memory) → (write_lines m n ls).left.counters.reports ≡ m.counters.reports
unfolding write_lines
lines_reports n [] m = refl
lines_reports n (l ∷ ls) m =
    let x = written m n l (place_of m l) in
    line_as m x (write_lines x n ls) (eqb (first_of (plan_rows m (lines_plan m (l ∷ [])))) 0) (written_reports m n l (place_of m l)) (lines_reports n ls x)

-- ---- each call

-- refused with the first row that holds
refused_first : {m : Memory} {c : Call} {rs : List Row} (n : ℕ) → rows m c ≡ rs → n ≡ first_of rs → 0 < n → index_step m c ≡ refused_with m c n → Ends m c
refused_first {m} {c} {rs} n e q h s =
    refused h (rw (e, q) (first_row rs (λ z. omega (arith, q, h, z)))) s

start_ends : (m : Memory) → Ends m start
unfolding index_step refusal rows
start_ends m = accepted refl none

module _ (m : Memory) (f : List ℕ) where
  abbrev row13 : Row
  row13 = 13 if (writing m f).stopped

  call_numbered : Numbered (call_rows m f)
  unfolding call_rows report_rows head_rows field_rows plan_rows all
  call_numbered = numbered (call_rows m f) refl

  report_numbered : Numbered (call_rows m f ++ (row13 ∷ []))
  unfolding call_rows report_rows head_rows field_rows plan_rows all
  report_numbered = numbered (call_rows m f ++ (row13 ∷ [])) refl

  -- 1 to 12, before a byte is written
  judged : (call_refusal m f ≡ 0 → ⊥) → Ends m (report f)
  unfolding index_step refused_with rows call_refusal
  judged n =
      let e = call-refused m f n in
      let other : eqb (call_refusal m f) 13 ≡ false = ne_eqb (call_refusal m f) 13 (λ z. omega (arith, call_le m f, z)) in
      refused_first (call_refusal m f) refl (sym (first_some (call_rows m f) (row13 ∷ []) (omega (arith, n)))) (omega (arith, n)) (rw (e, other) refl)

  -- 13, and a report that is taken
  written_ends : call_refusal m f ≡ 0 → (b : Bool) → (writing m f).stopped ≡ b → Ends m (report f)
  unfolding index_step refused_with rows refusal call_refusal
  written_ends z true q =
      let e = call-stopped m f z {w = writing m f} refl q in
      refused_first 13 refl (sym (first-none (row13 ∷ []) call_numbered z ∙ first_holds row13 [] q)) (omega arith) (rw e refl)
  written_ends z false q =
      let e = call-taken m f z {w = writing m f} refl q in
      accepted (ap (λ (c : Called). c.answer.refusal) e)
      (first_clear (call_rows m f ++ (row13 ∷ [])) report_numbered (first-none (row13 ∷ []) call_numbered z ∙ first_passes row13 [] q ∙ first-empty))

  report_ends : Ends m (report f)
  report_ends = by-eq (call_refusal m f) 0 (λ z. written_ends z (writing m f).stopped refl) judged

  list_numbered : (kind most : ℕ) → Numbered (list_rows kind most m f)
  unfolding list_rows query_rows head_rows all
  list_numbered kind most = numbered (list_rows kind most m f) refl

  one_ends : (numbers counts : List ℕ) → Ends m (one-term f numbers counts)
  unfolding index_step refused_with rows refusal list_one_call list_one list_refusal
  one_ends numbers counts =
      let r = list_refusal 2 1 m f in
      by-eq r 0
      (λ z. accepted (rw (eq-eqb r 0 z) refl) (first_clear (list_rows 2 1 m f) (list_numbered 2 1) z))
      (λ n. refused_first r refl refl (omega (arith, n)) (rw (ne_eqb r 0 n) refl))

  all_ends : (numbers : List ℕ) → Ends m (all-terms f numbers)
  unfolding index_step refused_with rows refusal list_all_call list_all list_refusal
  all_ends numbers =
      let r = list_refusal 3 8 m f in
      by-eq r 0
      (λ z. accepted (rw (eq-eqb r 0 z) refl) (first_clear (list_rows 3 8 m f) (list_numbered 3 8) z))
      (λ n. refused_first r refl refl (omega (arith, n)) (rw (ne_eqb r 0 n) refl))

call_ends : (m : Memory) (c : Call) → Ends m c
call_ends m start = start_ends m
call_ends m (report f) = report_ends m f
call_ends m (one-term f numbers counts) = one_ends m f numbers counts
call_ends m (all-terms f numbers) = all_ends m f numbers

pub refuses : Refuses
refuses = record { ends = call_ends; reports = λ m f. lines_reports (next_number m.counters) (report_lines f) m }
