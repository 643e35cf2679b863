-- A report taken: the index answers as the ledger does, and stands for it again.
-- Assumes nothing.
use mathlib.Core.Path.{◌≡◌, refl, sym, ap, ◌∙◌}
use Prim.Native.Nat.{ℕ, ◌+◌, ◌-◌, ◌/◌, ◌≤◌, ◌<◌}
use mathlib.Core.Bool.{Bool, true, false}
use mathlib.Core.List.{List, [], ◌∷◌, ◌++◌, append_assoc}
use native.Mathlib.Omega.{arith}
use lib.Dec.{ltb, eqb}
use lib.ListN.{length, length-append, replicate}
use borrow.Author.Tests.{lt-ltb, le-ltb, ltb-false, eq-eqb, ne_eqb, eqb-false}
use Rattle.basics.proofs.Cases.{by-lt, by-eq}
use Rattle.frames.specs.Refusals.{◌if◌, first_of}
use Rattle.frames.specs.Frames.{report_rows, report_refusal}
use Rattle.frames.proofs.Reports.{report-numbered}
use Rattle.frames.proofs.Refusals.{first_some, first-none, first-zero, both_zero}
use Rattle.blocks.specs.Fields.{max_word, blocks_in, capacity}
use Rattle.chains.specs.Chains.{last_from}
use Rattle.lookup.specs.Lookup.{slots_in, slots}
use Rattle.counters.specs.Counters.{Memory, memory, max_terms, wrong_counters}
use Rattle.ingest.specs.Report.{plan_rows, lines_plan, Writing, write_lines, call_rows, call_refusal, Called, ended, report_call}
use Rattle.layout.specs.Index.{Index, used_of}
use Rattle.ledger.specs.Ledger.{Report, lines_of, names, prescribed_blocks, earlier_rows, ledger_rows, Entered, enter_report}
use Rattle.ledger.specs.Grown.{take_lines, take_reports, grown, GoodLines, GoodReports, no_report}
use Rattle.ledger.specs.Calls.{Bytes}
use Rattle.ledger.proofs.Holds.{held, grown-terms, grown_held, last_le, grown-used, grown_housed, grown-linked, grown-snoc, good_snoc, Earlier, earlier_all}
use Rattle.ledger.proofs.Plan.{needs, news, over, used-lines, terms-lines}
use Rattle.ledger.proofs.Rep.{Rep, rep_start, length-entries}
use Rattle.ledger.proofs.Writing.{plan_is, Written, lines_rep}
use Rattle.ledger.proofs.Frames.{report_good}
use Rattle.ledger.proofs.Words.{lines_same}

-- ---- the ledger's table: the rows of a report's frame, and then 9, 11 and 12

pub rows_are : (bytes entries : ℕ) (rs : List Report) (f : List ℕ) → let more = rs ++ (lines_of f ∷ []) in ledger_rows bytes entries rs f
    ≡ report_rows f ++ ((9 if eqb (length rs) max_word) ∷ (11 if ltb (slots_in entries / 2) (length (names more))) ∷ (12 if ltb (blocks_in bytes) (prescribed_blocks more)) ∷ [])
unfolding ledger_rows earlier_rows
rows_are bytes entries rs f = append_assoc (report_rows f) _ _

-- where the ledger refuses nothing, the frame is sound
pub entered-sound : (bytes entries : ℕ) (rs : List Report) (f : List ℕ) → first_of (ledger_rows bytes entries rs f) ≡ 0 → report_refusal f ≡ 0
unfolding report_refusal
entered-sound bytes entries rs f z = (both_zero _ (report-numbered f) (rw rows_are at z)).0

-- memory m stands for the ledger rs, whose reports are good
pub record StandsFor (m : Memory) (rs : List Report) : Type 0 where
  pub rep : Rep m (grown rs) (length rs)
  pub good : GoodReports rs
  pub small : length rs ≤ max_word

-- what a call of a memory answers and leaves, as the ledger has it; arena and table keep their lengths
pub record Steps (m : Memory) (c : Called) (e : Entered) : Type 0 where
  pub answer : c.answer ≡ e.answer
  pub stands : StandsFor c.left e.reports
  pub arena_kept : length c.left.arena ≡ length m.arena
  pub table_kept : length c.left.table ≡ length m.table

-- the report takes its number
abbrev counted : Memory → ℕ → Memory
counted m k = memory m.arena m.table (record { used = m.counters.used; terms = m.counters.terms; reports = k })

numbered : {m : Memory} {ix : Index} {n : ℕ} → Rep m ix n → (k : ℕ) → Rep (counted m k) ix k
numbered r k =
    record { image = r.image; linked = r.linked; tab = r.tab; used_is = r.used_is; terms_is = r.terms_is; reports_is = refl; inside = r.inside }

-- ---- the rows

shift : (c u k : ℕ) → u ≤ c → ltb (c - u) k ≡ ltb c (u + k)
shift c u k h =
    by-lt c (u + k) (λ l. lt-ltb (c - u) k (omega arith) ∙ sym (lt-ltb c (u + k) l)) (λ l. le-ltb (c - u) k (omega arith) ∙ sym (le-ltb c (u + k) l))

module _ {m : Memory} {rs : List Report} (s : StandsFor m rs) where
  -- 8 never occurs
  pub counters-right : wrong_counters m.arena m.table m.counters ≡ false
  unfolding wrong_counters max_terms
  counters-right =
      let r : Rep m (grown rs) (length rs) = s.rep in
      rw (
        le-ltb (capacity m.arena) m.counters.used (omega (arith, r.inside, r.used_is)),
        le-ltb (slots m.table / 2) m.counters.terms (omega (arith, r.tab.most, r.terms_is, length-entries (grown rs))),
        le-ltb m.counters.used m.counters.terms (omega (arith, r.used_is, r.terms_is, grown_housed rs r.linked)),
      )

  -- every number in the index is that of a report
  pub numbers_low : (v : List ℕ) → last_from 0 (held v (grown rs).terms) ≤ length rs
  numbers_low v = rw (grown_held rs v) (last_le rs v)

  module _ (f : List ℕ) (bytes : Bytes f) where
    abbrev more : List Report
    more = rs ++ (lines_of f ∷ [])

    earlier : Earlier (length rs + 1) (grown rs).terms (lines_of f)
    earlier = earlier_all (length rs + 1) (grown rs).terms (λ v. omega (arith, numbers_low v)) (lines_of f)

    module _ (z : report_refusal f ≡ 0) where
      lines_good : GoodLines (lines_of f)
      lines_good = rw (lines_same f) (report_good f bytes z)

      -- the different terms then, as they are counted
      names_more : m.counters.terms + over (news (grown rs).terms) (lines_of f) ≡ length (names more)
      names_more =
          omega (
            arith,
            s.rep.terms_is,
            terms-lines (grown rs) (length rs + 1) lines_good,
            ap (λ (i : Index). length i.terms) (grown-snoc rs (lines_of f)),
            grown-terms more,
          )

      -- the blocks then
      blocks_more : length rs < max_word → m.counters.used + over (needs (length rs + 1) (grown rs).terms) (lines_of f) ≡ prescribed_blocks more
      blocks_more h =
          omega (
            arith,
            s.rep.used_is,
            used-lines (grown rs) (length rs + 1) lines_good,
            ap used_of (grown-snoc rs (lines_of f)),
            grown-used more (grown-linked (good_snoc s.good lines_good) (rw length-append (omega arith))),
          )

      rows_as : (b : Bool) → eqb (length rs) max_word ≡ b
          → first_of ((8 if wrong_counters m.arena m.table m.counters) ∷ (9 if eqb m.counters.reports max_word) ∷ plan_rows m (lines_plan m (lines_of f)))
          ≡ first_of ((9 if eqb (length rs) max_word) ∷ (11 if ltb (slots_in (length m.table) / 2) (length (names more)))
          ∷ (12 if ltb (blocks_in (length m.arena)) (prescribed_blocks more)) ∷ [])
      unfolding first_of plan_rows max_terms slots capacity
      rows_as true e = rw (counters-right, s.rep.reports_is, e)
      rows_as false e =
          let h : length rs < max_word = by-lt (length rs) max_word (λ l. l) (λ g. absurd (eqb-false (length rs) max_word e (omega (arith, s.small)))) in
          let u : m.counters.used ≤ blocks_in (length m.arena) = unfold capacity in omega (arith, s.rep.inside, s.rep.used_is) in
          rw (
            plan_is s.rep h lines_good earlier,
            counters-right,
            s.rep.reports_is,
            e,
            names_more,
            shift (blocks_in (length m.arena)) m.counters.used (over (needs (length rs + 1) (grown rs).terms) (lines_of f)) u,
            blocks_more h,
          )

    -- THE REFUSAL is the ledger's: 8 and 10 never occur
    pub refusal_is : call_refusal m f ≡ first_of (ledger_rows (length m.arena) (length m.table) rs f)
    unfolding call_refusal call_rows report_refusal
    refusal_is =
        rw (rows_are, ← (lines_same f))
        (by-eq (first_of (report_rows f)) 0
        (λ z. first-none _ (report-numbered f) z ∙ rows_as z (eqb (length rs) max_word) refl ∙ sym (first-none _ (report-numbered f) z))
        (λ z. first_some (report_rows f) _ (omega arith) ∙ sym (first_some (report_rows f) _ (omega arith))))

    -- ---- a report that is taken

    module _ (z : first_of (ledger_rows (length m.arena) (length m.table) rs f) ≡ 0) where
      record Room : Type 0 where
        sound : report_refusal f ≡ 0
        numbers : length rs < max_word
        terms : length (names more) ≤ max_terms m.table
        blocks : prescribed_blocks more ≤ capacity m.arena

      room : Room
      unfolding report_refusal max_terms slots capacity
      room =
          let b = both_zero _ (report-numbered f) (rw rows_are at z) in
          let r₉ = first-zero (9 if eqb (length rs) max_word) _ (omega arith) b.1 in
          let r₁₁ = first-zero (11 if ltb (slots_in (length m.table) / 2) (length (names more))) _ (omega arith) r₉.1 in
          let r₁₂ = first-zero (12 if ltb (blocks_in (length m.arena)) (prescribed_blocks more)) [] (omega arith) r₁₁.1 in
          record {
            sound = b.0;
            numbers = by-lt (length rs) max_word (λ l. l) (λ g. absurd (eqb-false (length rs) max_word r₉.0 (omega (arith, s.small))));
            terms = ltb-false (slots_in (length m.table) / 2) (length (names more)) r₁₁.0;
            blocks = ltb-false (blocks_in (length m.arena)) (prescribed_blocks more) r₁₂.0;
          }

      lines-written : Written m (write_lines m (length rs + 1) (lines_of f)) (take_lines (grown rs) (length rs + 1) (lines_of f)) (length rs)
      lines-written =
          let g : GoodLines (lines_of f) = lines_good room.sound in
          lines_rep m (grown rs) (length rs) s.rep room.numbers g earlier
          (omega (arith, room.blocks, blocks_more room.sound room.numbers, used-lines (grown rs) (length rs + 1) g, s.rep.used_is))
          (omega (arith, room.terms, names_more room.sound, terms-lines (grown rs) (length rs + 1) g, s.rep.terms_is))

      abbrev taken : Entered
      taken = record { answer = record { refusal = 0; number = length rs + 1 }; reports = rs ++ (lines_of f ∷ []) }

      taken_steps : (k : ℕ) → k ≡ length rs + 1 → Steps m (ended k (write_lines m k (lines_of f))) taken
      unfolding ended
      taken_steps k e =
          let w : Writing = write_lines m (length rs + 1) (lines_of f) in
          let count : length more ≡ length rs + 1 = length-append rs (lines_of f ∷ []) in
          let r : Rep (counted w.left (length rs + 1)) (take_lines (grown rs) (length rs + 1) (lines_of f)) (length rs + 1) =
          numbered lines-written.wrote.rep (length rs + 1) in
          rw (e, lines-written.goes_on) (record {
            answer = refl;
            stands = record {
              rep = rw (count, grown-snoc rs (lines_of f)) r;
              good = good_snoc s.good (lines_good room.sound);
              small = rw count (omega (arith, room.numbers));
            };
            arena_kept = lines-written.wrote.arena_kept;
            table_kept = lines-written.wrote.table_kept;
          })

    -- THE STEP: the index answers a report as the ledger does, and stands for the ledger that follows; so 8, 10 and 13 never occur
    pub report_step : Steps m (report_call m f) (enter_report (length m.arena) (length m.table) rs f)
    unfolding report_call enter_report
    report_step =
        let r : ℕ = first_of (ledger_rows (length m.arena) (length m.table) rs f) in
        by-eq r 0
        (λ z. rw (refusal_is, eq-eqb r 0 z, ← (lines_same f)) (taken_steps z (m.counters.reports + 1) (ap (λ (k : ℕ). k + 1) s.rep.reports_is)))
        (λ z. rw (refusal_is, ne_eqb r 0 z) (record { answer = refl; stands = s; arena_kept = refl; table_kept = refl }))

-- A START: any arena, a table of nulls, and counters of 0 stand for the empty ledger
pub stands-start : (a : List ℕ) (k : ℕ) → StandsFor (memory a (replicate k 0) (record { used = 0; terms = 0; reports = 0 })) []
unfolding grown take_reports
stands-start a k = record { rep = rep_start a k; good = no_report; small = omega arith }
