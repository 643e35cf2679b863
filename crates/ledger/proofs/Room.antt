-- The consequence for refusal 12: where no earlier rule refuses a report, it meets 12 exactly when the prescribed blocks outnumber the arena's.
-- Assumes nothing.
use mathlib.Core.Path.{◌≡◌, refl, sym, ap, ◌∙◌}
use mathlib.Core.List.{List, [], ◌∷◌, ◌++◌}
use Prim.Native.Nat.{ℕ, ◌<◌}
use native.Mathlib.Omega.{arith}
use lib.Dec.{ltb}
use lib.ListN.{length}
use borrow.Author.Tests.{lt-ltb, le-ltb, eq-eqb, ne_eqb}
use Rattle.basics.specs.Lists.{all}
use Rattle.basics.proofs.Cases.{by-lt, by-eq}
use Rattle.frames.specs.Refusals.{Row, ◌if◌, first_of}
use Rattle.frames.specs.Frames.{head_rows, field_rows, report_rows}
use Rattle.frames.proofs.Refusals.{Numbered, numbered, first-empty, first_holds, first_passes, first-none}
use Rattle.blocks.specs.Fields.{blocks_in}
use Rattle.ingest.specs.declared.ReportAnswer.{ReportAnswer}
use Rattle.ledger.specs.Ledger.{Report, lines_of, prescribed_blocks, earlier_rows, ledger_rows, enter_report}
use Rattle.ledger.specs.Calls.{start, index_step, final, ledger_for}
use Rattle.ledger.specs.Room.{NoRoom}
use Rattle.ledger.proofs.Calls.{carried}
use Rattle.ledger.proofs.Agree.{Carried, carries, steps_of}

-- each has a number
earlier-numbered : (entries : ℕ) (rs : List Report) (f : List ℕ) → Numbered (earlier_rows entries rs f)
unfolding earlier_rows report_rows head_rows field_rows all
earlier-numbered entries rs f = numbered _ refl

module _ (bytes entries : ℕ) (rs : List Report) (f : List ℕ) where
  abbrev more : List Report
  more = rs ++ (lines_of f ∷ [])

  row12 : Row
  row12 = 12 if ltb (blocks_in bytes) (prescribed_blocks more)

  -- the ledger answers with the first rule that holds
  entered-refusal : (enter_report bytes entries rs f).answer.refusal ≡ first_of (ledger_rows bytes entries rs f)
  unfolding enter_report
  entered-refusal =
      let r = first_of (ledger_rows bytes entries rs f) in by-eq r 0 (λ z. rw (eq-eqb r 0 z) (sym z)) (λ n. rw (ne_eqb r 0 n))

  module _ (z : first_of (earlier_rows entries rs f) ≡ 0) where
    -- only 12 is left
    left_over : first_of (ledger_rows bytes entries rs f) ≡ first_of (row12 ∷ [])
    unfolding ledger_rows row12
    left_over = first-none _ (earlier-numbered entries rs f) z

    meets : blocks_in bytes < prescribed_blocks more → (enter_report bytes entries rs f).answer.refusal ≡ 12
    unfolding row12
    meets h = entered-refusal ∙ left_over ∙ first_holds row12 [] (lt-ltb (blocks_in bytes) (prescribed_blocks more) h)

    full : (enter_report bytes entries rs f).answer.refusal ≡ 12 → blocks_in bytes < prescribed_blocks more
    unfolding row12
    full e =
        by-lt (blocks_in bytes) (prescribed_blocks more) (λ h. h)
        (λ h.
        let none : first_of (row12 ∷ []) ≡ 0 = first_passes row12 [] (le-ltb (blocks_in bytes) (prescribed_blocks more) h) ∙ first-empty in
        absurd (omega (arith, sym e ∙ entered-refusal ∙ left_over ∙ none)))

pub no_room : NoRoom
no_room m rs cs f framed bytes z =
    let held = final (ledger_for m) rs (start ∷ cs) in
    let b = length m.arena in
    let e = length m.table in
    let c : Carried b e (final index_step m (start ∷ cs)) held = carried Carried carries m rs cs framed in
    let same = ap (λ (a : ReportAnswer). a.refusal) (steps_of f bytes c).answer in
    (λ r. full b e held f z (sym same ∙ r), λ h. same ∙ meets b e held f z h)
