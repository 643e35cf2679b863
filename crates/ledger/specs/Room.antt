-- When a report finds no room: the consequence of demand 3 for refusal 12 (document 01, "The plain ledger of demand
-- 3").
use Rattle.std.specs.Prelude.{ℕ, ◌<◌, ◌≡◌, List, [], ◌∷◌, ◌++◌, length}
use Rattle.frames.specs.Refusals.{first_of}
use Rattle.blocks.specs.Fields.{blocks_in}
use Rattle.counters.specs.Counters.{Memory}
use Rattle.ingest.specs.Report.{report_call}
use Rattle.ledger.specs.Ledger.{Report, lines_of, prescribed_blocks, earlier_rows}
use Rattle.ledger.specs.Calls.{Call, start, index_step, final, Bytes, Framed, ledger_for}

-- after a start and any calls behind it, a report that none of them refuses meets 12 exactly when the blocks prescribed
-- for the ledger's reports and this one outnumber the arena's
abbrev pub NoRoom : Type 0
NoRoom =
    (m : Memory) (rs : List Report) (cs : List Call) (f : List ℕ) → Framed cs → Bytes f →
    let index = final index_step m (start ∷ cs) in
    let held = final (ledger_for m) rs (start ∷ cs) in
    let full = blocks_in (length m.arena) < prescribed_blocks (held ++ (lines_of f ∷ [])) in
    let meets12 = (report_call index f).answer.refusal ≡ 12 in
    first_of (earlier_rows (length m.table) held f) ≡ 0 → (meets12 → full) × (full → meets12)
