-- Equal ledgers have equal memories: what stands in counters, table and used blocks is told by the reports alone.
use Rattle.std.specs.Prelude.{◌≡◌, List, ◌∷◌, length, take}
use Rattle.blocks.specs.Fields.{place}
use Rattle.counters.specs.Counters.{Memory}
use Rattle.lookup.specs.Lookup.{table_of}
use Rattle.ledger.specs.Ledger.{Report}
use Rattle.ledger.specs.Grown.{grown, entries_of}
use Rattle.ledger.specs.Calls.{Call, start, index_step, final, Framed, ledger_for}

-- the same counters, tables and used blocks, byte for byte
pub record Same (a b : Memory) : Type 0 where
  pub counters : a.counters ≡ b.counters
  pub table : a.table ≡ b.table
  pub blocks : take (place a.counters.used) a.arena ≡ take (place b.counters.used) b.arena

-- of any two lists of calls, each behind a start, on two memories whose tables have one length: where the ledgers end
-- equal, the memories do
abbrev pub SameState : Type 0
SameState =
    (m m' : Memory) (rs rs' : List Report) (cs cs' : List Call) → Framed cs → Framed cs' → length m.table ≡ length m'.table
    → final (ledger_for m) rs (start ∷ cs) ≡ final (ledger_for m') rs' (start ∷ cs')
    → Same (final index_step m (start ∷ cs)) (final index_step m' (start ∷ cs'))

-- and the table is that of the ledger's terms, each entered at the first empty slot from that of its hash on, in the
-- order of their heads
abbrev pub TableTold : Type 0
TableTold =
    (m : Memory) (rs : List Report) (cs : List Call) → Framed cs →
    let held = final (ledger_for m) rs (start ∷ cs) in
    (final index_step m (start ∷ cs)).table ≡ table_of (length m.table) (entries_of (grown held))
