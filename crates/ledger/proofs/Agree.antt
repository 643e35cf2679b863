-- DEMAND 3: over every list of calls after a first start, index and ledger agree.
-- Assumes nothing.
use mathlib.Core.Path.{◌≡◌, refl, sym, ap, ◌∙◌}
use mathlib.Core.List.{List, []}
use Prim.Native.Nat.{ℕ}
use lib.ListN.{length, length-replicate}
use Rattle.chains.specs.Chains.{whole}
use Rattle.counters.specs.Counters.{Memory}
use Rattle.ingest.specs.Report.{report_call}
use Rattle.query.specs.Listing.{read_found, read_term}
use Rattle.ledger.specs.Ledger.{Report, postings_of, enter_report}
use Rattle.ledger.specs.Calls.{Call, start, report, one-term, all-terms, taken, of_one, of_all, cleared, index_step, ledger_step, frame_of, Bytes, Claim}
use Rattle.ledger.proofs.Reports.{StandsFor, Steps, report_step, counters-right, stands-start}
use Rattle.ledger.proofs.Look.{Looks, at, off, looks, used_are, terms_are, reports_are}
use Rattle.ledger.proofs.Listing.{Distinct, none}
use Rattle.ledger.proofs.ListingDistinct.{entered_distinct}
use Rattle.ledger.proofs.ListingStep.{Reads, one_agrees, all_agrees}
use Rattle.ledger.proofs.Calls.{Carry, Carries, claim}

-- a memory of these lengths that stands for the reports
pub record Carried (b e : ℕ) (m : Memory) (rs : List Report) : Type 0 where
  pub stands : StandsFor m rs
  pub distinct : Distinct rs
  pub arena_is : length m.arena ≡ b
  pub table_is : length m.table ≡ e

-- a term is looked up and read as the ledger has it
reads_as : {m : Memory} {rs : List Report} (w : List ℕ) → Looks m rs w → read_term m w ≡ whole (postings_of rs w)
unfolding read_term read_found
reads_as {m} w (at h n s c) = ap (read_found m) s ∙ c
reads_as {m} w (off k n s e) = ap (read_found m) s ∙ ap whole (sym e)

reads_of : {b e : ℕ} {m : Memory} {rs : List Report} → Carried b e m rs → Reads m rs
reads_of {m} {rs} c =
    record {
      right = counters-right c.stands;
      reads = λ w. reads_as w (looks c.stands w);
      distinct = c.distinct;
    }

pub steps_of : {b e : ℕ} {m : Memory} {rs : List Report} (f : List ℕ) → Bytes f → Carried b e m rs → Steps m (report_call m f) (enter_report b e rs f)
steps_of f bytes c = rw (c.arena_is, c.table_is) at (report_step c.stands f bytes)

-- ---- each call

start_carried : {b e : ℕ} (m : Memory) → length m.arena ≡ b → length m.table ≡ e → Carried b e (cleared m) []
unfolding cleared
start_carried m p q =
    record { stands = stands-start m.arena (length m.table); distinct = none; arena_is = p; table_is = length-replicate (length m.table) 0 ∙ q }

carry : {b e : ℕ} {m : Memory} {rs : List Report} (k : Call) → Bytes (frame_of k) → Carried b e m rs → Carry Carried b e m rs k
unfolding index_step ledger_step frame_of
carry {m = m} start bytes c = record { answer = refl; left = start_carried m c.arena_is c.table_is }
carry {b} {e} {m} {rs} (report f) bytes c =
    let s : Steps m (report_call m f) (enter_report b e rs f) = steps_of f bytes c in
    record {
      answer = ap taken s.answer;
      left = record { stands = s.stands; distinct = entered_distinct b e rs f c.distinct; arena_is = s.arena_kept ∙ c.arena_is; table_is = s.table_kept ∙ c.table_is };
    }
carry (one-term f numbers counts) bytes c = record { answer = ap of_one (one_agrees (reads_of c) f numbers counts); left = c }
carry (all-terms f numbers) bytes c = record { answer = ap of_all (all_agrees (reads_of c) f numbers); left = c }

pub carries : Carries Carried
carries =
    record {
      starts = λ b e m p q. start_carried m p q;
      steps = λ b e m rs k bytes c. carry k bytes c;
      counted = λ b e m rs c. record { used = used_are c.stands; terms = terms_are c.stands; reports = reports_are c.stands };
    }

pub agree : Claim
agree m rs cs h = claim Carried carries m rs cs h
