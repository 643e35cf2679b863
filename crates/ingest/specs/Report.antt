-- Taking a report: refusals 8 to 13, which lines are written and how, and the answer.
use Rattle.std.specs.Prelude.{ℕ, ◌+◌, ◌-◌, List, [], ◌∷◌, ◌++◌, map, Result, Ok, Err, Bool, true, false, cond, ◌||◌, ltb, eqb}
use Rattle.basics.specs.Lists.{any}
use Rattle.frames.specs.Refusals.{Row, ◌if◌, first_of}
use Rattle.frames.specs.Frames.{Line, report_rows, report_lines}
use Rattle.blocks.specs.declared.Head.{Head}
use Rattle.blocks.specs.Fields.{max_word, capacity, link_of, head_of}
use Rattle.blocks.specs.Writes.{fits, open_head, add_to, join_to}
use Rattle.chains.specs.Chains.{bad_head}
use Rattle.refusals.specs.declared.Refusal.{Refusal}
use Rattle.refusals.specs.declared.Refusal.TheVariants.{Damaged}
use Rattle.lookup.specs.declared.Found.{Found}
use Rattle.lookup.specs.declared.Found.TheVariants.{At, Unknown}
use Rattle.lookup.specs.Lookup.{search, enter}
use Rattle.counters.specs.declared.Counters.{Counters}
use Rattle.counters.specs.Counters.{Memory, max_terms, wrong_counters}
use Rattle.ingest.specs.declared.Place.{Place}
use Rattle.ingest.specs.declared.Place.TheVariants.{New, Stays, Spills}
use Rattle.ingest.specs.declared.ReportAnswer.{ReportAnswer}
use Rattle.ingest.specs.declared.Taken.{Taken}

-- the number of the report that is taken next
abbrev pub next_number : Counters → ℕ
next_number k = k.reports + 1

-- the line of a folded term
abbrev pub line_of : List ℕ → ℕ → Line
line_of w f = record { term = w; count = f }

-- ---- where a line goes

-- the place of a line, or damage
abbrev pub Placed : Type 0
Placed = Result Place Refusal

-- damage of a known term when a report is taken: its tail is not used, the write offset is out of place, or last
-- report, tail's first number or number of postings is over reports
unfoldable pub damaged_head : List ℕ → Counters → ℕ → Head → Bool
damaged_head a k h d =
    bad_head d k.used h || (ltb k.reports d.last || (ltb k.reports (link_of a d.tail) || ltb k.reports d.postings))

-- a known term's posting stays in the tail where it fits, else it spills into a new block
unfoldable pub place_at : List ℕ → Counters → ℕ → ℕ → Placed
place_at a k f h =
    let d = head_of a h in cond (damaged_head a k h d) (Err Damaged) (Ok (cond (fits d (next_number k) f) (Stays h) (Spills h)))

unfoldable pub placed : List ℕ → Counters → ℕ → Result Found Refusal → Placed
placed a k f (Ok (At h)) = place_at a k f h
placed a k f (Ok (Unknown s)) = Ok (New s)
placed a k f (Err r) = Err r

unfoldable pub place_of : Memory → Line → Placed
place_of m l = placed m.arena m.counters l.count (search m.arena m.counters.used m.table l.term)

-- ---- what the lines need, each on its own: a term more where it is unknown, and a block more there or where the posting does not fit

unfoldable pub is_damaged : Placed → Bool
is_damaged (Ok p) = false
is_damaged (Err r) = true

unfoldable pub terms_for : Placed → ℕ
terms_for (Ok (New s)) = 1
terms_for (Ok (Stays h)) = 0
terms_for (Ok (Spills h)) = 0
terms_for (Err r) = 0

unfoldable pub blocks_for : Placed → ℕ
blocks_for (Ok (New s)) = 1
blocks_for (Ok (Stays h)) = 0
blocks_for (Ok (Spills h)) = 1
blocks_for (Err r) = 0

unfoldable pub total : (Placed → ℕ) → List Placed → ℕ
total f [] = 0
total f (p ∷ ps) = f p + total f ps

-- whether one of the lines is damaged, and how many terms and blocks they need together
pub record Needed : Type 0 where
  pub damaged : Bool
  pub terms : ℕ
  pub blocks : ℕ

unfoldable pub plan_of : List Placed → Needed
plan_of ps = record { damaged = any is_damaged ps; terms = total terms_for ps; blocks = total blocks_for ps }

-- 10, 11 and 12, each over all lines, on the memory as it is
unfoldable pub plan_rows : Memory → Needed → List Row
plan_rows m p =
    (10 if p.damaged)
    ∷ (11 if ltb (max_terms m.table) (m.counters.terms + p.terms))
    ∷ (12 if ltb (capacity m.arena - m.counters.used) p.blocks)
    ∷ []

unfoldable pub lines_plan : Memory → List Line → Needed
lines_plan m ls = plan_of (map (place_of m) ls)

-- ---- writing

-- one line at its place, under report number n
unfoldable pub written : Memory → ℕ → Line → Placed → Memory
written m n l (Ok (Stays h)) = record {
  arena = add_to m.arena h (head_of m.arena h) n l.count;
  table = m.table;
  counters = m.counters;
}
written m n l (Ok (Spills h)) = record {
  arena = join_to m.arena h (head_of m.arena h) m.counters.used n l.count;
  table = m.table;
  counters = record { used = m.counters.used + 1; terms = m.counters.terms; reports = m.counters.reports };
}
written m n l (Ok (New s)) = record {
  arena = open_head m.arena m.counters.used l.term n l.count;
  table = enter m.table s m.counters.used;
  counters = record { used = m.counters.used + 1; terms = m.counters.terms + 1; reports = m.counters.reports };
}
written m n l (Err r) = m

-- the lines in frame order. Each is judged afresh when its turn comes: where 10, 11 or 12 would then hold, writing
-- stops there
pub record Writing : Type 0 where
  pub stopped : Bool
  pub left : Memory

abbrev pub wrote_as : Memory → Bool → Writing
wrote_as m stopped = record { stopped = stopped; left = m }

unfoldable pub write_lines : Memory → ℕ → List Line → Writing
write_lines m n [] = record { stopped = false; left = m }
write_lines m n (l ∷ ls) =
    let on = write_lines (written m n l (place_of m l)) n ls in
    cond (eqb (first_of (plan_rows m (lines_plan m (l ∷ [])))) 0) on (record { stopped = true; left = m })

-- ---- the call

unfoldable pub call_rows : Memory → List ℕ → List Row
call_rows m f =
    report_rows f
    ++ ((8 if wrong_counters m.arena m.table m.counters) ∷ (9 if eqb m.counters.reports max_word) ∷ plan_rows m (lines_plan m (report_lines f)))

unfoldable pub call_refusal : Memory → List ℕ → ℕ
call_refusal m f = first_of (call_rows m f)

pub record Called : Type 0 where
  pub answer : ReportAnswer
  pub left : Memory

-- 13 keeps the blocks, table and counters of the lines before; otherwise the report takes its number
unfoldable pub ended : ℕ → Writing → Called
ended n w =
    let m = w.left in
    let k = m.counters in
    cond w.stopped (record { answer = record { refusal = 13; number = 0 }; left = m }) (record {
      answer = record { refusal = 0; number = n };
      left = record { arena = m.arena; table = m.table; counters = record { used = k.used; terms = k.terms; reports = n } };
    })

unfoldable pub report_call : Memory → List ℕ → Called
report_call m f =
    let n = next_number m.counters in
    let taken = ended n (write_lines m n (report_lines f)) in
    cond (eqb (call_refusal m f) 0) taken (record { answer = record { refusal = call_refusal m f; number = 0 }; left = m })

-- the answer and the counters that a call leaves
unfoldable pub taken_of : Called → Taken
taken_of c = record { answer = c.answer; counters = c.left.counters }
