-- The program writes what the plain ledger says: the frames of an input are a list of calls, over which index and ledger agree.
-- Assumes nothing.
use Prim.Native.Nat.{ℕ, zero, suc, ◌≤◌}
use mathlib.Core.Path.{◌≡◌, refl, ap, ap₂}
use mathlib.Core.List.{List, [], ◌∷◌, ◌++◌}
use mathlib.Core.Bool.{Bool, true, false, cond}
use native.Mathlib.Omega.{arith}
use lib.Dec.{eqb}
use lib.ListN.{length, take, drop, length-take, length-replicate, get_or-eq_default}
use lib.Seq.{get_or-take, get_or-drop}
use Rattle.basics.proofs.Cases.{by-lt}
use Rattle.counters.specs.Counters.{Memory}
use Rattle.ingest.specs.Report.{report_call}
use Rattle.query.specs.Listing.{list_one_call, list_all_call}
use Rattle.ledger.specs.Ledger.{Report, enter_report}
use Rattle.ledger.specs.Calls.{Call, report, one-term, all-terms, Step, cleared, index_step, ledger_step, ledger_one, ledger_all, answers, frame_of, Bytes, Framed, none, one, ledger_for}
use Rattle.ledger.proofs.Agree.{agree}
use Rattle.std.proofs.Common.{Option, Some, None}
use Rattle.frames.specs.declared.Kind.{Kind}
use Rattle.frames.specs.declared.Kind.TheVariants as kind
use Rattle.desk.specs.Text.{refusal_line, report_line, one_line, all_line}
use Rattle.desk.specs.Desk.{arena_bytes, table_entries, started, empty_list, kind_of, other_refusal, answered_as, answered, overlong, frame_length, front_frame, frames, frames_up_to, lines_of, lines, desk_output}
use Rattle.desk.specs.Claims.{told_as, told_lines, ledger_output, TellsLedger}

-- ---- the calls of some frames

unfoldable calls_for : Option Kind → List ℕ → List Call → List Call
calls_for (Some kind.Report) f cs = report f ∷ cs
calls_for (Some kind.One) f cs = one-term f empty_list empty_list ∷ cs
calls_for (Some kind.All) f cs = all-terms f empty_list ∷ cs
calls_for None f cs = cs

unfoldable calls : List (List ℕ) → List Call
calls [] = []
calls (f ∷ fs) = calls_for (kind_of f) f (calls fs)

abbrev ledger_call : List Report → Call → Step (List Report)
ledger_call = ledger_step arena_bytes table_entries

-- ---- where the calls have the same answers, the lines are the same

head-same : {A : Type 0} {x y : A} {s t : List A} → ◌≡◌ {A = List A} (x ∷ s) (y ∷ t) → x ≡ y
head-same e = cc

tail-same : {A : Type 0} {x y : A} {s t : List A} → ◌≡◌ {A = List A} (x ∷ s) (y ∷ t) → s ≡ t
tail-same e = cc

module _ (m : Memory) (rs : List Report) (f : List ℕ) (fs : List (List ℕ)) (cs : List Call) (on : (m' : Memory) (rs' : List Report) → answers index_step m' cs ≡ answers ledger_call rs' cs → lines_of m' fs ≡ told_lines rs' fs) where
  abbrev Same : Option Kind → Type 0
  Same k =
      answers index_step m (calls_for k f cs) ≡ answers ledger_call rs (calls_for k f cs)
      → (answered_as k m f).line ++ lines_of (answered_as k m f).left fs ≡ (told_as k rs f).line ++ told_lines (told_as k rs f).left fs

  same-report : Same (Some kind.Report)
  unfolding answers index_step ledger_step calls_for answered_as told_as
  same-report e =
      let a : (report_call m f).answer ≡ (enter_report arena_bytes table_entries rs f).answer = cc (head-same e) in
      ap₂ ◌++◌ (ap report_line a) (on _ _ (tail-same e))

  same-one : Same (Some kind.One)
  unfolding answers index_step ledger_step calls_for answered_as told_as
  same-one e =
      let a : list_one_call m f empty_list empty_list ≡ ledger_one rs f empty_list empty_list = cc (head-same e) in
      ap₂ ◌++◌ (ap one_line a) (on _ _ (tail-same e))

  same-all : Same (Some kind.All)
  unfolding answers index_step ledger_step calls_for answered_as told_as
  same-all e =
      let a : list_all_call m f empty_list ≡ ledger_all rs f empty_list = cc (head-same e) in
      ap₂ ◌++◌ (ap all_line a) (on _ _ (tail-same e))

  same_other : Same None
  unfolding calls_for answered_as told_as
  same_other e = ap (λ (l : List ℕ). refusal_line (other_refusal f) ++ l) (on m rs e)

  same_kind : (k : Option Kind) → Same k
  same_kind (Some kind.Report) = same-report
  same_kind (Some kind.One) = same-one
  same_kind (Some kind.All) = same-all
  same_kind None = same_other

told : (fs : List (List ℕ)) (m : Memory) (rs : List Report) → answers index_step m (calls fs) ≡ answers ledger_call rs (calls fs) → lines_of m fs ≡ told_lines rs fs
unfolding lines_of told_lines calls answered
told [] m rs e = refl
told (f ∷ fs) m rs e = same_kind m rs f fs (calls fs) (told fs) (kind_of f) e

-- ---- the frames of an input of bytes are bytes

bytes_take : (n : ℕ) (s : List ℕ) → Bytes s → Bytes (take n s)
bytes_take n s b i =
    by-lt i n (λ h. rw (get_or-take n s i 0 h) (b i))
    (λ h. let l : length (take n s) ≤ i = simp length-take (omega arith) in rw (get_or-eq_default (take n s) 0 {n = i} l) (omega arith))

bytes_drop : (n : ℕ) (s : List ℕ) → Bytes s → Bytes (drop n s)
bytes_drop n s b i = rw (get_or-drop n s i 0) (b _)

framed_for : (k : Option Kind) (f : List ℕ) (cs : List Call) → Bytes f → Framed cs → Framed (calls_for k f cs)
unfolding calls_for frame_of
framed_for (Some kind.Report) f cs b h = one {c = report f} b h
framed_for (Some kind.One) f cs b h = one {c = one-term f empty_list empty_list} b h
framed_for (Some kind.All) f cs b h = one {c = all-terms f empty_list} b h
framed_for None f cs b h = h

framed_cond : (b : Bool) (fs : List (List ℕ)) → Framed (calls fs) → Framed (calls (cond b [] fs))
unfolding calls
framed_cond true fs h = none
framed_cond false fs h = h

framed : (k : ℕ) (s : List ℕ) → Bytes s → Framed (calls (frames_up_to k s))
unfolding frames_up_to calls front_frame
framed zero s b = none
framed (suc k) s b =
    let on = frames_up_to k (drop (frame_length s) s) in
    framed_cond (eqb (length s) 0) (front_frame s ∷ cond (overlong s) [] on)
    (framed_for (kind_of (front_frame s)) (front_frame s) _ (bytes_take (frame_length s) s b)
    (framed_cond (overlong s) on (framed k (drop (frame_length s) s) (bytes_drop (frame_length s) s b))))

-- ---- from a start on, index and ledger agree

arena_is : length started.arena ≡ arena_bytes
unfolding started
arena_is = length-replicate {A = ℕ} arena_bytes 0

table_is : length started.table ≡ table_entries
unfolding started
table_is = length-replicate {A = ℕ} table_entries 0

started-clear : cleared started ≡ started
unfolding cleared started
started-clear = refl

same-calls : (cs : List Call) → Framed cs → answers index_step started cs ≡ answers ledger_call [] cs
unfolding answers index_step ledger_step
same-calls cs h =
    let e : answers index_step (cleared started) cs ≡ answers (ledger_for started) [] cs = tail-same (agree started [] cs h).same_answers in
    rw (started-clear, arena_is, table_is) at e

pub tells_ledger : TellsLedger
unfolding desk_output lines ledger_output frames
tells_ledger input b = told (frames input) started [] (same-calls (calls (frames input)) (framed (length input) input b))
