-- A frame that ends the program is refused under 1 or 2, by the call of any kind.
-- Assumes nothing.
use Prim.Native.Nat.{ℕ, ◌+◌, ◌-◌, ◌≤◌, ◌<◌}
use mathlib.Core.Path.{◌≡◌, refl}
use mathlib.Core.List.{List, ◌∷◌}
use mathlib.Core.Bool.{Bool, true, false, cond}
use mathlib.Core.Logic.{⊎_elim}
use native.Mathlib.Omega.{arith}
use lib.Dec.{eqb}
use lib.ListN.{length}
use lib.Seq.{take_all, get_or-take}
use borrow.Author.Tests.{ltb-true, lt-ltb, le-ltb, ne_eqb}
use Rattle.basics.proofs.Cases.{by-lt}
use Rattle.frames.specs.Refusals.{Row, ◌if◌, first_of}
use Rattle.frames.specs.Frames.{max_body, body_length, wrong_version, wrong_length, head_rows, report_rows, query_rows}
use Rattle.counters.specs.Counters.{Memory}
use Rattle.ingest.specs.Report.{call_rows, call_refusal, report_call}
use Rattle.query.specs.Listing.{list_rows, list_refusal, list_one_call, list_all_call}
use Rattle.std.proofs.Common.{Option, Some, None}
use Rattle.frames.specs.declared.Kind.{Kind}
use Rattle.frames.specs.declared.Kind.TheVariants.{Report, One, All}
use Rattle.desk.specs.Text.{refusal_line, report_line, list_line, one_line, all_line}
use Rattle.desk.specs.Desk.{Answered, answered, answered_as, kind_of, other_refusal, overlong, frame_length, front_frame}
use Rattle.desk.specs.Claims.{Last, LastRefused}

-- 1 or 2 applies
abbrev HeadWrong : List ℕ → Type 0
HeadWrong f = wrong_version f ≡ false → wrong_length f ≡ true

-- ---- 1 or 2 decides every call

first_two : (a b : Bool) (rs : List Row) → (a ≡ false → b ≡ true) → first_of ((1 if a) ∷ (2 if b) ∷ rs) ≡ cond a 1 2
unfolding first_of
first_two true b rs h = refl
first_two false b rs h = rw (h refl)

one-or_two : (a : Bool) → eqb (cond a 1 2) 0 ≡ false
one-or_two true = refl
one-or_two false = refl

module _ (m : Memory) (f : List ℕ) (h : HeadWrong f) where
  abbrev number : ℕ
  number = cond (wrong_version f) 1 2

  abbrev refused_as : Answered
  refused_as = record { line = refusal_line number; left = m }

  by_report : answered_as (Some Report) m f ≡ refused_as
  unfolding answered_as report_call call_refusal call_rows report_rows head_rows report_line
  by_report = rw (first_two (wrong_version f) (wrong_length f) _ h, one-or_two (wrong_version f), one-or_two (wrong_version f))

  by_one : answered_as (Some One) m f ≡ refused_as
  unfolding answered_as list_one_call list_refusal list_rows query_rows head_rows one_line list_line
  by_one = rw (first_two (wrong_version f) (wrong_length f) _ h, one-or_two (wrong_version f), one-or_two (wrong_version f))

  by_all : answered_as (Some All) m f ≡ refused_as
  unfolding answered_as list_all_call list_refusal list_rows query_rows head_rows all_line list_line
  by_all = rw (first_two (wrong_version f) (wrong_length f) _ h, one-or_two (wrong_version f), one-or_two (wrong_version f))

  by_other : answered_as None m f ≡ refused_as
  unfolding answered_as other_refusal
  by_other = rw (first_two (wrong_version f) (wrong_length f) _ h)

by_kind : (k : Option Kind) (m : Memory) (f : List ℕ) (h : HeadWrong f) → answered_as k m f ≡ record { line = refusal_line (cond (wrong_version f) 1 2); left = m }
by_kind (Some Report) m f h = by_report m f h
by_kind (Some One) m f h = by_one m f h
by_kind (Some All) m f h = by_all m f h
by_kind None m f h = by_other m f h

-- ---- the last frame meets 1 or 2

long : (f : List ℕ) → wrong_version f ≡ false → 4 ≤ length f
unfolding wrong_version
long f = by-lt (length f) 4 (λ h. rw (lt-ltb _ _ h) (λ e. let z : ◌≡◌ {A = ℕ} 0 1 = cc in absurd (omega arith))) (λ h e. h)

over_wrong : (f : List ℕ) → max_body < body_length f → wrong_length f ≡ true
unfolding wrong_length
over_wrong f h = rw (lt-ltb _ _ h)

cut_wrong : (f : List ℕ) → length f < 3 + body_length f → 4 ≤ length f → wrong_length f ≡ true
unfolding wrong_length
cut_wrong f h l = by-lt max_body (body_length f) (λ o. rw (lt-ltb _ _ o)) (λ o. rw (le-ltb _ _ o, ne_eqb (body_length f) (length f - 3) (λ e. omega arith)))

over-length : (s : List ℕ) → overlong s ≡ true → frame_length s ≡ 4
unfolding frame_length
over-length s o = rw o

-- of a frame with a length over 4,096 the first four bytes are judged
last-over : (s : List ℕ) → overlong s ≡ true → HeadWrong (front_frame s)
unfolding front_frame overlong body_length
last-over s o v = over_wrong (front_frame s) (rw (over-length s o, get_or-take 4 s 1 0 (omega arith), get_or-take 4 s 2 0 (omega arith)) (ltb-true _ _ o))

-- a cut frame is all that is left
last-cut : (s : List ℕ) → overlong s ≡ false → length s < frame_length s → HeadWrong (front_frame s)
unfolding front_frame frame_length
last-cut s o h v =
    let e : front_frame s ≡ s = take_all (frame_length s) s (omega arith) in
    rw e (cut_wrong s (rw o at h) (long s (rw e at v)))

last_wrong : (b : Bool) (s : List ℕ) → overlong s ≡ b → Last s → HeadWrong (front_frame s)
last_wrong true s o l = last-over s o
last_wrong false s o l = ⊎_elim (λ t. let z : ◌≡◌ {A = ℕ} 0 1 = cc in absurd (omega arith)) (λ h. last-cut s o h) l

pub last-refused : LastRefused
unfolding answered
last-refused m s l = by_kind (kind_of (front_frame s)) m (front_frame s) (last_wrong (overlong s) s refl l)
