-- Cutting the input into frames: the frames of an input are its first one and then those of the rest, whatever comes behind.
-- Assumes nothing.
use Prim.Native.Nat.{ℕ, zero, suc, ◌+◌, ◌≤◌, ◌<◌}
use mathlib.Core.Path.{◌≡◌, refl, ap, sym, ◌∙◌}
use mathlib.Core.List.{List, [], ◌∷◌, ◌++◌, append-nil, append_assoc}
use mathlib.Core.Bool.{Bool, true, false, cond}
use native.Mathlib.Omega.{arith}
use lib.Dec.{ltb}
use Rattle.std.proofs.Common.{Option, Some, None}
use lib.ListN.{length, take, drop, length-append, length-drop, drop_of_length-le, get_or-append}
use lib.Seq.{take_all, take-append-le, drop-append-le}
use borrow.Author.Tests.{ltb-false, lt-ltb, le-ltb, le-leb, lt-leb, eq-eqb, ne_eqb}
use Rattle.basics.proofs.Cases.{by-lt, by-eq}
use Rattle.frames.specs.Frames.{max_body, body_length}
use Rattle.counters.specs.Counters.{Memory}
use Rattle.desk.specs.Desk.{answered, overlong, frame_length, front_frame, frames, frames_up_to, lines_of, memory_after}
use Rattle.desk.specs.Needs.{longest_frame, ready_length, Comes}

-- ---- the length of a frame

length_case : (b : Bool) (n : ℕ) → (b ≡ false → n ≤ max_body) → (3 ≤ cond b 4 (3 + n)) × (cond b 4 (3 + n) ≤ longest_frame)
length_case true n h = (omega arith, omega arith)
length_case false n h = (omega arith, omega (arith, h refl))

frame_range : (s : List ℕ) → (3 ≤ frame_length s) × (frame_length s ≤ longest_frame)
unfolding frame_length overlong
frame_range s = length_case (overlong s) (body_length s) (λ e. ltb-false max_body (body_length s) e)

pub frame-some : (s : List ℕ) → 3 ≤ frame_length s
frame-some s = (frame_range s).0

pub frame_le : (s : List ℕ) → frame_length s ≤ longest_frame
frame_le s = (frame_range s).1

-- the three bytes before the body decide it
module _ (s t : List ℕ) (h : 3 ≤ length s) where
  body_same : body_length (s ++ t) ≡ body_length s
  unfolding body_length
  body_same = rw (get_or-append s t 0 1 (omega arith), get_or-append s t 0 2 (omega arith))

  over-same : overlong (s ++ t) ≡ overlong s
  unfolding overlong
  over-same = ap (λ (n : ℕ). ltb max_body n) body_same

  frame_same : frame_length (s ++ t) ≡ frame_length s
  unfolding frame_length
  frame_same = rw (over-same, body_same)

-- ---- the frames of an input

empty-none : (k : ℕ) (s : List ℕ) → length s ≡ 0 → frames_up_to k s ≡ []
unfolding frames_up_to
empty-none zero s e = refl
empty-none (suc k) s e = rw (eq-eqb (length s) 0 e)

-- fuel for every byte is enough
agree : (j k : ℕ) (s : List ℕ) → length s ≤ j → length s ≤ k → frames_up_to j s ≡ frames_up_to k s
unfolding frames_up_to
agree zero k s p q = sym (empty-none k s (omega arith))
agree (suc j) zero s p q = empty-none (suc j) s (omega arith)
agree (suc j) (suc k) s p q =
    by-eq (length s) 0 (λ e. rw (eq-eqb (length s) 0 e))
    (λ n. rw (ne_eqb (length s) 0 n, agree j k (drop (frame_length s) s) (simp length-drop (omega (arith, frame-some s))) (simp length-drop (omega (arith, frame-some s)))))

-- the first frame, and those behind it
step : (k : ℕ) (s : List ℕ) → 0 < length s → length s ≤ suc k → frames_up_to (suc k) s ≡ front_frame s ∷ cond (overlong s) [] (frames (drop (frame_length s) s))
unfolding frames_up_to frames
step k s h p =
    rw (ne_eqb (length s) 0 (λ e. omega arith), agree k (length (drop (frame_length s) s)) (drop (frame_length s) s) (simp length-drop (omega (arith, frame-some s))) (omega arith))

pub frames_step : (s : List ℕ) → 0 < length s → frames s ≡ front_frame s ∷ cond (overlong s) [] (frames (drop (frame_length s) s))
unfolding frames
frames_step s h = agree (length s) (suc (length s)) s (omega arith) (omega arith) ∙ step (length s) s h (omega arith)

pub frames-none : frames [] ≡ []
unfolding frames frames_up_to
frames-none = refl

-- ---- a frame that can be judged now

-- what is cut off the front does not depend on what comes behind
pub record Cuts (s t : List ℕ) (n : ℕ) : Type 0 where
  pub front : front_frame (s ++ t) ≡ take n s
  pub over : overlong (s ++ t) ≡ overlong s
  pub rest : drop (frame_length (s ++ t)) (s ++ t) ≡ drop n s ++ t

cuts_whole : (s t : List ℕ) → frame_length s ≤ length s → Cuts s t (frame_length s)
unfolding front_frame
cuts_whole s t h =
    let l : 3 ≤ length s = omega (arith, frame-some s) in
    record {
      front = rw (frame_same s t l) (take-append-le (frame_length s) s t h);
      over = over-same s t l;
      rest = rw (frame_same s t l) (drop-append-le (frame_length s) s t h);
    }

cuts_last : (s : List ℕ) → length s < frame_length s → Cuts s [] (length s)
unfolding front_frame
cuts_last s h =
    let a : drop (frame_length s) s ≡ [] = drop_of_length-le s {i = frame_length s} (omega arith) in
    let b : drop (length s) s ≡ [] = drop_of_length-le s {i = length s} (omega arith) in
    record {
      front = rw append-nil (take_all (frame_length s) s (omega arith) ∙ sym (take_all (length s) s (omega arith)));
      over = rw append-nil;
      rest = rw (append-nil s, a, b);
    }

-- what can be judged now; where none can: nothing is left, or the input has not ended and less than a frame is there
abbrev ReadyIs : Bool → List ℕ → Option ℕ → Type 0
ReadyIs ended s (Some n) = (0 < n) × (n ≤ length s) × ((t : List ℕ) → Comes ended t → Cuts s t n)
ReadyIs true s None = length s ≡ 0
ReadyIs false s None = length s < longest_frame

ready_is : (ended : Bool) (s : List ℕ) → ReadyIs ended s (ready_length ended s)
unfolding ready_length Comes
ready_is true s =
    by-lt (length s) (frame_length s)
    (λ h. by-lt 0 (length s) (λ p. rw (lt-leb _ _ h, lt-ltb _ _ p) (p, omega arith, λ t e. rw e (cuts_last s h))) (λ p. rw (lt-leb _ _ h, le-ltb _ _ p) (omega arith)))
    (λ h. rw (le-leb _ _ h) (omega (arith, frame-some s), h, λ t e. cuts_whole s t h))
ready_is false s =
    by-lt (length s) (frame_length s) (λ h. rw (lt-leb _ _ h) (omega (arith, frame_le s)))
    (λ h. rw (le-leb _ _ h) (omega (arith, frame-some s), h, λ t e. cuts_whole s t h))

pub ready_some : (ended : Bool) (s : List ℕ) (n : ℕ) → ready_length ended s ≡ Some n → (0 < n) × (n ≤ length s) × ((t : List ℕ) → Comes ended t → Cuts s t n)
ready_some ended s n e = rw e at (ready_is ended s)

pub ready_ended : (s : List ℕ) → ready_length true s ≡ None → length s ≡ 0
ready_ended s e = rw e at (ready_is true s)

pub ready_starved : (s : List ℕ) → ready_length false s ≡ None → length s < longest_frame
ready_starved s e = rw e at (ready_is false s)

-- so the frames are that one and those of the rest
pub ready_frames : (ended : Bool) (s t : List ℕ) (n : ℕ) → Comes ended t → ready_length ended s ≡ Some n → frames (s ++ t) ≡ take n s ∷ cond (overlong s) [] (frames (drop n s ++ t))
ready_frames ended s t n e q =
    let r = ready_some ended s n q in
    let c = r.2 t e in
    let h : 0 < length (s ++ t) = rw length-append (omega (arith, r.0, r.1)) in
    frames_step (s ++ t) h ∙ rw (c.front, c.over, c.rest)

-- ---- frames one after the other: the lines and the memory of two lists of frames

pub lines-append : (m : Memory) (fs gs : List (List ℕ)) → lines_of m (fs ++ gs) ≡ lines_of m fs ++ lines_of (memory_after m fs) gs
unfolding lines_of memory_after
lines-append m [] gs = refl
lines-append m (f ∷ fs) gs = rw (lines-append (answered m f).left fs gs, append_assoc)

pub memory-append : (m : Memory) (fs gs : List (List ℕ)) → memory_after m (fs ++ gs) ≡ memory_after (memory_after m fs) gs
unfolding memory_after
memory-append m [] gs = refl
memory-append m (f ∷ fs) gs = memory-append (answered m f).left fs gs

pub lines-one : (m : Memory) (f : List ℕ) → lines_of m (f ∷ []) ≡ (answered m f).line
unfolding lines_of
lines-one m f = append-nil (answered m f).line

pub memory-one : (m : Memory) (f : List ℕ) → memory_after m (f ∷ []) ≡ (answered m f).left
unfolding memory_after
memory-one m f = refl
