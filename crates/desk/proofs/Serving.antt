-- Answering the frames at the front of the bytes at hand, one after the other: what holds between two of them, and at each end.
-- Assumes nothing.
use Prim.Native.Nat.{ℕ, ◌+◌, ◌-◌, ◌≤◌, ◌<◌}
use mathlib.Core.Path.{◌≡◌, refl, ap, sym, ◌∙◌}
use mathlib.Core.List.{List, [], ◌∷◌, ◌++◌, append_assoc}
use mathlib.Core.Bool.{Bool, true, false, cond}
use native.Mathlib.Omega.{arith}
use Rattle.std.proofs.Common.{Some, None}
use lib.ListN.{length, take, drop, length-append, length-drop}
use lib.Seq.{sets, length-sets, take_all, drop-drop}
use Rattle.basics.proofs.Stores.{sets_two}
use Rattle.counters.specs.declared.Counters.{Counters}
use Rattle.counters.specs.Counters.{Memory}
use Rattle.desk.specs.declared.Answer.{Answer}
use Rattle.desk.specs.declared.Next.{Next}
use Rattle.desk.specs.declared.Next.TheVariants.{Settle, Stop}
use Rattle.desk.specs.Desk.{answered, overlong, frames, lines_of, memory_after}
use Rattle.desk.specs.Needs.{Answers, Settles, longest_line, ready_length, waiting_for, Comes, frames_after}
use Rattle.desk.proofs.Cutting.{frames-none, ready_some, ready_ended, ready_starved, ready_frames, lines-append, lines-one, memory-append, memory-one}

-- the part of a list from n on
pub tail-is : (n : ℕ) (s : List ℕ) → take (length s - n) (drop n s) ≡ drop n s
tail-is n s = take_all (length s - n) (drop n s) (simp length-drop (omega arith))

-- what can be judged lies within the bytes at hand
pub ready_inside : (ended : Bool) (s rest : List ℕ) (taken n : ℕ) → taken ≤ length s → rest ≡ drop taken s → ready_length ended rest ≡ Some n → (0 < n) × (taken + n ≤ length s)
ready_inside ended s rest taken n h p q =
    let r = ready_some ended rest n q in
    (r.0, omega (arith, r.1, ap length p, length-drop taken s))

empty : (s : List ℕ) → length s ≡ 0 → s ≡ []
empty [] e = refl
empty (x ∷ s) e = absurd (omega arith)

module _ (m₀ : Memory) (s : List ℕ) (ended : Bool) (out₀ : List ℕ) where
  -- the lines of the frames answered so far stand at the front of the output, and the memory is as they leave it
  pub record Serving (m : Memory) (taken written : ℕ) (out : List ℕ) : Type 0 where
    pub done : List (List ℕ)
    pub cut : (t : List ℕ) → Comes ended t → frames (s ++ t) ≡ done ++ frames (drop taken s ++ t)
    pub stored : out ≡ sets out₀ 0 (lines_of m₀ done)
    pub count : written ≡ length (lines_of m₀ done)
    pub inside : written ≤ length out₀
    pub leaves : m ≡ memory_after m₀ done
    pub few : taken ≤ length s

  pub serving_start : Serving m₀ 0 0 out₀
  unfolding lines_of memory_after
  serving_start = record { done = []; cut = λ t e. refl; stored = refl; count = refl; inside = omega arith; leaves = refl; few = omega arith }

  module _ {m : Memory} {taken written : ℕ} {out : List ℕ} (v : Serving m taken written out) where
    pub serving_length : length out ≡ length out₀
    serving_length = ap length v.stored ∙ length-sets out₀ 0 (lines_of m₀ v.done)

    -- the output is full
    pub serving_full : length out < written + longest_line → (k : Counters) → Settles m₀ s ended out₀ (record { next = Settle; counters = k; taken = taken; written = written }) m out
    unfolding frames_after
    serving_full h k = record {
      done = v.done;
      cut = v.cut;
      stored = v.stored;
      written = v.count;
      inside = v.inside;
      leaves = v.leaves;
      taken = v.few;
      starved = λ e. let z : ◌≡◌ {A = ℕ} 0 1 = cc in absurd (omega arith);
      full = λ e. omega (arith, h, serving_length);
    }

    -- a frame has been answered
    module _ (rest : List ℕ) (p : rest ≡ drop taken s) (n : ℕ) (q : ready_length ended rest ≡ Some n) (room : written + longest_line ≤ length out) (r : Answer) (m' : Memory) (out' : List ℕ) (a : Answers (answered m (take n rest)) out written r m' out') where
      abbrev frame : List ℕ
      frame = take n rest

      abbrev more : List (List ℕ)
      more = v.done ++ (frame ∷ [])

      more_lines : lines_of m₀ more ≡ lines_of m₀ v.done ++ (answered m frame).line
      more_lines = lines-append m₀ v.done (frame ∷ []) ∙ rw (← v.leaves, lines-one m frame)

      more_leaves : m' ≡ memory_after m₀ more
      more_leaves = a.leaves ∙ sym (memory-append m₀ v.done (frame ∷ []) ∙ rw (← v.leaves) (memory-one m frame))

      more_text : out' ≡ sets out₀ 0 (lines_of m₀ more)
      more_text = rw more_lines (sets_two out₀ 0 (lines_of m₀ v.done) (answered m frame).line v.stored (omega (arith, v.count)) a.puts.stored)

      more_count : r.end ≡ length (lines_of m₀ more)
      more_count = rw more_lines (simp length-append (omega (arith, a.puts.ends, v.count)))

      more_few : taken + n ≤ length s
      more_few = (ready_inside ended s rest taken n v.few p q).1

      more_inside : r.end ≤ length out₀
      more_inside = omega (arith, a.puts.near, serving_length)

      more_cut : (t : List ℕ) → Comes ended t → frames (s ++ t) ≡ more ++ cond (overlong rest) [] (frames (drop (taken + n) s ++ t))
      more_cut t e =
          let l = ready_frames ended rest t n e q in
          let d : drop n rest ≡ drop (taken + n) s = ap (λ (l : List ℕ). drop n l) p ∙ drop-drop n taken s in
          let c : frames (drop taken s ++ t) ≡ frame ∷ cond (overlong rest) [] (frames (drop (taken + n) s ++ t)) = ap (λ (l : List ℕ). frames (l ++ t)) (sym p) ∙ (rw d at l) in
          v.cut t e ∙ rw (c, append_assoc)

      pub serving_more : overlong rest ≡ false → Serving m' (taken + n) r.end out'
      serving_more o = record {
        done = more;
        cut = λ t e. more_cut t e ∙ rw o;
        stored = more_text;
        count = more_count;
        inside = more_inside;
        leaves = more_leaves;
        few = more_few;
      }

      -- a frame that stops the program
      pub serving_stops : overlong rest ≡ true → (k : Counters) → Settles m₀ s ended out₀ (record { next = Stop; counters = k; taken = taken + n; written = r.end }) m' out'
      unfolding frames_after
      serving_stops o k = record {
        done = more;
        cut = λ t e. more_cut t e ∙ rw o;
        stored = more_text;
        written = more_count;
        inside = more_inside;
        leaves = more_leaves;
        taken = more_few;
        starved = λ e. let z : ◌≡◌ {A = ℕ} 0 1 = cc in absurd (omega arith);
        full = λ e. let z : ◌≡◌ {A = ℕ} 0 1 = cc in absurd (omega arith);
      }

-- no frame can be judged now: the program reads more, or it ends
waits : (ended : Bool) (m₀ : Memory) (s out₀ : List ℕ) {m : Memory} {taken written : ℕ} {out : List ℕ} (v : Serving m₀ s ended out₀ m taken written out) → ready_length ended (drop taken s) ≡ None → (k : Counters) → Settles m₀ s ended out₀ (record { next = waiting_for ended; counters = k; taken = taken; written = written }) m out
unfolding frames_after Comes
waits true m₀ s out₀ {taken = taken} v z k = record {
  done = v.done;
  cut = λ t e. v.cut t e ∙ rw (empty (drop taken s) (ready_ended (drop taken s) z), e, frames-none);
  stored = v.stored;
  written = v.count;
  inside = v.inside;
  leaves = v.leaves;
  taken = v.few;
  starved = λ e. let y : ◌≡◌ {A = ℕ} 0 1 = cc in absurd (omega arith);
  full = λ e. let y : ◌≡◌ {A = ℕ} 0 1 = cc in absurd (omega arith);
}
waits false m₀ s out₀ {taken = taken} v z k = record {
  done = v.done;
  cut = v.cut;
  stored = v.stored;
  written = v.count;
  inside = v.inside;
  leaves = v.leaves;
  taken = v.few;
  starved = λ e. (refl, omega (arith, ready_starved (drop taken s) z, length-drop taken s));
  full = λ e. let y : ◌≡◌ {A = ℕ} 0 1 = cc in absurd (omega arith);
}

pub serving_waits : (m₀ : Memory) (s : List ℕ) (ended : Bool) (out₀ : List ℕ) {m : Memory} {taken written : ℕ} {out : List ℕ} (v : Serving m₀ s ended out₀ m taken written out) (rest : List ℕ) → rest ≡ drop taken s → ready_length ended rest ≡ None → (k : Counters) (next : Next) → next ≡ waiting_for ended → Settles m₀ s ended out₀ (record { next = next; counters = k; taken = taken; written = written }) m out
serving_waits m₀ s ended out₀ v rest p z k next e = rw e (waits ended m₀ s out₀ v (rw p at z) k)
