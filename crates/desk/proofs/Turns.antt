-- A turn of the program, and the program turn after turn: what was read and written so far, and what is still to come.
-- Assumes nothing.
use Prim.Native.Nat.{ℕ, ◌+◌, ◌-◌, ◌≤◌}
use mathlib.Core.Path.{◌≡◌, refl, sym, ◌∙◌}
use mathlib.Core.List.{List, [], ◌++◌, append-nil, append_assoc}
use mathlib.Core.Bool.{Bool, true, false}
use native.Mathlib.Omega.{arith}
use lib.ListN.{length, take, drop, replicate, length-take, length-drop}
use lib.Seq.{take_at, take-add}
use Rattle.std.proofs.Common.{Result}
use Rattle.std.specs.List.{copy_within}
use Rattle.basics.proofs.Parts.{drop-take}
use Rattle.counters.specs.declared.Counters.{Counters}
use Rattle.counters.specs.Counters.{Memory, memory}
use Rattle.desk.specs.declared.Next.TheVariants.{Settle, Read, Stop}
use Rattle.desk.specs.declared.Settled.{Settled}
use Rattle.desk.specs.Desk.{arena_bytes, table_entries, started, frames, lines_of, memory_after, lines, desk_output}
use Rattle.desk.specs.Needs.{Settles, Turns, Reads, Reached, Comes, frames_after}
use Rattle.desk.proofs.Cutting.{lines-append, memory-append}

-- ---- what is left is moved to the front

module _ (input : List ℕ) (held taken : ℕ) (h : held ≤ length input) (t : taken ≤ held) where
  pub kept_front : take (held - taken) (copy_within input taken held 0) ≡ drop taken (take held input)
  kept_front =
      let part = take (held - taken) (drop taken input) in
      let e : length part ≡ held - taken = simp (length-take, length-drop) (omega arith) in
      take_at part _ (held - taken) e ∙ sym (drop-take taken held input)

pub turned : {m : Memory} (input : List ℕ) (held : ℕ) {ended : Bool} {out : List ℕ} {r : Settled} {left : Memory} {after input' : List ℕ}
    → held ≤ length input → Settles m (take held input) ended out r left after → input' ≡ copy_within input r.taken held 0
    → Turns m (take held input) ended out r left input' after
turned input held {r = r} h v e =
    let l : length (take held input) ≡ held = simp length-take (omega arith) in
    record { settles = v; moved = rw (l, e) (kept_front input held r.taken h (omega (arith, v.taken, l))) }

-- ---- turn after turn

-- before the first turn
pub reached-start : (arena table : List ℕ) (k : Counters) → arena ≡ replicate arena_bytes 0 → table ≡ replicate table_entries 0 → (k.used ≡ 0) × ((k.terms ≡ 0) × (k.reports ≡ 0)) → (input : List ℕ)
    → Reached (memory arena table k) (take 0 input) false
unfolding started memory_after
reached-start arena table k p q z input =
    let zeros : memory arena table (record { used = k.used; terms = k.terms; reports = k.reports }) ≡ started = rw (p, q, z.0, z.1.0, z.1.1) in
    record { read = []; done = []; cut = λ t e. refl; leaves = zeros }

module _ {m : Memory} {held : List ℕ} {ended : Bool} (v : Reached m held ended) where
  module _ {out : List ℕ} {r : Settled} {left : Memory} {input after : List ℕ} (w : Turns m held ended out r left input after) where
    abbrev both : List (List ℕ)
    both = v.done ++ w.settles.done

    turn_cut : (t : List ℕ) → Comes ended t → frames (v.read ++ t) ≡ both ++ frames_after r.next (drop r.taken held ++ t)
    turn_cut t e = v.cut t e ∙ rw (w.settles.cut t e, append_assoc)

    turn_leaves : left ≡ memory_after started both
    turn_leaves = w.settles.leaves ∙ rw (v.leaves, memory-append)

    -- the frames of a turn are answered, and n bytes are left
    module _ (n : ℕ) (q : n ≡ length held - r.taken) where
      pub reached-settle : r.next ≡ Settle → Reached left (take n input) ended
      unfolding frames_after
      reached-settle s = rw (q, w.moved) (record { read = v.read; done = both; cut = λ t e. turn_cut t e ∙ rw s; leaves = turn_leaves })

      pub reached-starved : r.next ≡ Read → Reached left (take n input) ended
      unfolding frames_after
      reached-starved s = rw (q, w.moved) (record { read = v.read; done = both; cut = λ t e. turn_cut t e ∙ rw s; leaves = turn_leaves })

    -- the program ends: the lines of all turns are the whole output, whatever comes that was not read
    pub reached_stop : r.next ≡ Stop → (t : List ℕ) → Comes ended t → desk_output (v.read ++ t) ≡ lines_of started v.done ++ lines_of m w.settles.done
    unfolding desk_output lines frames_after
    reached_stop s t e = rw (turn_cut t e, s, append-nil, lines-append, ← v.leaves)

module _ {E : Type 0} {input after : List ℕ} {held : ℕ} {r : Result ℕ E} (w : Reads input held r after) where
  -- more bytes have been read behind those that are held
  pub reached-read : {m : Memory} (n : ℕ) {ended : Bool} → ended ≡ false → Reached m (take held input) ended → Reached m (take (held + n) after) ended
  unfolding Comes
  reached-read n e v =
      let more = take n (drop held after) in
      rw (e, take-add, w.kept) (record {
        read = v.read ++ more;
        done = v.done;
        cut = λ t c. rw (append_assoc v.read more t, append_assoc (take held input) more t) (v.cut (more ++ t) (rw e tt));
        leaves = v.leaves;
      })

  -- the input has ended
  pub reached_end : {m : Memory} {ended : Bool} → ended ≡ false → Reached m (take held input) ended → Reached m (take held after) true
  unfolding Comes
  reached_end e v = rw w.kept (record { read = v.read; done = v.done; cut = λ t c. v.cut t (rw e tt); leaves = v.leaves })
