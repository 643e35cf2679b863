-- How the functions of this program say what they write and how far they came.
use Rattle.std.specs.Prelude.{ℕ, ◌+◌, ◌-◌, ◌≤◌, ◌<◌, ◌≡◌, List, [], ◌++◌, Bool, true, false, cond, leb, ltb, ◌&&◌, Option, Some, None, Result, IfOk, length, take, drop}
use Rattle.std.proofs.lemmas.List.Edits.{sets}
use Rattle.counters.specs.Counters.{Memory}
use Rattle.desk.specs.declared.Answer.{Answer}
use Rattle.desk.specs.declared.Next.{Next}
use Rattle.desk.specs.declared.Next.TheVariants.{Settle, Read, Stop}
use Rattle.desk.specs.declared.Settled.{Settled}
use Rattle.desk.specs.Text.{pairs_text, places_text}
use Rattle.desk.specs.Desk.{started, Answered, frame_length, frames, lines_of, memory_after}

-- a text stands in the buffer from `at` on, all other bytes are as they were, and `end` is the place behind it, at most
-- `most` bytes on
pub record Puts (most : ℕ) (out : List ℕ) (at : ℕ) (text : List ℕ) (end : ℕ) (after : List ℕ) : Type 0 where
  pub ends : end ≡ at + length text
  pub stored : after ≡ sets out at text
  pub near : end ≤ at + most

-- the longest line: `Q`, sixteen times ` 4294967295:4294967295`, ` +`, the line's end
abbrev pub longest_line : ℕ
longest_line = 356

-- the text of the places of a listing that were filled, with their counts where there are any
abbrev pub filled_text : ℕ → List ℕ → Option (List ℕ) → List ℕ
filled_text n numbers (Some counts) = pairs_text (take n numbers) (take n counts)
filled_text n numbers None = places_text (take n numbers)

-- a frame has been answered: its line stands in the output, and the memory is as its call leaves it
pub record Answers (a : Answered) (out : List ℕ) (at : ℕ) (r : Answer) (left : Memory) (after : List ℕ) : Type 0 where
  pub puts : Puts longest_line out at a.line r.end after
  pub leaves : left ≡ a.left

-- the longest frame: the three bytes before the body, and 4,096
abbrev pub longest_frame : ℕ
longest_frame = 4099

-- how many bytes at the front can be judged now: the whole frame; where the input has ended, whatever is left; else
-- none
unfoldable pub ready_length : Bool → List ℕ → Option ℕ
ready_length ended s = cond (leb (frame_length s) (length s)) (Some (frame_length s)) (cond (ended && ltb 0 (length s)) (Some (length s)) None)

-- where none can be judged, more is read, unless the input has ended
abbrev pub waiting_for : Bool → Next
waiting_for true = Stop
waiting_for false = Read

-- what can still come behind the bytes at hand: nothing, where the input has ended
unfoldable pub Comes : Bool → List ℕ → Type 0
Comes true t = t ≡ []
Comes false t = Unit {0}

-- the frames that are still to be answered; a program that has stopped answers none
unfoldable pub frames_after : Next → List ℕ → List (List ℕ)
frames_after Settle s = frames s
frames_after Read s = frames s
frames_after Stop s = []

-- some frames at the front of the bytes at hand have been answered: whatever comes behind those bytes, the frames of it
-- all are these and then those of what is left. Their lines stand at the front of the output, all else in it is as it
-- was, and the memory is as they leave it
pub record Settles (m : Memory) (s : List ℕ) (ended : Bool) (out : List ℕ) (r : Settled) (left : Memory) (after : List ℕ) : Type 0 where
  pub done : List (List ℕ)
  pub cut : (t : List ℕ) → Comes ended t → frames (s ++ t) ≡ done ++ frames_after r.next (drop r.taken s ++ t)
  pub stored : after ≡ sets out 0 (lines_of m done)
  pub written : r.written ≡ length (lines_of m done)
  pub inside : r.written ≤ length out
  pub leaves : left ≡ memory_after m done
  pub taken : r.taken ≤ length s
  -- more is read only where the input has not ended and less than one frame is left
  pub starved : r.next ≡ Read → (ended ≡ false) × (length s - r.taken < longest_frame)
  -- and the bytes at hand are left for another turn only where the output has no room for another line
  pub full : r.next ≡ Settle → length out < r.written + longest_line

-- the same, with what is left at the front of the input's buffer
pub record Turns (m : Memory) (held : List ℕ) (ended : Bool) (out : List ℕ) (r : Settled) (left : Memory) (input : List ℕ) (after : List ℕ) : Type 0 where
  pub settles : Settles m held ended out r left after
  pub moved : take (length held - r.taken) input ≡ drop r.taken held

-- what a read leaves of the buffer: the bytes held are as they were, and those that came fit behind them
pub record Reads {E : Type 0} (input : List ℕ) (held : ℕ) (r : Result ℕ E) (after : List ℕ) : Type 0 where
  pub kept : take held after ≡ take held input
  pub room : IfOk r (λ n. held + n ≤ length after)

-- the program between two turns: it has read `read` and answered the frames `done`, and so its memory is as they leave
-- it; whatever comes, the frames of it all are these and then those of what is held and what comes
pub record Reached (m : Memory) (held : List ℕ) (ended : Bool) : Type 0 where
  pub read : List ℕ
  pub done : List (List ℕ)
  pub cut : (t : List ℕ) → Comes ended t → frames (read ++ t) ≡ done ++ frames (held ++ t)
  pub leaves : m ≡ memory_after started done
