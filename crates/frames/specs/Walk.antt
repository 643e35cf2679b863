-- Going over the fields of a frame one after another.
use Rattle.std.specs.Prelude.{ℕ, ◌≡◌, ◌≤◌, ◌<◌, List, length, Option, MatchOption}
use denote.Ref.{Bor}
use Rattle.frames.specs.declared.Cursor.{Cursor}
use Rattle.frames.specs.declared.Cursors.{Cursors}
use Rattle.frames.specs.Frames.{past_field}

-- over the same frame, whose fields have as many bytes behind their terms
pub record SameFrame (s t : Cursors) : Type 0 where
  pub frame : t.frame.now ≡ s.frame.now
  pub tail : t.tail ≡ s.tail

-- a field starts here, and the next is the one past it
pub record GoesOn (s : Cursors) (c : Cursor) (t : Cursors) : Type 0 where
  pub here : c.at ≡ s.at
  pub starts : s.at < length s.frame.now
  pub past : t.at ≡ past_field s.tail s.frame.now s.at
  pub same : SameFrame s t

-- a call of `next`: the frame's end, where all stays, or a field
abbrev pub Goes : Cursors → Option Cursor → Cursors → Type 0
Goes s r t = MatchOption r ((length s.frame.now ≤ s.at) × (t.at ≡ s.at) × SameFrame s t) (λ c. GoesOn s c t)

-- the fields of a frame from an offset on, each with some bytes behind its term
abbrev pub from_first : ℕ → ℕ → Bor (List ℕ) → Cursors
from_first at tail f = record { frame = f; at = at; tail = tail }
