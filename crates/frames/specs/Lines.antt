-- Going over the lines of a report.
use Rattle.std.specs.Prelude.{ℕ, ◌≡◌, ◌≤◌, ◌<◌, ◌+◌, List, length, Option, MatchOption}
use Rattle.frames.specs.declared.report.Line.{Line}
use Rattle.frames.specs.declared.report.LinesLeft.{LinesLeft}
use Rattle.frames.specs.Frames.{count_bytes, past_field, folded_at, count_at}

-- the line of a frame at an offset, its folded term and its count
pub record LineIs (f : List ℕ) (at : ℕ) (l : Line) : Type 0 where
  pub starts : at < length f
  pub name : l.name.bytes.now ≡ folded_at f at
  pub count : l.count ≡ count_at f at
  pub some : 0 < length l.name.bytes.now

-- a call of `next`: the frame's end, or the line here, after which those past it are left
pub record Leaves (s : LinesLeft) (l : Line) (t : LinesLeft) : Type 0 where
  pub here : LineIs s.frame.now s.at l
  pub past : t.at ≡ past_field count_bytes s.frame.now s.at
  pub fewer : length s.hashes.now ≡ length t.hashes.now + 1
  pub frame : t.frame.now ≡ s.frame.now

abbrev pub LineGoes : LinesLeft → Option Line → LinesLeft → Type 0
LineGoes s r t = MatchOption r ((length s.frame.now ≤ s.at) × (t ≡ s)) (λ l. Leaves s l t)
