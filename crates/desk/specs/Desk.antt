-- The desk program: what it writes for a whole input.
use Rattle.std.specs.Prelude.{ℕ, zero, suc, ◌+◌, ◌*◌, List, [], ◌∷◌, ◌++◌, Bool, true, cond, Option, Some, None, ltb, eqb, length, take, drop, replicate}
use Rattle.frames.specs.Refusals.{◌if◌, first_of}
use Rattle.frames.specs.Frames.{body_length, kind, max_body, wrong_version, wrong_length}
use Rattle.blocks.specs.Fields.{unit}
use Rattle.counters.specs.Counters.{Memory, memory}
use Rattle.ingest.specs.Report.{report_call}
use Rattle.query.specs.Listing.{list_one_call, list_all_call}
use Rattle.frames.specs.declared.Kind.{Kind}
use Rattle.frames.specs.declared.Kind.TheVariants.{Report, One, All}
use Rattle.desk.specs.Text.{refusal_line, report_line, one_line, all_line}

-- ---- its memory: 1,000 blocks, T = 512, result lists of 16

abbrev pub arena_bytes : ℕ
arena_bytes = 1000 * unit

abbrev pub table_entries : ℕ
table_entries = 512

-- an index as a start leaves it, in an arena of null bytes
unfoldable pub started : Memory
started = memory (replicate arena_bytes 0) (replicate table_entries 0) (record { used = 0; terms = 0; reports = 0 })

abbrev pub empty_list : List ℕ
empty_list = replicate 16 0

-- ---- one frame: the call of its kind answers it

-- the kind chooses the call, if any
unfoldable pub kind_of : List ℕ → Option Kind
kind_of f = cond (eqb (kind f) 1) (Some Report) (cond (eqb (kind f) 2) (Some One) (cond (eqb (kind f) 3) (Some All) None))

-- a kind other than 01 to 03: 3, unless 1 or 2 applies
unfoldable pub other_refusal : List ℕ → ℕ
other_refusal f = first_of ((1 if wrong_version f) ∷ (2 if wrong_length f) ∷ (3 if true) ∷ [])

-- the line for a frame, and what its call leaves
pub record Answered : Type 0 where
  pub line : List ℕ
  pub left : Memory

-- only a report changes the memory
unfoldable pub answered_as : Option Kind → Memory → List ℕ → Answered
answered_as (Some Report) m f = record { line = report_line (report_call m f).answer; left = (report_call m f).left }
answered_as (Some One) m f = record { line = one_line (list_one_call m f empty_list empty_list); left = m }
answered_as (Some All) m f = record { line = all_line (list_all_call m f empty_list); left = m }
answered_as None m f = record { line = refusal_line (other_refusal f); left = m }

unfoldable pub answered : Memory → List ℕ → Answered
answered m f = answered_as (kind_of f) m f

-- ---- cutting the input into frames

-- a length over 4,096: the program stops after this frame
unfoldable pub overlong : List ℕ → Bool
overlong s = ltb max_body (body_length s)

-- the bytes of the frame at the front: the three before the body, and the body. Of a frame with a length over 4,096 the
-- first four bytes are judged, which is what refusals 1 and 2 look at
unfoldable pub frame_length : List ℕ → ℕ
frame_length s = cond (overlong s) 4 (3 + body_length s)

-- the frame at the front of the input. Where the input ends before it does, that is all that is left: a cut frame,
-- judged as the bytes at hand
unfoldable pub front_frame : List ℕ → List ℕ
front_frame s = take (frame_length s) s

-- the frames of an input, until it ends or a frame stops the program; an end between frames is no frame
unfoldable pub frames_up_to : ℕ → List ℕ → List (List ℕ)
frames_up_to zero s = []
frames_up_to (suc fuel) s =
    let on = frames_up_to fuel (drop (frame_length s) s) in
    cond (eqb (length s) 0) [] (front_frame s ∷ cond (overlong s) [] on)

-- every frame takes at least one byte of the input
unfoldable pub frames : List ℕ → List (List ℕ)
frames s = frames_up_to (length s) s

-- ---- the whole input: a line for each frame, each answered on the memory that the one before it left

unfoldable pub lines_of : Memory → List (List ℕ) → List ℕ
lines_of m [] = []
lines_of m (f ∷ fs) = (answered m f).line ++ lines_of (answered m f).left fs

unfoldable pub memory_after : Memory → List (List ℕ) → Memory
memory_after m [] = m
memory_after m (f ∷ fs) = memory_after (answered m f).left fs

unfoldable pub lines : Memory → List ℕ → List ℕ
lines m s = lines_of m (frames s)

-- what the program writes
unfoldable pub desk_output : List ℕ → List ℕ
desk_output input = lines started input
