-- Laws of the fields of a frame: where they start, and that whole ones stand there.
-- Assumes nothing.
use mathlib.Core.Path.{◌≡◌, refl, sym, ap, ◌∙◌}
use mathlib.Core.Bool.{Bool, true, false}
use mathlib.Core.List.{List, [], ◌∷◌}
use Prim.Native.Nat.{ℕ, zero, suc, ◌+◌, ◌≤◌, ◌<◌}
use native.Mathlib.Omega.{arith}
use lib.ListN.{length, get_or, drop, length-drop}
use lib.Seq.{length-take-le}
use borrow.Author.Tests.{lt-ltb, le-ltb}
use Rattle.basics.specs.Lists.{any}
use Rattle.basics.proofs.Cases.{by-lt}
use Rattle.frames.specs.Frames.{count_bytes, term_at, past_field, Field, fields_up_to, fields, passes_end}

-- a line has at least five bytes
pub past_five : (f : List ℕ) (at : ℕ) → at + 5 ≤ past_field count_bytes f at
unfolding past_field
past_five f at = omega arith

module _ (tail : ℕ) (f : List ℕ) where
  -- a field has at least its length byte
  pub past_more : (at : ℕ) → at < past_field tail f at
  unfolding past_field
  past_more at = omega arith

  -- any bound that is enough gives the same fields
  agree : (k j at : ℕ) → length f ≤ at + k → length f ≤ at + j → fields_up_to k tail f at ≡ fields_up_to j tail f at
  unfolding fields_up_to
  agree zero zero at h h' = refl
  agree zero (suc j) at h h' = rw (le-ltb at (length f) (omega arith))
  agree (suc k) zero at h h' = rw (le-ltb at (length f) (omega arith))
  agree (suc k) (suc j) at h h' =
      by-lt at (length f)
      (λ l. rw (lt-ltb at (length f) l)
      (ap (λ (s : List ℕ). at ∷ s) (agree k j (past_field tail f at) (omega (arith, past_more at)) (omega (arith, past_more at)))))
      (λ l. rw (le-ltb at (length f) l))

  pub fields_end : (at : ℕ) → length f ≤ at → fields tail f at ≡ []
  unfolding fields
  fields_end at h = agree (length f) 0 at (omega arith) (omega arith) ∙ none_left
    where
      none_left : fields_up_to 0 tail f at ≡ []
      none_left = unfold fields_up_to in refl

  pub fields_more : (at : ℕ) → at < length f → fields tail f at ≡ at ∷ fields tail f (past_field tail f at)
  unfolding fields fields_up_to
  fields_more at h = agree (length f) (suc (length f)) at (omega arith) (omega arith) ∙ rw (lt-ltb at (length f) h)

  -- ---- fields that pass the end

  pub passes_end_lem : (at : ℕ) → length f ≤ at → passes_end tail f at ≡ false
  unfolding passes_end any
  passes_end_lem at h = rw (fields_end at h)

  pub passes_here : (at : ℕ) → at < length f → length f < past_field tail f at → passes_end tail f at ≡ true
  unfolding passes_end any
  passes_here at h p = rw (fields_more at h, lt-ltb (length f) (past_field tail f at) p)

  pub passes_on : (at : ℕ) → at < length f → past_field tail f at ≤ length f → passes_end tail f at ≡ passes_end tail f (past_field tail f at)
  unfolding passes_end any
  passes_on at h p = rw (fields_more at h, le-ltb (length f) (past_field tail f at) p)

  -- where no field passes the end, a whole one stands at each start, and none passes the end from the next on
  pub field_here : (at : ℕ) → passes_end tail f at ≡ false → at < length f → Field tail f at
  field_here at e h =
      by-lt (length f) (past_field tail f at)
      (λ p. let z : ◌≡◌ {A = Bool} true false = sym (passes_here at h p) ∙ e in let n : ◌≡◌ {A = ℕ} 0 1 = cc in absurd (omega arith))
      (λ p. record { starts = h; ends = p })

  pub whole-on : (at : ℕ) → passes_end tail f at ≡ false → at < length f → passes_end tail f (past_field tail f at) ≡ false
  whole-on at e h = sym (passes_on at h (field_here at e h).ends) ∙ e

  -- the term of a whole field lies within the frame
  pub field_term : (at : ℕ) → Field tail f at → Field 0 f at
  unfolding past_field
  field_term at h = record { starts = h.starts; ends = omega arith }

-- and has as many bytes as the length byte says
pub length_term : (f : List ℕ) (at : ℕ) → Field 0 f at → length (term_at f at) ≡ get_or f at 0
unfolding term_at past_field
length_term f at h = length-take-le (get_or f at 0) (drop (at + 1) f) (rw length-drop (omega (arith, h.ends)))
