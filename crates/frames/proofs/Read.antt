-- Laws of a report's frame read once: the folded terms of its lines, and their hashes.
-- Assumes nothing.
use mathlib.Core.Path.{◌≡◌, refl, sym, ap, ap₂, ◌∙◌}
use mathlib.Core.Bool.{Bool, true, false, not, ◌||◌, or-false, or_assoc}
use mathlib.Core.List.{List, [], ◌∷◌, ◌++◌, map, append_assoc, append-nil}
use Prim.Native.Nat.{ℕ, ◌+◌, ◌-◌, ◌*◌, ◌≤◌, ◌<◌}
use native.Mathlib.Numerals.{add-one}
use native.Mathlib.Omega.{arith}
use lib.Dec.{eqb}
use lib.ListN.{length, get_or, set, take, drop, length-set, length-drop, length-map, take-append-drop}
use lib.Seq.{sets, length-sets, take-take, take-suc-set, length-take-le}
use Rattle.std.proofs.lemmas.List.{take_at}
use borrow.Rule.Slice.PartMut.{put_mid}
use Rattle.basics.proofs.Parts.{drop-take, take-before, stored_at, sets-whole}
use Rattle.basics.proofs.Stores.{put_mid_sets}
use Rattle.basics.specs.Lists.{any}
use Rattle.basics.proofs.Cases.{by-lt}
use Rattle.terms.specs.Terms.{folded, fnv1a, is_term}
use Rattle.terms.proofs.Laws.{length-folded}
use Rattle.frames.specs.Frames.{max_body, count_bytes, first_line, term_at, count_at, past_field, Field, fields, lines, passes_end, bad_term, zero_count, folded_at}
use Rattle.frames.specs.Read.{name_at, Folds, LineAt, max_lines, hashes_of, Hashed, Read}
use Rattle.frames.proofs.Fields.{field_term, length_term, past_five, fields_end, fields_more, passes_end_lem, passes_here, passes_on}

-- ---- the folded terms

-- a term is folded into the part that stands in its place
module _ (f names : List ℕ) (at : ℕ) (h : Field 0 f at) (room : length f ≤ length names) where
  abbrev part : List ℕ
  part = take (get_or f at 0) (drop (at + 1) names)

  pub same_room : length (term_at f at) ≡ length part
  unfolding past_field
  same_room = length_term f at h ∙ sym (length-take-le (get_or f at 0) (drop (at + 1) names) (rw length-drop (omega (arith, h.ends))))

  pub put_name : put_mid (at + 1) (get_or f at 0) names (sets part 0 (folded (term_at f at))) ≡ sets names (at + 1) (folded_at f at)
  unfolding past_field
  put_name =
      let l = length-folded (term_at f at) in
      ap (put_mid (at + 1) (get_or f at 0) names) (sets-whole part (folded (term_at f at)) (sym same_room ∙ sym l))
      ∙ put_mid_sets (at + 1) (get_or f at 0) names (folded_at f at) (l ∙ length_term f at h) (omega (arith, h.ends))

-- a whole line's folded term is that of the field here
pub line_named : {f names : List ℕ} {at : ℕ} → LineAt f names at → Field 0 f at × (name_at f names at ≡ folded_at f at)
line_named {f} {names} {at} w = (field_term count_bytes f at w.whole, w.folds)

module _ (f names : List ℕ) (at : ℕ) where
  -- at the frame's end no line is left
  pub folds_end : length f ≤ at → Folds f names at
  folds_end h = rw (fields_end count_bytes f at h)

  module _ (h : at < length f) where
    abbrev past : ℕ
    past = past_field count_bytes f at

    folds_more : name_at f names at ≡ folded_at f at → Folds f names past → Folds f names at
    folds_more e r = rw (fields_more count_bytes f at h) (ap₂ (λ (x : List ℕ) (xs : List (List ℕ)). x ∷ xs) e r)

    -- a line and those behind it
    module _ (r : Folds f names at) where
      here_on : name_at f names at ∷ map (name_at f names) (fields count_bytes f past) ≡ folded_at f at ∷ map (folded_at f) (fields count_bytes f past)
      here_on = rw (fields_more count_bytes f at h) at r

      pub folds_here : name_at f names at ≡ folded_at f at
      folds_here = cc here_on

      pub folds_on : Folds f names past
      folds_on = cc here_on

-- the terms of all lines before an offset are folded: where the bytes before it stay as they are and the lines from there on are
-- folded too, all lines are
abbrev pub FoldsTo : List ℕ → List ℕ → ℕ → Type 0
FoldsTo f names at = (later : List ℕ) → take at later ≡ take at names → Folds f later at → Folds f later first_line

-- one line more
folds_to_more : (f names : List ℕ) (at : ℕ) → at < length f → past_field count_bytes f at ≤ length f → length f ≤ length names
    → FoldsTo f names at → FoldsTo f (sets names (at + 1) (folded_at f at)) (past_field count_bytes f at)
unfolding past_field name_at
folds_to_more f names at h p room t = λ later e rest.
    let w = folded_at f at in
    let n = get_or f at 0 in
    let past = past_field count_bytes f at in
    let stored = sets names (at + 1) w in
    let l : length w ≡ n = length-folded (term_at f at) ∙ length_term f at (record { starts = h; ends = omega (arith, p) }) in
    -- what is behind the line's length byte
    let cut : (s : List ℕ) → take n (drop (at + 1) s) ≡ take n (drop (at + 1) (take past s)) =
    λ s. sym (ap (take n) (drop-take (at + 1) past s) ∙ take-take n (past - (at + 1)) (drop (at + 1) s) (omega arith)) in
    let front : (s : List ℕ) → take at (take past s) ≡ take at s = λ s. take-take at past s (omega arith) in
    t later
    (sym (front later) ∙ ap (take at) e ∙ front stored ∙ take-before at names (at + 1) w (omega arith))
    (folds_more f later at h (cut later ∙ ap (λ (s : List ℕ). take n (drop (at + 1) s)) e ∙ sym (cut stored) ∙ stored_at names (at + 1) w n l (omega (arith, p))) rest)

-- ---- the hashes

module _ (f : List ℕ) (at : ℕ) where
  pub hashes_end : length f ≤ at → hashes_of f (fields count_bytes f at) ≡ []
  unfolding hashes_of
  hashes_end h = rw (fields_end count_bytes f at h)

  pub hashes_more : at < length f → hashes_of f (fields count_bytes f at) ≡ fnv1a (folded_at f at) ∷ hashes_of f (fields count_bytes f (past_field count_bytes f at))
  unfolding hashes_of
  hashes_more h = rw (fields_more count_bytes f at h)

-- where there are no others than those of the lines from here on
module _ (f : List ℕ) (at : ℕ) {hashes : List ℕ} (e : hashes ≡ hashes_of f (fields count_bytes f at)) where
  pub hashes-some : 0 < length hashes → at < length f
  hashes-some h = by-lt at (length f) (λ l. l) (λ l. let n : length hashes ≡ 0 = ap length (e ∙ hashes_end f at l) in absurd (omega arith))

  pub hashes-none : length hashes ≡ 0 → length f ≤ at
  hashes-none h = by-lt at (length f) (λ l. let n = ap length (e ∙ hashes_more f at l) in absurd (omega (arith, n))) (λ l. l)

  module _ (x : ℕ) (rest : List ℕ) (q : hashes ≡ x ∷ rest) (h : at < length f) where
    both : x ∷ rest ≡ fnv1a (folded_at f at) ∷ hashes_of f (fields count_bytes f (past_field count_bytes f at))
    both = sym q ∙ e ∙ hashes_more f at h

    pub first-hash : x ≡ fnv1a (folded_at f at)
    first-hash = cc both

    pub other-hashes : rest ≡ hashes_of f (fields count_bytes f (past_field count_bytes f at))
    other-hashes = cc both

-- those of all lines are the first of them
pub all-hashes : (f : List ℕ) {hashes : List ℕ} (n : ℕ) → Hashed f first_line 0 hashes → n ≡ length (lines f) → take n hashes ≡ hashes_of f (lines f)
unfolding hashes_of
all-hashes f n p e = rw p.is (take_at _ _ n (length-map (lines f) (λ at. fnv1a (folded_at f at)) ∙ sym e))

-- ---- from line to line

-- what is known at an offset where a line may start, with n lines read, a bad term among them or not, a count of 0 or not
pub record Reading (f names hashes : List ℕ) (at n : ℕ) (bad zero : Bool) : Type 0 where
  pub folds : FoldsTo f names at
  pub within : length f ≤ length names
  pub uncut : passes_end count_bytes f first_line ≡ passes_end count_bytes f at
  pub bads : bad_term f (lines f) ≡ bad || bad_term f (fields count_bytes f at)
  pub zeros : zero_count f (lines f) ≡ zero || zero_count f (fields count_bytes f at)
  pub hashed : hashes_of f (lines f) ≡ take n hashes ++ hashes_of f (fields count_bytes f at)
  pub room : first_line + 5 * n ≤ at
  pub few : n ≤ max_lines
  pub enough : max_lines ≤ length hashes

pub reading_none : (f names hashes : List ℕ) → length f ≤ length names → max_lines ≤ length hashes → Reading f names hashes first_line 0 false false
reading_none f names hashes l h = record { folds = λ later e rest. rest; within = l; uncut = refl; bads = refl; zeros = refl; hashed = refl; room = omega arith; few = omega arith; enough = h }

-- a line's term and count, and those behind it
module _ (f : List ℕ) (at : ℕ) where
  bad_step : at < length f → bad_term f (fields count_bytes f at) ≡ not (is_term (term_at f at)) || bad_term f (fields count_bytes f (past_field count_bytes f at))
  unfolding bad_term any
  bad_step h = rw (fields_more count_bytes f at h)

  zero_step : at < length f → zero_count f (fields count_bytes f at) ≡ eqb (count_at f at) 0 || zero_count f (fields count_bytes f (past_field count_bytes f at))
  unfolding zero_count any
  zero_step h = rw (fields_more count_bytes f at h)

module _ {f names hashes : List ℕ} {at n : ℕ} {bad zero : Bool} (r : Reading f names hashes at n bad zero) where
  -- at the frame's end all is known
  module _ (h : length f ≤ at) where
    pub reading_whole : passes_end count_bytes f first_line ≡ false
    reading_whole = r.uncut ∙ passes_end_lem count_bytes f at h

    pub reading_bad : bad_term f (lines f) ≡ bad
    unfolding bad_term any
    reading_bad = r.bads ∙ rw (fields_end count_bytes f at h) (or-false bad)

    pub reading_zero : zero_count f (lines f) ≡ zero
    unfolding zero_count any
    reading_zero = r.zeros ∙ rw (fields_end count_bytes f at h) (or-false zero)

    all_hashes : hashes_of f (lines f) ≡ take n hashes
    all_hashes = r.hashed ∙ ap (λ (hs : List ℕ). take n hashes ++ hs) (hashes_end f at h) ∙ append-nil (take n hashes)

    reading_hashed : Hashed f first_line 0 hashes
    reading_hashed = record { rest = drop n hashes; is = sym (take-append-drop n hashes) ∙ ap (λ (hs : List ℕ). hs ++ drop n hashes) (sym all_hashes) }

    pub reading_count : n ≡ length (lines f)
    unfolding hashes_of
    reading_count =
        sym (length-take-le n hashes (omega (arith, r.few, r.enough))) ∙ sym (ap length all_hashes) ∙ length-map (lines f) (λ at. fnv1a (folded_at f at))

    pub reading_read : Read f names hashes
    reading_read = record { room = r.within; folds = r.folds names refl (folds_end f names at h); hashed = reading_hashed; few = omega (arith, r.few, reading_count) }

  module _ (h : at < length f) where
    -- a line that passes the end decides
    pub reading_cut : length f < past_field count_bytes f at → passes_end count_bytes f first_line ≡ true
    reading_cut p = r.uncut ∙ passes_here count_bytes f at h p

    -- there is a place for the line's hash
    pub reading_room : length f ≤ max_body + 3 → n < length hashes
    reading_room s = omega (arith, r.room, r.enough)

    -- on to the next line
    pub reading_more : (x to : ℕ) (bad' zero' : Bool) → length f ≤ max_body + 3 → past_field count_bytes f at ≤ length f → x ≡ fnv1a (folded_at f at) → to ≡ past_field count_bytes f at
        → bad || not (is_term (term_at f at)) ≡ bad' → zero || eqb (count_at f at) 0 ≡ zero' → Reading f (sets names (at + 1) (folded_at f at)) (set hashes n x) to (n + 1) bad' zero'
    reading_more x to bad' zero' s p e q b z =
        let past = past_field count_bytes f at in
        let t : take (n + 1) (set hashes n x) ≡ take n hashes ++ (x ∷ []) = rw add-one (take-suc-set hashes n x (reading_room s)) in
        rw q (record {
          folds = folds_to_more f names at h p r.within r.folds;
          within = rw length-sets r.within;
          uncut = r.uncut ∙ passes_on count_bytes f at h p;
          bads = r.bads ∙ ap (λ (y : Bool). bad || y) (bad_step f at h) ∙ sym (or_assoc bad (not (is_term (term_at f at))) (bad_term f (fields count_bytes f past))) ∙ rw b;
          zeros = r.zeros ∙ ap (λ (y : Bool). zero || y) (zero_step f at h) ∙ sym (or_assoc zero (eqb (count_at f at) 0) (zero_count f (fields count_bytes f past))) ∙ rw z;
          hashed = r.hashed ∙ ap (λ (hs : List ℕ). take n hashes ++ hs) (hashes_more f at h) ∙ sym (rw (t, e) (append_assoc (take n hashes) (fnv1a (folded_at f at) ∷ []) (hashes_of f (fields count_bytes f past))));
          room = omega (arith, r.room, past_five f at);
          few = omega (arith, r.room);
          enough = rw length-set r.enough;
        })
