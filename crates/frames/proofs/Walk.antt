-- Laws of going over the fields of a frame: which ones come, and what holds at each.
-- Assumes nothing.
use Rattle.std.proofs.Common.{ℕ, zero, suc, ◌≡◌, refl, ap, sym, subst, ◌∙◌, ◌+◌, ◌≤◌, ◌<◌, Bool, false, List, [], ◌∷◌, length, arith}
use Rattle.std.specs.Iterator.{AlwaysYields, Yields, CallableAtEachTurn}
use Rattle.std.specs.List.{list_any}
use Rattle.std.proofs.lemmas.Iterator.{YieldsList}
use Rattle.std.proofs.lemmas.Fn.{serves_by}
use borrow.Author.Tests.{lt-ltb, le-ltb}
use Rattle.basics.specs.Lists.{any}
use Rattle.basics.proofs.Cases.{by-lt}
use denote.Ref.{Bor}
use Rattle.frames.specs.declared.Cursor.{Cursor}
use Rattle.frames.specs.declared.Cursors.{Cursors}
use Rattle.frames.specs.Frames.{past_field, Field, fields_up_to, fields, passes_end}
use Rattle.frames.specs.Walk.{SameFrame, GoesOn, Goes, from_first}
use Rattle.frames.proofs.Fields.{past_more, field_here, whole-on}

abbrev place : Cursor → ℕ
place c = c.at

-- ---- the fields that come

later : (k : ℕ) (s j : Cursors) (c : Cursor) → GoesOn s c j → length s.frame.now ≤ s.at + suc k → length j.frame.now ≤ j.at + k
later k s j c g h = omega (arith, g.past, past_more s.tail s.frame.now s.at, ap length g.same.frame)

walk : (k : ℕ) (s : Cursors) → length s.frame.now ≤ s.at + k → AlwaysYields Goes place s (fields_up_to k s.tail s.frame.now s.at)
unfolding fields_up_to
walk zero s h = λ x j g. omega (arith, g.starts)
walk (suc k) s h =
    by-lt s.at (length s.frame.now)
    (λ l. rw (lt-ltb s.at (length s.frame.now) l) (
      λ j w. omega (arith, w.0),
      λ x j g.
          let e : fields_up_to k j.tail j.frame.now j.at ≡ fields_up_to k s.tail s.frame.now (past_field s.tail s.frame.now s.at) = rw (g.same.frame, g.same.tail, g.past) refl in
          (g.here, subst (λ (ys : List ℕ). AlwaysYields Goes place j ys) e (walk k j (later k s j x g h))),
    ))
    (λ l. rw (le-ltb s.at (length s.frame.now) l) (λ x j g. omega (arith, g.starts)))

pub yields-fields : (s : Cursors) → YieldsList Goes place s (fields s.tail s.frame.now s.at)
unfolding fields
yields-fields s = record { runs = walk (length s.frame.now) s (omega arith) }

-- ---- what holds wherever calls lead: the frame is the same, and what goes over from each field to the next

module _ (P : List ℕ → ℕ → ℕ → Type 0) (on : (f : List ℕ) (tail at : ℕ) → at < length f → P f tail at → P f tail (past_field tail f at)) where
  pub walks : (xs : List Cursor) (s t : Cursors) → Yields Goes s xs t → P s.frame.now s.tail s.at → SameFrame s t × P s.frame.now s.tail t.at
  walks [] s t e p = subst (λ (t : Cursors). SameFrame s t × P s.frame.now s.tail t.at) e (record { frame = refl; tail = refl }, p)
  walks (x ∷ xs) s t y p =
      let j = y.0 in
      let g = y.1 in
      let q : P j.frame.now j.tail j.at = rw (g.same.frame, g.same.tail, g.past) (on s.frame.now s.tail s.at g.starts p) in
      let r = walks xs j t y.2 q in
      (record { frame = r.0.frame ∙ g.same.frame; tail = r.0.tail ∙ g.same.tail }, rw (g.same.frame, g.same.tail) at r.1)

-- a field that comes starts within the frame
pub walked-in : (xs : List Cursor) (s t u : Cursors) (c : Cursor) → Yields Goes s xs t → GoesOn t c u → c.at < length s.frame.now
walked-in xs s t u c y g =
    let r = walks (λ _ _ _. Unit {0}) (λ _ _ _ _ _. tt) xs s t y tt in omega (arith, g.here, g.starts, ap length r.0.frame)

-- where no field passes the end, each that comes is whole
pub walked-whole : (xs : List Cursor) (s t u : Cursors) (c : Cursor) → passes_end s.tail s.frame.now s.at ≡ false → Yields Goes s xs t → GoesOn t c u → Field s.tail s.frame.now c.at
walked-whole xs s t u c w y g =
    let r = walks (λ f tail at. passes_end tail f at ≡ false) (λ f tail at h e. whole-on tail f at e h) xs s t y w in
    rw g.here (field_here s.tail s.frame.now t.at r.1 (omega (arith, g.starts, ap length r.0.frame)))

-- what a closure that a call leaves as it was may be asked, then
keeps : {F : Type 0} (R : F → Cursor → F → Type 0) (f : F) → ((c : Cursor) (q : F) → R f c q → q ≡ f) → (xs : List Cursor) (q : F) (c : Cursor) (v : F) → q ≡ f → R q c v → v ≡ f
keeps R f same xs q c v e r = same c v (rw e at r)

module _ {F : Type 0} {R : F → Cursor → F → Type 0} {Q : F → Cursor → Type 0} {s : Cursors} {f : F} (same : (c : Cursor) (q : F) → R f c q → q ≡ f) where
  pub serves-in : ((c : Cursor) → c.at < length s.frame.now → Q f c) → CallableAtEachTurn Goes R Q s f
  serves-in q = serves_by R (λ _ v. v ≡ f) (keeps R f same) Goes Q s f refl (λ xs t v c u y g e. rw e (q c (walked-in xs s t u c y g)))

  pub serves-whole : passes_end s.tail s.frame.now s.at ≡ false → ((c : Cursor) → Field s.tail s.frame.now c.at → Q f c) → CallableAtEachTurn Goes R Q s f
  serves-whole w q = serves_by R (λ _ v. v ≡ f) (keeps R f same) Goes Q s f refl (λ xs t v c u y g e. rw e (q c (walked-whole xs s t u c w y g)))

-- the two words for a test that some element passes
pub any-list : {A : Type 0} (p : A → Bool) (xs : List A) → list_any p xs ≡ any p xs
unfolding any
any-list p [] = refl
any-list p (x ∷ xs) = rw (any-list p xs) refl

-- ---- a loop over the fields of a frame

-- what is left of it is over that frame
pub record Over (f : List ℕ) (tail : ℕ) (s : Cursors) : Type 0 where
  pub frame : s.frame.now ≡ f
  pub bytes : s.tail ≡ tail

-- at the start, where a loop takes all
pub over-first : {f : Bor (List ℕ)} {at tail : ℕ} {s all : Cursors} → s ≡ all → all ≡ from_first at tail f → Over f.now tail s × (s.at ≡ at)
over-first {f} {at} {tail} i e = subst (λ (s : Cursors). Over f.now tail s × (s.at ≡ at)) (sym (i ∙ e)) (record { frame = refl; bytes = refl }, refl)

-- a turn: the field here, and those past it are left
pub record Turn (f : List ℕ) (tail : ℕ) (s : Cursors) (c : Cursor) (t : Cursors) : Type 0 where
  pub here : c.at ≡ s.at
  pub starts : s.at < length f
  pub past : t.at ≡ past_field tail f s.at
  pub over : Over f tail t

pub over-turn : {f : List ℕ} {tail : ℕ} {s t : Cursors} {c : Cursor} → Over f tail s → GoesOn s c t → Turn f tail s c t
over-turn o g = record {
  here = g.here;
  starts = omega (arith, g.starts, ap length o.frame);
  past = g.past ∙ rw (o.frame, o.bytes) refl;
  over = record { frame = g.same.frame ∙ o.frame; bytes = g.same.tail ∙ o.bytes };
}

-- the end of the frame
pub over-end : {f : List ℕ} {tail : ℕ} {s : Cursors} → Over f tail s → length s.frame.now ≤ s.at → length f ≤ s.at
over-end o h = omega (arith, h, ap length o.frame)

-- where the field here does not pass the end, it is whole
pub turn-field : {f : List ℕ} {tail : ℕ} {s t : Cursors} {c : Cursor} → Turn f tail s c t → past_field tail f c.at ≤ length f → Field tail f c.at
turn-field t h = record { starts = omega (arith, t.here, t.starts); ends = h }
