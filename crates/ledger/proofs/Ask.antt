-- Questions about the term of a name in a list of terms, and what a line does to the answers.
-- Assumes nothing.
use mathlib.Core.Path.{◌≡◌, refl, sym, ap, ◌∙◌}
use Prim.Native.Nat.{ℕ, zero, suc, ◌≤◌, ◌<◌}
use mathlib.Core.Bool.{Bool, true, false, cond}
use mathlib.Core.List.{List, [], ◌∷◌, ◌++◌}
use native.Mathlib.Omega.{arith}
use lib.ListN.{length, get_or, set}
use borrow.Author.Tests.{ltb-true, ltb-false}
use Rattle.basics.specs.Lists.{same}
use Rattle.basics.proofs.Lists.{same_eq, same_refl}
use Rattle.frames.specs.Frames.{Line}
use Rattle.layout.specs.Held.{Held}
use Rattle.layout.specs.Index.{Index, no_term, with_term, with_posting}
use Rattle.ledger.specs.Grown.{find, knows, take_as, take_line}

-- ---- tests

-- two tests that are not both passed may be made in either order
pub cond_comm : {A : Type 0} (b c : Bool) (x y z : A) → (b ≡ true → c ≡ true → ⊥) → cond b x (cond c y z) ≡ cond c y (cond b x z)
cond_comm true true x y z h = absurd (h refl refl)
cond_comm true false x y z h = refl
cond_comm false true x y z h = refl
cond_comm false false x y z h = refl

pub cond_same : {A : Type 0} (b : Bool) (x y z : A) → cond b x (cond b y z) ≡ cond b x z
cond_same true x y z = refl
cond_same false x y z = refl

pub not_both : (u v w : List ℕ) → same v w ≡ false → same u v ≡ true → same u w ≡ true → ⊥
not_both u v w n p q =
    let z : true ≡ false = sym (same_refl u) ∙ (rw (← (same_eq u v p), ← (same_eq u w q)) at n) in
    let o : ◌≡◌ {A = ℕ} 0 1 = cc in
    omega arith

pub same_swap : (v w : List ℕ) → same w v ≡ false → same v w ≡ false
same_swap v w e = go (same v w) refl
  where
    go : (b : Bool) → same v w ≡ b → same v w ≡ false
    go true q = let z : same w w ≡ false = rw (same_eq v w q) at e in q ∙ sym (same_refl w) ∙ z
    go false q = q

-- ---- the place of a name

name_case : (b : Bool) (w : List ℕ) (t : Held) (ts : List Held) → same w t.name ≡ b → cond b 0 (suc (find w ts)) < suc (length ts)
    → (find w ts < length ts → (get_or ts (find w ts) no_term).name ≡ w) → (get_or (t ∷ ts) (cond b 0 (suc (find w ts))) no_term).name ≡ w
name_case true w t ts q h ih = sym (same_eq w t.name q)
name_case false w t ts q h ih = ih (omega arith)

-- a term that is found has the name
pub find-name : (w : List ℕ) (ts : List Held) → find w ts < length ts → (get_or ts (find w ts) no_term).name ≡ w
unfolding find
find-name w [] h = absurd (omega arith)
find-name w (t ∷ ts) h = name_case (same w t.name) w t ts refl h (find-name w ts)

found_case : (b : Bool) (w : List ℕ) (ts : List Held) → (b ≡ false → find w ts < length ts) → cond b 0 (suc (find w ts)) < suc (length ts)
found_case true w ts h = omega arith
found_case false w ts h = omega (arith, h refl)

-- a name that stands in the list is found
pub name_found : (w : List ℕ) (ts : List Held) (i : ℕ) → i < length ts → (get_or ts i no_term).name ≡ w → find w ts < length ts
unfolding find
name_found w [] i h e = absurd (omega arith)
name_found w (t ∷ ts) zero h e = rw (e, same_refl w) (omega arith)
name_found w (t ∷ ts) (suc i) h e = found_case (same w t.name) w ts (λ q. name_found w ts i (omega arith) e)

-- ---- f of the term of name w, or d where it is unknown

module _ {X : Type 0} (f : Held → X) (d : X) where
  unfoldable pub ask : List ℕ → List Held → X
  ask w [] = d
  ask w (t ∷ ts) = cond (same w t.name) (f t) (ask w ts)

  set_case : (b : Bool) (v w : List ℕ) (x : Held) (ts : List Held) (t : Held) → same w x.name ≡ b → cond b 0 (suc (find w ts)) < suc (length ts) → t.name ≡ w
      → (find w ts < length ts → ask v (set ts (find w ts) t) ≡ cond (same v w) (f t) (ask v ts))
      → ask v (set (x ∷ ts) (cond b 0 (suc (find w ts))) t) ≡ cond (same v w) (f t) (ask v (x ∷ ts))
  unfolding ask
  set_case true v w x ts t q h e ih =
      ap (λ (z : List ℕ). cond (same v z) (f t) (ask v ts)) e
      ∙ sym (cond_same (same v w) (f t) (f x) (ask v ts))
      ∙ ap (λ (z : List ℕ). cond (same v w) (f t) (cond (same v z) (f x) (ask v ts))) (same_eq w x.name q)
  set_case false v w x ts t q h e ih =
      rw (ih (omega arith)) (cond_comm (same v x.name) (same v w) (f x) (f t) (ask v ts) (λ y z. not_both v w x.name q z y))

  pub ask_set : (v w : List ℕ) (ts : List Held) (t : Held) → find w ts < length ts → t.name ≡ w → ask v (set ts (find w ts) t) ≡ cond (same v w) (f t) (ask v ts)
  unfolding find
  ask_set v w [] t h e = absurd (omega arith)
  ask_set v w (x ∷ ts) t h e = set_case (same w x.name) v w x ts t refl h e (λ g. ask_set v w ts t g e)

  fresh_case : (b : Bool) (v w : List ℕ) (x : Held) (ts : List Held) (t : Held) → same w x.name ≡ b → suc (length ts) ≤ cond b 0 (suc (find w ts))
      → (length ts ≤ find w ts → ask v (ts ++ (t ∷ [])) ≡ cond (same v w) (f t) (ask v ts))
      → cond (same v x.name) (f x) (ask v (ts ++ (t ∷ []))) ≡ cond (same v w) (f t) (cond (same v x.name) (f x) (ask v ts))
  fresh_case true v w x ts t q h ih = absurd (omega arith)
  fresh_case false v w x ts t q h ih = rw (ih (omega arith)) (cond_comm (same v x.name) (same v w) (f x) (f t) (ask v ts) (λ y z. not_both v w x.name q z y))

  pub ask_fresh : (v w : List ℕ) (ts : List Held) (t : Held) → length ts ≤ find w ts → t.name ≡ w → ask v (ts ++ (t ∷ [])) ≡ cond (same v w) (f t) (ask v ts)
  unfolding find ask
  ask_fresh v w [] t h e = ap (λ (z : List ℕ). cond (same v z) (f t) d) e
  ask_fresh v w (x ∷ ts) t h e = fresh_case (same w x.name) v w x ts t refl h (λ g. ask_fresh v w ts t g e)

  ask_case : (b : Bool) (w : List ℕ) (t : Held) (ts : List Held) → same w t.name ≡ b → cond b 0 (suc (find w ts)) < suc (length ts)
      → (find w ts < length ts → ask w ts ≡ f (get_or ts (find w ts) no_term)) → cond b (f t) (ask w ts) ≡ f (get_or (t ∷ ts) (cond b 0 (suc (find w ts))) no_term)
  ask_case true w t ts q h ih = refl
  ask_case false w t ts q h ih = ih (omega arith)

  -- of a known name
  pub ask_known : (w : List ℕ) (ts : List Held) → find w ts < length ts → ask w ts ≡ f (get_or ts (find w ts) no_term)
  unfolding find ask
  ask_known w [] h = absurd (omega arith)
  ask_known w (t ∷ ts) h = ask_case (same w t.name) w t ts refl h (ask_known w ts)

  none_case : (b : Bool) (w : List ℕ) (t : Held) (ts : List Held) → suc (length ts) ≤ cond b 0 (suc (find w ts)) → (length ts ≤ find w ts → ask w ts ≡ d) → cond b (f t) (ask w ts) ≡ d
  none_case true w t ts h ih = absurd (omega arith)
  none_case false w t ts h ih = ih (omega arith)

  -- and of an unknown one
  pub ask_unknown : (w : List ℕ) (ts : List Held) → length ts ≤ find w ts → ask w ts ≡ d
  unfolding find ask
  ask_unknown w [] h = refl
  ask_unknown w (t ∷ ts) h = none_case (same w t.name) w t ts h (ask_unknown w ts)

  -- ---- a line changes the answer about its own term alone

  line_case : (b : Bool) (ix : Index) (n : ℕ) (l : Line) (v : List ℕ) → same v l.term ≡ false → knows ix.terms l.term ≡ b
      → ask v (take_as b ix n l).terms ≡ ask v ix.terms
  unfolding with_posting with_term
  line_case true ix n l v q e =
      let h : find l.term ix.terms < length ix.terms = ltb-true _ _ e in
      ask_set v l.term ix.terms _ h (find-name l.term ix.terms h) ∙ rw q
  line_case false ix n l v q e = ask_fresh v l.term ix.terms _ (ltb-false _ _ e) refl ∙ rw q

  pub line_other : (ix : Index) (n : ℕ) (l : Line) (v : List ℕ) → same v l.term ≡ false → ask v (take_line ix n l).terms ≡ ask v ix.terms
  unfolding take_line
  line_other ix n l v q = line_case (knows ix.terms l.term) ix n l v q refl
