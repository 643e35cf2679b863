-- Refusal 5, judged from one field to the next.
-- Assumes nothing.
use mathlib.Core.Path.{◌≡◌, refl, sym, ap, ◌∙◌}
use mathlib.Core.Bool.{Bool, true, false}
use mathlib.Core.List.{List, ◌∷◌}
use Prim.Native.Nat.{ℕ, ◌<◌}
use native.Mathlib.Omega.{arith}
use lib.ListN.{length}
use Rattle.basics.specs.Lists.{any}
use Rattle.terms.specs.Terms.{is_term}
use Rattle.frames.specs.Frames.{term_at, past_field, fields, bad_term}
use Rattle.frames.proofs.Fields.{fields_more}

-- refusal 5 over a list of fields: one that is not a term decides, one that is a term is passed over
module _ (f : List ℕ) where
  module _ (at : ℕ) (ats : List ℕ) where
    bad_first : is_term (term_at f at) ≡ false → bad_term f (at ∷ ats) ≡ true
    unfolding bad_term any
    bad_first e = rw e

    bad_rest : is_term (term_at f at) ≡ true → bad_term f (at ∷ ats) ≡ bad_term f ats
    unfolding bad_term any
    bad_rest e = rw e

module _ (tail : ℕ) (f : List ℕ) (at : ℕ) where
  module _ (h : at < length f) where
    pub bad_here : is_term (term_at f at) ≡ false → bad_term f (fields tail f at) ≡ true
    bad_here e = ap (bad_term f) (fields_more tail f at h) ∙ bad_first f at _ e

    pub bad_on : is_term (term_at f at) ≡ true → bad_term f (fields tail f at) ≡ bad_term f (fields tail f (past_field tail f at))
    bad_on e = ap (bad_term f) (fields_more tail f at h) ∙ bad_rest f at _ e

  -- where no field is bad, the one here is a term, and none is bad from the next on
  module _ (h : at < length f) (g : bad_term f (fields tail f at) ≡ false) where
    pub good_here : is_term (term_at f at) ≡ true
    good_here = go (is_term (term_at f at)) refl
      where
        go : (b : Bool) → is_term (term_at f at) ≡ b → is_term (term_at f at) ≡ true
        go true e = e
        go false e = let z : ◌≡◌ {A = ℕ} 0 1 = cc (bad_here h e) in absurd (omega arith)

    pub good_on : bad_term f (fields tail f (past_field tail f at)) ≡ false
    good_on = sym (bad_on h good_here) ∙ g
