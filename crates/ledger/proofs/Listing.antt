-- The listing lemma: what the postings of the named terms have in common is what the plain ledger lists.
-- Assumes nothing.
use mathlib.Core.Path.{◌≡◌, refl, sym, ap, ◌∙◌}
use mathlib.Core.Bool.{Bool, true, false, cond, ◌&&◌, ◌||◌}
use mathlib.Core.List.{List, [], ◌∷◌, ◌++◌, map}
use Prim.Native.Nat.{ℕ, suc, ◌<◌}
use native.Mathlib.Omega.{arith}
use lib.Dec.{ltb, leb, eqb}
use borrow.Author.Tests.{ltb-true, lt-ltb, eq-eqb, ne_eqb}
use Rattle.basics.specs.Lists.{all, any, same, keep}
use Rattle.basics.proofs.Lists.{and_left, and_right, all_append, all_map, or_left, or_right, same_eq}
use Rattle.frames.specs.Frames.{repeats_after}
use Rattle.blocks.specs.Prescribed.{Posting}
use Rattle.query.specs.Listing.{holds, common}
use Rattle.ledger.specs.Ledger.{Report, in_report, in_reports, postings_of, holds_term, count_in, first_count, list_from, listed}

-- ---- tests on lists

-- by whether a test passes
pub by-test {ℓ} : {C : Type ℓ} (b : Bool) → (b ≡ true → C) → (b ≡ false → C) → C
by-test true f g = f refl
by-test false f g = g refl

-- a test does not both pass and fail
pub not_both {ℓ} : {C : Type ℓ} {b : Bool} → b ≡ true → b ≡ false → C
not_both p q = let z : ◌≡◌ {A = ℕ} 0 1 = cc in absurd (omega arith)

module _ {A : Type 0} where
  any_append : (f : A → Bool) (s t : List A) → any f (s ++ t) ≡ any f s || any f t
  unfolding any
  any_append f [] t = refl
  any_append f (x ∷ s) t = by-test (f x) (λ e. rw e) (λ e. rw e (any_append f s t))

  keep_append : (f : A → Bool) (s t : List A) → keep f (s ++ t) ≡ keep f s ++ keep f t
  unfolding keep
  keep_append f [] t = refl
  keep_append f (x ∷ s) t =
      by-test (f x) (λ e. rw e (ap (λ (l : List A). x ∷ l) (keep_append f s t))) (λ e. rw e (keep_append f s t))

  -- tests that answer alike everywhere
  all_alike : (f g : A → Bool) → ((x : A) → f x ≡ g x) → (s : List A) → all f s ≡ all g s
  unfolding all
  all_alike f g e [] = refl
  all_alike f g e (x ∷ s) = rw (e x, all_alike f g e s)

  -- or at all elements for which a third holds
  keep_alike : (c f g : A → Bool) → ((x : A) → c x ≡ true → f x ≡ g x) → (s : List A) → all c s ≡ true → keep f s ≡ keep g s
  unfolding keep all
  keep_alike c f g e [] h = refl
  keep_alike c f g e (x ∷ s) h =
      rw (e x (and_left (c x) (all c s) h), keep_alike c f g e s (and_right (c x) (all c s) h))

  all_true : (s : List A) → all (λ x. true) s ≡ true
  unfolding all
  all_true [] = refl
  all_true (x ∷ s) = all_true s

or-none : (b : Bool) → b || false ≡ b
or-none true = refl
or-none false = refl

-- ---- reports that name no term twice

abbrev pub terms_in : Report → List (List ℕ)
terms_in r = map (λ l. l.term) r

pub data Distinct : List Report → Type 0 where
  none : Distinct []
  one : {r : Report} {rs : List Report} → repeats_after [] (terms_in r) ≡ false → Distinct rs → Distinct (r ∷ rs)

-- one more of them
pub distinct_more : {rs : List Report} (r : Report) → Distinct rs → repeats_after [] (terms_in r) ≡ false → Distinct (rs ++ (r ∷ []))
distinct_more r none e = one e none
distinct_more r (one h d) e = one h (distinct_more r d e)

module _ (w : List ℕ) (n : ℕ) where
  -- a term that came before does not come again
  not_again : (seen : List (List ℕ)) (r : Report) → any (same w) seen ≡ true → repeats_after seen (terms_in r) ≡ false → in_report w n r ≡ []
  unfolding in_report repeats_after any
  not_again seen [] h e = refl
  not_again seen (l ∷ ls) h e =
      by-test (same w l.term)
      (λ q. let p : w ≡ l.term = same_eq w l.term q in
      let a : any (same l.term) seen ≡ true = ap (λ (v : List ℕ). any (same v) seen) (sym p) ∙ h in
      not_both a (or_left (any (same l.term) seen) _ e))
      (λ q. rw q (not_again (l.term ∷ seen) ls (rw q h) (or_right (any (same l.term) seen) _ e)))

  abbrev here : Report → Posting
  here r = record { number = n; count = count_in r w }

  -- so a report has at most one posting of a term
  at_most_one : (seen : List (List ℕ)) (r : Report) → repeats_after seen (terms_in r) ≡ false → in_report w n r ≡ cond (holds_term r w) (here r ∷ []) []
  unfolding in_report repeats_after any holds_term count_in
  at_most_one seen [] e = refl
  at_most_one seen (l ∷ ls) e =
      let on = or_right (any (same l.term) seen) _ e in
      by-test (same w l.term) (λ q. rw (q, not_again (l.term ∷ seen) ls (rw q) on))
      (λ q. rw q (at_most_one (l.term ∷ seen) ls on))

-- ---- the numbers of a term's postings

-- a report's own number is there exactly if it holds the term, and no other is
own-report : (w : List ℕ) (n : ℕ) (r : Report) → holds (in_report w n r) n ≡ holds_term r w
unfolding holds any in_report holds_term
own-report w n [] = refl
own-report w n (l ∷ ls) =
    by-test (same w l.term) (λ q. rw (q, eq-eqb n n refl)) (λ q. rw q (own-report w n ls))

other_report : (w : List ℕ) (n : ℕ) (r : Report) (k : ℕ) → (n ≡ k → ⊥) → holds (in_report w n r) k ≡ false
unfolding holds any in_report
other_report w n [] k h = refl
other_report w n (l ∷ ls) k h =
    by-test (same w l.term) (λ q. rw (q, ne_eqb n k h) (other_report w n ls k h)) (λ q. rw q (other_report w n ls k h))

-- reports numbered from n on have no posting of a lower number
none_below : (w : List ℕ) (n : ℕ) (rs : List Report) (k : ℕ) → k < n → holds (in_reports w n rs) k ≡ false
unfolding holds any in_reports
none_below w n [] k h = refl
none_below w n (r ∷ rs) k h =
    any_append (λ p. eqb p.number k) (in_report w n r) (in_reports w (suc n) rs)
    ∙ rw (other_report w n r k (λ e. omega arith)) (none_below w (suc n) rs k (omega arith))

-- the first of them is found exactly if it holds the term
pub holds-own : (w : List ℕ) (n : ℕ) (r : Report) (rs : List Report) → holds (in_reports w n (r ∷ rs)) n ≡ holds_term r w
unfolding holds in_reports
holds-own w n r rs =
    any_append (λ p. eqb p.number n) (in_report w n r) (in_reports w (suc n) rs)
    ∙ rw (own-report w n r, none_below w (suc n) rs n (omega arith)) (or-none (holds_term r w))

-- and a later one as if the first were not there
pub holds_later : (w : List ℕ) (n : ℕ) (r : Report) (rs : List Report) (k : ℕ) → n < k → holds (in_reports w n (r ∷ rs)) k ≡ holds (in_reports w (suc n) rs) k
unfolding holds in_reports
holds_later w n r rs k h =
    any_append (λ p. eqb p.number k) (in_report w n r) (in_reports w (suc n) rs)
    ∙ rw (other_report w n r k (λ e. omega arith))

-- every number is past m
abbrev past : ℕ → Posting → Bool
past m p = ltb m p.number

past-report : (w : List ℕ) (n m : ℕ) (r : Report) → m < n → all (past m) (in_report w n r) ≡ true
unfolding all in_report
past-report w n m [] h = refl
past-report w n m (l ∷ ls) h =
    by-test (same w l.term) (λ q. rw (q, lt-ltb m n h) (past-report w n m ls h)) (λ q. rw q (past-report w n m ls h))

past-reports : (w : List ℕ) (n m : ℕ) (rs : List Report) → m < n → all (past m) (in_reports w n rs) ≡ true
unfolding all in_reports
past-reports w n m [] h = refl
past-reports w n m (r ∷ rs) h =
    all_append (past m) (in_report w n r) (in_reports w (suc n) rs)
    ∙ rw (past-report w n m r h) (past-reports w (suc n) m rs (omega arith))

-- ---- what the postings have in common

-- a posting that is there if h holds is taken if a and b hold too
first_then : (h a b : Bool) (test : Posting → Bool) (p : Posting) (on : List Posting) → test p ≡ a && b
    → keep test (cond h (p ∷ []) []) ++ on ≡ cond (a && (h && b)) (p ∷ on) on
unfolding keep
first_then true true true test p on e = rw e
first_then true true false test p on e = rw e
first_then true false b test p on e = rw e
first_then false true b test p on e = refl
first_then false false b test p on e = refl

module _ (start : ℕ) (w : List ℕ) (ws : List (List ℕ)) where
  -- a posting of w is listed where its report is at or past the start and the other terms hold it too
  taken : ℕ → List Report → Posting → Bool
  taken n rs p = leb start p.number && all (λ v. holds (in_reports v n rs) p.number) ws

  taken_own : (n : ℕ) (r : Report) (rs : List Report) (f : ℕ) → taken n (r ∷ rs) (record { number = n; count = f }) ≡ leb start n && all (holds_term r) ws
  unfolding taken
  taken_own n r rs f = rw (all_alike (λ v. holds (in_reports v n (r ∷ rs)) n) (holds_term r) (λ v. holds-own v n r rs) ws)

  taken_later : (n : ℕ) (r : Report) (rs : List Report) (p : Posting) → past n p ≡ true → taken n (r ∷ rs) p ≡ taken (suc n) rs p
  unfolding taken
  taken_later n r rs p h =
      let k = p.number in
      let l : n < k = ltb-true n k h in
      rw (all_alike (λ v. holds (in_reports v n (r ∷ rs)) k) (λ v. holds (in_reports v (suc n) rs) k) (λ v. holds_later v n r rs k l) ws)

  -- the first report's posting, then those of the later ones
  listed-from : (n : ℕ) {rs : List Report} → Distinct rs → keep (taken n rs) (in_reports w n rs) ≡ list_from n start (w ∷ ws) rs
  unfolding keep in_reports list_from all first_count
  listed-from n none = refl
  listed-from n (one {r = r} {rs = rs} e d) =
      let ih : keep (taken (suc n) rs) (in_reports w (suc n) rs) ≡ list_from (suc n) start (w ∷ ws) rs = listed-from (suc n) d in
      let later : keep (taken n (r ∷ rs)) (in_reports w (suc n) rs) ≡ list_from (suc n) start (w ∷ ws) rs
      = keep_alike (past n) (taken n (r ∷ rs)) (taken (suc n) rs) (taken_later n r rs) (in_reports w (suc n) rs) (past-reports w (suc n) n rs (omega arith)) ∙ ih in
      rw (keep_append (taken n (r ∷ rs)) (in_report w n r) (in_reports w (suc n) rs), later, at_most_one w n [] r e)
      (first_then (holds_term r w) (leb start n) (all (holds_term r) ws) (taken n (r ∷ rs)) (here w n r) (list_from (suc n) start (w ∷ ws) rs) (taken_own n r rs (count_in r w)))

-- the listing lemma, for reports numbered from n on, and for the ledger's
pub common-from : (n start : ℕ) (w : List ℕ) (ws : List (List ℕ)) {rs : List Report} → Distinct rs
    → common start (map (λ v. in_reports v n rs) (w ∷ ws)) ≡ list_from n start (w ∷ ws) rs
unfolding common taken
common-from n start w ws {rs} d =
    keep_alike (λ p. true) _ (taken start w ws n rs) (λ p t. rw (all_map (λ qs. holds qs p.number) (λ v. in_reports v n rs) ws)) (in_reports w n rs) (all_true (in_reports w n rs))
    ∙ listed-from start w ws n d

pub common-listed : (start : ℕ) (w : List ℕ) (ws : List (List ℕ)) {rs : List Report} → Distinct rs
    → common start (map (postings_of rs) (w ∷ ws)) ≡ listed rs start (w ∷ ws)
unfolding postings_of listed
common-listed start w ws d = common-from 1 start w ws d
