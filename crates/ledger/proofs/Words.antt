-- The ledger's own words for what a frame says, for filling lists and for a refused answer say what the index's do. That
-- the reports listed are the same is `common-listed` of `Listing`.
-- Assumes nothing.
use mathlib.Core.Path.{◌≡◌, refl, sym, ap, ◌∙◌}
use Prim.Native.Nat.{ℕ, zero, suc, ◌+◌, ◌<◌, min}
use mathlib.Core.Bool.{false}
use mathlib.Core.List.{List, [], ◌∷◌, map}
use native.Mathlib.Nat.{zero-min, min-zero, suc-min-suc}
use native.Mathlib.Omega.{arith}
use borrow.Author.Tests.{lt-ltb, le-ltb}
use lib.Dec.{ltb}
use lib.ListN.{length, get_or, drop, set, drop_of_length-le}
use lib.Seq.{sets, drop-cons, drop-drop, get_or-drop}
use Rattle.basics.specs.Words.{word_at}
use Rattle.basics.proofs.Cases.{by-lt}
use Rattle.basics.proofs.Lists.{take-nil}
use Rattle.frames.specs.Frames.{term_at, count_at, past_field, fields_up_to, fields, first_line, first_term, line_at, folded_at, report_lines, query_start, query_terms}
use Rattle.blocks.specs.Prescribed.{Posting}
use Rattle.query.specs.Listing.{numbers_of, counts_of, list_one, list_all}
use Rattle.query.specs.Listing.{listed as given, refused}
use Rattle.ledger.specs.Ledger.{lines_in, lines_of, named_in, named_by, start_of, told, fill_two, fill_list}

-- ---- frames

word-drop : (s : List ℕ) (at : ℕ) → word_at (drop at s) 0 ≡ word_at s at
unfolding word_at
word-drop s at =
    let e : at + 0 ≡ at = omega arith in
    rw (get_or-drop at s 0 0, get_or-drop at s 1 0, get_or-drop at s 2 0, get_or-drop at s 3 0, e)

-- from an offset on, the next field and those behind it
module _ (f : List ℕ) where
  line-at : (fuel at : ℕ) → at < length f
      → lines_in (suc fuel) (drop at f) ≡ line_at f at ∷ lines_in fuel (drop (past_field 4 f at) f)
  unfolding lines_in line_at term_at count_at past_field
  line-at fuel at h =
      let n : ℕ = get_or f at 0 in
      let k : suc at + (n + 4) ≡ at + 1 + n + 4 = omega arith in
      let j : suc at + n ≡ at + 1 + n = omega arith in
      let e : drop (n + 4) (drop (suc at) f) ≡ drop (at + 1 + n + 4) f = drop-drop (n + 4) (suc at) f ∙ ap (λ (i : ℕ). drop i f) k in
      let c : word_at (drop n (drop (suc at) f)) 0 ≡ word_at f (at + 1 + n) =
      ap (λ (s : List ℕ). word_at s 0) (drop-drop n (suc at) f) ∙ word-drop f (suc at + n) ∙ ap (word_at f) j in
      let a : suc at ≡ at + 1 = omega arith in
      rw (drop-cons f at 0 h, e, c, a)

  lines-in : (fuel at : ℕ) → lines_in fuel (drop at f) ≡ map (line_at f) (fields_up_to fuel 4 f at)
  unfolding lines_in fields_up_to
  lines-in zero at = refl
  lines-in (suc fuel) at =
      by-lt at (length f)
      (λ h. line-at fuel at h ∙ rw (lt-ltb at (length f) h, lines-in fuel (past_field 4 f at)))
      (λ h. rw (drop_of_length-le f h, le-ltb at (length f) h))

  term-at : (fuel at : ℕ) → at < length f
      → named_in (suc fuel) (drop at f) ≡ folded_at f at ∷ named_in fuel (drop (past_field 0 f at) f)
  unfolding named_in term_at past_field
  term-at fuel at h =
      let n : ℕ = get_or f at 0 in
      let k : suc at + n ≡ at + 1 + n + 0 = omega arith in
      let e : drop n (drop (suc at) f) ≡ drop (at + 1 + n + 0) f = drop-drop n (suc at) f ∙ ap (λ (i : ℕ). drop i f) k in
      let a : suc at ≡ at + 1 = omega arith in
      rw (drop-cons f at 0 h, e, a)

  named-in : (fuel at : ℕ) → named_in fuel (drop at f) ≡ map (folded_at f) (fields_up_to fuel 0 f at)
  unfolding named_in fields_up_to
  named-in zero at = refl
  named-in (suc fuel) at =
      by-lt at (length f)
      (λ h. term-at fuel at h ∙ rw (lt-ltb at (length f) h, named-in fuel (past_field 0 f at)))
      (λ h. rw (drop_of_length-le f h, le-ltb at (length f) h))

  pub lines_same : lines_of f ≡ report_lines f
  unfolding lines_of report_lines fields
  lines_same = lines-in (length f) first_line

  pub named_same : named_by f ≡ query_terms f
  unfolding named_by query_terms fields
  named_same = named-in (length f) first_term

  pub start_same : start_of f ≡ query_start f
  unfolding start_of query_start
  start_same = word-drop f 4

-- ---- filling

sets-behind : {A : Type 0} (x : A) (s : List A) (i : ℕ) (vs : List A) → sets (x ∷ s) (suc i) vs ≡ x ∷ sets s i vs
sets-behind x s i [] = refl
sets-behind x s i (v ∷ vs) = sets-behind x (set s i v) (suc i) vs

ltb-suc : (a b : ℕ) → ltb (suc a) (suc b) ≡ ltb a b
ltb-suc a b =
    by-lt a b (λ l. lt-ltb (suc a) (suc b) (omega arith) ∙ sym (lt-ltb a b l)) (λ l. le-ltb (suc a) (suc b) (omega arith) ∙ sym (le-ltb a b l))

pub two_same : (ps : List Posting) (ns cs : List ℕ) → fill_two ps ns cs ≡ list_one ps ns cs
unfolding fill_two list_one
two_same [] ns cs =
    let r : ℕ = min (length ns) (length cs) in
    rw (take-nil {A = Posting} r, min-zero r, le-ltb r 0 (omega arith))
two_same (p ∷ ps) [] cs = rw (zero-min (length cs), zero-min (suc (length ps)), lt-ltb 0 (suc (length ps)) (omega arith))
two_same (p ∷ ps) (n ∷ ns) [] = rw (min-zero (suc (length ns)), zero-min (suc (length ps)), lt-ltb 0 (suc (length ps)) (omega arith))
two_same (p ∷ ps) (n ∷ ns) (c ∷ cs) =
    let r : ℕ = min (length ns) (length cs) in
    let q : sets (n ∷ ns) 0 (numbers_of (suc r) (p ∷ ps)) ≡ p.number ∷ sets ns 0 (numbers_of r ps) = sets-behind p.number ns 0 (numbers_of r ps) in
    let u : sets (c ∷ cs) 0 (counts_of (suc r) (p ∷ ps)) ≡ p.count ∷ sets cs 0 (counts_of r ps) = sets-behind p.count cs 0 (counts_of r ps) in
    rw (two_same ps ns cs, ← q, ← u, ← (ltb-suc r (length ps)), ← (suc-min-suc r (length ps)))
    (ap (λ (k : ℕ). record { answer = given k (p ∷ ps); numbers = sets (n ∷ ns) 0 (numbers_of k (p ∷ ps)); counts = sets (c ∷ cs) 0 (counts_of k (p ∷ ps)) })
    (sym (suc-min-suc (length ns) (length cs))))

pub list_same : (ps : List Posting) (ns : List ℕ) → fill_list ps ns ≡ list_all ps ns
unfolding fill_list list_all
list_same [] ns = rw (take-nil {A = Posting} (length ns), min-zero (length ns), le-ltb (length ns) 0 (omega arith))
list_same (p ∷ ps) [] = rw (zero-min (suc (length ps)), lt-ltb 0 (suc (length ps)) (omega arith))
list_same (p ∷ ps) (n ∷ ns) =
    let q : sets (n ∷ ns) 0 (numbers_of (suc (length ns)) (p ∷ ps)) ≡ p.number ∷ sets ns 0 (numbers_of (length ns) ps) =
    sets-behind p.number ns 0 (numbers_of (length ns) ps) in
    rw (list_same ps ns, suc-min-suc (length ns) (length ps), ltb-suc (length ns) (length ps))
    (ap (λ (x : List ℕ). record { answer = record { refusal = 0; more = ltb (length ns) (length ps); filled = suc (min (length ns) (length ps)) }; numbers = x }) (sym q))

pub told_same : (n : ℕ) → told n false 0 ≡ refused n
told_same n = refl
