-- The listing calls answer as the ledger does, on a memory in which every term reads as the ledger's postings of it.
-- Assumes nothing.
use mathlib.Core.Path.{◌≡◌, refl, sym, ap, ◌∙◌}
use mathlib.Core.Bool.{false}
use mathlib.Core.List.{List, [], ◌∷◌, map}
use Prim.Native.Nat.{ℕ}
use native.Mathlib.Omega.{arith}
use lib.Dec.{ltb, eqb}
use lib.ListN.{length}
use borrow.Author.Tests.{eqb-false, eq-eqb, ne_eqb}
use Rattle.basics.specs.Lists.{any}
use Rattle.basics.proofs.Cases.{by-eq}
use Rattle.basics.proofs.Lists.{or_left, or_right}
use Rattle.frames.specs.Refusals.{◌if◌}
use Rattle.frames.specs.Frames.{first_term, terms, folded_at, passes_end, wrong_terms, query_rows, query_refusal, query_start, query_terms}
use Rattle.frames.proofs.Refusals.{first-empty, first_passes, first_some, first-none}
use Rattle.frames.proofs.Laws.{SoundQuery, sound_query, query_numbered}
use Rattle.chains.specs.Chains.{whole, is_whole}
use Rattle.counters.specs.Counters.{Memory, wrong_counters}
use Rattle.query.specs.Listing.{read_term, postings_in, damaged_terms, list_rows, list_refusal, common, matches, list_one_call, list_all_call}
use Rattle.query.specs.Listing as query
use Rattle.ledger.specs.Ledger.{Report, postings_of, listed}
use Rattle.ledger.specs.Calls.{ledger_one, ledger_all}
use Rattle.ledger.proofs.Words.{named_same, start_same, two_same, list_same}
use Rattle.ledger.proofs.Listing.{Distinct, common-listed}

-- every term reads as its postings, and no report names a term twice
pub record Reads (m : Memory) (rs : List Report) : Type 0 where
  pub right : wrong_counters m.arena m.table m.counters ≡ false
  pub reads : (w : List ℕ) → read_term m w ≡ whole (postings_of rs w)
  pub distinct : Distinct rs

-- a sound query names at least one term
some-term : (most : ℕ) (f : List ℕ) → wrong_terms most f ≡ false → length (terms f) ≡ 0 → ⊥
unfolding wrong_terms
some-term most f e =
    let b = or_right (ltb (length f) first_term) _ e in
    let d = or_right (passes_end 0 f first_term) _ b in
    eqb-false (length (terms f)) 0 (or_left (eqb (length (terms f)) 0) _ d)

module _ {m : Memory} {rs : List Report} (h : Reads m rs) (f : List ℕ) where
  -- none of the terms is damaged
  none-damaged : (ws : List (List ℕ)) → damaged_terms m ws ≡ false
  unfolding damaged_terms any is_whole
  none-damaged [] = refl
  none-damaged (w ∷ ws) = rw (h.reads w) (none-damaged ws)

  -- and their postings are the ledger's
  all_read : (ws : List (List ℕ)) → map (query.postings_of m) ws ≡ map (postings_of rs) ws
  unfolding query.postings_of postings_in
  all_read [] = refl
  all_read (w ∷ ws) = rw (h.reads w, all_read ws)

  -- refusals 8 and 10 do not come
  pub refusal_agrees : (k most : ℕ) → list_refusal k most m f ≡ query_refusal k most f
  unfolding list_refusal list_rows query_refusal query_terms
  refusal_agrees k most =
      by-eq (query_refusal k most f) 0
      (λ z. first-none _ (query_numbered k most f) z
      ∙ first_passes (8 if wrong_counters m.arena m.table m.counters) _ h.right
      ∙ first_passes (10 if damaged_terms m (map (folded_at f) (terms f))) [] (none-damaged (map (folded_at f) (terms f)))
      ∙ first-empty
      ∙ sym z)
      (λ n. first_some (query_rows k most f) _ (omega arith))

  -- the reports listed are the ledger's
  common_agrees : (start : ℕ) (ats : List ℕ) → (length ats ≡ 0 → ⊥)
      → common start (map (query.postings_of m) (map (folded_at f) ats)) ≡ listed rs start (map (folded_at f) ats)
  common_agrees start [] n = absurd (n refl)
  common_agrees start (at ∷ ats) n =
      ap (common start) (all_read (map (folded_at f) (at ∷ ats))) ∙ common-listed start (folded_at f at) (map (folded_at f) ats) h.distinct

  pub matches_agree : (k most : ℕ) → query_refusal k most f ≡ 0 → matches m f ≡ listed rs (query_start f) (query_terms f)
  unfolding matches query_terms
  matches_agree k most z =
      let s : SoundQuery most f = sound_query k most f z in
      common_agrees (query_start f) (terms f) (some-term most f s.right)

  -- the calls
  pub one_agrees : (numbers counts : List ℕ) → list_one_call m f numbers counts ≡ ledger_one rs f numbers counts
  unfolding list_one_call ledger_one
  one_agrees numbers counts =
      by-eq (query_refusal 2 1 f) 0
      (λ z. rw (refusal_agrees 2 1, eq-eqb (query_refusal 2 1 f) 0 z, matches_agree 2 1 z, start_same f, named_same f, two_same))
      (λ n. rw (refusal_agrees 2 1, ne_eqb (query_refusal 2 1 f) 0 n))

  pub all_agrees : (numbers : List ℕ) → list_all_call m f numbers ≡ ledger_all rs f numbers
  unfolding list_all_call ledger_all
  all_agrees numbers =
      by-eq (query_refusal 3 8 f) 0
      (λ z. rw (refusal_agrees 3 8, eq-eqb (query_refusal 3 8 f) 0 z, matches_agree 3 8 z, start_same f, named_same f, list_same))
      (λ n. rw (refusal_agrees 3 8, ne_eqb (query_refusal 3 8 f) 0 n))
