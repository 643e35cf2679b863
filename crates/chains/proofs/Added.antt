-- A part that is added up whatever reports there are: where its last number is at most reports, that is what reading on passes.
-- Assumes nothing.
use Prim.Native.Nat.{ℕ, zero, suc, ◌+◌, ◌≤◌}
use mathlib.Core.Path.{◌≡◌, sym, ◌∙◌}
use mathlib.Core.List.{List}
use mathlib.Core.Logic.{◌⊎◌, inl, inr}
use native.Mathlib.Omega.{arith}
use lib.ListN.{length}
use Rattle.postings.proofs.Laws.{decoded_held}
use Rattle.sums.specs.declared.Sum.{Sum}
use Rattle.sums.specs.Adding.{sum_of, further, add_from, added_to}
use Rattle.sums.proofs.Adding as sums
use Rattle.chains.specs.Parts.{pass_from, passed}
use Rattle.chains.proofs.Passing.{Goes, Stopped, at_end, no_posting, pass_on, pass-stopped}

module _ (part : List ℕ) (reports : ℕ) where
  abbrev add : ℕ → Sum ℕ → Sum ℕ
  add k p = add_from k part (length part) p

  abbrev Case : Sum ℕ → Type 0
  Case p = sums.Adds part (length part) p ⊎ sums.Ends part (length part) p

  stopped : {p : Sum ℕ} → sums.Ends part (length part) p → Stopped part reports reports p
  stopped (sums.at_stop h) = at_end h
  stopped (sums.no_posting e) = no_posting e

  goes : {p : Sum ℕ} (w : sums.Adds part (length part) p) → p.number + w.g ≤ reports
      → Goes part reports reports p (record { gap = w.g; count = w.f; length = w.l })
  goes {p} w h = record {
    before_end = w.before_stop;
    below = omega (arith, (decoded_held _ _ _ _ w.found).gap.0);
    found = w.found;
    in_reports_lem = h;
  }

  -- where the last number is at most reports all are
  passes : (k : ℕ) (p : Sum ℕ) → (add k p).number ≤ reports → pass_from k part reports reports p ≡ add k p
  unfolding pass_from goes
  passes zero p h = sym (sums.add_none part (length part) p)
  passes (suc k) p h = go (sums.adds-or-ends part (length part) p) h (λ q. passes k q)
    where
      go : Case p → (add (suc k) p).number ≤ reports
          → ((q : Sum ℕ) → (add k q).number ≤ reports → pass_from k part reports reports q ≡ add k q)
          → pass_from (suc k) part reports reports p ≡ add (suc k) p
      go (inr e) h ih =
          pass-stopped part reports reports (suc k) (stopped e) ∙ sym (sums.add-ends part (length part) (suc k) e)
      go (inl w) h ih =
          let q = further p w.g w.l in
          let e = sums.add-on part (length part) k w in
          let i : (add k q).number ≤ reports = rw (sym e) h in
          pass_on part reports reports k (goes w (omega (arith, sums.add_grows part (length part) k q, i))) ∙ ih q i ∙ sym e

pub added_passed : (part : List ℕ) (reports at number : ℕ) → (added_to part (length part) (sum_of at number)).number ≤ reports
    → added_to part (length part) (sum_of at number) ≡ passed part reports at number reports
unfolding passed
added_passed part reports at number h =
    let e = sums.added_is part (length part) (sum_of at number) in e ∙ sym (passes part reports (length part) (sum_of at number) (rw (← e) h))
