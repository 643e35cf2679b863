-- Reading on in a part: it goes on exactly where a posting can be passed, and stops where none can.
-- Assumes nothing.
use Prim.Native.Nat.{ℕ, zero, suc, ◌+◌, ◌≤◌, ◌<◌}
use mathlib.Core.Path.{◌≡◌, refl, sym, ◌∙◌}
use mathlib.Core.Bool.{Bool, true, false, cond, ◌&&◌}
use mathlib.Core.List.{List}
use Rattle.std.specs.Prelude.{Option, Some, None}
use mathlib.Core.Logic.{◌⊎◌, inl, inr}
use native.Mathlib.Omega.{arith}
use lib.Dec.{ltb}
use lib.ListN.{length, drop, length-drop}
use borrow.Author.Tests.{lt-ltb, le-ltb, le-leb, lt-leb}
use Rattle.basics.proofs.Cases.{by-lt}
use Rattle.postings.specs.Coding.{posting, decoded}
use Rattle.postings.specs.declared.Decoded.{Decoded}
use Rattle.postings.proofs.Laws.{decoded-within}
use Rattle.sums.specs.Adding.{Bounded}
use Rattle.sums.proofs.Adding.{bounded_here, bounded_on}
use Rattle.sums.specs.Adding.{further}
use Rattle.chains.specs.Parts.{Passed, onward, pass_from, passed, opened, part_read}

cond_same : (x : Bool) (p : Passed) → cond x p p ≡ p
cond_same true p = refl
cond_same false p = refl

-- posting d can be passed: its number is at most reports
pub record Goes (part : List ℕ) (reports to : ℕ) (p : Passed) (d : Decoded) : Type 0 where
  pub before_end : p.at < length part
  pub below : p.number < to
  pub found : decoded (drop p.at part) ≡ Some d
  pub in_reports_lem : p.number + d.gap ≤ reports

-- none can: the part's end, a number at or past `to`, no posting, or one over reports
pub data Stopped (part : List ℕ) (reports to : ℕ) (p : Passed) : Type 0 where
  at_end : length part ≤ p.at → Stopped part reports to p
  arrived : to ≤ p.number → Stopped part reports to p
  no_posting : decoded (drop p.at part) ≡ None → Stopped part reports to p
  over : {d : Decoded} → decoded (drop p.at part) ≡ Some d → reports < p.number + d.gap → Stopped part reports to p

-- a loop on its way: from p on it ends where it was to end from p₀ on, and k more postings are enough
pub record Going (part : List ℕ) (reports to : ℕ) (p₀ p : Passed) : Type 0 where
  pub k : ℕ
  pub enough : length part ≤ p.at + k
  pub is : pass_from (length part) part reports to p₀ ≡ pass_from k part reports to p

module _ (part : List ℕ) (reports to : ℕ) where
  -- one of the two
  abbrev Turn : Passed → Type 0
  Turn p = ((d : Decoded) × Goes part reports to p d) ⊎ Stopped part reports to p

  goes_or_stops : (p : Passed) → Turn p
  goes_or_stops p =
      by-lt p.at (length part)
      (λ h. by-lt p.number to (λ b. go (decoded (drop p.at part)) refl h b) (λ b. inr (arrived b)))
      (λ h. inr (at_end h))
    where
      go : (x : Option Decoded) → decoded (drop p.at part) ≡ x → p.at < length part → p.number < to → Turn p
      go None e h b = inr (no_posting e)
      go (Some d) e h b =
          by-lt reports (p.number + d.gap) (λ u. inr (over e u))
          (λ u. inl (d, record { before_end = h; below = b; found = e; in_reports_lem = u }))

  -- a posting that is passed takes at least one byte, and lies in the part
  pub goes_within : {p : Passed} {d : Decoded} → Goes part reports to p d → (0 < d.length) × (p.at + d.length ≤ length part)
  goes_within {p} w =
      let d = decoded-within (drop p.at part) w.found in
      omega (arith, w.before_end, d.0, simp length-drop at d.1)

  pub pass_on : (k : ℕ) {p : Passed} {d : Decoded} → Goes part reports to p d
      → pass_from (suc k) part reports to p ≡ pass_from k part reports to (further p d.gap d.length)
  unfolding pass_from onward
  pass_on k {p} {d} w =
      rw (lt-ltb p.at (length part) w.before_end, lt-ltb p.number to w.below, w.found, le-leb (p.number + d.gap) reports w.in_reports_lem)

  pub pass-stopped : (k : ℕ) {p : Passed} → Stopped part reports to p → pass_from k part reports to p ≡ p
  unfolding pass_from onward
  pass-stopped zero s = refl
  pass-stopped (suc k) {p} (at_end h) = rw (le-ltb p.at (length part) h)
  pass-stopped (suc k) {p} (arrived h) =
      by-lt p.at (length part) (λ u. rw (lt-ltb p.at (length part) u, le-ltb p.number to h)) (λ u. rw (le-ltb p.at (length part) u))
  pass-stopped (suc k) {p} (no_posting e) = rw e (cond_same (ltb p.at (length part) && ltb p.number to) p)
  pass-stopped (suc k) {p} (over {d} e h) =
      rw (e, lt-leb (p.number + d.gap) reports h) (cond_same (ltb p.at (length part) && ltb p.number to) p)

  -- what holds of p and is kept by each posting passed holds behind all of them
  pub pass-keeps : (P : Passed → Type 0) → ((p : Passed) (d : Decoded) → Goes part reports to p d → P p → P (further p d.gap d.length)) → (k : ℕ) (p : Passed) → P p
      → P (pass_from k part reports to p)
  unfolding pass_from
  pass-keeps P f zero p h = h
  pass-keeps P f (suc k) p h = go (goes_or_stops p) (λ q. pass-keeps P f k q)
    where
      go : Turn p → ((q : Passed) → P q → P (pass_from k part reports to q)) → P (pass_from (suc k) part reports to p)
      go (inl (d, w)) ih = rw (pass_on k w) (ih (further p d.gap d.length) (f p d w h))
      go (inr s) ih = rw (pass-stopped (suc k) s) h

  -- where it stops none can be passed: it does not stop early
  pub pass-stops : (k : ℕ) (p : Passed) → length part ≤ p.at + k → Stopped part reports to (pass_from k part reports to p)
  unfolding pass_from
  pass-stops zero p h = at_end (omega arith)
  pass-stops (suc k) p h = go (goes_or_stops p) (λ q. pass-stops k q)
    where
      go : Turn p → ((q : Passed) → length part ≤ q.at + k → Stopped part reports to (pass_from k part reports to q)) → Stopped part reports to (pass_from (suc k) part reports to p)
      go (inl (d, w)) ih = rw (pass_on k w) (ih (further p d.gap d.length) (omega (arith, (goes_within w).0)))
      go (inr s) ih = rw (pass-stopped (suc k) s) s

  pub going_start : (p : Passed) → Going part reports to p p
  going_start p = record { k = length part; enough = omega arith; is = refl }

  pub going_on : {p₀ p : Passed} {d : Decoded} → Going part reports to p₀ p → Goes part reports to p d → Going part reports to p₀ (further p d.gap d.length)
  going_on {p₀} {p} {d} v w = go v.k v.enough v.is
    where
      go : (k : ℕ) → length part ≤ p.at + k → pass_from (length part) part reports to p₀ ≡ pass_from k part reports to p
          → Going part reports to p₀ (further p d.gap d.length)
      go zero h e = absurd (omega (arith, w.before_end))
      go (suc k) h e = record { k = k; enough = omega (arith, (goes_within w).0); is = e ∙ pass_on k w }

  pub going_ends : {p₀ p : Passed} → Going part reports to p₀ p → Stopped part reports to p → p ≡ pass_from (length part) part reports to p₀
  going_ends v s = sym (v.is ∙ pass-stopped v.k s)

pub passed-stops : (part : List ℕ) (reports at number to : ℕ) → Stopped part reports to (passed part reports at number to)
unfolding passed
passed-stops part reports at number to = pass-stops part reports to (length part) (record { at = at; number = number; postings = 0 }) (omega arith)

-- whatever reports there are, as long as no number of the part is over them
module _ (part : List ℕ) (reports more to : ℕ) where
  pass_known : (k : ℕ) (p : Passed) → Bounded part reports p.at p.number → Bounded part more p.at p.number
      → pass_from k part reports to p ≡ pass_from k part more to p
  unfolding pass_from
  pass_known zero p b d = refl
  pass_known (suc k) p b d = go (goes_or_stops part reports to p) (λ q. pass_known k q)
    where
      stays : Stopped part reports to p → Stopped part more to p
      stays (at_end h) = at_end h
      stays (arrived h) = arrived h
      stays (no_posting e) = no_posting e
      stays (over e h) =
          by-lt p.at (length part) (λ u. absurd (omega (arith, bounded_here (bounded_on b u e), h))) (λ u. at_end u)

      go : Turn part reports to p
          → ((q : Passed) → Bounded part reports q.at q.number → Bounded part more q.at q.number → pass_from k part reports to q ≡ pass_from k part more to q)
          → pass_from (suc k) part reports to p ≡ pass_from (suc k) part more to p
      go (inl (m, w)) ih =
          let c = bounded_on d w.before_end w.found in
          let v : Goes part more to p m
          = record { before_end = w.before_end; below = w.below; found = w.found; in_reports_lem = bounded_here c } in
          pass_on part reports to k w ∙ ih (further p m.gap m.length) (bounded_on b w.before_end w.found) c ∙ sym (pass_on part more to k v)
      go (inr s) ih = pass-stopped part reports to (suc k) s ∙ sym (pass-stopped part more to (suc k) (stays s))

  pub passed_known : (at number : ℕ) → Bounded part reports at number → Bounded part more at number
      → passed part reports at number to ≡ passed part more at number to
  unfolding passed
  passed_known at number b d = pass_known (length part) (record { at = at; number = number; postings = 0 }) b d

-- ---- a part from its first posting on

module _ (part : List ℕ) (reports base : ℕ) where
  module _ {g f l : ℕ} (e : decoded part ≡ posting g f l) where
    pub read_some : base + g ≤ reports → part_read part reports base ≡ Some (record { first = base + g; rest = passed part reports l (base + g) reports })
    unfolding part_read opened
    read_some h = rw (e, le-leb (base + g) reports h)

    pub read-over : reports < base + g → part_read part reports base ≡ None
    unfolding part_read opened
    read-over h = rw (e, lt-leb (base + g) reports h)

  pub read_none : decoded part ≡ None → part_read part reports base ≡ None
  unfolding part_read opened
  read_none e = rw e
