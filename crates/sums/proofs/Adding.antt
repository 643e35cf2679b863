-- Adding up goes on exactly where a posting starts before the offset to stop at, and what is added up in two parts is what is added up in one.
-- Assumes nothing.
use Prim.Native.Nat.{ℕ, zero, suc, ◌+◌, ◌≤◌, ◌<◌}
use mathlib.Core.Path.{◌≡◌, refl, sym, ap, ◌∙◌}
use mathlib.Core.Bool.{Bool, true, false, cond}
use mathlib.Core.List.{List}
use mathlib.Core.Logic.{◌⊎◌, inl, inr}
use native.Mathlib.Omega.{arith}
use lib.Dec.{ltb}
use lib.ListN.{length, drop, length-drop}
use borrow.Author.Tests.{lt-ltb, le-ltb}
use Rattle.basics.proofs.Cases.{by-lt}
use Rattle.std.specs.Prelude.{Option, Some, None}
use Rattle.postings.specs.Coding.{posting, decoded}
use Rattle.postings.specs.declared.Decoded.{Decoded}
use Rattle.postings.proofs.Laws.{decoded_held, decoded-within}
use Rattle.sums.specs.declared.Sum.{Sum}
use Rattle.sums.specs.Adding.{sum_of, further, add_one, add_from, added_to, Completes, Bounded}

cond_same : (x : Bool) (p : Sum ℕ) → cond x p p ≡ p
cond_same true p = refl
cond_same false p = refl

-- a posting starts before the offset to stop at
pub record Adds (part : List ℕ) (stop : ℕ) (p : Sum ℕ) : Type 0 where
  pub g : ℕ
  pub f : ℕ
  pub l : ℕ
  pub before_stop : p.at < stop
  pub found : decoded (drop p.at part) ≡ posting g f l

-- none does
pub data Ends (part : List ℕ) (stop : ℕ) (p : Sum ℕ) : Type 0 where
  at_stop : stop ≤ p.at → Ends part stop p
  no_posting : decoded (drop p.at part) ≡ None → Ends part stop p

-- a posting that is found has a gap of 32 bits, takes a byte or more and lies within the part
pub record Sized (part : List ℕ) (at : ℕ) (d : Decoded) : Type 0 where
  pub gap_in : d.gap < 4294967296
  pub byte : 0 < d.length
  pub within : at + d.length ≤ length part

pub sized : (part : List ℕ) (at : ℕ) (d : Decoded) → at < length part → decoded (drop at part) ≡ Some d → Sized part at d
sized part at d h e =
    let w = decoded-within (drop at part) e in
    let g = (decoded_held (drop at part) d.gap d.count d.length e).gap in
    record { gap_in = omega arith; byte = w.0; within = omega (arith, simp length-drop at w.1) }

module _ (part : List ℕ) (stop : ℕ) where
  pub adds-or-ends : (p : Sum ℕ) → Adds part stop p ⊎ Ends part stop p
  adds-or-ends p = by-lt p.at stop (λ h. go (decoded (drop p.at part)) refl h) (λ h. inr (at_stop h))
    where
      go : (x : Option Decoded) → decoded (drop p.at part) ≡ x → p.at < stop → Adds part stop p ⊎ Ends part stop p
      go None e h = inr (no_posting e)
      go (Some d) e h = inl (record { g = d.gap; f = d.count; l = d.length; before_stop = h; found = e })

  pub add-on : (k : ℕ) {p : Sum ℕ} (w : Adds part stop p) → add_from (suc k) part stop p ≡ add_from k part stop (further p w.g w.l)
  unfolding add_from add_one
  add-on k {p} w = rw (lt-ltb p.at stop w.before_stop, w.found)

  pub add-ends : (k : ℕ) {p : Sum ℕ} → Ends part stop p → add_from k part stop p ≡ p
  unfolding add_from add_one
  add-ends zero s = refl
  add-ends (suc k) {p} (at_stop h) = rw (le-ltb p.at stop h)
  add-ends (suc k) {p} (no_posting e) = rw e (cond_same (ltb p.at stop) p)

  pub add_none : (p : Sum ℕ) → add_from zero part stop p ≡ p
  unfolding add_from
  add_none p = refl

  pub added_is : (p : Sum ℕ) → added_to part stop p ≡ add_from (length part) part stop p
  unfolding added_to
  added_is p = refl

  -- a posting takes at least one byte
  pub adds_byte : {p : Sum ℕ} (w : Adds part stop p) → 0 < w.l
  adds_byte {p} w = (decoded-within (drop p.at part) w.found).0

  -- how many postings are allowed does not matter where they are enough
  pub add_enough : (k j : ℕ) (p : Sum ℕ) → stop ≤ p.at + k → stop ≤ p.at + j → add_from k part stop p ≡ add_from j part stop p
  unfolding add_from
  add_enough zero j p h i = sym (add-ends j (at_stop (omega arith)))
  add_enough (suc k) j p h i = go (adds-or-ends p) j i (λ j q. add_enough k j q)
    where
      go : Adds part stop p ⊎ Ends part stop p → (j : ℕ) → stop ≤ p.at + j
          → ((j : ℕ) (q : Sum ℕ) → stop ≤ q.at + k → stop ≤ q.at + j → add_from k part stop q ≡ add_from j part stop q)
          → add_from (suc k) part stop p ≡ add_from j part stop p
      go (inr e) j i ih = add-ends (suc k) e ∙ sym (add-ends j e)
      go (inl w) zero i ih = absurd (omega (arith, w.before_stop))
      go (inl w) (suc j) i ih =
          let l = adds_byte w in
          add-on k w ∙ ih j (further p w.g w.l) (omega arith) (omega arith) ∙ sym (add-on j w)

  pub added_ends : {p : Sum ℕ} → Ends part stop p → added_to part stop p ≡ p
  unfolding added_to
  added_ends e = add-ends (length part) e

  pub added_on : stop ≤ length part → {p : Sum ℕ} (w : Adds part stop p) → added_to part stop p ≡ added_to part stop (further p w.g w.l)
  unfolding added_to
  added_on h {p} w = add_enough (length part) (suc (length part)) p (omega arith) (omega arith) ∙ add-on (length part) w

  -- a posting more completes the sum too, and where none is left it is whole
  pub completes_more : stop ≤ length part → {from p : Sum ℕ} → Completes part stop from p → p.at < stop → {d : Decoded}
      → decoded (drop p.at part) ≡ Some d → Completes part stop from (further p d.gap d.length)
  completes_more h v i {d} e =
      let w = added_on h (record { g = d.gap; f = d.count; l = d.length; before_stop = i; found = e }) in
      record { sum = sym w ∙ v.sum }

  pub completes_all : {from p : Sum ℕ} → Completes part stop from p → Ends part stop p → p ≡ added_to part stop from
  completes_all v e = sym (added_ends e) ∙ v.sum

-- a loop of single steps
pub ruleset by_posting = (sized, completes_more, completes_all)

-- ---- in two parts

module _ (part : List ℕ) (stop end : ℕ) (h : stop ≤ end) (i : end ≤ length part) where
  sooner : {p : Sum ℕ} → Adds part stop p → Adds part end p
  sooner w = record { g = w.g; f = w.f; l = w.l; before_stop = omega (arith, w.before_stop); found = w.found }

  two_parts : (k : ℕ) (p : Sum ℕ) → added_to part end (add_from k part stop p) ≡ added_to part end p
  unfolding add_from sooner
  two_parts zero p = refl
  two_parts (suc k) p = go (adds-or-ends part stop p) (λ q. two_parts k q)
    where
      go : Adds part stop p ⊎ Ends part stop p → ((q : Sum ℕ) → added_to part end (add_from k part stop q) ≡ added_to part end q)
          → added_to part end (add_from (suc k) part stop p) ≡ added_to part end p
      go (inr e) ih = ap (added_to part end) (add-ends part stop (suc k) e)
      go (inl w) ih = ap (added_to part end) (add-on part stop k w) ∙ ih (further p w.g w.l) ∙ sym (added_on part end i (sooner w))

  pub added_in_two : (p : Sum ℕ) → added_to part end (added_to part stop p) ≡ added_to part end p
  added_in_two p = rw (added_is part stop p) (two_parts (length part) p)

  -- so the first part completes the sum
  pub completes_up : {p q : Sum ℕ} → added_to part stop p ≡ q → Completes part end p q
  completes_up {p} e = record { sum = rw (← e) (added_in_two p) }

pub completes_on : {part : List ℕ} {stop : ℕ} {p q r : Sum ℕ} → Completes part stop p q → Completes part stop q r → Completes part stop p r
completes_on v w = record { sum = w.sum ∙ v.sum }

-- a loop of parts
pub ruleset by_part = (completes_up, completes_on)

-- ---- numbers

module _ (part : List ℕ) (stop : ℕ) where
  -- numbers only grow
  pub add_grows : (k : ℕ) (p : Sum ℕ) → p.number ≤ (add_from k part stop p).number
  unfolding add_from add_one
  add_grows zero p = omega arith
  add_grows (suc k) p = go (ltb p.at stop) (decoded (drop p.at part)) (λ q. add_grows k q)
    where
      go : (x : Bool) (y : Option Decoded) → ((q : Sum ℕ) → q.number ≤ (add_from k part stop q).number)
          → p.number ≤ (cond x (add_one (add_from k part stop) p y) p).number
      go false y ih = omega arith
      go true None ih = omega arith
      go true (Some d) ih = omega (arith, ih (further p d.gap d.length))

  -- how many postings were counted before does not matter
  abbrev number_of : ℕ → ℕ → ℕ → ℕ → ℕ
  number_of k at number c = (add_from k part stop (record { at = at; number = number; postings = c })).number

  any-count : (k at number c d : ℕ) → number_of k at number c ≡ number_of k at number d
  unfolding add_from add_one
  any-count zero at number c d = refl
  any-count (suc k) at number c d = go (ltb at stop) (decoded (drop at part)) (λ at number. any-count k at number (c + 1) (d + 1))
    where
      rest : ℕ → Option Decoded → Sum ℕ
      rest c = add_one (add_from k part stop) (record { at = at; number = number; postings = c })

      go : (x : Bool) (y : Option Decoded) → ((at number : ℕ) → number_of k at number (c + 1) ≡ number_of k at number (d + 1))
          → (cond x (rest c y) (record { at = at; number = number; postings = c })).number ≡ (cond x (rest d y) (record { at = at; number = number; postings = d })).number
      go false y ih = refl
      go true None ih = refl
      go true (Some e) ih = ih (at + e.length) (number + e.gap)

-- what bounds the number at every offset that is reached, posting by posting, bounds them all
module _ (part : List ℕ) (reports : ℕ) (P : ℕ → ℕ → Type 0)
    (low : (at n : ℕ) → P at n → n ≤ reports)
    (on : (at n g f l : ℕ) → P at n → at < length part → decoded (drop at part) ≡ posting g f l → P (at + l) (n + g)) where
  sum_by : (fuel at n j : ℕ) → P at n → (add_from fuel part (length part) (record { at = at; number = n; postings = j })).number ≤ reports
  unfolding add_from
  sum_by zero at n j x = low at n x
  sum_by (suc fuel) at n j x = go (adds-or-ends part (length part) p) (λ at n j y. sum_by fuel at n j y)
    where
      p : Sum ℕ
      p = record { at = at; number = n; postings = j }

      go : Adds part (length part) p ⊎ Ends part (length part) p
          → ((at n j : ℕ) → P at n → (add_from fuel part (length part) (record { at = at; number = n; postings = j })).number ≤ reports)
          → (add_from (suc fuel) part (length part) p).number ≤ reports
      go (inr e) ih = rw (add-ends part (length part) (suc fuel) e) (low at n x)
      go (inl w) ih = rw (add-on part (length part) fuel w) (ih (at + w.l) (n + w.g) (j + 1) (on at n w.g w.f w.l x w.before_stop w.found))

  pub bounded_by : {at n : ℕ} → P at n → Bounded part reports at n
  unfolding added_to
  bounded_by {at} {n} x = record { last = sum_by (length part) at n 0 x }

module _ {part : List ℕ} {reports at n : ℕ} (b : Bounded part reports at n) where
  pub bounded_here : n ≤ reports
  unfolding added_to
  bounded_here = omega (arith, b.last, add_grows part (length part) (length part) (sum_of at n))

  -- behind a posting
  pub bounded_on : {g f l : ℕ} → at < length part → decoded (drop at part) ≡ posting g f l → Bounded part reports (at + l) (n + g)
  unfolding added_to
  bounded_on {g} {f} {l} h e =
      let w : Adds part (length part) (sum_of at n) = record { g = g; f = f; l = l; before_stop = h; found = e } in
      let y = added_on part (length part) (omega arith) w in
      record { last = omega (arith, b.last, ap (λ (z : Sum ℕ). z.number) y, any-count part (length part) (length part) (at + l) (n + g) 1 0) }

  pub bounded_more : (more : ℕ) → reports ≤ more → Bounded part more at n
  bounded_more more h = record { last = omega (arith, b.last) }
