-- Steps within a block's part: what is decoded at the front of its bytes is the cursor's step there.
-- Assumes nothing.
use Prim.Native.Nat.{ℕ, suc, ◌+◌, ◌-◌, ◌≤◌, ◌<◌}
use mathlib.Core.Path.{◌≡◌, refl, sym, ap, ◌∙◌}
use mathlib.Core.Bool.{Bool, true, false, ◌||◌}
use mathlib.Core.List.{List, ◌∷◌}
use Rattle.std.specs.Prelude.{Option, Some, None}
use native.Mathlib.Omega.{arith}
use native.Mathlib.Numerals.{add-one}
use native.Mathlib.Nat.{add_assoc, add-zero}
use lib.Dec.{leb, eqb}
use lib.ListN.{length, get_or, take, drop, length-drop, drop_of_length-le}
use lib.Seq.{take-nil, drop-cons, drop-drop}
use borrow.Author.Tests.{lt-leb, eq-eqb, ne_eqb, leb-true, eqb-true}
use Rattle.basics.proofs.Cases.{by-lt, by-eq}
use Rattle.postings.specs.Coding.{posting, decoded}
use Rattle.postings.specs.declared.Decoded.{Decoded}
use Rattle.postings.proofs.Laws.{decoded_held, decoded-within, decoded-nil, decoded_null}
use Rattle.blocks.specs.Fields.{block_size, link_size, place, link_of, part_of}
use Rattle.blocks.proofs.Fields.{drop-part, length-part}
use Rattle.sums.specs.Adding.{sum_of, further, Bounded}
use Rattle.sums.proofs.Adding.{bounded_by, bounded_here, bounded_on}
use Rattle.chains.specs.declared.Cursor.{Cursor}
use Rattle.chains.specs.Chains.{stepped, damage, part_end, part_at, exhausted, given, read_at, entered, next_block, step_at, Follows}
use Rattle.chains.specs.Parts.{Passed, passed, moved_to, passed_to, StepsIn, InPart, Known}
use Rattle.chains.proofs.Steps.{part_end_le, part_end_ge, not-exhausted, part_within, decoded_past, given-none, given-over, given-at, given_is, read_gave, next-none, next_out, next-at, step_empty, step_end, step_next, step_here, step_on}
use Rattle.chains.proofs.Laws.{step_follows}
use Rattle.chains.proofs.Passing.{Goes, Stopped, at_end, arrived, no_posting, over, pass-keeps}
use Rattle.blocks.proofs.Sizes.{bounds}

-- nothing is decoded at a null byte
part_null : (a : List ℕ) (b at to : ℕ) → get_or a (place b + at) 0 ≡ 0 → decoded (part_of a b at to) ≡ None
unfolding part_of
part_null a b at to z =
    by-lt at to
    (λ h.
    by-lt (place b + at) (length a)
    (λ i.
    let s = take (to - (at + 1)) (drop (suc (place b + at)) a) in
    let k : to - at ≡ suc (to - (at + 1)) = omega arith in
    let q : part_of a b at to ≡ 0 ∷ s = rw (k, drop-cons a (place b + at) 0 i, z) in
    ap decoded q ∙ decoded_null s)
    (λ i. rw (drop_of_length-le a i, take-nil) decoded-nil))
    (decoded_past a b at to)

-- where a part is read to its end nothing is decoded
exhausted-none : (a : List ℕ) (c : Cursor) → exhausted a c ≡ true → decoded (part_at a c) ≡ None
unfolding exhausted part_end
exhausted-none a c e =
    by-eq c.block c.tail
    (λ p. rw (eq-eqb c.block c.tail p) (decoded_past a c.block c.at c.end (leb-true c.end c.at (rw (eq-eqb c.block c.tail p) at e))))
    (λ n.
    let f : leb block_size c.at || eqb (get_or a (place c.block + c.at) 0) 0 ≡ true = rw (ne_eqb c.block c.tail n) at e in
    rw (ne_eqb c.block c.tail n)
    (by-lt c.at block_size
    (λ h. part_null a c.block c.at block_size (eqb-true _ 0 (rw (lt-leb block_size c.at h) at f)))
    (λ h. decoded_past a c.block c.at block_size h)))

-- where a posting stands it is not
pub unread : (a : List ℕ) (c : Cursor) {g f l : ℕ} → decoded (part_at a c) ≡ posting g f l → exhausted a c ≡ false
unread a c e = go (exhausted a c) refl
  where
    go : (x : Bool) → exhausted a c ≡ x → x ≡ false
    go false q = refl
    go true q = cc (exhausted-none a c q)

-- before the first posting of a head a cursor's step is to read it
pub step_first : (a : List ℕ) (used reports : ℕ) (c : Cursor) → c.first ≡ 0 → step_at a used reports c ≡ read_at a reports c 0
unfolding read_at
step_first a used reports c z = go (exhausted a c) refl
  where
    go : (x : Bool) → exhausted a c ≡ x → step_at a used reports c ≡ read_at a reports c 0
    go false e = step_here a used reports c e ∙ rw (eq-eqb c.first 0 z)
    go true e = step_empty a used reports c e z ∙ sym (ap (given reports c 0) (exhausted-none a c e) ∙ given-none reports c 0)

pub in_part_more : {a : List ℕ} {reports : ℕ} {c : Cursor} → InPart a reports c → (more : ℕ) → reports ≤ more → InPart a more c
in_part_more w more h = record { inside = w.inside; end_in = w.end_in; at_in = w.at_in; begun = w.begun; number_in = omega (arith, w.number_in) }

-- the bytes behind a posting bound its number as those with it do
pub bounded_next : {s : List ℕ} {reports n g f l : ℕ} → Bounded s reports 0 n → decoded s ≡ posting g f l → Bounded (drop l s) reports 0 (n + g)
bounded_next {s} {reports} {n} {g} {f} {l} b e =
    bounded_by (drop l s) reports (λ at m. Bounded s reports (l + at) m) (λ at m x. bounded_here x)
    (λ at m g f i x h q. rw add_assoc at (bounded_on x (omega (arith, h, length-drop l s)) (ap decoded (sym (drop-drop at l s)) ∙ q)))
    (let w = decoded-within s e in let z : 0 + l ≡ l + 0 = omega arith in rw z at (bounded_on b (omega arith) e))

-- ---- a posting at the front of what a cursor behind its block's first posting has before it
module _ {a : List ℕ} {reports : ℕ} {c : Cursor} (w : InPart a reports c) {g f l : ℕ} (e : decoded (part_at a c) ≡ posting g f l) where
  before_end : c.at < part_end c c.block
  before_end = by-lt c.at (part_end c c.block) (λ h. h) (λ h. cc (decoded_past a c.block c.at (part_end c c.block) h))

  pub part_over : (used : ℕ) → reports < c.number + g → step_at a used reports c ≡ damage
  unfolding read_at
  part_over used h = step_on a used reports c (unread a c e) w.begun ∙ ap (given reports c c.number) e ∙ given-over reports c c.number g f l h

  -- the cursor behind it
  module _ {at n : ℕ} (p : at ≡ c.at + l) (q : n ≡ c.number + g) where
    pub known_on : Known a reports c → Known a reports (moved_to c at n)
    unfolding part_end
    known_on b = rw (p, q, ← drop-part a c.block c.at l (part_end c c.block)) (bounded_next b e)

    pub part_step : n ≤ reports → StepsIn a reports c n f (moved_to c at n)
    unfolding read_at
    part_step h used =
        step_on a used reports c (unread a c e) w.begun
        ∙ ap (given reports c c.number) e
        ∙ given-at reports c c.number g f l (omega (arith, (decoded_held _ g f l e).gap.0)) (omega arith)
        ∙ rw (p, q, ne_eqb c.first 0 (λ z. omega (arith, w.begun)))

    pub part_on : n ≤ reports → InPart a reports (moved_to c at n)
    unfolding part_end
    part_on h = record {
      inside = w.inside;
      end_in = w.end_in;
      at_in = omega (arith, part_within a c.block c.at (part_end c c.block) g f l e, before_end);
      begun = w.begun;
      number_in = h;
    }

-- ---- behind a posting

-- the cursor behind a posting stands in its part, and the block has a first number
record Behind (c : Cursor) : Type 0 where
  at_in : c.at ≤ part_end c c.block
  begun : 0 < c.first

read_behind : (a : List ℕ) (reports : ℕ) (c : Cursor) (base n f : ℕ) (c' : Cursor) → c.at ≤ part_end c c.block → read_at a reports c base ≡ stepped n f c' → Behind c'
unfolding read_at part_end
read_behind a reports c base n f c' h e = go (decoded (part_at a c)) refl e
  where
    go : (x : Option Decoded) → decoded (part_at a c) ≡ x → given reports c base x ≡ stepped n f c' → Behind c'
    go None q e = cc (given-none reports c base)
    go (Some d) q e =
        let v = given_is reports c base d.gap d.count d.length n f c' e in
        rw (← v.past_it)
        (record {
          at_in = omega (arith, part_within a c.block c.at (part_end c c.block) d.gap d.count d.length q);
          begun = by-eq c.first 0 (λ z. rw (eq-eqb c.first 0 z) (omega (arith, v.ascends))) (λ z. rw (ne_eqb c.first 0 z) (omega arith));
        })

-- behind a posting that was read a cursor stands in its part
pub read_in_part : (a : List ℕ) (used reports : ℕ) (c : Cursor) (base n f : ℕ) (c' : Cursor) → Follows a used c → c.at ≤ part_end c c.block
    → read_at a reports c base ≡ stepped n f c' → InPart a reports c'
read_in_part a used reports c base n f c' w h e =
    let g = read_gave a reports c base n f c' e in
    let b : Behind c' = read_behind a reports c base n f c' h e in
    record {
      inside = rw g.block (omega (arith, bounds, w.inside, w.in_use));
      end_in = rw g.end w.end_in;
      at_in = b.at_in;
      begun = b.begun;
      number_in = omega (arith, g.number, g.within);
    }

module _ (a : List ℕ) (used reports : ℕ) (c : Cursor) {n f : ℕ} {c' : Cursor} (h : link_size ≤ c.end) where
  next-behind : next_block a used reports c ≡ stepped n f c' → Behind c'
  unfolding entered
  next-behind e =
      by-eq c.left 0
      (λ p. cc (next-none a used reports c p))
      (λ p.
      by-lt (link_of a c.block) used
      (λ u.
      let b = link_of a c.block in
      read_behind a reports (entered c b) c.first n f c' (part_end_ge (entered c b) b link_size h (omega (arith, bounds))) (sym (next-at a used reports c b refl p u) ∙ e))
      (λ u. cc (next_out a used reports c u)))

  step_behind : step_at a used reports c ≡ stepped n f c' → Behind c'
  step_behind e = go (exhausted a c) refl
    where
      go : (x : Bool) → exhausted a c ≡ x → Behind c'
      go false q = read_behind a reports c _ n f c' (omega (arith, not-exhausted a c q)) (sym (step_here a used reports c q) ∙ e)
      go true q =
          by-eq c.first 0
          (λ p. cc (step_empty a used reports c q p))
          (λ p.
          by-eq c.block c.tail
          (λ r. cc (step_end a used reports c q p r))
          (λ r. next-behind (sym (step_next a used reports c q p r) ∙ e)))

  -- behind a posting a cursor stands in its part
  pub step_part : Follows a used c → step_at a used reports c ≡ stepped n f c' → InPart a reports c'
  step_part w e =
      let s = step_follows a used reports c e in
      let v = s.follows w in
      let b : Behind c' = step_behind e in
      record {
        inside = omega (arith, bounds, v.inside, v.in_use);
        end_in = v.end_in;
        at_in = b.at_in;
        begun = b.begun;
        number_in = omega (arith, s.number, s.within);
      }

-- ---- several steps

-- cursor c' stands k postings behind c in the same part, and the numbers before it are below `to`
pub data Within (a : List ℕ) (reports to : ℕ) : Cursor → ℕ → Cursor → Type 0 where
  here : {c : Cursor} → Within a reports to c 0 c
  on : {c c₁ c₂ : Cursor} {k n f : ℕ} → Within a reports to c k c₁ → c₁.number < to → StepsIn a reports c₁ n f c₂
      → Within a reports to c (suc k) c₂

-- numbers never go back
pub within-number : {a : List ℕ} {reports to : ℕ} {c c' : Cursor} {k : ℕ} → Within a reports to c k c' → c.number ≤ c'.number
within-number here = omega arith
within-number {a} {reports} (on v b e) =
    let t = step_follows a 0 reports _ (e 0) in omega (arith, within-number v, t.number, t.ascends)

-- reading on over the bytes of a part, from an offset in it on, as the cursor's steps
module _ {a : List ℕ} {reports : ℕ} {c : Cursor} (w : InPart a reports c) (to from : ℕ) where
  abbrev e : ℕ
  e = part_end c c.block

  abbrev part : List ℕ
  part = part_of a c.block from e

  -- the cursor behind what is passed
  abbrev m : Passed → Cursor
  m p = moved_to c (from + p.at) p.number

  ahead : (p : Passed) → part_at a (m p) ≡ drop p.at part
  unfolding part_end
  ahead p = sym (drop-part a c.block from p.at e)

  abbrev On : Passed → Type 0
  On p = InPart a reports (m p) × Within a reports to c p.postings (m p)

  on_further : (p : Passed) (d : Decoded) → Goes part reports to p d → On p → On (further p d.gap d.length)
  on_further p d v (i, x) =
      let q : decoded (part_at a (m p)) ≡ Some d = ap decoded (ahead p) ∙ v.found in
      let s : from + (p.at + d.length) ≡ from + p.at + d.length = omega arith in
      (part_on i q s refl v.in_reports_lem, rw add-one (on x v.below (part_step i q s refl v.in_reports_lem)))

  -- what is passed are steps of the cursor
  pub passed-within : (at : ℕ) → c.at ≡ from + at → On (passed part reports at c.number to)
  unfolding passed
  passed-within at s =
      pass-keeps part reports to On on_further (length part) (sum_of at c.number) (rw (← s) (w, here))

  -- where reading on up to reports stops before the part's end, the cursor's step is damage
  pub stopped_damage : (used : ℕ) (p : Passed) → reports ≤ to → Stopped part reports to p → exhausted a (m p) ≡ false → step_at a used reports (m p) ≡ damage
  unfolding read_at part_end
  stopped_damage used p r s h = go (decoded (drop p.at part)) refl s
    where
      found : (x : Option Decoded) → decoded (drop p.at part) ≡ x → step_at a used reports (m p) ≡ given reports (m p) p.number x
      found x q = step_on a used reports (m p) h w.begun ∙ ap (given reports (m p) p.number) (ap decoded (ahead p) ∙ q)

      over_all : (d : Decoded) → decoded (drop p.at part) ≡ Some d → reports < p.number + d.gap → step_at a used reports (m p) ≡ damage
      over_all d q k = found (Some d) q ∙ given-over reports (m p) p.number d.gap d.count d.length k

      go : (x : Option Decoded) → decoded (drop p.at part) ≡ x → Stopped part reports to p → step_at a used reports (m p) ≡ damage
      go None q k = found None q ∙ given-none reports (m p) p.number
      go (Some d) q (at_end k) =
          absurd (omega (arith, not-exhausted a (m p) h, length-part a c.block from e (omega (arith, w.inside, part_end_le c c.block w.end_in))))
      go (Some d) q (arrived k) = over_all d q (omega (arith, (decoded_held _ d.gap d.count d.length q).gap.0))
      go (Some d) q (no_posting k) = cc
      go (Some d) q (over k u) = over_all _ k u

-- what is passed of the cursor's part
pub passed_to_lem : {a : List ℕ} {reports : ℕ} {c : Cursor} → InPart a reports c → (to : ℕ)
    → (k : ℕ) × InPart a reports (passed_to a reports c to) × Within a reports to c k (passed_to a reports c to)
unfolding passed_to
passed_to_lem {a} {reports} {c} w to =
    let v = passed-within w to c.at 0 (sym (add-zero c.at)) in ((passed (part_at a c) reports 0 c.number to).postings, v.0, v.1)
