-- One step of a cursor, by cases of its tests.
-- Assumes nothing.
use Prim.Native.Nat.{ℕ, ◌+◌, ◌-◌, ◌≤◌, ◌<◌}
use mathlib.Core.Path.{◌≡◌, refl, sym, ap, ◌∙◌}
use mathlib.Core.Bool.{true, false, cond}
use mathlib.Core.List.{List}
use Rattle.std.specs.Prelude.{Option, Some, None}
use native.Mathlib.Omega.{arith}
use lib.Dec.{eqb, leb}
use lib.ListN.{length, take, drop, length-take}
use borrow.Author.Tests.{lt-ltb, le-ltb, le-leb, lt-leb, eq-eqb, ne_eqb, leb-false}
use Rattle.basics.proofs.Cases.{by-lt, by-eq}
use Rattle.basics.proofs.Lists.{or_left}
use Rattle.postings.specs.Coding.{posting, decoded}
use Rattle.postings.proofs.Laws.{decoded-nil, decoded-within}
use Rattle.postings.specs.declared.Decoded.{Decoded}
use Rattle.blocks.specs.Fields.{block_size, place, link_of, part_of}
use Rattle.chains.specs.declared.Cursor.{Cursor}
use Rattle.chains.specs.declared.Step.{Step}
use Rattle.chains.specs.Chains.{stepped, at_end, damage, part_end, part_at, exhausted, past, step_to, given, read_at, entered, next_block, step_at}

-- ---- the end of a block's part

pub part_end_le : (c : Cursor) (b : ℕ) → c.end ≤ block_size → part_end c b ≤ block_size
unfolding part_end
part_end_le c b h = by-eq b c.tail (λ e. rw (eq-eqb b c.tail e) h) (λ n. rw (ne_eqb b c.tail n) (omega arith))

pub part_end_ge : (c : Cursor) (b n : ℕ) → n ≤ c.end → n ≤ block_size → n ≤ part_end c b
unfolding part_end
part_end_ge c b n h k = by-eq b c.tail (λ e. rw (eq-eqb b c.tail e) h) (λ n. rw (ne_eqb b c.tail n) k)

-- a cursor that is not at the end of its part is within it
pub not-exhausted : (a : List ℕ) (c : Cursor) → exhausted a c ≡ false → c.at < part_end c c.block
unfolding exhausted part_end
not-exhausted a c e =
    by-eq c.block c.tail
    (λ p. rw (eq-eqb c.block c.tail p) (leb-false c.end c.at (rw (eq-eqb c.block c.tail p) at e)))
    (λ n. rw (ne_eqb c.block c.tail n) (leb-false block_size c.at (or_left (leb block_size c.at) _ (rw (ne_eqb c.block c.tail n) at e))))

-- ---- the posting at a cursor

-- the part that a slice from `start + at` up to `start + e` is
pub part_is : (a : List ℕ) (b at to start e : ℕ) → start ≡ place b → e ≡ to → take (start + e - (start + at)) (drop (start + at) a) ≡ part_of a b at to
unfolding part_of
part_is a b at to start e p q =
    let k : place b + to - (place b + at) ≡ to - at = omega arith in
    rw (p, q, k)

-- nothing is decoded from the part's end on, and what is decoded ends in the part
pub decoded_past : (a : List ℕ) (b at to : ℕ) → to ≤ at → decoded (part_of a b at to) ≡ None
unfolding part_of
decoded_past a b at to h = let z : to - at ≡ 0 = omega arith in rw z decoded-nil

pub decoded_ends : (s : List ℕ) (d : Decoded) → decoded s ≡ Some d → d.length ≤ length s
decoded_ends s d e = (decoded-within s e).1

-- a posting lies within its part
pub part_within : (a : List ℕ) (b at to g f l : ℕ) → decoded (part_of a b at to) ≡ posting g f l → l ≤ to - at
unfolding part_of
part_within a b at to g f l e = omega (arith, simp length-take at (decoded-within (part_of a b at to) e).1)

module _ (reports : ℕ) (c : Cursor) (base : ℕ) where
  pub given-none : given reports c base None ≡ damage
  unfolding given
  given-none = refl

  module _ (g f l : ℕ) where
    pub given-over : reports < base + g → given reports c base (posting g f l) ≡ damage
    unfolding given step_to
    given-over k = rw (lt-leb (base + g) reports k)

    pub given_low : base + g ≤ c.number → given reports c base (posting g f l) ≡ damage
    unfolding given step_to
    given_low h = by-lt reports (base + g) given-over (λ k. rw (le-leb (base + g) reports k, le-ltb c.number (base + g) h))

    pub given-at : c.number < base + g → base + g ≤ reports
        → given reports c base (posting g f l) ≡ stepped (base + g) f (past c (base + g) l)
    unfolding given step_to
    given-at h k = rw (le-leb (base + g) reports k, lt-ltb c.number (base + g) h)

-- equal steps to a posting have the same number and count, and lead to the same place
pub same_step : {n n' f f' : ℕ} {c c' : Cursor} → stepped n f c ≡ stepped n' f' c' → (n ≡ n') × (f ≡ f') × (c ≡ c')
same_step {n} {n'} {f} {f'} {c} {c'} e =
    let s : ◌≡◌ {A = Step} (record { number = n; count = f; next = c }) (record { number = n'; count = f'; next = c' }) = cc in
    (ap (λ (x : Step). x.number) s, ap (λ (x : Step). x.count) s, ap (λ (x : Step). x.next) s)

-- what a posting's code says that was given for n: its number, the cursor past it, and that numbers ascend up to reports
pub record Given (reports : ℕ) (c : Cursor) (base g l n : ℕ) (c' : Cursor) : Type 0 where
  pub number : base + g ≡ n
  pub past_it : past c (base + g) l ≡ c'
  pub ascends : c.number < base + g
  pub within : base + g ≤ reports

pub given_is : (reports : ℕ) (c : Cursor) (base g f l n f' : ℕ) (c' : Cursor) → given reports c base (posting g f l) ≡ stepped n f' c'
    → Given reports c base g l n c'
given_is reports c base g f l n f' c' e =
    by-lt c.number (base + g)
    (λ h.
    by-lt reports (base + g)
    (λ k. cc (given-over reports c base g f l k))
    (λ k.
    let s = same_step (sym (given-at reports c base g f l h k) ∙ e) in
    record { number = s.0; past_it = s.2; ascends = h; within = k }))
    (λ h. cc (given_low reports c base g f l h))

-- what a posting says that a cursor gave: the cursor past it is in block b of the same chain, and numbers ascend up to reports
pub record Gave (reports : ℕ) (c : Cursor) (b n : ℕ) (c' : Cursor) : Type 0 where
  pub tail : c'.tail ≡ c.tail
  pub end : c'.end ≡ c.end
  pub block : c'.block ≡ b
  pub number : c'.number ≡ n
  pub ascends : c.number < n
  pub within : n ≤ reports

given_gave : (reports : ℕ) (c : Cursor) (base : ℕ) (x : Option Decoded) (n f : ℕ) (c' : Cursor) → given reports c base x ≡ stepped n f c'
    → Gave reports c c.block n c'
given_gave reports c base None n f c' e = cc (given-none reports c base)
given_gave reports c base (Some d) n f c' e =
    let v = given_is reports c base d.gap d.count d.length n f c' e in
    let q = v.past_it in
    record {
      tail = sym (ap (λ (x : Cursor). x.tail) q);
      end = sym (ap (λ (x : Cursor). x.end) q);
      block = sym (ap (λ (x : Cursor). x.block) q);
      number = sym (ap (λ (x : Cursor). x.number) q) ∙ v.number;
      ascends = omega (arith, v.ascends, v.number);
      within = omega (arith, v.within, v.number);
    }

pub read_gave : (a : List ℕ) (reports : ℕ) (c : Cursor) (base n f : ℕ) (c' : Cursor) → read_at a reports c base ≡ stepped n f c'
    → Gave reports c c.block n c'
unfolding read_at
read_gave a reports c base n f c' e = given_gave reports c base (decoded (part_at a c)) n f c' e

-- ---- the next block, and one step

module _ (a : List ℕ) (used reports : ℕ) (c : Cursor) where
  pub next-none : c.left ≡ 0 → next_block a used reports c ≡ damage
  unfolding next_block
  next-none e = rw (eq-eqb c.left 0 e)

  pub next_out : used ≤ link_of a c.block → next_block a used reports c ≡ damage
  unfolding next_block
  next_out h =
      by-eq c.left 0 next-none
      (λ n. rw (ne_eqb c.left 0 n, le-leb used (link_of a c.block) h))

  pub next-at : (b : ℕ) → b ≡ link_of a c.block → (c.left ≡ 0 → ⊥) → b < used
      → next_block a used reports c ≡ read_at a reports (entered c b) c.first
  unfolding next_block
  next-at b e n h = rw (← e, ne_eqb c.left 0 n, lt-leb used b h)

  pub step_empty : exhausted a c ≡ true → c.first ≡ 0 → step_at a used reports c ≡ damage
  unfolding step_at
  step_empty e p = rw (e, eq-eqb c.first 0 p)

  pub step_end : exhausted a c ≡ true → (c.first ≡ 0 → ⊥) → c.block ≡ c.tail → step_at a used reports c ≡ at_end
  unfolding step_at
  step_end e n p = rw (e, ne_eqb c.first 0 n, eq-eqb c.block c.tail p)

  pub step_next : exhausted a c ≡ true → (c.first ≡ 0 → ⊥) → (c.block ≡ c.tail → ⊥)
      → step_at a used reports c ≡ next_block a used reports c
  unfolding step_at
  step_next e n m = rw (e, ne_eqb c.first 0 n, ne_eqb c.block c.tail m)

  pub step_here : exhausted a c ≡ false → step_at a used reports c ≡ read_at a reports c (cond (eqb c.first 0) 0 c.number)
  unfolding step_at
  step_here e = rw e

  -- behind a block's first posting
  pub step_on : exhausted a c ≡ false → 0 < c.first → step_at a used reports c ≡ read_at a reports c c.number
  step_on e h = step_here e ∙ rw (ne_eqb c.first 0 (λ z. omega arith))

-- what the steps in a part need of its bounds and bytes
pub ruleset in_part = (part_end_le, part_is, decoded_past, decoded_ends, length-take)

-- and what those from one part to the next need
pub ruleset stepping = (part_end_le, part_end_ge, not-exhausted)
