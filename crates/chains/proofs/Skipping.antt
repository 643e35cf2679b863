-- Going on to the next block: which posting it begins with does not depend on how far the block at hand is read.
-- Assumes nothing.
use Prim.Native.Nat.{ℕ, ◌+◌, ◌≤◌, ◌<◌}
use mathlib.Core.Path.{◌≡◌, sym, ◌∙◌}
use mathlib.Core.Bool.{Bool, true, false, cond, ◌||◌}
use mathlib.Core.List.{List}
use Rattle.std.specs.Prelude.{Option, Some, None}
use native.Mathlib.Omega.{arith}
use lib.Dec.{leb, eqb}
use borrow.Author.Tests.{ne_eqb}
use Rattle.postings.specs.Coding.{decoded}
use Rattle.postings.specs.declared.Decoded.{Decoded}
use Rattle.basics.proofs.Cases.{by-lt}
use Rattle.blocks.specs.Fields.{link_size, link_of, part_of}
use Rattle.chains.specs.declared.Cursor.{Cursor}
use Rattle.chains.specs.Chains.{stepped, at_end, damage, part_end, part_at, given, read_at, entered, next_block}
use Rattle.chains.specs.Parts.{moved_to}
use Rattle.chains.proofs.Steps.{given-none, given_low, given-over, given-at, given_is}

-- a posting behind the block's first moves only the offset and the number
pub read-moved : (a : List ℕ) (reports : ℕ) (c : Cursor) (n f : ℕ) (c' : Cursor) → 0 < c.first → read_at a reports c c.number ≡ stepped n f c'
    → (at : ℕ) × (c' ≡ moved_to c at n)
unfolding read_at
read-moved a reports c n f c' h e = go (decoded (part_at a c)) e
  where
    go : (x : Option Decoded) → given reports c c.number x ≡ stepped n f c' → (at : ℕ) × (c' ≡ moved_to c at n)
    go None e = cc (given-none reports c c.number)
    go (Some d) e =
        let v = given_is reports c c.number d.gap d.count d.length n f c' e in
        (c.at + d.length, sym v.past_it ∙ rw (ne_eqb c.first 0 (λ z. omega arith), v.number))

-- a cursor that has read less of the block is given the same first posting of the next
module _ (a : List ℕ) (used reports : ℕ) (c : Cursor) (at : ℕ) {number n f : ℕ} {c' : Cursor} (h : c.number ≤ number) where
  given_earlier : (b : ℕ) (x : Option Decoded) → given reports (entered (moved_to c at number) b) c.first x ≡ stepped n f c'
      → given reports (entered c b) c.first x ≡ stepped n f c'
  unfolding entered
  given_earlier b None e = cc (given-none reports (entered (moved_to c at number) b) c.first)
  given_earlier b (Some d) e =
      let m = moved_to c at number in
      let v = given_is reports (entered m b) c.first d.gap d.count d.length n f c' e in
      given-at reports (entered c b) c.first d.gap d.count d.length (omega (arith, v.ascends)) v.within
      ∙ sym (given-at reports (entered m b) c.first d.gap d.count d.length v.ascends v.within)
      ∙ e

  pub next_earlier : next_block a used reports (moved_to c at number) ≡ stepped n f c' → next_block a used reports c ≡ stepped n f c'
  unfolding next_block read_at entered part_end
  next_earlier e = go (eqb c.left 0 || leb used (link_of a c.block)) e
    where
      go : (x : Bool) → cond x damage (read_at a reports (entered (moved_to c at number) (link_of a c.block)) c.first) ≡ stepped n f c'
          → cond x damage (read_at a reports (entered c (link_of a c.block)) c.first) ≡ stepped n f c'
      go true e = e
      go false e = given_earlier (link_of a c.block) (decoded (part_of a (link_of a c.block) link_size (part_end c (link_of a c.block)))) e

-- a block's posting is read or damaged: only a step from a block's end finds the chain's end
given_more : (reports : ℕ) (c : Cursor) (base : ℕ) (x : Option Decoded) → given reports c base x ≡ at_end → ⊥
given_more reports c base None e = cc (given-none reports c base)
given_more reports c base (Some d) e =
    by-lt reports (base + d.gap) (λ u. cc (given-over reports c base d.gap d.count d.length u))
    (λ u.
    by-lt c.number (base + d.gap)
    (λ h. cc (given-at reports c base d.gap d.count d.length h u))
    (λ h. cc (given_low reports c base d.gap d.count d.length h)))

pub read_more : (a : List ℕ) (reports : ℕ) (c : Cursor) (base : ℕ) → read_at a reports c base ≡ at_end → ⊥
unfolding read_at
read_more a reports c base e = given_more reports c base (decoded (part_at a c)) e

pub next_more : (a : List ℕ) (used reports : ℕ) (c : Cursor) → next_block a used reports c ≡ at_end → ⊥
unfolding next_block
next_more a used reports c e = go (eqb c.left 0 || leb used (link_of a c.block)) e
  where
    go : (x : Bool) → cond x damage (read_at a reports (entered c (link_of a c.block)) c.first) ≡ at_end → ⊥
    go true e = cc
    go false e = read_more a reports (entered c (link_of a c.block)) c.first e
