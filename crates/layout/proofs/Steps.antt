-- Steps of a cursor, by the bytes ahead of it in its block.
-- Assumes nothing.
use mathlib.Core.Path.{◌≡◌, refl, sym, ap, ◌∙◌}
use mathlib.Core.Logic.{◌≢◌}
use Prim.Native.Nat.{ℕ, zero, suc, ◌+◌, ◌-◌, ◌*◌, ◌≤◌, ◌<◌}
use mathlib.Core.Bool.{Bool, true, false, cond, ◌||◌}
use mathlib.Core.List.{List, ◌++◌}
use native.Mathlib.Omega.{arith}
use native.Mathlib.Nat.{add-zero}
use lib.Dec.{eqb, leb}
use lib.ListN.{length, get_or, drop, replicate, length-take, length-drop}
use lib.Seq.{get_or-take, get_or-drop, drop-append_seam}
use borrow.Author.Tests.{eqb-true, eq-eqb, ne_eqb, lt-leb, le-leb}
use Rattle.basics.proofs.Cases.{by-lt}
use Rattle.postings.proofs.Laws.{decode-code}
use Rattle.postings.specs.Coding.{posting, decoded}
use Rattle.blocks.specs.Fields.{block_size, place, link_of, part_of}
use Rattle.blocks.proofs.Fields.{drop-part}
use Rattle.chains.specs.declared.Cursor.{Cursor}
use Rattle.chains.specs.Chains.{stepped, at_end, part_end, part_at, exhausted, past, given, read_at, entered, next_block, step_at}
use Rattle.chains.proofs.Steps.{given-at}
use Rattle.layout.specs.Chains.{After, Entry, coded}

-- ---- parts of blocks

-- its first byte
part_byte : (a : List ℕ) (b from to : ℕ) → from < to → get_or a (place b + from) 0 ≡ get_or (part_of a b from to) 0 0
unfolding part_of
part_byte a b from to h = rw (get_or-take (to - from) (drop (64 * b + from) a) 0 0 (omega arith), get_or-drop, add-zero)

-- a part of no bytes is read to its end
part_none : (a : List ℕ) (b from to : ℕ) → place b + block_size ≤ length a → to ≤ block_size → length (part_of a b from to) ≡ 0 → to ≤ from
unfolding part_of
part_none a b from to h k e = omega (arith, rw (length-take, length-drop) at e)

-- null bytes are the end, in the tail none of them
none_left : (t : Bool) (a : List ℕ) (b from end z : ℕ) → (t ≡ true → end ≤ from) → part_of a b from (cond t end block_size) ≡ replicate z 0
    → cond t (leb end from) (leb block_size from || eqb (get_or a (place b + from) 0) 0) ≡ true
none_left true a b from end z h q = le-leb end from (h refl)
none_left false a b from end z h q =
    by-lt from block_size (λ lt. rw (lt-leb block_size from lt, part_byte a b from block_size lt, q, zero-first)) (λ ge. rw (le-leb block_size from ge))
  where
    zero-first : (z : ℕ) → get_or {A = ℕ} (replicate z 0) 0 0 ≡ 0
    zero-first zero = refl
    zero-first (suc z) = refl

-- ---- a cursor

module _ (a : List ℕ) where
  -- behind an entry stands what stood behind it
  pub behind_entry : (c : Cursor) (e : Entry) (s : List ℕ) (n : ℕ) → part_at a c ≡ coded e ++ s → part_at a (past c n (length (coded e))) ≡ s
  unfolding part_end
  behind_entry c e s n q = sym (drop-part a c.block c.at (length (coded e)) (part_end c c.block)) ∙ rw (q, drop-append_seam)

  module _ (used reports : ℕ) (c : Cursor) where
    -- an entry that is ahead is read
    module _ (base : ℕ) (e : Entry) (s : List ℕ) (q : part_at a c ≡ coded e ++ s) (h : base ≤ c.number)
        (f : After c.number (record { number = base + e.gap; count = e.count })) where
      pub entry_found : decoded (part_at a c) ≡ posting e.gap e.count (length (coded e))
      entry_found =
          ap decoded q ∙ decode-code e.gap e.count (omega (arith, f.above)) (omega (arith, f.number_small)) f.count_pos f.count_small s

      pub reads_entry : base + e.gap ≤ reports
          → read_at a reports c base ≡ stepped (base + e.gap) e.count (past c (base + e.gap) (length (coded e)))
      unfolding read_at
      reads_entry k = ap (given reports c base) entry_found ∙ given-at reports c base e.gap e.count (length (coded e)) f.above k

    module _ (some : 0 < c.first) (z : ℕ) (q : part_at a c ≡ replicate z 0) where
      -- behind a block's last entry, the next block
      pub step_next : (b : ℕ) → c.block ≢ c.tail → link_of a c.block ≡ b → b < used → 0 < c.left
          → step_at a used reports c ≡ read_at a reports (entered c b) c.first
      unfolding step_at exhausted part_end next_block
      step_next b ne e h k =
          rw (
            none_left (eqb c.block c.tail) a c.block c.at c.end z (λ t. absurd (ne (eqb-true _ _ t))) q,
            ne_eqb c.first 0 (λ n. omega arith),
            ne_eqb c.block c.tail ne,
            e,
            ne_eqb c.left 0 (λ n. omega arith),
            lt-leb used b h,
          )

      -- or the end
      pub step_end : c.block ≡ c.tail → z ≡ 0 → place c.block + block_size ≤ length a → c.end ≤ block_size → step_at a used reports c ≡ at_end
      unfolding step_at exhausted part_end
      step_end e n h k =
          let t : eqb c.block c.tail ≡ true = eq-eqb c.block c.tail e in
          let nil : length (part_of a c.block c.at c.end) ≡ 0 = ap length (rw t at q) ∙ rw n in
          rw (
            none_left (eqb c.block c.tail) a c.block c.at c.end z (λ _. part_none a c.block c.at c.end h k nil) q,
            ne_eqb c.first 0 (λ n. omega arith),
            t,
          )
