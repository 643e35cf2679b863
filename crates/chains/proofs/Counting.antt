-- The loop that reads a chain whole: n postings up to `number` are counted, and what is left decides.
-- Assumes nothing.
use Prim.Native.Nat.{ℕ, suc, ◌+◌, ◌-◌, ◌≤◌, ◌<◌}
use mathlib.Core.Path.{◌≡◌, refl, sym, ap, subst, ◌∙◌}
use mathlib.Core.Bool.{Bool, true, false, cond, ◌&&◌}
use mathlib.Core.List.{List}
use Rattle.std.specs.Prelude.{Option, Some, None}
use native.Mathlib.Omega.{arith}
use native.Mathlib.Nat.{add-zero, zero-add}
use lib.Dec.{eqb}
use lib.ListN.{length}
use borrow.Author.Tests.{lt-ltb, le-ltb, eq-eqb}
use Rattle.basics.proofs.Cases.{by-lt, by-eq}
use Rattle.postings.specs.Coding.{decoded}
use Rattle.postings.specs.declared.Decoded.{Decoded}
use Rattle.blocks.specs.declared.Head.{Head}
use Rattle.blocks.specs.Prescribed.{Posting}
use Rattle.blocks.specs.Fields.{block_size, place, link_of, head_of}
use Rattle.chains.specs.declared.Cursor.{Cursor}
use Rattle.chains.specs.declared.PartRead.{PartRead}
use Rattle.chains.specs.Chains.{Stepped, stepped, at_end, damage, part_end, part_at, exhausted, past, given, read_at, entered, next_block, step_at, Reading, damaged, whole, onto, follow, run, linked, entered_at, at_head, bad_head, last_from, agreeing, chain_of, is_whole, Follows}
use Rattle.chains.specs.Parts.{InPart, passed, part_read}
use Rattle.chains.proofs.Steps.{part_end_le, decoded_past, given-none, given_low, given-over, given-at, read_gave, next-none, next_out, next-at, step_end, step_next}
use Rattle.chains.proofs.Parts.{step_first, read_in_part, Within, here, on, passed-within, stopped_damage}
use Rattle.chains.proofs.Passing.{passed-stops, read_some, read-over, read_none}
use Rattle.chains.proofs.Laws.{step_follows, run_step, rest, run-rest, rest-posting, rest_end, rest-damaged, head-follows, head-rest, chain_bad, chain_good}

-- whether the rest agrees with the head
unfoldable pub finish : Head → ℕ → ℕ → Reading → Bool
finish d n number damaged = false
finish d n number (whole ps) = eqb (n + length ps) d.postings && eqb (last_from number ps) d.last

finish_onto : (d : Head) (n number : ℕ) (p : Posting) (r : Reading) → finish d n number (onto p r) ≡ finish d (n + 1) p.number r
unfolding finish onto last_from
finish_onto d n number p damaged = refl
finish_onto d n number p (whole ps) = let e : n + suc (length ps) ≡ n + 1 + length ps = omega arith in rw e

finish_whole : (b : Bool) (ps : List Posting) → is_whole (cond b (whole ps) damaged) ≡ b
unfolding is_whole
finish_whole true ps = refl
finish_whole false ps = refl

finish_start : (d : Head) (r : Reading) → is_whole (agreeing d r) ≡ finish d 0 0 r
unfolding finish agreeing is_whole
finish_start d damaged = refl
finish_start d (whole ps) = rw zero-add (finish_whole (eqb (length ps) d.postings && eqb (last_from 0 ps) d.last) ps)

-- n postings were read up to the cursor, and the answer is what the rest gives
pub record Counted (a : List ℕ) (used reports h : ℕ) (d : Head) (c : Cursor) (n : ℕ) : Type 0 where
  pub follows : Follows a used c
  pub few : n ≤ c.number
  pub within : c.number ≤ reports
  pub is : is_whole (chain_of a used reports h) ≡ finish d n c.number (rest a used reports c)

module _ {a : List ℕ} {used reports h : ℕ} {d : Head} {c : Cursor} {n : ℕ} (w : Counted a used reports h d c n) where
  more : {m f : ℕ} {c' : Cursor} → step_at a used reports c ≡ stepped m f c' → Counted a used reports h d c' (n + 1)
  more {m} {f} {c'} e =
      let s = step_follows a used reports c e in
      record {
        follows = s.follows w.follows;
        few = omega arith;
        within = omega arith;
        is = w.is ∙ ap (finish d n c.number) (rest-posting a used reports c e) ∙ finish_onto d n c.number (record { number = m; count = f }) (rest a used reports c') ∙ ap (λ (x : ℕ). finish d (n + 1) x (rest a used reports c')) (sym s.number);
      }

  ended : step_at a used reports c ≡ at_end → is_whole (chain_of a used reports h) ≡ eqb n d.postings && eqb c.number d.last
  unfolding finish last_from
  ended e = w.is ∙ ap (finish d n c.number) (rest_end a used reports c e) ∙ rw add-zero

  broken : step_at a used reports c ≡ damage → is_whole (chain_of a used reports h) ≡ false
  unfolding finish
  broken e = w.is ∙ ap (finish d n c.number) (rest-damaged a used reports c e)

-- several postings within a part
counted_on : {a : List ℕ} {used reports h to : ℕ} {d : Head} {c c' : Cursor} {n k : ℕ} → Counted a used reports h d c n → Within a reports to c k c'
    → Counted a used reports h d c' (n + k)
counted_on w here = rw add-zero w
counted_on {n = n} w (on {k = k} v b e) = let s : n + suc k ≡ n + k + 1 = omega arith in rw s (more (counted_on w v) (e _))

-- ---- one block after another

-- n postings were read up to a block, whose first posting, counted from `base`, is next: the answer is what it gives, and the rest
pub record Entering (a : List ℕ) (used reports h : ℕ) (d : Head) (k : Cursor) (base n : ℕ) : Type 0 where
  pub follows : Follows a used k
  pub unbegun : k.first ≡ 0
  pub few : n ≤ k.number
  pub within : k.number ≤ reports
  pub low : base ≤ reports
  pub is : is_whole (chain_of a used reports h) ≡ finish d n k.number (follow (run (reports - k.number) a used reports) (read_at a reports k base))

-- a cursor whose step is to read that posting
entering : {a : List ℕ} {used reports h : ℕ} {d : Head} {c : Cursor} {n : ℕ} → Counted a used reports h d c n → (k : Cursor) (base : ℕ) → Follows a used k → k.first ≡ 0
    → k.number ≡ c.number → base ≤ reports → step_at a used reports c ≡ read_at a reports k base → Entering a used reports h d k base n
entering {a} {used} {reports} {h} {d} {c} {n} w k base f z e l s = record {
  follows = f;
  unbegun = z;
  few = omega (arith, w.few);
  within = omega (arith, w.within);
  low = l;
  is = w.is ∙ ap (finish d n c.number) (run_step a used reports (reports - c.number) c ∙ ap (follow (run (reports - c.number) a used reports)) s)
      ∙ ap (λ (x : ℕ). finish d n x (follow (run (reports - x) a used reports) (read_at a reports k base))) (sym e);
}

module _ (a : List ℕ) (used reports h : ℕ) {d : Head} (q : d ≡ head_of a h) where
  pub unsound : bad_head d used h ≡ true → is_whole (chain_of a used reports h) ≡ false
  unfolding is_whole
  unsound e = ap is_whole (chain_bad a used reports h (rw q at e))

  pub start : place used ≤ length a → h < used → bad_head d used h ≡ false → Entering a used reports h d (at_head d used h) 0 0
  unfolding at_head
  start i u e =
      let c = at_head d used h in
      let f = (head-follows a used h d i u e).0 in
      let g : is_whole (chain_of a used reports h) ≡ is_whole (agreeing d (run (suc reports) a used reports c))
      = rw q (ap is_whole (chain_good a used reports h (rw q at e))) in
      let w : Counted a used reports h d c 0
      = record {
        follows = f;
        few = omega arith;
        within = omega arith;
        is = g ∙ finish_start d _ ∙ ap (finish d 0 0) (head-rest a used reports h d);
      } in
      entering w c 0 f refl refl (omega arith) (step_first a used reports c refl)

-- behind what was read of the cursor's part
abbrev pub after : Cursor → PartRead → Cursor
after k r = record k { at = k.at + r.rest.at; number = r.rest.number; first = r.first }

-- the cursor's part was read: its postings are counted, and behind them comes the part's end or damage
pub record Read (a : List ℕ) (used reports h : ℕ) (d : Head) (c : Cursor) (n : ℕ) : Type 0 where
  pub within : c.at ≤ block_size
  pub begun : 0 < c.first
  pub first_in_lem : c.first ≤ reports
  pub counted : Counted a used reports h d c n
  pub early : exhausted a c ≡ false → step_at a used reports c ≡ damage

module _ {a : List ℕ} {used reports h : ℕ} {d : Head} {k : Cursor} {base n : ℕ} (w : Entering a used reports h d k base n) where
  unread_damage : read_at a reports k base ≡ damage → is_whole (chain_of a used reports h) ≡ false
  unfolding finish follow
  unread_damage q = w.is ∙ ap (λ (s : Stepped). finish d n k.number (follow (run (reports - k.number) a used reports) s)) q

  first_counted : {m f : ℕ} {c' : Cursor} → read_at a reports k base ≡ stepped m f c' → Counted a used reports h d c' (n + 1)
  unfolding follow
  first_counted {m} {f} {c'} q =
      let g = read_gave a reports k base m f c' q in
      let p : Posting = record { number = m; count = f } in
      let s : reports - c'.number < reports - k.number = omega (arith, g.number, g.ascends, g.within) in
      record {
        follows = record { inside = w.follows.inside; in_use = rw g.block w.follows.in_use; end_in = rw g.end w.follows.end_in };
        few = omega (arith, w.few, g.number, g.ascends);
        within = omega (arith, g.number, g.within);
        is = w.is
            ∙ ap (λ (s : Stepped). finish d n k.number (follow (run (reports - k.number) a used reports) s)) q
            ∙ ap (λ (x : Reading). finish d n k.number (onto p x)) (run-rest a used reports (reports - k.number) c' s)
            ∙ finish_onto d n k.number p (rest a used reports c')
            ∙ ap (λ (x : ℕ). finish d (n + 1) x (rest a used reports c')) (sym g.number);
      }

  found : (x : Option Decoded) → decoded (part_at a k) ≡ x → read_at a reports k base ≡ given reports k base x
  unfolding read_at
  found x q = ap (given reports k base) q

  -- what is read of the part, by what stands at its front
  abbrev reading : ℕ → ℕ → PartRead
  reading g l = record { first = base + g; rest = passed (part_at a k) reports l (base + g) reports }

  -- no first posting, or one over reports
  no_first : (x : Option Decoded) → decoded (part_at a k) ≡ x → None ≡ part_read (part_at a k) reports base → read_at a reports k base ≡ damage
  no_first None q i = found None q ∙ given-none reports k base
  no_first (Some m) q i =
      found (Some m) q
      ∙ by-lt reports (base + m.gap) (λ u. given-over reports k base m.gap m.count m.length u)
      (λ u. cc (read_some (part_at a k) reports base q u))

  -- or not past the last one
  not_past : (x : Option Decoded) → decoded (part_at a k) ≡ x → {r : PartRead} → Some r ≡ part_read (part_at a k) reports base → r.first ≤ k.number
      → read_at a reports k base ≡ damage
  not_past None q i l = cc (read_none (part_at a k) reports base q)
  not_past (Some m) q {r} i l =
      found (Some m) q
      ∙ by-lt reports (base + m.gap) (λ u. given-over reports k base m.gap m.count m.length u)
      (λ u.
      let v : r ≡ reading m.gap m.length = cc (read_some (part_at a k) reports base q u) in
      given_low reports k base m.gap m.count m.length (omega (arith, ap (λ (x : PartRead). x.first) v)))

  first_read : (m : Decoded) (q : decoded (part_at a k) ≡ Some m) → base + m.gap ≤ reports → k.number < base + m.gap
      → Read a used reports h d (after k (reading m.gap m.length)) (n + (1 + (reading m.gap m.length).rest.postings))
  unfolding part_end
  first_read m q u v =
      let c = past k (base + m.gap) m.length in
      let f : c.first ≡ base + m.gap = rw (eq-eqb k.first 0 w.unbegun) in
      let s : read_at a reports k base ≡ stepped (base + m.gap) m.count c
      = found (Some m) q ∙ given-at reports k base m.gap m.count m.length v u in
      let y : k.at ≤ part_end k k.block
      = by-lt (part_end k k.block) k.at (λ z. cc (decoded_past a k.block k.at (part_end k k.block) (omega arith))) (λ z. z) in
      let z : InPart a reports c = read_in_part a used reports k base (base + m.gap) m.count c w.follows y s in
      let o = passed-within z reports k.at m.length refl in
      let p = (reading m.gap m.length).rest in
      let j : n + (1 + p.postings) ≡ n + 1 + p.postings = omega arith in
      subst
      (λ (x : ℕ). Read a used reports h d (record k { at = k.at + p.at; number = p.number; first = x }) (n + (1 + p.postings)))
      f
      (record {
        within = omega (arith, o.0.at_in, part_end_le k k.block w.follows.end_in);
        begun = z.begun;
        first_in_lem = rw f u;
        counted = rw j (counted_on (first_counted s) o.1);
        early = stopped_damage z reports k.at used p (omega arith) (passed-stops (part_at a k) reports m.length (base + m.gap) reports);
      })

  all_read : (x : Option Decoded) → decoded (part_at a k) ≡ x → {r : PartRead} → Some r ≡ part_read (part_at a k) reports base → k.number < r.first
      → Read a used reports h d (after k r) (n + (1 + r.rest.postings))
  all_read None q i l = cc (read_none (part_at a k) reports base q)
  all_read (Some m) q {r} i l =
      by-lt reports (base + m.gap) (λ u. cc (read-over (part_at a k) reports base q u))
      (λ u. let v : r ≡ reading m.gap m.length = cc (read_some (part_at a k) reports base q u) in rw v (first_read m q u (rw v at l)))

  pub not_read : None ≡ part_read (part_at a k) reports base → is_whole (chain_of a used reports h) ≡ false
  not_read i = unread_damage (no_first (decoded (part_at a k)) refl i)

  module _ {r : PartRead} (i : Some r ≡ part_read (part_at a k) reports base) where
    pub not-begun : r.first ≤ k.number → is_whole (chain_of a used reports h) ≡ false
    not-begun l = unread_damage (not_past (decoded (part_at a k)) refl i l)

    pub block_read : k.number < r.first → Read a used reports h d (after k r) (n + (1 + r.rest.postings))
    block_read l = all_read (decoded (part_at a k)) refl i l

-- what a cursor at the start of the next block says: more blocks can come, the link leads there, and the cursor stands there
pub entered_is : (c : Cursor) (next : Option ℕ) (e : Cursor) → entered_at c next ≡ Some e → (0 < c.left) × (next ≡ Some e.block) × (e ≡ entered c e.block)
unfolding entered
entered_is c None e q = cc
entered_is c (Some b) e q =
    by-lt 0 c.left (λ z. let p : e ≡ entered c b = cc (rw (lt-ltb 0 c.left z) at q) in rw p (z, refl, refl)) (λ z. cc (rw (le-ltb 0 c.left z) at q))

-- behind a part that was read
module _ {a : List ℕ} {used reports h : ℕ} {d : Head} {c : Cursor} {n : ℕ} (v : Read a used reports h d c n) where
  begins : c.first ≡ 0 → ⊥
  begins z = omega (arith, v.begun)

  pub part_broken : exhausted a c ≡ false → is_whole (chain_of a used reports h) ≡ false
  part_broken i = broken v.counted (v.early i)

  module _ (i : exhausted a c ≡ true) where
    pub tail-ended : c.block ≡ c.tail → is_whole (chain_of a used reports h) ≡ eqb n d.postings && eqb c.number d.last
    tail-ended t = ended v.counted (step_end a used reports c i begins t)

    module _ (t : c.block ≡ c.tail → ⊥) where
      goes : step_at a used reports c ≡ next_block a used reports c
      goes = step_next a used reports c i begins t

      pub unlinked : entered_at c (linked a used c.block) ≡ None → is_whole (chain_of a used reports h) ≡ false
      unlinked q =
          by-eq c.left 0 (λ z. broken v.counted (goes ∙ next-none a used reports c z))
          (λ z.
          by-lt (link_of a c.block) used
          (λ u. cc (rw (lt-ltb (link_of a c.block) used u, lt-ltb 0 c.left (omega arith)) at q))
          (λ u. broken v.counted (goes ∙ next_out a used reports c u)))

      pub next_entering : {e : Cursor} → entered_at c (linked a used c.block) ≡ Some e → Entering a used reports h d e c.first n
      unfolding entered
      next_entering {e} q =
          let w = entered_is c (linked a used c.block) e q in
          by-lt (link_of a c.block) used
          (λ u.
          let p : e.block ≡ link_of a c.block = cc (rw (lt-ltb (link_of a c.block) used u) at w.1) in
          let f = v.counted.follows in
          subst (λ (x : Cursor). Entering a used reports h d x c.first n) (sym w.2)
          (entering v.counted (entered c e.block) c.first (record { inside = f.inside; in_use = rw p u; end_in = f.end_in }) refl refl v.first_in_lem
          (goes ∙ next-at a used reports c e.block p (λ z. omega (arith, w.0, z)) (rw p u))))
          (λ u. cc (rw (le-ltb (link_of a c.block) used u) at w.1))
