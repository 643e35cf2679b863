-- A cursor that moves forward: which reports it has at it and behind it.
-- Assumes nothing.
use Prim.Native.Nat.{ℕ, zero, suc, ◌+◌, ◌-◌, ◌≤◌, ◌<◌}
use mathlib.Core.Path.{◌≡◌, refl, sym, ap, ◌∙◌}
use mathlib.Core.Bool.{Bool, true, false, ◌||◌}
use mathlib.Core.List.{List, [], ◌∷◌}
use native.Mathlib.Omega.{arith}
use native.Mathlib.Nat.{add-zero}
use Rattle.std.specs.Prelude.{Option, Some, None, Ok, Err}
use Rattle.refusals.specs.declared.Refusal.{Refusal}
use lib.Dec.{eqb}
use lib.ListN.{length, get_or, set, length-set}
use lib.Seq.{get_or-set_same, get_or-set_other}
use Rattle.basics.proofs.Cases.{by-lt, by-eq}
use borrow.Author.Tests.{ne_eqb}
use Rattle.basics.specs.Lists.{any}
use Rattle.blocks.specs.Fields.{head_of, capacity}
use Rattle.blocks.proofs.Fields.{drop-part}
use Rattle.blocks.specs.Prescribed.{Posting}
use Rattle.chains.specs.declared.Cursor.{Cursor}
use Rattle.chains.specs.declared.Step.{Step}
use Rattle.chains.specs.Chains.{Stepped, stepped, at_end, damaged, follow, part_end, part_at, whole, exhausted, read_at, next_block, step_at, at_head, chain_of}
use Rattle.postings.specs.Coding.{posting, decoded}
use Rattle.sums.proofs.Adding.{bounded_by}
use Rattle.chains.specs.Parts.{moved_to, passed_to, Known}
use Rattle.chains.proofs.Steps.{step_next, step_on, same_step}
use Rattle.chains.proofs.Parts.{Within, here, on, part_over, part_step, step_part, within-number, passed_to_lem}
use Rattle.chains.proofs.Skipping.{read-moved, next_earlier, read_more, next_more}
use Rattle.chains.proofs.Laws.{step_follows, rest, whole-posting, whole_end, run_step, head-follows, head-rest, is-whole, chain-whole, whole_is}
use Rattle.counters.specs.declared.Counters.{Counters}
use Rattle.query.specs.Listing.{postings_in, holds}
use Rattle.query.specs.Needs.{Readable, Stands, Passing, Sought, nowhere, ahead, postings_at}

or-false : (a : Bool) → a || false ≡ a
or-false true = refl
or-false false = refl

first-same : {p q : Posting} {ps qs : List Posting} → p ∷ ps ≡ q ∷ qs → p ≡ q
first-same e = cc

rest-same : {p q : Posting} {ps qs : List Posting} → p ∷ ps ≡ q ∷ qs → ps ≡ qs
rest-same e = cc

-- one more posting
pub holds-cons : (p : Posting) (ps : List Posting) (n : ℕ) → holds (p ∷ ps) n ≡ eqb p.number n || holds ps n
unfolding holds any
holds-cons p ps n = refl

pub holds-none : (n : ℕ) → holds [] n ≡ false
unfolding holds any
holds-none n = refl

-- where the rest is whole a step is never refused
pub never_refused : (a : List ℕ) (used reports : ℕ) (c : Cursor) (ps : List Posting) → rest a used reports c ≡ whole ps
    → (r : Refusal) → step_at a used reports c ≡ Err r → ⊥
unfolding follow
never_refused a used reports c ps w r e =
    let d : rest a used reports c ≡ damaged = run_step a used reports (reports - c.number) c ∙ rw e in
    cc

-- a step that was taken to a posting
pub gave : {r x : Stepped} {o : Option Step} {s : Step} → r ≡ x → r ≡ Ok o → o ≡ Some s → x ≡ stepped s.number s.count s.next
gave e p q = sym e ∙ p ∙ ap Ok q

module _ (a : List ℕ) (k : Counters) where
  -- where the rest is known, the reports ahead are
  ahead-is : (c : Cursor) (ps : List Posting) → rest a k.used k.reports c ≡ whole ps → (n : ℕ) → ahead a k c n ≡ eqb c.number n || holds ps n
  unfolding ahead postings_in
  ahead-is c ps w n = rw w

  -- behind a cursor there is no report up to its own
  none_before : (ps : List Posting) (c : Cursor) (n : ℕ) → rest a k.used k.reports c ≡ whole ps → n ≤ c.number → holds ps n ≡ false
  none_before [] c n w h = holds-none n
  none_before (p ∷ ps) c n w h = go (step_at a k.used k.reports c) refl (none_before ps)
    where
      go : (x : Stepped) → step_at a k.used k.reports c ≡ x
          → ((c' : Cursor) (n : ℕ) → rest a k.used k.reports c' ≡ whole ps → n ≤ c'.number → holds ps n ≡ false) → holds (p ∷ ps) n ≡ false
      go (Ok (Some x)) e ih =
          let s = step_follows a k.used k.reports c e in
          let v = whole-posting a k.used k.reports c (p ∷ ps) w e in
          let i : ps ≡ v.0 = rest-same v.2 in
          let y : p.number ≡ x.number = ap (λ (q : Posting). q.number) (first-same v.2) in
          let z : p.number ≡ n → ⊥ = λ q. omega (arith, s.ascends) in
          holds-cons p ps n ∙ rw (ne_eqb p.number n z) (ih x.next n (v.1 ∙ ap whole (sym i)) (omega (arith, s.number, s.ascends)))
      go (Ok None) e ih = cc (whole_end a k.used k.reports c (p ∷ ps) w e)
      go (Err r) e ih = absurd (never_refused a k.used k.reports c (p ∷ ps) w r e)

  -- nor one over reports
  none_over : (ps : List Posting) (c : Cursor) (n : ℕ) → rest a k.used k.reports c ≡ whole ps → k.reports < n → holds ps n ≡ false
  none_over [] c n w h = holds-none n
  none_over (p ∷ ps) c n w h = go (step_at a k.used k.reports c) refl (none_over ps)
    where
      go : (x : Stepped) → step_at a k.used k.reports c ≡ x
          → ((c' : Cursor) (n : ℕ) → rest a k.used k.reports c' ≡ whole ps → k.reports < n → holds ps n ≡ false) → holds (p ∷ ps) n ≡ false
      go (Ok (Some x)) e ih =
          let s = step_follows a k.used k.reports c e in
          let v = whole-posting a k.used k.reports c (p ∷ ps) w e in
          let i : ps ≡ v.0 = rest-same v.2 in
          let y : p.number ≡ x.number = ap (λ (q : Posting). q.number) (first-same v.2) in
          let z : p.number ≡ n → ⊥ = λ q. omega (arith, s.within) in
          holds-cons p ps n ∙ rw (ne_eqb p.number n z) (ih x.next n (v.1 ∙ ap whole (sym i)) h)
      go (Ok None) e ih = cc (whole_end a k.used k.reports c (p ∷ ps) w e)
      go (Err r) e ih = absurd (never_refused a k.used k.reports c (p ∷ ps) w r e)

module _ {a : List ℕ} {k : Counters} {c : Cursor} (s : Stands a k c) where
  reads : (ps : List Posting) × (rest a k.used k.reports c ≡ whole ps)
  reads = is-whole (rest a k.used k.reports c) s.sound

  -- damage is never met
  pub stands_undamaged : (r : Refusal) → step_at a k.used k.reports c ≡ Err r → ⊥
  stands_undamaged r e = never_refused a k.used k.reports c reads.0 reads.1 r e

  -- at the chain's end only the report at the cursor is left
  pub ahead_end : step_at a k.used k.reports c ≡ at_end → (n : ℕ) → ahead a k c n ≡ eqb c.number n
  ahead_end e n =
      let z : reads.0 ≡ [] = whole_end a k.used k.reports c reads.0 reads.1 e in
      ahead-is a k c [] (reads.1 ∙ ap whole z) n ∙ rw (holds-none n) (or-false (eqb c.number n))

  -- up to the cursor's report too
  pub ahead_here : (n : ℕ) → n ≤ c.number → ahead a k c n ≡ eqb c.number n
  ahead_here n h = ahead-is a k c reads.0 reads.1 n ∙ rw (none_before a k reads.0 c n reads.1 h) (or-false (eqb c.number n))

  -- none is over reports
  pub ahead-over : (n : ℕ) → k.reports < n → ahead a k c n ≡ false
  ahead-over n h = ahead-is a k c reads.0 reads.1 n ∙ rw (ne_eqb c.number n (λ q. omega (arith, s.within)), none_over a k reads.0 c n reads.1 h)

  module _ {m f : ℕ} {c' : Cursor} (e : step_at a k.used k.reports c ≡ stepped m f c') where
    -- one step on
    pub stands_on : Stands a k c'
    stands_on =
        let t = step_follows a k.used k.reports c e in
        let v = whole-posting a k.used k.reports c reads.0 reads.1 e in
        record {
          follows = t.follows s.follows;
          far = rw t.end s.far;
          sound = whole_is v.1;
          within = omega (arith, t.number, t.within);
          in_part = λ _. step_part a k.used k.reports c s.far s.follows e;
        }

    pub begun-on : 0 < c'.first
    begun-on = (step_part a k.used k.reports c s.far s.follows e).begun

    -- only the report left behind is no longer ahead
    pub ahead-on : (n : ℕ) → c.number < n → ahead a k c n ≡ ahead a k c' n
    ahead-on n h =
        let t = step_follows a k.used k.reports c e in
        let v = whole-posting a k.used k.reports c reads.0 reads.1 e in
        let z : c.number ≡ n → ⊥ = λ q. omega arith in
        let p : Posting = record { number = m; count = f } in
        let x : ahead a k c n ≡ eqb m n || holds v.0 n
        = ahead-is a k c (p ∷ v.0) (reads.1 ∙ ap whole v.2) n ∙ rw (ne_eqb c.number n z) (holds-cons p v.0 n) in
        let y : ahead a k c' n ≡ eqb m n || holds v.0 n = ahead-is a k c' v.0 v.1 n ∙ ap (λ (x : ℕ). eqb x n || holds v.0 n) t.number in
        x ∙ sym y

-- ---- a cursor on its way to a report

pub passing_here : {a : List ℕ} {k : Counters} {number : ℕ} {c : Cursor} → Stands a k c → Passing a k c number c
passing_here s = record { stands = s; same = λ n i. refl }

pub passing_as : {a : List ℕ} {k : Counters} {c₀ c c' : Cursor} {number : ℕ} → Passing a k c₀ number c → c' ≡ c → Passing a k c₀ number c'
passing_as p e = rw e p

pub passing_then : {a : List ℕ} {k : Counters} {c₀ c₁ c : Cursor} {number : ℕ} → Passing a k c₀ number c₁ → Passing a k c₁ number c → Passing a k c₀ number c
passing_then p q = record { stands = q.stands; same = λ n i. p.same n i ∙ q.same n i }

module _ {a : List ℕ} {k : Counters} {c₀ : Cursor} {number : ℕ} {c : Cursor} (p : Passing a k c₀ number c) where
  pub passing-on : {m f : ℕ} {c' : Cursor} → c.number < number → step_at a k.used k.reports c ≡ stepped m f c' → Passing a k c₀ number c'
  passing-on h e = record { stands = stands_on p.stands e; same = λ n i. p.same n i ∙ ahead-on p.stands e n (omega arith) }

  -- it is there, or the chain ends before
  pub arrived : number ≤ c.number → Sought a k c₀ number c
  arrived h = record { passing = p; none_left = λ l. absurd (omega arith) }

  pub stopped : step_at a k.used k.reports c ≡ at_end → Sought a k c₀ number c
  stopped e = record { passing = p; none_left = λ l n i. ahead_end p.stands e n ∙ ne_eqb c.number n (λ q. omega arith) }

-- several postings of a part
passing-within : {a : List ℕ} {k : Counters} {c₀ : Cursor} {number : ℕ} {c c' : Cursor} {j : ℕ} → Passing a k c₀ number c → Within a k.reports number c j c' → Passing a k c₀ number c'
passing-within p here = p
passing-within {k = k} p (on w l e) = passing-on (passing-within p w) l (e k.used)

-- what is passed of the block's part
pub passing_part : {a : List ℕ} {k : Counters} {c₀ c : Cursor} {number : ℕ} → Passing a k c₀ number c → 0 < c.first → Passing a k c₀ number (passed_to a k.reports c number)
passing_part {number = number} p h = passing-within p (passed_to_lem (p.stands.in_part h) number).2

pub part_forward : {a : List ℕ} {k : Counters} {c : Cursor} (number : ℕ) → Stands a k c → 0 < c.first → c.number ≤ (passed_to a k.reports c number).number
part_forward number s h = within-number (passed_to_lem (s.in_part h) number).2

-- ---- no number of a sound chain's part is over reports

module _ {a : List ℕ} {k : Counters} where
  -- a posting that stands at the cursor is its next
  next_stands : {c : Cursor} {at g f l : ℕ} → Stands a k c → 0 < c.first → decoded (part_at a c) ≡ posting g f l → at ≡ c.at + l → Stands a k (moved_to c at (c.number + g))
  next_stands {c} {at} {g} s b e p =
      let w = s.in_part b in
      by-lt k.reports (c.number + g)
      (λ u. absurd (stands_undamaged s _ (part_over w e k.used u)))
      (λ u. stands_on s (part_step w e p refl u k.used))

  pub stands_bounded : {c : Cursor} → Stands a k c → 0 < c.first → Known a k.reports c
  unfolding part_end
  stands_bounded {c} s b =
      bounded_by (part_at a c) k.reports (λ at n. Stands a k (moved_to c (c.at + at) n))
      (λ at n t. t.within)
      (λ at n g f l t h e.
      next_stands t b (ap decoded (sym (drop-part a c.block c.at at (part_end c c.block))) ∙ e) (omega arith))
      (rw add-zero s)

-- ---- the next block

-- the next block begins with report n, and going there from c leaves the same reports from n on
pub record Begins (a : List ℕ) (k : Counters) (c : Cursor) (n f : ℕ) (c' : Cursor) : Type 0 where
  pub next : next_block a k.used k.reports c ≡ stepped n f c'
  pub ascends : c.number < n
  pub number : c'.number ≡ n
  pub begun : 0 < c'.first
  pub passing : Passing a k c n c'

-- with some posting
abbrev Begun : List ℕ → Counters → Cursor → Type 0
Begun a k c = (n f : ℕ) × (c' : Cursor) × Begins a k c n f c'

module _ {a : List ℕ} {k : Counters} where
  -- from the end of the block at hand it is one step
  begins_next : {c c' : Cursor} {n f : ℕ} → Stands a k c → step_at a k.used k.reports c ≡ next_block a k.used k.reports c
      → next_block a k.used k.reports c ≡ stepped n f c' → Begins a k c n f c'
  begins_next {c} s e q =
      let t = step_follows a k.used k.reports c (e ∙ q) in
      record {
        next = q;
        ascends = t.ascends;
        number = t.number;
        begun = begun-on s (e ∙ q);
        passing = record { stands = stands_on s (e ∙ q); same = λ m h. ahead-on s (e ∙ q) m (omega (arith, t.ascends)) };
      }

  -- from a posting before, one more is left behind
  begins_before : {c c' : Cursor} {at m n f f' : ℕ} → Stands a k c → step_at a k.used k.reports c ≡ stepped m f' (moved_to c at m)
      → Begins a k (moved_to c at m) n f c' → Begins a k c n f c'
  begins_before {c} {at = at} {m = m} s e b =
      let t = step_follows a k.used k.reports c e in
      record {
        next = next_earlier a k.used k.reports c at (omega (arith, t.ascends)) b.next;
        ascends = omega (arith, t.ascends, b.ascends);
        number = b.number;
        begun = b.begun;
        passing = record { stands = b.passing.stands; same = λ i h. ahead-on s e i (omega (arith, t.ascends, b.ascends)) ∙ b.passing.same i h };
      }

  begun-before : {c : Cursor} {at m f' : ℕ} → Stands a k c → step_at a k.used k.reports c ≡ stepped m f' (moved_to c at m) → Begun a k (moved_to c at m) → Begun a k c
  begun-before s e (n, f, c', b) = (n, f, c', begins_before s e b)

  -- by so many steps at most
  begun_in : (fuel : ℕ) (c : Cursor) → k.reports - c.number < fuel → Stands a k c → 0 < c.first → (c.block ≡ c.tail → ⊥) → Begun a k c
  begun_in zero c l s h t = absurd (omega arith)
  begun_in (suc fuel) c l s h t = go (exhausted a c) refl (begun_in fuel)
    where
      over : step_at a k.used k.reports c ≡ next_block a k.used k.reports c → (x : Stepped) → next_block a k.used k.reports c ≡ x → Begun a k c
      over e (Ok (Some x)) q = (x.number, x.count, x.next, begins_next s e q)
      over e (Ok None) q = absurd (next_more a k.used k.reports c q)
      over e (Err r) q = absurd (stands_undamaged s r (e ∙ q))

      on-from : exhausted a c ≡ false → ((d : Cursor) → k.reports - d.number < fuel → Stands a k d → 0 < d.first → (d.block ≡ d.tail → ⊥) → Begun a k d)
          → (x : Stepped) → read_at a k.reports c c.number ≡ x → Begun a k c
      on-from q ih (Ok (Some x)) r =
          let m = x.number in
          let v = read-moved a k.reports c m x.count x.next h r in
          let e : step_at a k.used k.reports c ≡ stepped m x.count (moved_to c v.0 m) = step_on a k.used k.reports c q h ∙ r ∙ ap (stepped m x.count) v.1 in
          let u = step_follows a k.used k.reports c e in
          begun-before s e (ih (moved_to c v.0 m) (omega (arith, u.ascends, u.within)) (stands_on s e) h t)
      on-from q ih (Ok None) r = absurd (read_more a k.reports c c.number r)
      on-from q ih (Err z) r = absurd (stands_undamaged s z (step_on a k.used k.reports c q h ∙ r))

      go : (x : Bool) → exhausted a c ≡ x
          → ((d : Cursor) → k.reports - d.number < fuel → Stands a k d → 0 < d.first → (d.block ≡ d.tail → ⊥) → Begun a k d) → Begun a k c
      go true q ih = over (step_next a k.used k.reports c q (λ z. omega arith) t) (next_block a k.used k.reports c) refl
      go false q ih = on-from q ih (read_at a k.reports c c.number) refl

  -- every block of a sound chain but the tail has a next one, and a cursor behind the block's first posting finds it from wherever it stands
  module _ {c : Cursor} (s : Stands a k c) (h : 0 < c.first) (t : c.block ≡ c.tail → ⊥) where
    begun : Begun a k c
    begun = begun_in (suc (k.reports - c.number)) c (omega arith) s h t

    pub begins : {n f : ℕ} {c' : Cursor} → next_block a k.used k.reports c ≡ stepped n f c' → Begins a k c n f c'
    begins e = go begun e
      where
        go : {n f : ℕ} {c' : Cursor} → Begun a k c → next_block a k.used k.reports c ≡ stepped n f c' → Begins a k c n f c'
        go {n} {f} {c'} (m, g, d, b) e =
            let p = same_step (sym b.next ∙ e) in
            rw (← p.0, ← p.1, ← p.2) b

    pub begins_undamaged : (r : Refusal) → next_block a k.used k.reports c ≡ Err r → ⊥
    begins_undamaged r e = cc begun.3.next

-- what is read there is that posting
pub begins_over : {a : List ℕ} {k : Counters} {c c' d : Cursor} {number n m f g : ℕ} → Begins a k c n f c' → number < n → next_block a k.used k.reports c ≡ stepped m g d → number < m
begins_over {n = n} {m = m} b h e = omega (arith, (same_step (sym b.next ∙ e)).0)

-- a block is left behind whose next one begins with a report up to the number
pub passing_block : {a : List ℕ} {k : Counters} {c₀ c c' : Cursor} {number n f : ℕ} → Passing a k c₀ number c → Begins a k c n f c' → n ≤ number → Passing a k c₀ number c'
passing_block p b h = record { stands = b.passing.stands; same = λ m i. p.same m i ∙ b.passing.same m (omega arith) }

-- ---- the chain of a head

-- a cursor that has the reports from `low` on of a head's chain
pub record Stream (a : List ℕ) (k : Counters) (h low : ℕ) (c : Cursor) : Type 0 where
  pub stands : Stands a k c
  pub same : (n : ℕ) → low ≤ n → holds (postings_at a k h) n ≡ ahead a k c n

module _ {a : List ℕ} {k : Counters} {h : ℕ} (r : Readable a k h) where
  -- all its postings are behind the cursor before the first
  pub head_reads : (ps : List Posting) × (chain_of a k.used k.reports h ≡ whole ps) × (rest a k.used k.reports (at_head (head_of a h) k.used h) ≡ whole ps)
  head_reads =
      let w = is-whole (chain_of a k.used k.reports h) r.sound in
      (w.0, w.1, sym (head-rest a k.used k.reports h (head_of a h)) ∙ (chain-whole a k.used k.reports h w.0 w.1).reads)

  pub head-stands : Stands a k (at_head (head_of a h) k.used h)
  unfolding at_head capacity
  head-stands =
      let w = is-whole (chain_of a k.used k.reports h) r.sound in
      let v = chain-whole a k.used k.reports h w.0 w.1 in
      let f = head-follows a k.used h (head_of a h) (omega (arith, r.inside)) r.in_use v.good in
      record { follows = f.0; far = f.1; sound = whole_is head_reads.2; within = omega arith; in_part = λ l. absurd (omega arith) }

  pub head_stream : Stream a k h 1 (at_head (head_of a h) k.used h)
  unfolding at_head postings_in
  head_stream = record {
    stands = head-stands;
    same = λ n i.
        let z : 0 ≡ n → ⊥ = λ q. omega arith in
        rw head_reads.1 (sym (ahead-is a k (at_head (head_of a h) k.used h) head_reads.0 head_reads.2 n ∙ rw (ne_eqb 0 n z)));
  }

-- cursors before the first postings of the first i heads
pub record OpenedTo (a : List ℕ) (k : Counters) (hs : List ℕ) (i : ℕ) (cs : List Cursor) : Type 0 where
  pub eight : length cs ≡ 8
  pub at : (j : ℕ) → j < i → get_or cs j nowhere ≡ at_head (head_of a (get_or hs j 0)) k.used (get_or hs j 0)

-- one cursor more is opened
pub opened_more : (a : List ℕ) (k : Counters) (hs : List ℕ) (i : ℕ) (cs : List Cursor) (c : Cursor) → i < 8 → c ≡ at_head (head_of a (get_or hs i 0)) k.used (get_or hs i 0)
    → OpenedTo a k hs i cs → OpenedTo a k hs (i + 1) (set cs i c)
opened_more a k hs i cs c h e o = record {
  eight = length-set cs i c ∙ o.eight;
  at = λ j l.
      by-eq j i
      (λ q. rw q (get_or-set_same cs i c nowhere (omega (arith, o.eight)) ∙ e))
      (λ q. get_or-set_other cs i j c nowhere q ∙ o.at j (omega arith));
}
