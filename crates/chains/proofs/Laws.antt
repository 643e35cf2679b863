-- What the crates above use of chains: one step, a run of steps, and what a whole chain says of the postings that a cursor gives.
-- Assumes nothing.
use Prim.Native.Nat.{ℕ, zero, suc, ◌-◌, ◌≤◌, ◌<◌}
use mathlib.Core.Path.{◌≡◌, refl, sym, ap, subst, ◌∙◌}
use mathlib.Core.Bool.{Bool, true, false, cond, ◌&&◌}
use mathlib.Core.List.{List, [], ◌∷◌}
use Rattle.std.specs.Prelude.{Some, None, Ok, Err}
use native.Mathlib.Omega.{arith}
use lib.Dec.{leb, eqb}
use lib.ListN.{length}
use borrow.Author.Tests.{ltb-false, leb-false, eqb-true, eq-eqb}
use Rattle.basics.proofs.Lists.{or_left, or_right, and_left, and_right}
use Rattle.basics.proofs.Cases.{by-lt, by-eq}
use Rattle.blocks.specs.declared.Head.{Head}
use Rattle.blocks.specs.Fields.{block_size, link_size, place, link_of, head_of, part_start}
use Rattle.blocks.specs.Prescribed.{Posting}
use Rattle.blocks.proofs.Fields.{part_own, part_other}
use Rattle.chains.specs.declared.Cursor.{Cursor}
use Rattle.chains.specs.Chains.{Stepped as Outcome, stepped, at_end, damage, exhausted, entered, next_block, step_at, Reading, damaged, whole, onto, follow, run, at_head, bad_head, last_from, agreeing, chain_of, is_whole, Follows}
use Rattle.chains.proofs.Steps.{Gave, read_gave, next-none, next_out, next-at, step_empty, step_end, step_next, step_here}
use Rattle.blocks.proofs.Sizes.{bounds}

-- ---- one step

-- what a step to a posting with number n says of the cursor c' past it: the chain's tail and write offset stay,
-- its number is n, numbers ascend up to reports, and it can be followed as c could
pub record Stepped (a : List ℕ) (used reports : ℕ) (c : Cursor) (n : ℕ) (c' : Cursor) : Type 0 where
  pub tail : c'.tail ≡ c.tail
  pub end : c'.end ≡ c.end
  pub number : c'.number ≡ n
  pub ascends : c.number < n
  pub within : n ≤ reports
  pub follows : Follows a used c → Follows a used c'

module _ (a : List ℕ) (used reports : ℕ) (c : Cursor) {n : ℕ} {c' : Cursor} where
  gave : (b : ℕ) → (Follows a used c → b < used) → Gave reports c b n c' → Stepped a used reports c n c'
  gave b u g = record {
    tail = g.tail;
    end = g.end;
    number = g.number;
    ascends = g.ascends;
    within = g.within;
    follows = λ w. record { inside = w.inside; in_use = rw g.block (u w); end_in = rw g.end w.end_in };
  }

  at_next : {f : ℕ} → next_block a used reports c ≡ stepped n f c' → Stepped a used reports c n c'
  unfolding entered
  at_next {f} e =
      by-eq c.left 0
      (λ p. cc (next-none a used reports c p))
      (λ p.
      by-lt (link_of a c.block) used
      (λ h.
      let b = link_of a c.block in
      let g = read_gave a reports (entered c b) c.first n f c' (sym (next-at a used reports c b refl p h) ∙ e) in
      gave b (λ w. h) (record { tail = g.tail; end = g.end; block = g.block; number = g.number; ascends = g.ascends; within = g.within }))
      (λ h. cc (next_out a used reports c h)))

  -- every step to a posting
  pub step_follows : {f : ℕ} → step_at a used reports c ≡ stepped n f c' → Stepped a used reports c n c'
  step_follows {f} e = go (exhausted a c) refl
    where
      go : (x : Bool) → exhausted a c ≡ x → Stepped a used reports c n c'
      go false q = gave c.block (λ w. w.in_use) (read_gave a reports c _ n f c' (sym (step_here a used reports c q) ∙ e))
      go true q =
          by-eq c.first 0
          (λ p. cc (step_empty a used reports c q p))
          (λ p.
          by-eq c.block c.tail
          (λ r. cc (step_end a used reports c q p r))
          (λ r. at_next (sym (step_next a used reports c q p r) ∙ e)))

-- ---- a run of steps

onto-whole : (p : Posting) (r : Reading) (ps : List Posting) → onto p r ≡ whole ps → (qs : List Posting) × (r ≡ whole qs) × (ps ≡ p ∷ qs)
unfolding onto
onto-whole p damaged ps e = cc
onto-whole p (whole qs) ps e = (qs, refl, cc)

module _ (a : List ℕ) (used reports : ℕ) where
  -- a step, and what is read behind it
  pub run_step : (k : ℕ) (c : Cursor) → run (suc k) a used reports c ≡ follow (run k a used reports) (step_at a used reports c)
  unfolding run
  run_step k c = refl

  -- more fuel than there are numbers left changes nothing
  pub run_enough : (k j : ℕ) (c : Cursor) → reports - c.number < k → reports - c.number < j → run k a used reports c ≡ run j a used reports c
  unfolding run follow
  run_enough zero j c h i = absurd (omega arith)
  run_enough (suc k) zero c h i = absurd (omega arith)
  run_enough (suc k) (suc j) c h i = go (step_at a used reports c) refl (λ c'. run_enough k j c')
    where
      go : (s : Outcome) → step_at a used reports c ≡ s
          → ((c' : Cursor) → reports - c'.number < k → reports - c'.number < j → run k a used reports c' ≡ run j a used reports c')
          → follow (run k a used reports) s ≡ follow (run j a used reports) s
      go (Ok (Some s)) e ih =
          let w = step_follows a used reports c e in
          ap (onto _) (ih s.next (omega arith) (omega arith))
      go (Ok None) e ih = refl
      go (Err r) e ih = refl

  -- what is left to read from a cursor on, with fuel that is enough
  abbrev pub rest : Cursor → Reading
  rest c = run (suc (reports - c.number)) a used reports c

  pub run-rest : (k : ℕ) (c : Cursor) → reports - c.number < k → run k a used reports c ≡ rest c
  run-rest k c h = run_enough k (suc (reports - c.number)) c h (omega arith)

  module _ (c : Cursor) where
    -- by cases of the step
    pub rest-posting : {n f : ℕ} {c' : Cursor} → step_at a used reports c ≡ stepped n f c' → rest c ≡ onto (record { number = n; count = f }) (rest c')
    unfolding follow
    rest-posting {n} {f} {c'} e =
        let w = step_follows a used reports c e in
        let h : reports - c'.number < reports - c.number = omega arith in
        run_step (reports - c.number) c ∙ rw e (ap (onto _) (run-rest (reports - c.number) c' h))

    pub rest_end : step_at a used reports c ≡ at_end → rest c ≡ whole []
    unfolding follow
    rest_end e = run_step (reports - c.number) c ∙ rw e

    pub rest-damaged : step_at a used reports c ≡ damage → rest c ≡ damaged
    unfolding follow
    rest-damaged e = run_step (reports - c.number) c ∙ rw e

    -- where the rest is whole, a step gives its first posting, or it ends with the postings
    module _ (ps : List Posting) (w : rest c ≡ whole ps) where
      pub whole-posting : {n f : ℕ} {c' : Cursor} → step_at a used reports c ≡ stepped n f c'
          → (qs : List Posting) × (rest c' ≡ whole qs) × (ps ≡ record { number = n; count = f } ∷ qs)
      whole-posting {n} {f} {c'} e = onto-whole (record { number = n; count = f }) (rest c') ps (sym (rest-posting e) ∙ w)

      pub whole_end : step_at a used reports c ≡ at_end → ps ≡ []
      whole_end e = cc (rest_end e)

-- ---- the numbers of postings

-- they ascend, from above `low` up to `top`
abbrev pub Ascending : ℕ → ℕ → List Posting → Type 0
Ascending top low [] = Unit
Ascending top low (p ∷ ps) = (low < p.number) × (p.number ≤ top) × Ascending top p.number ps

-- so they do in what is read whole
abbrev Ascends : ℕ → ℕ → Reading → Type 0
Ascends top low damaged = Unit
Ascends top low (whole ps) = Ascending top low ps

onto-ascends : (top low : ℕ) (p : Posting) (r : Reading) → low < p.number → p.number ≤ top → Ascends top p.number r → Ascends top low (onto p r)
unfolding onto
onto-ascends top low p damaged h k w = tt
onto-ascends top low p (whole ps) h k w = (h, k, w)

run-ascends : (k : ℕ) (a : List ℕ) (used reports : ℕ) (c : Cursor) → Ascends reports c.number (run k a used reports c)
unfolding run follow
run-ascends zero a used reports c = tt
run-ascends (suc k) a used reports c = go (step_at a used reports c) refl (λ c'. run-ascends k a used reports c')
  where
    go : (s : Outcome) → step_at a used reports c ≡ s → ((c' : Cursor) → Ascends reports c'.number (run k a used reports c'))
        → Ascends reports c.number (follow (run k a used reports) s)
    go (Ok (Some s)) e ih =
        let w = step_follows a used reports c e in
        onto-ascends reports c.number (record { number = s.number; count = s.count }) (run k a used reports s.next) w.ascends w.within
        (subst (λ (x : ℕ). Ascends reports x (run k a used reports s.next)) w.number (ih s.next))
    go (Ok None) e ih = tt
    go (Err r) e ih = tt

-- ---- a whole chain

-- a sound head: the tail is used, and the write offset lies past the start of its block's part, within the block
pub record Good (d : Head) (used h : ℕ) : Type 0 where
  pub tail : d.tail < used
  pub past : part_start d h d.tail < d.end
  pub within : d.end ≤ block_size

pub head_good : (d : Head) (used h : ℕ) → bad_head d used h ≡ false → Good d used h
unfolding bad_head
head_good d used h e =
    let p = leb used d.tail in
    let q = leb d.end (part_start d h d.tail) in
    let r = or_right p _ e in
    record {
      tail = leb-false used d.tail (or_left p _ e);
      past = leb-false d.end (part_start d h d.tail) (or_left q _ r);
      within = ltb-false block_size d.end (or_right q _ r);
    }

part_start_ge : (d : Head) (h b : ℕ) → link_size ≤ part_start d h b
part_start_ge d h b = by-eq b h (λ e. rw (part_own d h b e) (omega (arith, bounds))) (λ n. rw (part_other d h b n) (omega (arith, bounds)))

-- the cursor before the first posting of a sound head can be followed
pub head-follows : (a : List ℕ) (used h : ℕ) (d : Head) → place used ≤ length a → h < used → bad_head d used h ≡ false
    → Follows a used (at_head d used h) × (link_size ≤ d.end)
unfolding at_head
head-follows a used h d i u e =
    let g = head_good d used h e in
    (record { inside = i; in_use = u; end_in = g.within }, omega (arith, part_start_ge d h d.tail))

-- from a head on, reports and one steps are enough
pub head-rest : (a : List ℕ) (used reports h : ℕ) (d : Head) → run (suc reports) a used reports (at_head d used h) ≡ rest a used reports (at_head d used h)
unfolding at_head
head-rest a used reports h d = run-rest a used reports (suc reports) (at_head d used h) (omega arith)

module _ (a : List ℕ) (used reports h : ℕ) where
  pub chain_bad : bad_head (head_of a h) used h ≡ true → chain_of a used reports h ≡ damaged
  unfolding chain_of
  chain_bad e = rw e

  pub chain_good : bad_head (head_of a h) used h ≡ false
      → chain_of a used reports h ≡ agreeing (head_of a h) (run (suc reports) a used reports (at_head (head_of a h) used h))
  unfolding chain_of
  chain_good e = rw e

abbrev Agrees : Head → Reading → List Posting → Type 0
Agrees d r ps = (r ≡ whole ps) × (length ps ≡ d.postings) × (last_from 0 ps ≡ d.last)

agrees : (d : Head) (r : Reading) (ps : List Posting) → agreeing d r ≡ whole ps → Agrees d r ps
unfolding agreeing
agrees d damaged ps e = cc
agrees d (whole qs) ps e = go (eqb (length qs) d.postings && eqb (last_from 0 qs) d.last) refl e
  where
    go : (x : Bool) → eqb (length qs) d.postings && eqb (last_from 0 qs) d.last ≡ x → cond x (whole qs) damaged ≡ whole ps → Agrees d (whole qs) ps
    go false q e = cc
    go true q e =
        let p : qs ≡ ps = cc in
        let x = eqb (length qs) d.postings in
        let y = eqb (last_from 0 qs) d.last in
        rw (← p) (refl, eqb-true (length qs) d.postings (and_left x y q), eqb-true (last_from 0 qs) d.last (and_right x y q))

-- what a whole chain says: its head is sound, a cursor from its head on gives the same postings, their numbers ascend from 1 up to reports,
-- and the head's number of postings and last report are theirs
pub record Whole (a : List ℕ) (used reports h : ℕ) (ps : List Posting) : Type 0 where
  pub good : bad_head (head_of a h) used h ≡ false
  pub reads : run (suc reports) a used reports (at_head (head_of a h) used h) ≡ whole ps
  pub ascending : Ascending reports 0 ps
  pub postings : length ps ≡ (head_of a h).postings
  pub last : last_from 0 ps ≡ (head_of a h).last

pub chain-whole : (a : List ℕ) (used reports h : ℕ) (ps : List Posting) → chain_of a used reports h ≡ whole ps → Whole a used reports h ps
unfolding at_head
chain-whole a used reports h ps e = go (bad_head (head_of a h) used h) refl
  where
    go : (x : Bool) → bad_head (head_of a h) used h ≡ x → Whole a used reports h ps
    go true q = cc (chain_bad a used reports h q)
    go false q =
        let c : Cursor = at_head (head_of a h) used h in
        let w = agrees (head_of a h) (run (suc reports) a used reports c) ps (sym (chain_good a used reports h q) ∙ e) in
        record {
          good = q;
          reads = w.0;
          ascending = subst (Ascends reports 0) w.0 (run-ascends (suc reports) a used reports c);
          postings = w.1;
          last = w.2;
        }

-- a chain is whole where its head is sound and agrees with the postings
pub chain-from : (a : List ℕ) (used reports h : ℕ) (ps : List Posting) → bad_head (head_of a h) used h ≡ false
    → run (suc reports) a used reports (at_head (head_of a h) used h) ≡ whole ps → length ps ≡ (head_of a h).postings → last_from 0 ps ≡ (head_of a h).last
    → chain_of a used reports h ≡ whole ps
unfolding agreeing
chain-from a used reports h ps e w p q =
    chain_good a used reports h e ∙ rw (w, eq-eqb (length ps) (head_of a h).postings p, eq-eqb (last_from 0 ps) (head_of a h).last q)

-- what is read whole is a list of postings
pub is-whole : (r : Reading) → is_whole r ≡ true → (ps : List Posting) × (r ≡ whole ps)
unfolding is_whole
is-whole damaged e = cc
is-whole (whole ps) e = (ps, refl)

-- and such a list is read whole
pub whole_is : {r : Reading} {ps : List Posting} → r ≡ whole ps → is_whole r ≡ true
unfolding is_whole
whole_is e = ap is_whole e
