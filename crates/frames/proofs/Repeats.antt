-- Laws of the chains by which repeated lines are found, and what is known of them from line to line.
-- Assumes nothing.
use mathlib.Core.Path.{◌≡◌, refl, ap, ◌∙◌}
use mathlib.Core.Bool.{Bool, true, false, ◌||◌}
use mathlib.Core.List.{List, [], ◌∷◌, map}
use Prim.Native.Nat.{ℕ, zero, suc, ◌+◌, ◌-◌, ◌*◌, ◌%◌, ◌≤◌, ◌<◌}
use native.Mathlib.Omega.{arith}
use lib.ListN.{length, get_or, set, replicate, length-set, length-replicate}
use lib.Seq.{get_or-set_same, get_or-set_other}
use borrow.Author.Tests.{eq-eqb, ne_eqb}
use Rattle.basics.specs.Lists.{any, same}
use Rattle.basics.proofs.Cases.{by-eq}
use Rattle.basics.proofs.Lists.{ne_same}
use Rattle.terms.specs.Terms.{fnv1a}
use Rattle.frames.specs.Frames.{count_bytes, first_line, past_field, fields, lines, passes_end, repeats_after, folded_at, repeated_term}
use Rattle.frames.specs.Read.{Folds, LineAt}
use Rattle.frames.specs.Repeats.{slot_of, chain_up_to, chain, slots, Chained}
use Rattle.frames.proofs.Fields.{past_five, fields_end, fields_more, field_here, whole-on}
use Rattle.frames.proofs.Read.{folds_here, folds_on}

-- ---- following a chain

abbrev Falls : List ℕ → Type 0
Falls earlier = (slot : ℕ) → get_or earlier slot 0 ≤ 5 * slot - 1

-- the offset that one leads to
abbrev before : List ℕ → ℕ → ℕ
before earlier at = get_or earlier (slot_of at) 0

-- it lies before the one that leads to it
pub before-less : (earlier : List ℕ) → Falls earlier → (at : ℕ) → 0 < at → before earlier at < at
before-less earlier falls at h = omega (arith, falls (slot_of at))

-- nothing follows 0
pub chain-none : (earlier : List ℕ) → chain earlier 0 ≡ []
unfolding chain chain_up_to
chain-none earlier = refl

module _ (earlier : List ℕ) (falls : Falls earlier) where
  -- any bound that is enough gives the same chain
  agree : (k j at : ℕ) → at ≤ k → at ≤ j → chain_up_to k earlier at ≡ chain_up_to j earlier at
  unfolding chain_up_to
  agree zero zero at h h' = refl
  agree zero (suc j) at h h' = rw (eq-eqb at 0 (omega arith))
  agree (suc k) zero at h h' = rw (eq-eqb at 0 (omega arith))
  agree (suc k) (suc j) at h h' =
      by-eq at 0 (λ e. rw (eq-eqb at 0 e))
      (λ n. let d = before-less earlier falls at (omega arith) in rw (ne_eqb at 0 n, agree k j (before earlier at) (omega arith) (omega arith)))

  -- an offset, and the chain from the one before it on
  pub chain_more : (at : ℕ) → 0 < at → chain earlier at ≡ at ∷ chain earlier (before earlier at)
  unfolding chain chain_up_to
  chain_more at h =
      let d = before-less earlier falls at h in
      let o = before earlier at in
      agree at (suc at) at (omega arith) (omega arith) ∙ rw (ne_eqb at 0 (λ e. omega arith), agree at o o (omega arith) (omega arith))

  -- a chain goes down, so a store for a line further up does not change it
  below : (k x v at : ℕ) → (0 < at → at + 5 ≤ x) → chain_up_to k (set earlier (slot_of x) v) at ≡ chain_up_to k earlier at
  unfolding chain_up_to
  below zero x v at h = refl
  below (suc k) x v at h =
      by-eq at 0 (λ e. rw (eq-eqb at 0 e))
      (λ n. let d = before-less earlier falls at (omega arith) in
      let l : at + 5 ≤ x = h (omega arith) in
      rw (ne_eqb at 0 n, get_or-set_other earlier (slot_of x) (slot_of at) v 0 (λ e. omega arith), below k x v (before earlier at) (λ p. omega arith)))

  pub chain-set : (x v at : ℕ) → (0 < at → at + 5 ≤ x) → chain (set earlier (slot_of x) v) at ≡ chain earlier at
  unfolding chain
  chain-set x v at h = below at x v at h

-- ---- looking for a folded term in a chain

abbrev pub has_term : List ℕ → List ℕ → List ℕ → Bool
has_term f t ats = any (λ at. same t (folded_at f at)) ats

module _ (f t earlier : List ℕ) where
  pub has_none : has_term f t (chain earlier 0) ≡ false
  unfolding any
  has_none = rw (chain-none earlier)

  pub has_more : Falls earlier → (at : ℕ) → 0 < at → has_term f t (chain earlier at) ≡ same t (folded_at f at) || has_term f t (chain earlier (before earlier at))
  unfolding any
  has_more falls at h = rw (chain_more earlier falls at h)

-- ---- a list of numbers after a store, and nulls

-- what holds of each number, and of the one stored, holds of each after the store
set-each : (P : ℕ → ℕ → Type 0) (l : List ℕ) (i v : ℕ) → P i v → ((j : ℕ) → P j (get_or l j 0)) → (j : ℕ) → P j (get_or (set l i v) j 0)
set-each P [] i v p h j = h j
set-each P (x ∷ l) zero v p h zero = p
set-each P (x ∷ l) zero v p h (suc j) = h (suc j)
set-each P (x ∷ l) (suc i) v p h zero = h 0
set-each P (x ∷ l) (suc i) v p h (suc j) = set-each (λ k y. P (suc k) y) l i v p (λ k. h (suc k)) j

nulls : (n i : ℕ) → ◌≡◌ {A = ℕ} (get_or (replicate n 0) i 0) 0
nulls zero i = refl
nulls (suc n) zero = refl
nulls (suc n) (suc i) = nulls n i

-- ---- from line to line

abbrev buckets : ℕ
buckets = 256

unfoldable pub bucket : List ℕ → ℕ
bucket t = fnv1a t % buckets

bucket_small : (t : List ℕ) → bucket t < buckets
unfolding bucket
bucket_small t = omega arith

-- what is known at an offset where a line may start: `seen` are the folded terms of the lines before it, latest first,
-- and a term is among them exactly when it is in its bucket's chain
pub record Passed (f names last earlier : List ℕ) (at : ℕ) : Type 0 where
  pub last_length : length last ≡ buckets
  pub earlier_length : length earlier ≡ slots
  pub seen : List (List ℕ)
  pub left : repeated_term f (lines f) ≡ repeats_after seen (map (folded_at f) (fields count_bytes f at))
  pub whole : passes_end count_bytes f at ≡ false
  pub folds : Folds f names at
  pub chained : (b : ℕ) → Chained f names earlier (get_or last b 0)
  pub behind : (b : ℕ) → 0 < get_or last b 0 → get_or last b 0 + 5 ≤ at
  pub some : 0 < at
  pub held : (t : List ℕ) → has_term f t (chain earlier (get_or last (bucket t) 0)) ≡ any (same t) seen

-- at the first line all chains are empty
pub passed_none : (f names : List ℕ) (n m : ℕ) → n ≡ buckets → m ≡ slots → length f ≤ 5 * slots → passes_end count_bytes f first_line ≡ false → Folds f names first_line
    → Passed f names (replicate n 0) (replicate m 0) first_line
unfolding repeated_term any
passed_none f names n m en em h w fs = record {
  last_length = rw length-replicate en;
  earlier_length = rw length-replicate em;
  seen = [];
  left = refl;
  whole = w;
  folds = fs;
  chained = λ b. record {
    room = h;
    falls = λ slot. rw (nulls m slot) (omega arith);
    whole = λ slot l. absurd (omega (arith, nulls m slot));
    start = λ l. absurd (omega (arith, nulls n b));
  };
  behind = λ b l. absurd (omega (arith, nulls n b));
  some = omega arith;
  held = λ t. rw (nulls n (bucket t)) (has_none f t (replicate m 0));
}

module _ {f names last earlier : List ℕ} {at : ℕ} (p : Passed f names last earlier at) where
  -- at the frame's end nothing was repeated
  pub passed_end : length f ≤ at → repeated_term f (lines f) ≡ false
  unfolding repeats_after
  passed_end h = p.left ∙ rw (fields_end count_bytes f at h)

  module _ (h : at < length f) where
    -- before the end, a whole line stands here
    pub passed-line : LineAt f names at
    passed-line = record { whole = field_here count_bytes f at p.whole h; folds = folds_here f names at h p.folds }

    -- its folded term, the chain where that is looked for, and the arrays once the line is put before that chain
    abbrev term : List ℕ
    term = folded_at f at

    abbrev latest : ℕ
    latest = get_or last (bucket term) 0

    abbrev last' : List ℕ
    last' = set last (bucket term) at

    abbrev earlier' : List ℕ
    earlier' = set earlier (slot_of at) latest

    -- the line repeats one before it, or it is one more that later lines may repeat
    repeats_here : repeated_term f (lines f) ≡ has_term f term (chain earlier latest) || repeats_after (term ∷ p.seen) (map (folded_at f) (fields count_bytes f (past_field count_bytes f at)))
    unfolding repeats_after
    repeats_here = p.left ∙ rw (fields_more count_bytes f at h, p.held term)

    pub passed_found : has_term f term (chain earlier latest) ≡ true → repeated_term f (lines f) ≡ true
    passed_found e = repeats_here ∙ rw e

    falls' : Falls earlier'
    falls' =
        set-each (λ slot x. x ≤ 5 * slot - 1) earlier (slot_of at) latest
        (by-eq latest 0 (λ e. omega arith) (λ n. omega (arith, p.behind (bucket term) (omega arith)))) (p.chained 0).falls

    chained-from : (x : ℕ) → (0 < x → LineAt f names x) → Chained f names earlier' x
    chained-from x l = record {
      room = (p.chained 0).room;
      falls = falls';
      whole = set-each (λ slot x. 0 < x → LineAt f names x) earlier (slot_of at) latest (p.chained (bucket term)).start (p.chained 0).whole;
      start = l;
    }

    -- a chain from before is as it was
    chain_as_lem : (b : ℕ) → chain earlier' (get_or last b 0) ≡ chain earlier (get_or last b 0)
    chain_as_lem b = chain-set earlier (p.chained 0).falls at latest (get_or last b 0) (p.behind b)

    -- in the line's bucket, a term is in the chain if it is the line's or was there
    held_own : (t : List ℕ) → bucket t ≡ bucket term → has_term f t (chain earlier' (get_or last' (bucket t) 0)) ≡ any (same t) (term ∷ p.seen)
    unfolding any
    held_own t e =
        let l : bucket term < length last = omega (arith, p.last_length, bucket_small term) in
        let r : slot_of at < length earlier = omega (arith, p.earlier_length, (p.chained 0).room) in
        rw (e, get_or-set_same last (bucket term) at 0 l, has_more f t earlier' falls' at p.some, get_or-set_same earlier (slot_of at) latest 0 r, chain_as_lem (bucket term), ← e, p.held t)

    -- a term of another bucket is not the line's, since equal terms have equal hashes
    held_other : (t : List ℕ) → (bucket t ≡ bucket term → ⊥) → has_term f t (chain earlier' (get_or last' (bucket t) 0)) ≡ any (same t) (term ∷ p.seen)
    unfolding any
    held_other t n =
        rw (get_or-set_other last (bucket term) (bucket t) at 0 n, chain_as_lem (bucket t), p.held t, ne_same t term (λ e. n (ap bucket e)))

    -- on to the next line
    pub passed_more : has_term f term (chain earlier latest) ≡ false → Passed f names last' earlier' (past_field count_bytes f at)
    passed_more e = record {
      last_length = rw length-set p.last_length;
      earlier_length = rw length-set p.earlier_length;
      seen = term ∷ p.seen;
      left = repeats_here ∙ rw e;
      whole = whole-on count_bytes f at p.whole h;
      folds = folds_on f names at h p.folds;
      chained = set-each (λ b x. Chained f names earlier' x) last (bucket term) at (chained-from at (λ l. passed-line)) (λ b. chained-from (get_or last b 0) (p.chained b).start);
      behind = set-each (λ b x. 0 < x → x + 5 ≤ past_field count_bytes f at) last (bucket term) at (λ l. past_five f at) (λ b l. omega (arith, p.behind b l, past_five f at));
      some = omega (arith, past_five f at);
      held = λ t. by-eq (bucket t) (bucket term) (held_own t) (held_other t);
    }
