-- Where a line goes: what its place says of the term's head.
-- Assumes nothing.
use mathlib.Core.Path.{◌≡◌, refl, sym, ap, ◌∙◌}
use mathlib.Core.Bool.{Bool, true, false, cond}
use mathlib.Core.List.{List}
use Prim.Native.Nat.{ℕ, zero, suc, ◌%◌, ◌≤◌, ◌<◌}
use native.Mathlib.Omega.{arith}
use borrow.Author.Tests.{ltb-false}
use lib.Dec.{ltb}
use Rattle.std.specs.Prelude.{Result, Ok, Err}
use Rattle.basics.proofs.Cases.{by-eq}
use Rattle.basics.proofs.Lists.{or_left, or_right}
use Rattle.terms.specs.Terms.{fnv1a}
use Rattle.frames.specs.Frames.{Line}
use Rattle.blocks.specs.declared.Head.{Head}
use Rattle.blocks.specs.Fields.{link_of, head_of}
use Rattle.blocks.specs.Writes.{Appends}
use Rattle.blocks.proofs.Capacity.{block_inside}
use Rattle.chains.specs.Chains.{bad_head}
use Rattle.chains.proofs.Laws.{Good, head_good}
use Rattle.refusals.specs.declared.Refusal.{Refusal}
use Rattle.refusals.specs.declared.Refusal.TheVariants.{Damaged}
use Rattle.lookup.specs.declared.Found.{Found}
use Rattle.lookup.specs.declared.Found.TheVariants.{At, Unknown}
use Rattle.lookup.specs.Lookup.{slots, next_slot, search_from, search as sought}
use Rattle.lookup.proofs.Search.{Step, vacant, unused, found, passed, step, from-none, search-none, search-some, search-at}
use Rattle.counters.specs.declared.Counters.{Counters}
use Rattle.counters.specs.Counters.{Memory}
use Rattle.ingest.specs.declared.Place.{Place}
use Rattle.ingest.specs.Report.{next_number, damaged_head, place_at, placed, place_of}
use Rattle.ingest.specs.Needs.{Room, Below}

-- ---- a known term's head

-- one without damage: the head is sound, and last report, tail's first number and number of postings are at most reports
pub record Fine (a : List ℕ) (k : Counters) (h : ℕ) (d : Head) : Type 0 where
  pub good : Good d k.used h
  pub last : d.last ≤ k.reports
  pub first : link_of a d.tail ≤ k.reports
  pub postings : d.postings ≤ k.reports

pub head_fine : (a : List ℕ) (k : Counters) (h : ℕ) (d : Head) → damaged_head a k h d ≡ false → Fine a k h d
unfolding damaged_head
head_fine a k h d e =
    let x = bad_head d k.used h in
    let y = ltb k.reports d.last in
    let z = ltb k.reports (link_of a d.tail) in
    let p = or_right x _ e in
    let q = or_right y _ p in
    record {
      good = head_good d k.used h (or_left x _ e);
      last = ltb-false k.reports d.last (or_left y _ p);
      first = ltb-false k.reports (link_of a d.tail) (or_left z _ q);
      postings = ltb-false k.reports d.postings (or_right z _ q);
    }

-- it can take one posting more
pub fine_appends : (a : List ℕ) (k : Counters) (h : ℕ) (d : Head) → Room a k → h < k.used → Fine a k h d → Appends a h d (next_number k)
fine_appends a k h d r u w = record {
  head_in = block_inside a k.used r.inside h u;
  tail_in = block_inside a k.used r.inside d.tail w.good.tail;
  inside = w.good.within;
  ascends = omega (arith, w.last);
  countable = omega (arith, w.postings, r.numbered);
}

-- ---- what a search finds

-- a head that a search finds is a used block
pub found_below : (a : List ℕ) (used : ℕ) (table w : List ℕ) (x : Found) → sought a used table w ≡ Ok x → Below used x
found_below a used table w (At h) e = (search-at a used table w h e).below
found_below a used table w (Unknown s) e = tt

-- a search is refused for damage alone
module _ (a : List ℕ) (used : ℕ) (table w : List ℕ) {r : Refusal} where
  from_damage : (left s : ℕ) → search_from left a used table w s ≡ Err r → r ≡ Damaged
  from_damage zero s e = cc (from-none a used table w 0 s (omega arith))
  from_damage (suc left) s e = go (step a used table w left s) (from_damage left (next_slot (slots table) s))
    where
      go : Step a used table w left s → (search_from left a used table w (next_slot (slots table) s) ≡ Err r → r ≡ Damaged) → r ≡ Damaged
      go (vacant n q) ih = cc
      go (unused n g q) ih = cc
      go (found n m q) ih = cc
      go (passed n m q) ih = ih (sym q ∙ e)

  pub sought_damage : sought a used table w ≡ Err r → r ≡ Damaged
  sought_damage e =
      by-eq (slots table) 0 (λ z. cc (search-none a used table w z))
      (λ n. from_damage (slots table) (fnv1a w % slots table) (sym (search-some a used table w (omega arith)) ∙ e))

-- so is a place
pub at_damage : (a : List ℕ) (k : Counters) (f h : ℕ) {r : Refusal} → place_at a k f h ≡ Err r → r ≡ Damaged
unfolding place_at
at_damage a k f h {r = r} e = go (damaged_head a k h (head_of a h)) _ e
  where
    go : (b : Bool) (p : Place) → cond b (Err Damaged) (Ok p) ≡ Err r → r ≡ Damaged
    go true p q = cc
    go false p q = cc

pub place_damage : (m : Memory) (l : Line) {r : Refusal} → place_of m l ≡ Err r → r ≡ Damaged
unfolding place_of placed
place_damage m l {r} e = go (sought m.arena m.counters.used m.table l.term) refl e
  where
    go : (x : Result Found Refusal) → sought m.arena m.counters.used m.table l.term ≡ x → placed m.arena m.counters l.count x ≡ Err r → r ≡ Damaged
    go (Ok (At h)) q p = at_damage m.arena m.counters l.count h p
    go (Ok (Unknown s)) q p = cc
    go (Err x) q p = let z : x ≡ r = cc in sought_damage m.arena m.counters.used m.table l.term (q ∙ ap Err z)
