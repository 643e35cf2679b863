-- The table of an index that was grown from a start: which terms it holds, and that a search finds these and no others.
-- Assumes nothing.
use mathlib.Core.Path.{◌≡◌, refl, sym, ap, ◌∙◌}
use mathlib.Core.Logic.{◌⊎◌, inl, inr}
use Rattle.std.specs.Prelude.{Ok}
use mathlib.Core.List.{List, [], ◌∷◌, ◌++◌}
use Prim.Native.Nat.{ℕ, zero, suc, ◌+◌, ◌-◌, ◌/◌, ◌%◌, ◌≤◌, ◌<◌}
use native.Mathlib.Nat.{mod-lt}
use native.Mathlib.Numerals.{add-one}
use native.Mathlib.Omega.{arith}
use lib.ListN.{length, get_or, set, replicate, length-append, length-replicate, get_or-replicate, get_or-append}
use lib.Seq.{get_or-append_seam, get_or-set_same, get_or-set_other}
use borrow.Author.Tests.{eq-eqb, ne_eqb}
use Rattle.basics.proofs.Cases.{by-lt, by-eq}
use Rattle.terms.specs.Terms.{fnv1a}
use Rattle.blocks.specs.Fields.{name_of}
use Rattle.lookup.specs.Lookup.{slots, next_slot, search as sought, enter, Known, empty_from, slot_for, enter_all, table_of}
use Rattle.lookup.specs.declared.Found.TheVariants.{At, Unknown}
use Rattle.lookup.proofs.Search.{slots_le, length-enter, slots-enter, next_plain, next_last, next_lt, Way, here, on, Vacant, Stands, from, Step, vacant, unused, found, passed, step, from_unknown, search-some}

-- ---- how many slots are filled

-- of the first n
unfoldable pub filled : ℕ → List ℕ → ℕ
filled zero vs = 0
filled (suc n) [] = 0
filled (suc n) (zero ∷ vs) = filled n vs
filled (suc n) (suc v ∷ vs) = suc (filled n vs)

filled_none : (n m : ℕ) → filled n (replicate m 0) ≡ 0
unfolding filled
filled_none zero m = refl
filled_none (suc n) zero = refl
filled_none (suc n) (suc m) = filled_none n m

filled_set : (n : ℕ) (vs : List ℕ) (k v : ℕ) → k < n → k < length vs → get_or vs k 0 ≡ 0 → filled n (set vs k (suc v)) ≡ suc (filled n vs)
unfolding filled
filled_set zero vs k v h l z = absurd (omega arith)
filled_set (suc n) [] k v h l z = absurd (omega arith)
filled_set (suc n) (zero ∷ vs) zero v h l z = refl
filled_set (suc n) (suc w ∷ vs) zero v h l z = absurd (omega arith)
filled_set (suc n) (zero ∷ vs) (suc k) v h l z = filled_set n vs k v (omega arith) (omega arith) z
filled_set (suc n) (suc w ∷ vs) (suc k) v h l z = ap suc (filled_set n vs k v (omega arith) (omega arith) z)

-- where fewer are filled than there are, one is empty
record Spare (n : ℕ) (vs : List ℕ) : Type 0 where
  slot : ℕ
  inside : slot < n
  empty : get_or vs slot 0 ≡ 0

spare_next : {n : ℕ} {vs : List ℕ} (v : ℕ) → Spare n vs → Spare (suc n) (v ∷ vs)
spare_next v s = record { slot = suc s.slot; inside = omega (arith, s.inside); empty = s.empty }

spare : (n : ℕ) (vs : List ℕ) → filled n vs < n → Spare n vs
unfolding filled
spare zero vs h = absurd (omega arith)
spare (suc n) [] h = record { slot = 0; inside = omega arith; empty = refl }
spare (suc n) (zero ∷ vs) h = record { slot = 0; inside = omega arith; empty = refl }
spare (suc n) (suc v ∷ vs) h = spare_next (suc v) (spare n vs (omega arith))

-- ---- the terms that a table holds

abbrev pub unnamed : Known
unnamed = record { name = []; head = 0 }

-- the i-th of them
abbrev pub nth : List Known → ℕ → Known
nth ks i = get_or ks i unnamed

-- a slot that is empty or holds one of the heads
pub data Slot (ks : List Known) (v : ℕ) : Type 0 where
  empty : v ≡ 0 → Slot ks v
  holds : (i : ℕ) → i < length ks → v ≡ (nth ks i).head + 1 → Slot ks v

-- a slot that holds a term's head and is met from the slot of its hash on
pub record Reached (table : List ℕ) (k : Known) : Type 0 where
  pub slot : ℕ
  pub value : get_or table slot 0 ≡ k.head + 1
  pub way : Way (slots table) table (slots table) (fnv1a k.name % slots table) slot

-- the invariant: a table holds these terms, in order of their entry. At most half of its slots are filled; each term's head is used
-- and holds its name; names are different; slots hold nothing else; each term is reached. The terms in their order prescribe the
-- table, entry by entry
pub record Tab (a : List ℕ) (used : ℕ) (table : List ℕ) (ks : List Known) : Type 0 where
  pub most : length ks ≤ slots table / 2
  pub stands : (i : ℕ) → i < length ks → Stands a used (nth ks i).name (nth ks i).head
  pub apart : (i j : ℕ) → i < length ks → j < length ks → (nth ks i).name ≡ (nth ks j).name → i ≡ j
  pub only : (s : ℕ) → s < slots table → Slot ks (get_or table s 0)
  pub reached : (i : ℕ) → i < length ks → Reached table (nth ks i)
  pub count : filled (slots table) table ≡ length ks
  pub is : table ≡ table_of (length table) ks

-- none of the terms has the name w
abbrev pub Lacks : List Known → List ℕ → Type 0
Lacks ks w = (i : ℕ) → i < length ks → (nth ks i).name ≡ w → ⊥

-- ---- a search

-- an empty slot that answers the search for it
pub record Open (a : List ℕ) (used : ℕ) (table w : List ℕ) : Type 0 where
  pub slot : ℕ
  pub answer : sought a used table w ≡ Ok (Unknown slot)
  pub inside : slot < slots table
  pub empty : get_or table slot 0 ≡ 0

-- the slot of its hash
abbrev first : List ℕ → List ℕ → ℕ
first table w = fnv1a w % slots table

module _ (a : List ℕ) (used : ℕ) (table w : List ℕ) (some : 0 < slots table) where
  begins : sought a used table w ≡ from a used table w (slots table) (first table w)
  begins = search-some a used table w some

  vacant_met : (s : ℕ) → sought a used table w ≡ Ok (Unknown s) → Vacant (slots table) table (slots table) (first table w) s
  vacant_met s e = from_unknown a used table w (slots table) (first table w) s (mod-lt (fnv1a w) some) (sym begins ∙ e)

  opened : (s : ℕ) × (from a used table w (slots table) (first table w) ≡ Ok (Unknown s)) → Open a used table w
  opened m =
      let e : sought a used table w ≡ Ok (Unknown m.0) = begins ∙ m.1 in
      let v : Vacant (slots table) table (slots table) (first table w) m.0 = vacant_met m.0 e in
      record { slot = m.0; answer = e; inside = v.inside; empty = v.empty }

module _ {a : List ℕ} {used : ℕ} {table : List ℕ} {ks : List Known} (tab : Tab a used table ks) where
  -- a filled slot's block is the head of one of the terms
  record Filled (s : ℕ) : Type 0 where
    index : ℕ
    in_range : index < length ks
    is : get_or table s 0 - 1 ≡ (nth ks index).head

  filled_slot : (s : ℕ) → s < slots table → (get_or table s 0 ≡ 0 → ⊥) → Filled s
  filled_slot s h n = go (tab.only s h)
    where
      go : Slot ks (get_or table s 0) → Filled s
      go (empty z) = absurd (n z)
      go (holds i l e) = record { index = i; in_range = l; is = omega arith }

  filled_stands : {s : ℕ} (f : Filled s) → Stands a used (nth ks f.index).name (get_or table s 0 - 1)
  filled_stands f = rw f.is (tab.stands f.index f.in_range)

  -- the search for term i: a filled slot answers with its head or is passed
  at_filled : (i : ℕ) → i < length ks → (left s : ℕ) → s < slots table → (get_or table s 0 ≡ 0 → ⊥)
      → ((name_of a (get_or table s 0 - 1) ≡ (nth ks i).name → ⊥) → from a used table (nth ks i).name left (next_slot (slots table) s) ≡ Ok (At (nth ks i).head))
      → from a used table (nth ks i).name (suc left) s ≡ Ok (At (nth ks i).head)
  at_filled i l left s h n further = go (filled_slot s h n) (step a used table (nth ks i).name left s)
    where
      go : Filled s → Step a used table (nth ks i).name left s → from a used table (nth ks i).name (suc left) s ≡ Ok (At (nth ks i).head)
      go f (vacant z q) = absurd (n z)
      go f (unused m g q) = absurd (omega (arith, (filled_stands f).below))
      go f (found m e q) =
          let z : f.index ≡ i = tab.apart f.index i f.in_range l (sym (filled_stands f).named ∙ e.named) in
          let same : get_or table s 0 - 1 ≡ (nth ks i).head = f.is ∙ ap (λ (j : ℕ). (nth ks j).head) z in
          cc
      go f (passed m e q) = q ∙ further e

  on_way : (i : ℕ) → i < length ks → {left s k : ℕ} → s < slots table → get_or table k 0 ≡ (nth ks i).head + 1 → Way (slots table) table left s k
      → from a used table (nth ks i).name left s ≡ Ok (At (nth ks i).head)
  on_way i l h v (here {left} {k}) =
      let e : get_or table k 0 - 1 ≡ (nth ks i).head = omega arith in
      at_filled i l left k h (λ z. omega arith) (λ m. absurd (m (rw e (tab.stands i l).named)))
  on_way i l h v (on {left} {s} {k} n w) = at_filled i l left s h n (λ m. on_way i l (next_lt (slots table) s h) v w)

  -- the search for a term of the table finds its head
  pub known : (i : ℕ) → i < length ks → sought a used table (nth ks i).name ≡ Ok (At (nth ks i).head)
  known i l =
      let some : 0 < slots table = omega (arith, tab.most) in
      let r : Reached table (nth ks i) = tab.reached i l in
      begins a used table (nth ks i).name some ∙ on_way i l (mod-lt (fnv1a (nth ks i).name) some) r.value r.way

  -- the search for another name ends where slot e ahead is empty
  module _ (w : List ℕ) (new : Lacks ks w) (e : ℕ) (inside : e < slots table) (free : get_or table e 0 ≡ 0) where
    -- slot e is met, fewer than `left` slots on
    abbrev Ahead : ℕ → ℕ → Type 0
    Ahead left s = ((s ≤ e) × (e < s + left)) ⊎ (e + slots table < s + left)

    ahead-all : (s : ℕ) → s < slots table → Ahead (slots table) s
    ahead-all s h = by-lt e s (λ l. inr (omega arith)) (λ g. inl (g, omega arith))

    ahead-next : (left s : ℕ) → s < slots table → (get_or table s 0 ≡ 0 → ⊥) → Ahead (suc left) s → Ahead left (next_slot (slots table) s)
    ahead-next left s h n =
        let other : s ≡ e → ⊥ = λ q. n (rw q free) in
        by-eq (s + 1) (slots table)
        (λ q. rw (next_last (slots table) s q) (last q other))
        (λ q. rw (next_plain (slots table) s q) (plain q other))
      where
        last : s + 1 ≡ slots table → (s ≡ e → ⊥) → Ahead (suc left) s → Ahead left 0
        last q o (inl x) = absurd (o (omega arith))
        last q o (inr x) = inl (omega arith, omega arith)

        plain : (s + 1 ≡ slots table → ⊥) → (s ≡ e → ⊥) → Ahead (suc left) s → Ahead left (s + 1)
        plain q o (inl x) = inl (omega arith, omega arith)
        plain q o (inr x) = inr (omega arith)

    ends : (left s : ℕ) → s < slots table → Ahead left s → (k : ℕ) × (from a used table w left s ≡ Ok (Unknown k))
    ends zero s h (inl x) = absurd (omega arith)
    ends zero s h (inr x) = absurd (omega arith)
    ends (suc left) s h x = go (step a used table w left s) (λ n. ends left (next_slot (slots table) s) (next_lt (slots table) s h) (ahead-next left s h n x))
      where
        go : Step a used table w left s → ((get_or table s 0 ≡ 0 → ⊥) → (k : ℕ) × (from a used table w left (next_slot (slots table) s) ≡ Ok (Unknown k)))
            → (k : ℕ) × (from a used table w (suc left) s ≡ Ok (Unknown k))
        go (vacant z q) ih = (s, q)
        go (unused n g q) ih = absurd (omega (arith, (filled_stands (filled_slot s h n)).below))
        go (found n m q) ih =
            let f : Filled s = filled_slot s h n in
            absurd (new f.index f.in_range (sym (filled_stands f).named ∙ m.named))
        go (passed n m q) ih = let r = ih n in (r.0, q ∙ r.1)

  -- the search for any other name ends at an empty slot
  pub unknown : (w : List ℕ) → Lacks ks w → 0 < slots table → Open a used table w
  unknown w new some =
      let free : Spare (slots table) table = spare (slots table) table (omega (arith, tab.most, tab.count)) in
      let low : first table w < slots table = mod-lt (fnv1a w) some in
      opened a used table w some
      (ends w new free.slot free.inside free.empty (slots table) (first table w) low
      (ahead-all w new free.slot free.inside free.empty (first table w) low))

-- ---- the table as a function of its terms

-- the empty slot that a search meets is the first
empty_met : {table : List ℕ} {left s k : ℕ} → Way (slots table) table left s k → get_or table k 0 ≡ 0 → empty_from left table s ≡ k
unfolding empty_from
empty_met {table} (here {k = k}) z = rw (eq-eqb (get_or table k 0) 0 z)
empty_met {table} (on {s = s} n w) z = rw (ne_eqb (get_or table s 0) 0 n) (empty_met w z)

-- a last term is entered into the table of those before it
enter_last : (table : List ℕ) (ks : List Known) (k : Known)
    → enter_all table (ks ++ (k ∷ [])) ≡ enter (enter_all table ks) (slot_for (enter_all table ks) k.name) k.head
unfolding enter_all
enter_last table [] k = refl
enter_last table (j ∷ ks) k = enter_last (enter table (slot_for table j.name) j.head) ks k

-- entering a term where its search ends gives the table of one term more
table_enter : {table : List ℕ} (ks : List Known) (k : Known) (s : ℕ) → table ≡ table_of (length table) ks
    → Vacant (slots table) table (slots table) (fnv1a k.name % slots table) s
    → enter table s k.head ≡ table_of (length (enter table s k.head)) (ks ++ (k ∷ []))
unfolding table_of slot_for
table_enter {table} ks k s is v =
    let e : slot_for table k.name ≡ s = empty_met v.way v.empty in
    ap (λ (x : ℕ). enter table x k.head) (sym e)
    ∙ ap (λ (x : List ℕ). enter x (slot_for x k.name) k.head) is
    ∙ sym (enter_last (replicate (length table) 0) ks k)
    ∙ ap (λ (n : ℕ). table_of n (ks ++ (k ∷ []))) (sym (length-enter table s k.head))

-- ---- what keeps the invariant

-- a cleared table holds no term
pub tab_start : (a : List ℕ) (used n : ℕ) → Tab a used (replicate n 0) []
unfolding table_of enter_all
tab_start a used n =
    record {
      most = omega arith;
      stands = λ i h. absurd (omega arith);
      apart = λ i j h g e. absurd (omega arith);
      only = λ s h. empty (get_or-replicate n s 0 0 (omega (arith, slots_le (replicate n 0), length-replicate {A = ℕ} n 0)));
      reached = λ i h. absurd (omega arith);
      count = filled_none (slots (replicate n 0)) n;
      is = rw (length-replicate {A = ℕ} n 0);
    }

-- the arena may change where the names of the heads stay, and blocks may be taken
pub tab_keep : {a : List ℕ} {used : ℕ} {table : List ℕ} {ks : List Known} → Tab a used table ks → (a' : List ℕ) (used' : ℕ) → used ≤ used'
    → ((i : ℕ) → i < length ks → name_of a' (nth ks i).head ≡ name_of a (nth ks i).head) → Tab a' used' table ks
tab_keep tab a' used' more kept =
    record {
      most = tab.most;
      stands = λ i h. record { below = omega (arith, (tab.stands i h).below); named = kept i h ∙ (tab.stands i h).named };
      apart = tab.apart;
      only = tab.only;
      reached = tab.reached;
      count = tab.count;
      is = tab.is;
    }

-- filling an empty slot leaves each way
way_fill : {t : ℕ} {table : List ℕ} (e v : ℕ) → get_or table e 0 ≡ 0 → {left s k : ℕ} → Way t table left s k → Way t (set table e v) left s k
way_fill e v z here = here
way_fill {table = table} e v z (on {s = s} n w) = on (λ q. n (sym (get_or-set_other table e s v 0 (λ p. n (rw p z))) ∙ q)) (way_fill e v z w)

-- the places of a list with one more at its end
each : (P : ℕ → Known → Type 0) (ks : List Known) (k : Known) → ((i : ℕ) → i < length ks → P i (nth ks i)) → P (length ks) k
    → (i : ℕ) → i < length (ks ++ (k ∷ [])) → P i (nth (ks ++ (k ∷ [])) i)
each P ks k old last i h =
    by-lt i (length ks) (λ l. rw (get_or-append ks (k ∷ []) unnamed i l) (old i l))
    (λ g.
    let q : i ≡ length ks = omega (arith, length-append ks (k ∷ [])) in
    rw (q, get_or-append_seam ks k [] unnamed) last)

-- a new name, its head in an empty slot that its search meets
module _ {a : List ℕ} {used : ℕ} {table : List ℕ} {ks : List Known} (tab : Tab a used table ks) (k : Known)
    (new : Lacks ks k.name) (stands-new : Stands a used k.name k.head) (room : length ks < slots table / 2)
    (s : ℕ) (v : Vacant (slots table) table (slots table) (fnv1a k.name % slots table) s) where
  in_table : s < length table
  in_table = omega (arith, slots_le table, v.inside)

  reach_old : (j : Known) → Reached table j → Reached (enter table s k.head) j
  unfolding enter
  reach_old j r =
      record {
        slot = r.slot;
        value = get_or-set_other table s r.slot (k.head + 1) 0 (λ q. omega (arith, ap (λ (n : ℕ). get_or table n 0) q, r.value, v.empty)) ∙ r.value;
        way = rw (slots-enter table s k.head) (way_fill s (k.head + 1) v.empty r.way);
      }

  reach_new : Reached (enter table s k.head) k
  unfolding enter
  reach_new =
      record {
        slot = s;
        value = get_or-set_same table s (k.head + 1) 0 in_table;
        way = rw (slots-enter table s k.head) (way_fill s (k.head + 1) v.empty v.way);
      }

  slot_more : {x : ℕ} → Slot ks x → Slot (ks ++ (k ∷ [])) x
  slot_more (empty e) = empty e
  slot_more (holds i h e) = holds i (rw length-append (omega arith)) (rw (get_or-append ks (k ∷ []) unnamed i h) e)

  only_more : (r : ℕ) → r < slots table → Slot (ks ++ (k ∷ [])) (get_or (enter table s k.head) r 0)
  unfolding enter
  only_more r h =
      by-eq r s
      (λ q. rw (q, get_or-set_same table s (k.head + 1) 0 in_table) (holds (length ks) (rw length-append (omega arith)) (rw (get_or-append_seam ks k [] unnamed))))
      (λ n. rw (get_or-set_other table s r (k.head + 1) 0 n) (slot_more (tab.only r h)))

  apart_more : (i : ℕ) → i < length (ks ++ (k ∷ [])) → (j : ℕ) → j < length (ks ++ (k ∷ [])) → (nth (ks ++ (k ∷ [])) i).name ≡ (nth (ks ++ (k ∷ [])) j).name → i ≡ j
  apart_more =
      each (λ i x. (j : ℕ) → j < length (ks ++ (k ∷ [])) → x.name ≡ (nth (ks ++ (k ∷ [])) j).name → i ≡ j) ks k
      (λ i h. each (λ j y. (nth ks i).name ≡ y.name → i ≡ j) ks k (λ j g. tab.apart i j h g) (λ e. absurd (new i h e)))
      (each (λ j y. k.name ≡ y.name → length ks ≡ j) ks k (λ j g e. absurd (new j g (sym e))) (λ e. refl))

  entered : Tab a used (enter table s k.head) (ks ++ (k ∷ []))
  unfolding enter
  entered =
      record {
        most = rw (length-append, slots-enter table s k.head) (omega arith);
        stands = each (λ i j. Stands a used j.name j.head) ks k tab.stands stands-new;
        apart = λ i j h. apart_more i h j;
        only = λ r h. only_more r (rw (slots-enter table s k.head) at h);
        reached = each (λ i j. Reached (enter table s k.head) j) ks k (λ i h. reach_old (nth ks i) (tab.reached i h)) reach_new;
        count = rw (slots-enter table s k.head, length-append, add-one k.head)
            (filled_set (slots table) table s k.head v.inside in_table v.empty ∙ omega (arith, tab.count));
        is = table_enter ks k s tab.is v;
      }

-- a new name is entered, its head in the slot that its search gave, be it in this arena or in one before
pub tab_enter : {a : List ℕ} {used : ℕ} {table : List ℕ} {ks : List Known} → Tab a used table ks → (k : Known)
    → Lacks ks k.name → Stands a used k.name k.head → length ks < slots table / 2
    → (a₀ : List ℕ) (used₀ s : ℕ) → sought a₀ used₀ table k.name ≡ Ok (Unknown s)
    → Tab a used (enter table s k.head) (ks ++ (k ∷ []))
tab_enter {table = table} tab k new stands-new room a₀ used₀ s e =
    entered tab k new stands-new room s (vacant_met a₀ used₀ table k.name (omega arith) s e)
