-- A posting more and a new term keep block numbers and owners in agreement. No arena comes in here.
-- Assumes nothing.
use mathlib.Core.Path.{◌≡◌, refl, ◌∙◌}
use Prim.Native.Nat.{ℕ, suc, ◌≤◌, ◌<◌}
use mathlib.Core.Bool.{Bool, true, false}
use mathlib.Core.List.{List, [], ◌∷◌}
use native.Mathlib.Omega.{arith}
use lib.ListN.{length, get_or, length-set, length-append, get_or-append}
use lib.Seq.{get_or-set_same, get_or-set_other}
use Rattle.basics.proofs.Cases.{by-lt, by-eq}
use Rattle.basics.proofs.Parts.{get_or-last}
use Rattle.terms.specs.Terms.{max_term}
use Rattle.blocks.specs.Writes.{fits}
use Rattle.blocks.specs.Prescribed.{Posting}
use Rattle.chains.specs.Chains.{last_from}
use Rattle.layout.specs.Chains.{After, stays}
use Rattle.layout.specs.Held.{Held, postings_of, chain, head_for}
use Rattle.layout.specs.Index.{Index, no_term, no_owner, term_at, owner_at, no_at, used_of, Owned, Owns, Sound, Linked, Keeps, empty, fresh, with_term, joined, grown, with_posting_as, with_posting}
use Rattle.layout.proofs.Held.{fits-stays, sound-grown, sound-fresh, sound_more}

-- ---- what is kept

module _ (ix ix' : Index) (l : Linked ix) (k : Keeps ix ix') where
  owned_old : (n : ℕ) → n < used_of ix → Owned ix' n
  owned_old n h =
      let o : Owned ix n = l.owned n h in
      let e : owner_at ix' n ≡ owner_at ix n = k.owner_is n h in
      record {
        term_lt = rw e (omega (arith, o.term_lt, k.terms_le));
        ord_lt = rw e (omega (arith, o.ord_lt, k.nos_le (owner_at ix n).term o.term_lt));
        no_is = rw e (k.no_is (owner_at ix n).term (owner_at ix n).ord o.term_lt o.ord_lt ∙ o.no_is);
      }

  owns_old : (i j : ℕ) → i < length ix.terms → j < length (term_at ix i).nos → Owns ix' i j
  owns_old i j h g =
      let o : Owns ix i j = l.owns i j h g in
      record {
        used = rw (k.no_is i j h g) (omega (arith, o.used, k.used_le));
        owner = rw (k.no_is i j h g, k.owner_is (no_at ix i j) o.used) o.owner;
      }

-- ---- lists with perhaps one element more

module _ {A : Type 0} where
  pub joined_is : (b : Bool) (s : List A) (x d : A) (i : ℕ) → i < length s → get_or (joined b s x) i d ≡ get_or s i d
  joined_is true s x d i h = refl
  joined_is false s x d i h = get_or-append s (x ∷ []) d i h

  joined_le : (b : Bool) (s : List A) (x : A) → length s ≤ length (joined b s x)
  joined_le true s x = omega arith
  joined_le false s x = rw length-append (omega arith)

  -- an old place, or the new one
  pub by-joined {ℓ} : {C : Type ℓ} (b : Bool) (s : List A) (x : A) (i : ℕ) → i < length (joined b s x) → (i < length s → C) → (b ≡ false → i ≡ length s → C) → C
  by-joined true s x i h f g = f h
  by-joined false s x i h f g = by-lt i (length s) f (λ ge. g refl (omega (arith, rw length-append at h)))

-- as many of one kind as of another
joined_both : {A B : Type 0} (b : Bool) (s : List A) (x : A) (t : List B) (y : B) → length s ≤ length t → length (joined b s x) ≤ length (joined b t y)
joined_both true s x t y h = h
joined_both false s x t y h = rw (length-append s (x ∷ []), length-append t (y ∷ [])) (omega arith)

-- ---- one posting more

module _ (b : Bool) (ix : Index) (i : ℕ) (p : Posting) (hi : i < length ix.terms) where
  pub mine : term_at (with_posting_as b ix i p) i ≡ grown b (used_of ix) (term_at ix i) p
  mine = get_or-set_same ix.terms i (grown b (used_of ix) (term_at ix i) p) no_term hi

  pub other : (m : ℕ) → (m ≡ i → ⊥) → term_at (with_posting_as b ix i p) m ≡ term_at ix m
  other m ne = get_or-set_other ix.terms i m (grown b (used_of ix) (term_at ix i) p) no_term ne

  keeps_as : Keeps ix (with_posting_as b ix i p)
  keeps_as =
      record {
        used_le = joined_le b ix.owners _;
        owner_is = λ k h. joined_is b ix.owners _ no_owner k h;
        terms_le = rw length-set (omega arith);
        name_is = λ m h. by-eq m i (λ e. rw (e, mine)) (λ ne. rw (other m ne));
        nos_le = λ m h. by-eq m i (λ e. rw (e, mine) (joined_le b (term_at ix i).nos (used_of ix))) (λ ne. rw (other m ne) (omega arith));
        no_is = λ m j h g. by-eq m i (λ e. rw (e, mine) (joined_is b (term_at ix i).nos (used_of ix) 0 j (rw e at g))) (λ ne. rw (other m ne));
      }

  module _ (l : Linked ix) (s : Sound (used_of (with_posting_as b ix i p)) (grown b (used_of ix) (term_at ix i) p)) where
    owned_new : b ≡ false → Owned (with_posting_as b ix i p) (used_of ix)
    owned_new e =
        let o : owner_at (with_posting_as b ix i p) (used_of ix) ≡ record { term = i; ord = length (term_at ix i).nos } = rw e (get_or-last ix.owners _ no_owner) in
        record {
          term_lt = rw (o, length-set) hi;
          ord_lt = rw (o, mine, e, length-append) (omega arith);
          no_is = rw (o, mine, e) (get_or-last (term_at ix i).nos (used_of ix) 0);
        }

    owns_new : b ≡ false → Owns (with_posting_as b ix i p) i (length (term_at ix i).nos)
    owns_new e =
        let n : no_at (with_posting_as b ix i p) i (length (term_at ix i).nos) ≡ used_of ix = rw (mine, e) (get_or-last (term_at ix i).nos (used_of ix) 0) in
        record {
          used = rw (n, e, length-append) (omega arith);
          owner = rw (n, e) (get_or-last ix.owners _ no_owner);
        }

    linked_as : Linked (with_posting_as b ix i p)
    linked_as =
        record {
          owned = λ k h. by-joined b ix.owners _ k h (owned_old ix (with_posting_as b ix i p) l keeps_as k) (λ e q. rw q (owned_new e));
          owns = λ m j h g. by-eq m i
              (λ e. rw e (by-joined b (term_at ix i).nos (used_of ix) j (rw (e, mine) at g)
              (owns_old ix (with_posting_as b ix i p) l keeps_as i j hi) (λ t q. rw q (owns_new t))))
              (λ ne. owns_old ix (with_posting_as b ix i p) l keeps_as m j (rw length-set at h) (rw (other m ne) at g));
          sound = λ m h. by-eq m i (λ e. rw (e, mine) s)
              (λ ne. rw (other m ne) (sound_more (joined_le b ix.owners _) (l.sound m (rw length-set at h))));
        }

module _ (ix : Index) (i : ℕ) (p : Posting) (hi : i < length ix.terms) where
  pub keeps-posting : Keeps ix (with_posting ix i p)
  unfolding with_posting
  keeps-posting = keeps_as (fits (head_for (term_at ix i)) p.number p.count) ix i p hi

  pub linked-posting : Linked ix → After (last_from 0 (postings_of (term_at ix i))) p → Linked (with_posting ix i p)
  unfolding with_posting
  linked-posting l f =
      let t : Held = term_at ix i in
      let b : Bool = stays (chain t).reach p in
      let s : Sound (used_of ix) t = l.sound i hi in
      rw (fits-stays t p)
      (linked_as b ix i p hi l (sound-grown (used_of ix) t p s f b refl _ (joined_both b t.nos (used_of ix) ix.owners _ s.few)))

-- ---- a new term

module _ (ix : Index) (name : List ℕ) (p : Posting) where
  pub old_term : (m : ℕ) → m < length ix.terms → term_at (with_term ix name p) m ≡ term_at ix m
  unfolding with_term
  old_term m h = get_or-append ix.terms _ no_term m h

  pub new_term : term_at (with_term ix name p) (length ix.terms) ≡ fresh (used_of ix) name p
  unfolding with_term
  new_term = get_or-last ix.terms _ no_term

  pub new_owner : owner_at (with_term ix name p) (used_of ix) ≡ record { term = length ix.terms; ord = 0 }
  unfolding with_term
  new_owner = get_or-last ix.owners _ no_owner

  pub keeps-term : Keeps ix (with_term ix name p)
  unfolding with_term
  keeps-term =
      record {
        used_le = rw length-append (omega arith);
        owner_is = λ k h. get_or-append ix.owners _ no_owner k h;
        terms_le = rw length-append (omega arith);
        name_is = λ m h. rw (old_term m h);
        nos_le = λ m h. rw (old_term m h) (omega arith);
        no_is = λ m j h g. rw (old_term m h);
      }

  pub used-term : used_of (with_term ix name p) ≡ suc (used_of ix)
  unfolding with_term
  used-term = rw length-append (omega arith)

  owned-head : Owned (with_term ix name p) (used_of ix)
  unfolding with_term
  owned-head =
      record {
        term_lt = rw (new_owner, length-append) (omega arith);
        ord_lt = rw (new_owner, new_term) (omega arith);
        no_is = rw (new_owner, new_term);
      }

  owns-head : (j : ℕ) → j < 1 → Owns (with_term ix name p) (length ix.terms) j
  owns-head j h =
      let z : j ≡ 0 = omega arith in
      record { used = rw (new_term, z, used-term) (omega arith); owner = rw (new_term, z) new_owner }

  pub linked-term : Linked ix → length name ≤ max_term → After 0 p → Linked (with_term ix name p)
  unfolding with_term
  linked-term l h f =
      record {
        owned = λ k g. by-joined false ix.owners _ k g (owned_old ix (with_term ix name p) l keeps-term k) (λ _ q. rw q owned-head);
        owns = λ m j g lt. by-joined false ix.terms _ m g (λ old. owns_old ix (with_term ix name p) l keeps-term m j old (rw (old_term m old) at lt))
            (λ _ q. rw q (owns-head j (rw (q, new_term) at lt)));
        sound = λ m g. by-joined false ix.terms _ m g (λ old. rw (old_term m old) (sound_more keeps-term.used_le (l.sound m old)))
            (λ _ q. rw (q, new_term, used-term) (sound-fresh (used_of ix) name p h f));
      }

-- ---- the empty index

pub linked-empty : Linked empty
linked-empty = record { owned = λ k h. absurd (omega arith); owns = λ i j h g. absurd (omega arith); sound = λ i h. absurd (omega arith) }
