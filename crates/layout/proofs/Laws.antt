-- What callers use: the steps that keep an index in its arena, what they do to the terms, and reading back.
-- Assumes nothing.
use mathlib.Core.Path.{◌≡◌, refl, sym, ap, ◌∙◌}
use Prim.Native.Nat.{ℕ, suc, ◌≤◌, ◌<◌}
use mathlib.Core.Bool.{Bool, true, false, cond}
use mathlib.Core.List.{List}
use native.Mathlib.Omega.{arith}
use lib.ListN.{length, length-set, length-append}
use Rattle.terms.specs.Terms.{max_term}
use Rattle.blocks.specs.Fields.{place, head_of, name_of}
use Rattle.blocks.specs.Writes.{fits, open_head, append}
use Rattle.blocks.specs.Prescribed.{Posting}
use Rattle.chains.specs.Chains.{whole, last_from, chain_of}
use Rattle.layout.specs.Chains.{After}
use Rattle.layout.specs.Held.{postings_of, head_no, head_for}
use Rattle.layout.specs.Index.{Index, term_at, used_of, Linked, Keeps, Image, joined, with_term, with_posting}
use Rattle.layout.specs.Claims.{Fields, Onward, ReadsBack}
use Rattle.layout.proofs.Held.{nos-closed}
use Rattle.layout.proofs.Linked.{keeps-posting, linked-posting, keeps-term, linked-term, linked-empty}
use Rattle.layout.proofs.Standing.{Standing, head-is, name_is, tail_link}
use Rattle.layout.proofs.Image.{standing, image-empty}
use Rattle.layout.proofs.Append.{append-length, image-posting}
use Rattle.layout.proofs.Open.{open_length, image-term}
use Rattle.layout.proofs.Reading.{reads_chain}
pub use Rattle.layout.proofs.Chains.{Holds, holds-put, holds-chain, reach-puts, blocks-prescribed}
pub use Rattle.layout.proofs.Held.{chain-reach, chain-holds}
pub use Rattle.layout.proofs.Arena.{store_other}
pub use Rattle.layout.proofs.Linked.{old_term, new_term, used-term}
pub use Rattle.layout.proofs.Image.{heads_apart}

-- ---- what the arena says of a term

module _ {a : List ℕ} {ix : Index} (im : Image a ix) (l : Linked ix) (i : ℕ) (hi : i < length ix.terms) where
  -- the fields that document 01 names, by the postings
  pub fields : Fields a (term_at ix i)
  unfolding head_for
  fields =
      let st : Standing a (used_of ix) (term_at ix i) = standing l i hi im in
      record {
        head = head-is st ∙ rw ((chain-holds (l.sound i hi)).last_is, chain-reach (term_at ix i));
        name = name_is st;
        first = tail_link st ∙ ap (λ r. r.first) (chain-reach (term_at ix i));
      }

  -- the fields of its head, as the posting test reads them
  pub head_for_lem : head_of a (head_no (term_at ix i)) ≡ head_for (term_at ix i)
  head_for_lem = head-is (standing l i hi im)

  -- READING BACK
  pub reads_back : (reports : ℕ) → last_from 0 (postings_of (term_at ix i)) ≤ reports
      → chain_of a (used_of ix) reports (head_no (term_at ix i)) ≡ whole (postings_of (term_at ix i))
  reads_back reports h = reads_chain a (used_of ix) reports (term_at ix i) (standing l i hi im) h

-- ---- a new term

pub terms-term : (ix : Index) (name : List ℕ) (p : Posting) → length (with_term ix name p).terms ≡ suc (length ix.terms)
unfolding with_term
terms-term ix name p = rw length-append (omega arith)

-- ---- from one index to the next

-- heads that keep their block and their name are found with that name
onward : (a : List ℕ) (ix : Index) (a' : List ℕ) (ix' : Index) → Image a ix → Linked ix → Image a' ix' → Linked ix' → Keeps ix ix'
    → length a' ≡ length a → Onward a ix a' ix'
onward a ix a' ix' im l im' l' k e =
    record {
      image = im';
      linked = l';
      keeps = k;
      same_length = e;
      names = λ i h.
          let st : Standing a (used_of ix) (term_at ix i) = standing l i h im in
          let st' : Standing a' (used_of ix') (term_at ix' i) = standing l' i (omega (arith, k.terms_le)) im' in
          ap (name_of a') (sym (k.no_is i 0 h (omega (arith, nos-closed (l.sound i h))))) ∙ name_is st' ∙ k.name_is i h ∙ sym (name_is st);
    }

module _ (a : List ℕ) (ix : Index) (im : Image a ix) (l : Linked ix) where
  -- A NEW TERM keeps the index in its arena
  pub opens : (name : List ℕ) (p : Posting) → length name ≤ max_term → After 0 p → place (suc (used_of ix)) ≤ length a
      → Onward a ix (open_head a (used_of ix) name p.number p.count) (with_term ix name p)
  opens name p h f room =
      onward a ix (open_head a (used_of ix) name p.number p.count) (with_term ix name p) im l
      (image-term a ix name p im l h f (rw used-term room))
      (linked-term ix name p l h f)
      (keeps-term ix name p)
      (open_length a (used_of ix) name p.number p.count)

  -- the new head has the name
  pub opens_name : (name : List ℕ) (p : Posting) → length name ≤ max_term → After 0 p → place (suc (used_of ix)) ≤ length a
      → name_of (open_head a (used_of ix) name p.number p.count) (used_of ix) ≡ name
  opens_name name p h f room =
      let o : Onward a ix (open_head a (used_of ix) name p.number p.count) (with_term ix name p) = opens name p h f room in
      rw (new_term ix name p) at (fields o.image o.linked (length ix.terms) (rw terms-term (omega arith))).name

  -- A POSTING MORE keeps the index in its arena
  pub appends : (i : ℕ) → i < length ix.terms → (p : Posting) → After (last_from 0 (postings_of (term_at ix i))) p
      → place (used_of (with_posting ix i p)) ≤ length a
      → Onward a ix (append a (head_no (term_at ix i)) (used_of ix) p.number p.count) (with_posting ix i p)
  appends i hi p f room =
      onward a ix (append a (head_no (term_at ix i)) (used_of ix) p.number p.count) (with_posting ix i p) im l
      (image-posting a ix i p im l hi f room)
      (linked-posting ix i p hi l f)
      (keeps-posting ix i p hi)
      (append-length a (head_no (term_at ix i)) (used_of ix) p.number p.count)

-- ---- what a posting more does to the number of terms and to the blocks in use

module _ (ix : Index) (i : ℕ) (p : Posting) where
  pub terms-posting : length (with_posting ix i p).terms ≡ length ix.terms
  unfolding with_posting
  terms-posting = simp length-set

  -- one block more exactly where the posting does not fit
  pub used-posting : used_of (with_posting ix i p) ≡ cond (fits (head_for (term_at ix i)) p.number p.count) (used_of ix) (suc (used_of ix))
  unfolding with_posting
  used-posting = go (fits (head_for (term_at ix i)) p.number p.count)
    where
      go : (b : Bool) → length (joined b ix.owners (record { term = i; ord = length (term_at ix i).nos })) ≡ cond b (used_of ix) (suc (used_of ix))
      go true = refl
      go false = rw length-append (omega arith)

-- ---- the claim

pub read_back : ReadsBack
read_back =
    record {
      starts = λ a. (image-empty a, linked-empty);
      opens = opens;
      appends = appends;
      fields = λ a ix im l i hi. fields im l i hi;
      reads = λ a ix im l i hi. reads_back im l i hi;
    }
