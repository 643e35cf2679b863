-- An index: the held terms, and for every block in use the term that owns it; what it means that it stands in an arena.
use Rattle.std.specs.Prelude.{ℕ, ◌≤◌, ◌<◌, ◌≡◌, Bool, true, false, List, [], ◌∷◌, ◌++◌, length, get_or, take, drop, set}
use Rattle.terms.specs.Terms.{max_term}
use Rattle.blocks.specs.Fields.{block_size, place}
use Rattle.blocks.specs.Writes.{fits}
use Rattle.blocks.specs.Prescribed.{Posting, prescribed}
use Rattle.layout.specs.Chains.{Rising}
use Rattle.layout.specs.Held.{Held, postings_of, block_no, head_for, block_bytes}

-- the owner of a block: a term's place among the terms, and the block's place in its chain
pub record Owner : Type 0 where
  pub term : ℕ
  pub ord : ℕ

pub record Index : Type 0 where
  pub terms : List Held
  pub owners : List Owner

abbrev pub no_term : Held
no_term = record { name = []; first = record { number = 0; count = 0 }; rest = []; nos = [] }

abbrev pub no_owner : Owner
no_owner = record { term = 0; ord = 0 }

abbrev pub term_at : Index → ℕ → Held
term_at ix i = get_or ix.terms i no_term

abbrev pub owner_at : Index → ℕ → Owner
owner_at ix k = get_or ix.owners k no_owner

-- the number of the j-th block of term i
abbrev pub no_at : Index → ℕ → ℕ → ℕ
no_at ix i j = block_no (term_at ix i) j

-- how many blocks are in use
abbrev pub used_of : Index → ℕ
used_of ix = length ix.owners

-- ---- owners and block numbers agree

-- the owner of block k has it where it says
pub record Owned (ix : Index) (k : ℕ) : Type 0 where
  pub term_lt : (owner_at ix k).term < length ix.terms
  pub ord_lt : (owner_at ix k).ord < length (term_at ix (owner_at ix k).term).nos
  pub no_is : no_at ix (owner_at ix k).term (owner_at ix k).ord ≡ k

-- the j-th block of term i is in use, and owned so
pub record Owns (ix : Index) (i j : ℕ) : Type 0 where
  pub used : no_at ix i j < used_of ix
  pub owner : owner_at ix (no_at ix i j) ≡ record { term = i; ord = j }

-- a term's name is short enough, its postings ascend, and it has as many blocks as they prescribe, which all are in use
pub record Sound (used : ℕ) (t : Held) : Type 0 where
  pub short : length t.name ≤ max_term
  pub rises : Rising 0 (postings_of t)
  pub whole : length t.nos ≡ prescribed (length t.name) (postings_of t)
  pub few : length t.nos ≤ used

pub record Linked (ix : Index) : Type 0 where
  pub owned : (k : ℕ) → k < used_of ix → Owned ix k
  pub owns : (i j : ℕ) → i < length ix.terms → j < length (term_at ix i).nos → Owns ix i j
  pub sound : (i : ℕ) → i < length ix.terms → Sound (used_of ix) (term_at ix i)

-- every block of ix keeps its owner in ix', and every term its place, its name and its blocks
pub record Keeps (ix ix' : Index) : Type 0 where
  pub used_le : used_of ix ≤ used_of ix'
  pub owner_is : (k : ℕ) → k < used_of ix → owner_at ix' k ≡ owner_at ix k
  pub terms_le : length ix.terms ≤ length ix'.terms
  pub name_is : (i : ℕ) → i < length ix.terms → (term_at ix' i).name ≡ (term_at ix i).name
  pub nos_le : (i : ℕ) → i < length ix.terms → length (term_at ix i).nos ≤ length (term_at ix' i).nos
  pub no_is : (i j : ℕ) → i < length ix.terms → j < length (term_at ix i).nos → no_at ix' i j ≡ no_at ix i j

-- ---- the arena holds the index

unfoldable pub block_at : List ℕ → ℕ → List ℕ
block_at a b = take block_size (drop (place b) a)

-- every block in use lies in the arena and has the bytes of its owner's block
pub record Image (a : List ℕ) (ix : Index) : Type 0 where
  pub inside : place (used_of ix) ≤ length a
  pub bytes : (k : ℕ) → k < used_of ix → block_at a k ≡ block_bytes (term_at ix (owner_at ix k).term) (owner_at ix k).ord

-- ---- growing

abbrev pub empty : Index
empty = record { terms = []; owners = [] }

-- a new term, with its head at the next block
abbrev pub fresh : ℕ → List ℕ → Posting → Held
fresh used name p = record { name = name; first = p; rest = []; nos = used ∷ [] }

unfoldable pub with_term : Index → List ℕ → Posting → Index
with_term ix name p = record {
  terms = ix.terms ++ (fresh (used_of ix) name p ∷ []);
  owners = ix.owners ++ (record { term = length ix.terms; ord = 0 } ∷ []);
}

-- x behind the others, unless b
abbrev pub joined : {A : Type 0} → Bool → List A → A → List A
joined true s x = s
joined false s x = s ++ (x ∷ [])

-- a posting more for a term; unless it fits, in the next block
abbrev pub grown : Bool → ℕ → Held → Posting → Held
grown b used t p = record { name = t.name; first = t.first; rest = t.rest ++ (p ∷ []); nos = joined b t.nos used }

abbrev pub with_posting_as : Bool → Index → ℕ → Posting → Index
with_posting_as b ix i p = record {
  terms = set ix.terms i (grown b (used_of ix) (term_at ix i) p);
  owners = joined b ix.owners (record { term = i; ord = length (term_at ix i).nos });
}

-- and for term i of an index
unfoldable pub with_posting : Index → ℕ → Posting → Index
with_posting ix i p = with_posting_as (fits (head_for (term_at ix i)) p.number p.count) ix i p
