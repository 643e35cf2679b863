-- What stands in the arena is what was put in. An index starts empty; a new term, and a posting more, are written so
-- that the arena then holds the index with them; and reading a term's chain gives exactly its postings, over any number
-- of joins.
use Rattle.std.specs.Prelude.{ℕ, suc, ◌≤◌, ◌<◌, ◌≡◌, List, length}
use Rattle.terms.specs.Terms.{max_term}
use Rattle.blocks.specs.Fields.{place, link_of, head_of, name_of}
use Rattle.blocks.specs.Writes.{open_head, append}
use Rattle.blocks.specs.Prescribed.{Posting, opened, reached}
use Rattle.chains.specs.Chains.{whole, last_from, chain_of}
use Rattle.layout.specs.Chains.{After}
use Rattle.layout.specs.Held.{Held, postings_of, head_no, tail_no, start_of}
use Rattle.layout.specs.Index.{Index, term_at, used_of, Linked, Keeps, Image, empty, with_term, with_posting}

-- the fields of a term's head, its name, and the first number of its tail, as the arena has them
pub record Fields (a : List ℕ) (t : Held) : Type 0 where
  pub head : head_of a (head_no t) ≡ record {
    tail = tail_no t;
    last = last_from 0 (postings_of t);
    postings = length (postings_of t);
    end = (reached (opened (start_of t) t.first) t.rest).offset;
    length = length t.name;
  }
  pub name : name_of a (head_no t) ≡ t.name
  pub first : link_of a (tail_no t) ≡ (reached (opened (start_of t) t.first) t.rest).first

-- from index ix in arena a to index ix' in arena a'
pub record Onward (a : List ℕ) (ix : Index) (a' : List ℕ) (ix' : Index) : Type 0 where
  pub image : Image a' ix'
  pub linked : Linked ix'
  pub keeps : Keeps ix ix'
  pub same_length : length a' ≡ length a
  pub names : (i : ℕ) → i < length ix.terms → name_of a' (head_no (term_at ix i)) ≡ name_of a (head_no (term_at ix i))

pub record ReadsBack : Type 0 where
  pub starts : (a : List ℕ) → Image a empty × Linked empty
  -- a new term with its first posting, where one more block lies in the arena
  pub opens :
      (a : List ℕ) (ix : Index) → Image a ix → Linked ix → (name : List ℕ) (p : Posting) → length name ≤ max_term → After 0 p
      → place (suc (used_of ix)) ≤ length a → Onward a ix (open_head a (used_of ix) name p.number p.count) (with_term ix name p)
  -- a posting more of term i, where the blocks then in use lie in the arena
  pub appends :
      (a : List ℕ) (ix : Index) → Image a ix → Linked ix → (i : ℕ) → i < length ix.terms → (p : Posting)
      → After (last_from 0 (postings_of (term_at ix i))) p → place (used_of (with_posting ix i p)) ≤ length a
      → Onward a ix (append a (head_no (term_at ix i)) (used_of ix) p.number p.count) (with_posting ix i p)
  -- what the arena says of term i, and what is read of it
  pub fields : (a : List ℕ) (ix : Index) → Image a ix → Linked ix → (i : ℕ) → i < length ix.terms → Fields a (term_at ix i)
  pub reads :
      (a : List ℕ) (ix : Index) → Image a ix → Linked ix → (i : ℕ) → i < length ix.terms → (reports : ℕ)
      → last_from 0 (postings_of (term_at ix i)) ≤ reports
      → chain_of a (used_of ix) reports (head_no (term_at ix i)) ≡ whole (postings_of (term_at ix i))
