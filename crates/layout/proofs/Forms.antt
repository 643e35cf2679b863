-- The bytes of a block by its fields, and what the stores of one posting do to them.
-- Assumes nothing.
use mathlib.Core.Path.{◌≡◌, refl, sym, ap, ◌∙◌}
use Prim.Native.Nat.{ℕ, zero, suc, ◌+◌, ◌-◌, ◌≤◌}
use mathlib.Core.Bool.{Bool, true, false, cond}
use mathlib.Core.List.{List, [], ◌∷◌, ◌++◌, append_assoc}
use native.Mathlib.Omega.{arith}
use native.Mathlib.Nat.{add-zero}
use lib.Dec.{eqb}
use lib.ListN.{length, get_or, take, drop, replicate, length-append}
use lib.Seq.{sets, drop_at, take_at}
use borrow.Author.Tests.{ne_eqb}
use Rattle.basics.specs.Words.{word, word_at}
use Rattle.basics.proofs.Stores.{sets_front}
use Rattle.basics.proofs.Parts.{sets-second}
use Rattle.blocks.specs.declared.Head.{Head}
use Rattle.blocks.specs.Fields.{block_size, head_fixed}
use Rattle.blocks.specs.Writes.{padded, growing, changing}
use Rattle.layout.specs.Held.{form}
use Rattle.layout.proofs.Chains.{start_at}
use Rattle.layout.proofs.Arena.{store_if}
use Rattle.blocks.proofs.Sizes.{sizes}

-- ---- a cleared block

-- bytes stored behind those that are written
padded_more : (s t : List ℕ) → length s + length t ≤ block_size → sets (padded s) (length s) t ≡ padded (s ++ t)
unfolding padded
padded_more s t h =
    let z : ℕ = block_size - length s in
    let left : z - length t ≡ block_size - length (s ++ t) = rw length-append (omega arith) in
    ap (λ (j : ℕ). sets (s ++ replicate z 0) j t) (sym (add-zero (length s)))
    ∙ rw (sets-second s (replicate z 0) 0 t, sets_front t z 0 (omega arith), left, append_assoc)

-- ---- reading fields

pub length-form : (j link : ℕ) (d : Head) (name x : List ℕ) → length (form j link d name x) ≡ start_at (head_fixed + length name) j + length x
unfolding form word changing
length-form zero link d name x =
    rw (length-append (word link ++ changing d.tail d.last d.postings d.end ++ (length name ∷ []) ++ name) x) (omega (arith, sizes))
length-form (suc j) link d name x = omega (arith, sizes)

-- bytes behind a form
form_more : (j link : ℕ) (d : Head) (name x c : List ℕ) → form j link d name x ++ c ≡ form j link d name (x ++ c)
unfolding form word
form_more zero link d name x c = append_assoc (word link ++ changing d.tail d.last d.postings d.end ++ (length name ∷ []) ++ name) x c
form_more (suc j) link d name x c = refl

pub link_form : (j link : ℕ) (d : Head) (name x : List ℕ) → word_at (padded (form j link d name x)) 0 ≡ link
unfolding padded form word word_at changing
link_form zero link d name x = omega arith
link_form (suc j) link d name x = omega arith

module _ (link : ℕ) (d : Head) (name x : List ℕ) where
  pub tail-form : word_at (padded (form 0 link d name x)) 4 ≡ d.tail
  unfolding padded form word word_at changing
  tail-form = omega arith

  pub last-form : word_at (padded (form 0 link d name x)) 8 ≡ d.last
  unfolding padded form word word_at changing
  last-form = omega arith

  pub postings_form : word_at (padded (form 0 link d name x)) 12 ≡ d.postings
  unfolding padded form word word_at changing
  postings_form = omega arith

  pub end_form : get_or (padded (form 0 link d name x)) 16 0 ≡ d.end
  unfolding padded form word changing
  end_form = refl

  pub length-name-form : get_or (padded (form 0 link d name x)) 17 0 ≡ length name
  unfolding padded form word changing
  length-name-form = refl

  pub name-form : take (length name) (drop head_fixed (padded (form 0 link d name x))) ≡ name
  unfolding padded form word changing head_fixed
  name-form =
      let z : List ℕ = replicate (block_size - length (form 0 link d name x)) 0 in
      ap (take (length name)) (append_assoc name x z) ∙ take_at name (x ++ z) (length name) refl

-- what stands behind the fields
pub part_form : (j link : ℕ) (d : Head) (name x : List ℕ)
    → drop (start_at (head_fixed + length name) j) (padded (form j link d name x))
    ≡ x ++ replicate (block_size - (start_at (head_fixed + length name) j + length x)) 0
unfolding padded
part_form j link d name x =
    let n : ℕ = start_at (head_fixed + length name) j in
    let z : List ℕ = replicate (block_size - (n + length x)) 0 in
    rw (length-form, ← (form_more j link d name [] x), append_assoc) (drop_at (form j link d name []) (x ++ z) n (length-form j link d name [] ∙ add-zero n))

-- ---- stores into fields

-- the fields of the head that every posting changes, by the block's place in the chain
pub store_growing : (j link : ℕ) (d e : Head) (name x : List ℕ) → d.tail ≡ e.tail
    → store_if (eqb j 0) (padded (form j link d name x)) 8 (growing e.last e.postings e.end) ≡ padded (form j link e name x)
unfolding padded form word changing
store_growing zero link d e name x q = rw q refl
store_growing (suc j) link d e name x q = rw (ne_eqb (suc j) 0 (λ q. omega arith))

-- and with the tail before them
pub store_fields : (j link : ℕ) (d e : Head) (name x : List ℕ)
    → store_if (eqb j 0) (padded (form j link d name x)) 4 (changing e.tail e.last e.postings e.end) ≡ padded (form j link e name x)
unfolding padded form word changing
store_fields zero link d e name x = refl
store_fields (suc j) link d e name x = rw (ne_eqb (suc j) 0 (λ q. omega arith))

-- the link
pub store_link : (t : Bool) (j link : ℕ) (d : Head) (name x : List ℕ) (l : ℕ)
    → store_if t (padded (form j link d name x)) 0 (word l) ≡ padded (form j (cond t l link) d name x)
unfolding padded form word changing
store_link true zero link d name x l = refl
store_link true (suc j) link d name x l = refl
store_link false j link d name x l = refl

-- a code behind the others
pub store_code : (t : Bool) (j link : ℕ) (d : Head) (name x : List ℕ) (o : ℕ) (c : List ℕ)
    → (t ≡ true → (o ≡ length (form j link d name x)) × (o + length c ≤ block_size))
    → store_if t (padded (form j link d name x)) o c ≡ padded (form j link d name (cond t (x ++ c) x))
store_code true j link d name x o c h =
    rw ((h refl).0, padded_more (form j link d name x) c (omega (arith, h refl)), form_more)
store_code false j link d name x o c h = refl
