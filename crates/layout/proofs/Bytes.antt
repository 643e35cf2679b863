-- What one posting more does to the bytes of a term's blocks: one store into the tail, one into the head, and perhaps a new block.
-- Assumes nothing.
use mathlib.Core.Path.{◌≡◌, refl}
use Prim.Native.Nat.{ℕ, suc, ◌+◌, ◌≤◌, ◌<◌}
use mathlib.Core.Bool.{Bool, true, false, cond}
use mathlib.Core.List.{List, [], ◌∷◌, ◌++◌}
use native.Mathlib.Omega.{arith}
use lib.Dec.{eqb}
use lib.ListN.{length, get_or, length-append, get_or-eq_default}
use borrow.Author.Tests.{leb-true, eqb-true, eqb-false}
use Rattle.basics.specs.Words.{word}
use Rattle.basics.proofs.Parts.{get_or-inside, get_or-snoc}
use Rattle.blocks.specs.declared.Head.{Head}
use Rattle.blocks.specs.Fields.{block_size}
use Rattle.blocks.specs.Writes.{padded, growing, changing, head_bytes}
use Rattle.blocks.specs.Prescribed.{Posting, opened}
use Rattle.layout.specs.Chains.{Entry, coded, codes, Block, entries, Chain, d_entry, b_entry, begun, stays, puts, block_in}
use Rattle.layout.specs.Held.{Held, chain, head_for, link_at, form, written, block_bytes}
use Rattle.layout.specs.Index.{Sound, fresh, grown}
use Rattle.layout.proofs.Chains.{codes-snoc, codes-one, onward-stays, onward-next}
use Rattle.layout.proofs.Held.{tail_at, chain-holds, nos-closed, chain-grown, tail-stays}
use Rattle.layout.proofs.Arena.{store_if}
use Rattle.layout.proofs.Forms.{length-form, store_growing, store_fields, store_link, store_code}

-- the fields of the head that it stores, and where: the tail among them where there is a new block
abbrev pub fields_at : Bool → ℕ
fields_at true = 8
fields_at false = 4

abbrev pub fields : Bool → Head → List ℕ
fields true d = growing d.last d.postings d.end
fields false d = changing d.tail d.last d.postings d.end

-- where a posting stores into the tail, and what: its code behind the others, or the link to the new block
abbrev pub offset_in : Bool → Held → ℕ
offset_in true t = (head_for t).end
offset_in false t = 0

abbrev pub bytes_in : Bool → ℕ → Held → Posting → List ℕ
bytes_in true used t p = coded (d_entry (chain t).reach p)
bytes_in false used t p = word used

-- the codes of the j-th block, where the tail has one entry more
codes-stays : (ks : List Block) (k : Block) (e : Entry) (j : ℕ) → j ≤ length ks
    → codes (entries (get_or ks j (record { opening = k.opening; others = k.others ++ (e ∷ []) })))
    ≡ cond (eqb j (length ks)) (codes (entries (get_or ks j k)) ++ coded e) (codes (entries (get_or ks j k)))
codes-stays ks k e j h = go (eqb j (length ks)) refl
  where
    more : Block
    more = record { opening = k.opening; others = k.others ++ (e ∷ []) }

    go : (t : Bool) → eqb j (length ks) ≡ t → codes (entries (get_or ks j more)) ≡ cond t (codes (entries (get_or ks j k)) ++ coded e) (codes (entries (get_or ks j k)))
    go true q =
        let l : j ≡ length ks = eqb-true j (length ks) q in
        rw (l, get_or-eq_default ks k {n = length ks} (omega arith), get_or-eq_default ks more {n = length ks} (omega arith))
        (codes-snoc (entries k) e)
    go false q =
        let l : j < length ks = omega (arith, eqb-false j (length ks) q) in
        rw (get_or-inside ks j more k l)

-- the link of the j-th block, where one block more stands behind the tail
link_next : (nos : List ℕ) (n u j x y : ℕ) → length nos ≡ suc n → j ≤ n → get_or (nos ++ (u ∷ [])) (suc j) x ≡ cond (eqb j n) u (get_or nos (suc j) y)
link_next nos n u j x y l h = rw (get_or-snoc nos (suc j) u x (omega arith)) (go (eqb j n) refl)
  where
    go : (t : Bool) → eqb j n ≡ t → get_or nos (suc j) u ≡ cond t u (get_or nos (suc j) y)
    go true q = get_or-eq_default nos u {n = suc j} (omega (arith, eqb-true j n q))
    go false q = get_or-inside nos (suc j) u y (omega (arith, eqb-false j n q))

module _ (used : ℕ) (t : Held) (p : Posting) (s : Sound used t) where
  -- the write offset is the end of what is written of the tail
  end_is : (j : ℕ) → j ≡ tail_at t → (head_for t).end ≡ length (written t j)
  unfolding head_for written
  end_is j q =
      rw (q, length-form, get_or-eq_default (chain t).closed (chain t).tail {n = tail_at t} (omega arith)) (chain-holds s).offset_is

  -- the blocks that it had
  pub bytes-grown : (b : Bool) → stays (chain t).reach p ≡ b → (j : ℕ) → j ≤ tail_at t
      → block_bytes (grown b used t p) j
      ≡ store_if (eqb j 0) (store_if (eqb j (tail_at t)) (block_bytes t j) (offset_in b t) (bytes_in b used t p)) (fields_at b) (fields b (head_for (grown b used t p)))
  unfolding block_bytes written
  bytes-grown true e j h =
      let c : Chain = chain t in
      let x : List ℕ = codes (entries (block_in c j)) in
      let d : Entry = d_entry c.reach p in
      let n : ℕ = length c.closed in
      let room : (head_for t).end + length (coded d) ≤ block_size = unfold head_for stays in leb-true _ _ e in
      rw (
        chain-grown used t p true e,
        onward-stays c.reach p e,
        store_code (eqb j n) j (link_at t j) (head_for t) t.name x (head_for t).end (coded d) (λ q. (end_is j (eqb-true j n q), room)),
        store_growing j (link_at t j) (head_for t) (head_for (grown true used t p)) t.name (cond (eqb j n) (x ++ coded d) x) (tail-stays used t p),
        codes-stays c.closed c.tail d j h,
      )
  bytes-grown false e j h =
      let c : Chain = chain t in
      let x : List ℕ = codes (entries (block_in c j)) in
      let n : ℕ = length c.closed in
      rw (
        chain-grown used t p false e,
        onward-next c.reach p e,
        link_next t.nos n used j p.number c.reach.first (nos-closed s) h,
        get_or-snoc c.closed j c.tail (record { opening = b_entry c.reach p; others = [] }) h,
        store_link (eqb j n) j (link_at t j) (head_for t) t.name x used,
        store_fields j (cond (eqb j n) used (link_at t j)) (head_for t) (head_for (grown false used t p)) t.name x,
      )

  -- the new one
  pub bytes_next : stays (chain t).reach p ≡ false
      → block_bytes (grown false used t p) (length t.nos) ≡ padded (word p.number ++ coded (b_entry (chain t).reach p))
  unfolding block_bytes written form
  bytes_next e =
      let c : Chain = chain t in
      let d : Entry = b_entry c.reach p in
      let n : ℕ = length c.closed in
      rw (
        nos-closed s,
        chain-grown used t p false e,
        onward-next c.reach p e,
        get_or-eq_default (t.nos ++ (used ∷ [])) p.number {n = suc (suc n)} (rw length-append (omega (arith, nos-closed s))),
        get_or-eq_default (c.closed ++ (c.tail ∷ [])) (record { opening = d; others = [] }) {n = suc n} (rw length-append (omega arith)),
        codes-one d,
      )

-- the head of a new term
pub bytes-fresh : (used : ℕ) (name : List ℕ) (p : Posting) → block_bytes (fresh used name p) 0 ≡ padded (head_bytes used name p.number p.count)
unfolding block_bytes written form head_for chain puts begun opened head_bytes
bytes-fresh used name p = rw (codes-one (record { gap = p.number; count = p.count }))
