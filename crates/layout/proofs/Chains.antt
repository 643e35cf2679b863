-- A chain grown posting by posting holds the postings put in: their numbers are restored from its gaps, and its reach is the one prescribed.
-- Assumes nothing.
use mathlib.Core.Path.{◌≡◌, refl, ap, ◌∙◌}
use Prim.Native.Nat.{ℕ, zero, suc, ◌+◌, ◌-◌, ◌≤◌, ◌<◌}
use mathlib.Core.Bool.{Bool, true, false}
use mathlib.Core.List.{List, [], ◌∷◌, ◌++◌, append_assoc, append-nil}
use native.Mathlib.Omega.{arith}
use lib.ListN.{length, length-append, get_or-eq_default}
use lib.Seq.{append_snoc}
use borrow.Author.Tests.{leb-true}
use Rattle.basics.proofs.Cases.{by-lt}
use Rattle.basics.proofs.Parts.{get_or-inside, get_or-snoc}
use Rattle.postings.proofs.Laws.{length-code_pos, length-code_le}
use Rattle.blocks.specs.Fields.{block_size, head_fixed, link_size}
use Rattle.blocks.specs.Prescribed.{Posting, Reach, opened, onward, reached, prescribed}
use Rattle.chains.specs.Chains.{last_from}
use Rattle.layout.specs.Chains.{After, Rising, none, next, Entry, coded, codes, Block, entries, d_entry, b_entry, Chain, begun, stays, put_as, put, puts, blocks, block_in}
use Rattle.blocks.proofs.Sizes.{sizes}

-- ---- numbers restored from gaps

-- entries behind number n
unfoldable pub numbers : ℕ → List Entry → List Posting
numbers n [] = []
numbers n (e ∷ es) = record { number = n + e.gap; count = e.count } ∷ numbers (n + e.gap) es

unfoldable pub last_in : ℕ → List Entry → ℕ
last_in n [] = n
last_in n (e ∷ es) = last_in (n + e.gap) es

-- blocks behind one whose first number is n
unfoldable pub restored : ℕ → List Block → List Posting
restored n [] = []
restored n (k ∷ ks) = numbers n (entries k) ++ restored (n + k.opening.gap) ks

-- the first number of the last of them
unfoldable pub first_in : ℕ → List Block → ℕ
first_in n [] = n
first_in n (k ∷ ks) = first_in (n + k.opening.gap) ks

numbers-append : (n : ℕ) (xs ys : List Entry) → numbers n (xs ++ ys) ≡ numbers n xs ++ numbers (last_in n xs) ys
unfolding numbers last_in
numbers-append n [] ys = refl
numbers-append n (x ∷ xs) ys = rw (numbers-append (n + x.gap) xs ys)

last_in_snoc : (n : ℕ) (xs : List Entry) (e : Entry) → last_in n (xs ++ (e ∷ [])) ≡ last_in n xs + e.gap
unfolding last_in
last_in_snoc n [] e = refl
last_in_snoc n (x ∷ xs) e = last_in_snoc (n + x.gap) xs e

last_in_le : (n : ℕ) (xs : List Entry) → n ≤ last_in n xs
unfolding last_in
last_in_le n [] = omega arith
last_in_le n (x ∷ xs) = omega (arith, last_in_le (n + x.gap) xs)

restored_append : (n : ℕ) (xs ys : List Block) → restored n (xs ++ ys) ≡ restored n xs ++ restored (first_in n xs) ys
unfolding restored first_in
restored_append n [] ys = refl
restored_append n (x ∷ xs) ys = rw (restored_append (n + x.opening.gap) xs ys, append_assoc)

first_in_snoc : (n : ℕ) (xs : List Block) (k : Block) → first_in n (xs ++ (k ∷ [])) ≡ first_in n xs + k.opening.gap
unfolding first_in
first_in_snoc n [] k = refl
first_in_snoc n (x ∷ xs) k = first_in_snoc (n + x.opening.gap) xs k

-- one entry more in the last block
restored_more : (n : ℕ) (ks : List Block) (k : Block) (e : Entry)
    → restored n (ks ++ (record { opening = k.opening; others = k.others ++ (e ∷ []) } ∷ []))
    ≡ restored n (ks ++ (k ∷ [])) ++ (record { number = last_in (first_in n ks + k.opening.gap) k.others + e.gap; count = e.count } ∷ [])
unfolding restored numbers
restored_more n ks k e = simp (restored_append, numbers-append, append-nil, append_assoc)

-- one block more
restored_next : (n : ℕ) (ks : List Block) (e : Entry)
    → restored n (ks ++ (record { opening = e; others = [] } ∷ [])) ≡ restored n ks ++ (record { number = first_in n ks + e.gap; count = e.count } ∷ [])
unfolding restored numbers
restored_next n ks e = rw restored_append

-- ---- postings that rise

-- one more at the end
pub last_snoc : (n : ℕ) (ps : List Posting) (p : Posting) → last_from n (ps ++ (p ∷ [])) ≡ p.number
unfolding last_from
last_snoc n [] p = refl
last_snoc n (q ∷ ps) p = last_snoc q.number ps p

pub rising_snoc : {n : ℕ} {ps : List Posting} {p : Posting} → Rising n ps → After (last_from n ps) p → Rising n (ps ++ (p ∷ []))
unfolding last_from
rising_snoc none f = next f none
rising_snoc (next g r) f = next g (rising_snoc r f)

-- ---- what holds of a chain with the postings ps

-- where the postings of a chain's j-th block begin
abbrev pub start_at : ℕ → ℕ → ℕ
start_at start zero = start
start_at start (suc j) = link_size

pub record Holds (start : ℕ) (ps : List Posting) (c : Chain) : Type 0 where
  -- it reads back exactly
  pub reads : restored 0 (blocks c) ≡ ps
  pub last_is : c.reach.last ≡ last_from 0 ps
  -- its reach is that of its blocks
  pub offset_is : c.reach.offset ≡ start_at start (length c.closed) + length (codes (entries c.tail))
  pub first_in_lem : c.reach.first ≡ first_in 0 c.closed + c.tail.opening.gap
  pub last_in_lem : c.reach.last ≡ last_in c.reach.first c.tail.others
  -- and each block has room for its codes
  pub fits : (j : ℕ) → j ≤ length c.closed → start_at start j + length (codes (entries (block_in c j))) ≤ block_size

pub codes-snoc : (es : List Entry) (e : Entry) → codes (es ++ (e ∷ [])) ≡ codes es ++ coded e
unfolding codes
codes-snoc [] e = append-nil (coded e)
codes-snoc (x ∷ es) e = rw (codes-snoc es e, append_assoc)

pub codes-one : (e : Entry) → codes (e ∷ []) ≡ coded e
unfolding codes
codes-one e = append-nil (coded e)

-- the write offset lies behind the start of the tail's part, and in the block
pub offset_in_lem : {start : ℕ} {ps : List Posting} {c : Chain} → Holds start ps c
    → (start_at start (length c.closed) < c.reach.offset) × (c.reach.offset ≤ block_size)
unfolding codes
offset_in_lem {start} {ps} {c} h =
    let e : Entry = c.tail.opening in
    let n : ℕ = length c.closed in
    let t : start_at start n + length (codes (entries c.tail)) ≤ block_size =
    rw (get_or-eq_default c.closed c.tail {n = n} (omega arith)) at (h.fits n (omega arith)) in
    omega (arith, h.offset_is, length-append (coded e) (codes c.tail.others), length-code_pos e.gap e.count)

-- where a posting is put, by the test. What the ledger says of a block's end and of where postings begin is what the index does
pub onward-stays : (r : Reach) (p : Posting) → stays r p ≡ true
    → onward r p ≡ record { blocks = r.blocks; offset = r.offset + length (coded (d_entry r p)); first = r.first; last = p.number }
unfolding onward stays block_size
onward-stays r p e = rw e

pub onward-next : (r : Reach) (p : Posting) → stays r p ≡ false
    → onward r p ≡ record { blocks = r.blocks + 1; offset = link_size + length (coded (b_entry r p)); first = p.number; last = p.number }
unfolding onward stays block_size link_size
onward-next r p e = rw e

module _ {start : ℕ} {ps : List Posting} {c : Chain} {p : Posting} (h : Holds start ps c) (f : After (last_from 0 ps) p) where
  first_below : c.reach.first < p.number
  first_below = omega (arith, h.last_is, h.last_in_lem, last_in_le c.reach.first c.tail.others)

  -- ONE POSTING MORE
  holds_as : (b : Bool) → stays c.reach p ≡ b → Holds start (ps ++ (p ∷ [])) (put_as b c p)
  unfolding stays
  holds_as true e =
      let r : Reach = c.reach in
      let n : ℕ = length c.closed in
      let d : Entry = d_entry r p in
      let t : Block = record { opening = c.tail.opening; others = c.tail.others ++ (d ∷ []) } in
      let grows : codes (entries t) ≡ codes (entries c.tail) ++ coded d = codes-snoc (entries c.tail) d in
      let room : r.offset + length (coded d) ≤ block_size = leb-true _ _ e in
      let num : r.last + (p.number - r.last) ≡ p.number = omega (arith, h.last_is) in
      record {
        reads = rw (restored_more, h.reads, ← h.first_in_lem, ← h.last_in_lem, num);
        last_is = rw (onward-stays r p e, last_snoc);
        offset_is = rw (onward-stays r p e, grows, length-append) (omega (arith, h.offset_is));
        first_in_lem = rw (onward-stays r p e) h.first_in_lem;
        last_in_lem = rw (onward-stays r p e, last_in_snoc, ← h.last_in_lem, num);
        fits = λ j g. by-lt j n (λ lt. rw (get_or-inside c.closed j t c.tail lt) (h.fits j g))
            (λ ge. let q : j ≡ n = omega arith in
            rw (q, get_or-eq_default c.closed t {n = n} (omega arith), grows, length-append) (omega (arith, h.offset_is)));
      }
  holds_as false e =
      let r : Reach = c.reach in
      let n : ℕ = length c.closed in
      let d : Entry = b_entry r p in
      let t : Block = record { opening = d; others = [] } in
      let num : r.first + (p.number - r.first) ≡ p.number = omega (arith, first_below) in
      let len : length (blocks c) ≡ suc n = rw length-append (omega arith) in
      let small : length (coded d) ≤ 10 = length-code_le d.gap p.count (omega arith) (omega arith) in
      record {
        reads = rw (restored_next, h.reads, first_in_snoc, ← h.first_in_lem, num);
        last_is = rw (onward-next r p e, last_snoc);
        offset_is = rw (onward-next r p e, len, codes-one d);
        first_in_lem = rw (onward-next r p e, first_in_snoc, ← h.first_in_lem, num);
        last_in_lem = rw (onward-next r p e) (unfold last_in in refl);
        fits = λ j g. by-lt n j
            (λ gt. let q : j ≡ suc n = omega arith in
            rw (q, get_or-eq_default (blocks c) t {n = suc n} (omega (arith, sizes)), codes-one d) (omega (arith, sizes)))
            (λ le. rw (get_or-snoc c.closed j c.tail t le) (h.fits j le));
      }

module _ {start : ℕ} where
  pub holds-put : {ps : List Posting} {c : Chain} {p : Posting} → Holds start ps c → After (last_from 0 ps) p → Holds start (ps ++ (p ∷ [])) (put c p)
  unfolding put
  holds-put {c} {p} h f = holds_as h f (stays c.reach p) refl

  holds-puts : (ps : List Posting) (c : Chain) {n : ℕ} {qs : List Posting} → last_from 0 ps ≡ n → Holds start ps c
      → Rising n qs → Holds start (ps ++ qs) (puts c qs)
  unfolding puts
  holds-puts ps c e h none = rw append-nil h
  holds-puts ps c e h (next {p = p} {ps = qs} f r) =
      rw (← (append_snoc ps p qs)) (holds-puts (ps ++ (p ∷ [])) (put c p) (last_snoc 0 ps p) (holds-put h (rw e f)) r)

  -- the longest code takes 10 bytes
  holds-begun : (p : Posting) → start ≤ 54 → After 0 p → Holds start (p ∷ []) (begun start p)
  unfolding restored numbers first_in last_in last_from begun opened
  holds-begun p s f =
      record {
        reads = ap (λ (n : ℕ). record { number = n; count = p.count } ∷ []) (omega arith);
        last_is = refl;
        offset_is = rw codes-one;
        first_in_lem = omega arith;
        last_in_lem = refl;
        fits = λ j h. let z : j ≡ 0 = omega (arith, sizes) in rw (z, codes-one) (omega (arith, sizes, length-code_le p.number p.count (omega (arith, sizes)) (omega (arith, sizes))));
      }

  -- THE CHAIN OF RISING POSTINGS holds them
  pub holds-chain : {p : Posting} {ps : List Posting} → start ≤ 54 → Rising 0 (p ∷ ps) → Holds start (p ∷ ps) (puts (begun start p) ps)
  unfolding last_from
  holds-chain s (next {p = p} f r) = holds-puts (p ∷ []) (begun start p) refl (holds-begun p s f) r

-- ---- the reach

reach_as : (b : Bool) (c : Chain) (p : Posting) → (put_as b c p).reach ≡ onward c.reach p
reach_as true c p = refl
reach_as false c p = refl

-- a chain's reach is the one prescribed for its postings
pub reach-puts : (c : Chain) (ps : List Posting) → (puts c ps).reach ≡ reached c.reach ps
unfolding puts put reached
reach-puts c [] = refl
reach-puts c (p ∷ ps) = reach-puts (put c p) ps ∙ rw (reach_as (stays c.reach p) c p)

-- one posting behind the others
pub puts-snoc : (c : Chain) (ps : List Posting) (p : Posting) → puts c (ps ++ (p ∷ [])) ≡ put (puts c ps) p
unfolding puts
puts-snoc c [] p = refl
puts-snoc c (q ∷ ps) p = puts-snoc (put c q) ps p

-- ---- the number of blocks

counts_as : (b : Bool) (c : Chain) (p : Posting) → stays c.reach p ≡ b → length (blocks c) ≡ c.reach.blocks
    → length (blocks (put_as b c p)) ≡ (onward c.reach p).blocks
counts_as true c p e h = rw (onward-stays c.reach p e, length-append) (omega (arith, length-append c.closed (c.tail ∷ [])))
counts_as false c p e h = rw (onward-next c.reach p e, length-append (blocks c)) (omega arith)

counts-puts : (c : Chain) (ps : List Posting) → length (blocks c) ≡ c.reach.blocks → length (blocks (puts c ps)) ≡ (puts c ps).reach.blocks
unfolding puts put
counts-puts c [] h = h
counts-puts c (p ∷ ps) h = counts-puts (put c p) ps (counts_as (stays c.reach p) c p refl h ∙ rw (reach_as (stays c.reach p) c p))

-- THE BLOCKS of a chain are as many as its postings prescribe
pub blocks-prescribed : (n : ℕ) (p : Posting) (ps : List Posting) → length (blocks (puts (begun (head_fixed + n) p) ps)) ≡ prescribed n (p ∷ ps)
unfolding begun opened prescribed head_fixed
blocks-prescribed n p ps = counts-puts (begun (head_fixed + n) p) ps refl ∙ rw (reach-puts (begun (head_fixed + n) p) ps)
