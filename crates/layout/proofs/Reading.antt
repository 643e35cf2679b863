-- Reading a chain that stands in an arena gives back its term's postings.
-- Assumes nothing.
use mathlib.Core.Path.{◌≡◌, refl, sym, ap, ◌∙◌}
use Prim.Native.Nat.{ℕ, zero, suc, ◌+◌, ◌-◌, ◌≤◌, ◌<◌}
use mathlib.Core.Bool.{Bool, true, false, cond}
use mathlib.Core.List.{List, [], ◌∷◌, ◌++◌, append_assoc, append-nil}
use native.Mathlib.Omega.{arith}
use lib.Dec.{eqb}
use lib.ListN.{length, get_or, take, drop, replicate, length-append, length-replicate, length-drop, get_or-eq_default}
use lib.Seq.{take_at, take_all, drop-cons}
use borrow.Author.Tests.{eqb-true, eqb-false, eq-eqb, ne_eqb, lt-leb, le-ltb}
use Rattle.basics.proofs.Parts.{get_or-inside, get_or-snoc}
use Rattle.blocks.specs.Fields.{block_size, link_size, place, link_of, part_start, part_of}
use Rattle.blocks.specs.Prescribed.{Posting}
use Rattle.chains.specs.declared.Cursor.{Cursor}
use Rattle.chains.specs.Chains.{part_end, part_at, past, read_at, entered, whole, onto, follow, run, at_head, bad_head, last_from, agreeing, chain_of}
use Rattle.layout.specs.Chains.{After, Rising, none, next, Entry, coded, codes, Block, entries, Chain, blocks, block_in}
use Rattle.layout.specs.Held.{Held, postings_of, block_no, head_no, tail_no, start_of, chain, head_for, link_at, written, block_bytes, codes_at}
use Rattle.layout.proofs.Chains.{numbers, restored, start_at, Holds, offset_in_lem}
use Rattle.layout.proofs.Held.{tail_at, chain-holds, nos-closed}
use Rattle.layout.proofs.Arena.{part_block}
use Rattle.layout.proofs.Forms.{part_form}
use Rattle.layout.proofs.Standing.{Standing, block_in_lem, head-is, link_is}
use Rattle.chains.proofs.Steps.{step_on}
use Rattle.chains.proofs.Parts.{unread, step_first}
use Rattle.layout.proofs.Steps.{behind_entry, entry_found, reads_entry, step_next, step_end}

-- ---- postings that can be read behind number n: they rise, up to reports at most, and there are enough steps

record Readable (reports fuel n : ℕ) (ps : List Posting) : Type 0 where
  rises : Rising n ps
  last_le : last_from n ps ≤ reports
  enough : length ps < fuel

after_of : {n : ℕ} {p : Posting} {ps : List Posting} → Rising n (p ∷ ps) → After n p
after_of (next f r) = f

rest_of : {n : ℕ} {p : Posting} {ps : List Posting} → Rising n (p ∷ ps) → Rising p.number ps
rest_of (next f r) = r

-- there are no more of them than numbers behind n
last_ge : {n : ℕ} {ps : List Posting} → Rising n ps → n + length ps ≤ last_from n ps
unfolding last_from
last_ge none = omega arith
last_ge (next f r) = omega (arith, f.above, last_ge r)

module _ {reports fuel n : ℕ} {p : Posting} {ps : List Posting} (r : Readable reports (suc fuel) n (p ∷ ps)) where
  number_le : p.number ≤ reports
  unfolding last_from
  number_le = omega (arith, last_ge (rest_of r.rises), r.last_le)

  readable-rest : Readable reports fuel p.number ps
  unfolding last_from
  readable-rest = record { rises = rest_of r.rises; last_le = r.last_le; enough = omega (arith, r.enough) }

-- ---- the entries of a block behind its first

-- a cursor by its fields, those that stay in a block first
abbrev cursor : ℕ → ℕ → ℕ → ℕ → ℕ → ℕ → ℕ → Cursor
cursor tail end block first left at n = record { tail = tail; end = end; block = block; at = at; number = n; first = first; left = left }

module _ (a : List ℕ) (used reports tail end block first left : ℕ) (some : 0 < first) where
  abbrev here : ℕ → ℕ → Cursor
  here at n = cursor tail end block first left at n

  -- they are read one after the other, and then what stands behind the block
  run_block : (es : List Entry) (rest : List Posting) (z fuel at n : ℕ) → first ≤ n
      → part_at a (here at n) ≡ codes es ++ replicate z 0
      → Readable reports fuel n (numbers n es ++ rest)
      → ((fuel at n : ℕ) → first ≤ n → part_at a (here at n) ≡ replicate z 0 → Readable reports fuel n rest
      → run fuel a used reports (here at n) ≡ whole rest)
      → run fuel a used reports (here at n) ≡ whole (numbers n es ++ rest)
  unfolding codes numbers run follow onto
  run_block [] rest z fuel at n h q r k = k fuel at n h q r
  run_block (e ∷ es) rest z zero at n h q r k = absurd (omega (arith, r.enough))
  run_block (e ∷ es) rest z (suc fuel) at n h q r k =
      let s : List ℕ = codes es ++ replicate z 0 in
      let q' : part_at a (here at n) ≡ coded e ++ s = q ∙ append_assoc (coded e) (codes es) (replicate z 0) in
      let f : After n (record { number = n + e.gap; count = e.count }) = after_of r.rises in
      let one : part_at a (past (here at n) (n + e.gap) (length (coded e))) ≡ s =
      behind_entry a (here at n) e s (n + e.gap) q' in
      let same : cond (eqb first 0) (n + e.gap) first ≡ first = rw (ne_eqb first 0 (λ z. omega arith)) in
      rw (
        step_on a used reports (here at n) (unread a (here at n) (entry_found a used reports (here at n) n e s q' (omega arith) f)) some,
        reads_entry a used reports (here at n) n e s q' (omega arith) f (number_le r),
        same,
        run_block es rest z fuel (at + length (coded e)) (n + e.gap) (omega arith) (rw same at one) (readable-rest r) k,
      )

-- ---- a term that stands in the arena

-- null bytes behind the codes of the j-th block, up to where its part ends
abbrev zeros : Bool → Held → ℕ → ℕ
zeros b t j = cond b 0 (block_size - (start_at (start_of t) j + length (codes_at t j)))

-- the blocks behind the j-th
behind : (c : Chain) (j : ℕ) {ks : List Block} → drop (suc j) (blocks c) ≡ ks → length ks ≡ length c.closed - j
behind c j d = ap length (sym d) ∙ simp (length-drop, length-append) (omega arith)

record Next (c : Chain) (j : ℕ) (k : Block) (ks : List Block) : Type 0 where
  inside : suc j ≤ length c.closed
  block : block_in c (suc j) ≡ k
  others : drop (suc (suc j)) (blocks c) ≡ ks

next_block_lem : (c : Chain) (j : ℕ) (k : Block) (ks : List Block) → drop (suc j) (blocks c) ≡ k ∷ ks → Next c j k ks
next_block_lem c j k ks d =
    let l : suc j ≤ length c.closed = omega (arith, behind c j d) in
    let e : drop (suc j) (blocks c) ≡ get_or (blocks c) (suc j) k ∷ drop (suc (suc j)) (blocks c) =
    drop-cons (blocks c) (suc j) k (rw length-append (omega arith)) in
    record { inside = l; block = sym (get_or-snoc c.closed (suc j) c.tail k l) ∙ cc; others = cc }

-- a chain's postings, those of the head first
restored_head : (n : ℕ) (ks : List Block) (k : Block)
    → restored n (ks ++ (k ∷ [])) ≡ numbers n (entries (get_or ks 0 k)) ++ restored (n + (get_or ks 0 k).opening.gap) (drop 1 (ks ++ (k ∷ [])))
unfolding restored
restored_head n [] k = refl
restored_head n (x ∷ ks) k = refl

-- a cursor in the j-th block
abbrev in_block : Held → ℕ → ℕ → ℕ → ℕ → ℕ → Cursor
in_block t j first left at n = cursor (tail_no t) (chain t).reach.offset (block_no t j) first left at n

module _ (a : List ℕ) (used reports : ℕ) (t : Held) (st : Standing a used t) where
  holds : Holds (start_of t) (postings_of t) (chain t)
  holds = chain-holds st.sound

  len : length t.nos ≡ suc (tail_at t)
  len = nos-closed st.sound

  tail_test : (j : ℕ) → j ≤ tail_at t → eqb (block_no t j) (tail_no t) ≡ eqb j (tail_at t)
  tail_test j h = st.apart j (omega (arith, len)) ∙ ap (eqb j) (omega (arith, len))

  -- m bytes from the start of the j-th block's part
  cut : (j m : ℕ) → j ≤ tail_at t → start_at (start_of t) j + m ≤ block_size
      → take m (drop (place (block_no t j) + start_at (start_of t) j) a)
      ≡ take m (codes_at t j ++ replicate (block_size - (start_at (start_of t) j + length (codes_at t j))) 0)
  unfolding block_bytes written
  cut j m h k =
      rw (part_block a (block_no t j) (start_at (start_of t) j) m k, st.bytes j (omega (arith, len)))
      (ap (take m) (part_form j (link_at t j) (head_for t) t.name (codes_at t j)))

  -- the codes of the j-th block, up to where its part ends
  part_is : (b : Bool) (j : ℕ) → eqb j (tail_at t) ≡ b → j ≤ tail_at t
      → part_of a (block_no t j) (start_at (start_of t) j) (cond b (chain t).reach.offset block_size)
      ≡ codes_at t j ++ replicate (zeros b t j) 0
  unfolding part_of
  part_is true j e h =
      let x : List ℕ = codes_at t j in
      let q : j ≡ tail_at t = eqb-true _ _ e in
      let last : block_in (chain t) j ≡ (chain t).tail = rw q (get_or-eq_default (chain t).closed (chain t).tail {n = tail_at t} (omega arith)) in
      let size : (chain t).reach.offset - start_at (start_of t) j ≡ length x = rw (last, q) (omega (arith, holds.offset_is)) in
      rw (size, cut j (length x) h (holds.fits j h), append-nil) (take_at x _ (length x) refl)
  part_is false j e h =
      let x : List ℕ = codes_at t j in
      let n : ℕ = start_at (start_of t) j in
      rw (cut j (block_size - n) h (omega (arith, holds.fits j h)))
      (take_all (block_size - n) _ (rw (length-append, length-replicate) (omega (arith, holds.fits j h))))

  -- the bytes ahead of a cursor at the start of the j-th block
  start-ahead : (j left n : ℕ) → j ≤ tail_at t
      → part_at a (in_block t j 0 left (start_at (start_of t) j) n)
      ≡ codes_at t j ++ replicate (zeros (eqb j (tail_at t)) t j) 0
  unfolding part_end
  start-ahead j left n h = rw (tail_test j h) (part_is (eqb j (tail_at t)) j refl h)

  -- what is read from there
  from_start_lem : (j left n base fuel : ℕ) (rest : List Posting) → j ≤ tail_at t → base ≤ n
      → Readable reports (suc fuel) n (numbers base (entries (block_in (chain t) j)) ++ rest)
      → (0 < base + (block_in (chain t) j).opening.gap → (fuel at n : ℕ) → base + (block_in (chain t) j).opening.gap ≤ n
      → part_at a (in_block t j (base + (block_in (chain t) j).opening.gap) left at n) ≡ replicate (zeros (eqb j (tail_at t)) t j) 0
      → Readable reports fuel n rest → run fuel a used reports (in_block t j (base + (block_in (chain t) j).opening.gap) left at n) ≡ whole rest)
      → follow (run fuel a used reports) (read_at a reports (in_block t j 0 left (start_at (start_of t) j) n) base)
      ≡ whole (numbers base (entries (block_in (chain t) j)) ++ rest)
  unfolding codes numbers follow onto
  from_start_lem j left n base fuel rest h k r more =
      let c : Cursor = in_block t j 0 left (start_at (start_of t) j) n in
      let e : Entry = (block_in (chain t) j).opening in
      let es : List Entry = (block_in (chain t) j).others in
      let z : ℕ = zeros (eqb j (tail_at t)) t j in
      let s : List ℕ = codes es ++ replicate z 0 in
      let q : part_at a c ≡ coded e ++ s = start-ahead j left n h ∙ append_assoc (coded e) (codes es) (replicate z 0) in
      let f : After n (record { number = base + e.gap; count = e.count }) = after_of r.rises in
      let pos : 0 < base + e.gap = omega (arith, f.above) in
      rw (
        reads_entry a used reports c base e s q k f (number_le r),
        run_block a used reports (tail_no t) (chain t).reach.offset (block_no t j) (base + e.gap) left pos es rest z fuel
            (start_at (start_of t) j + length (coded e)) (base + e.gap) (omega arith) (behind_entry a c e s (base + e.gap) q) (readable-rest r) (more pos),
      )

  -- behind the entries of the j-th block stand the other blocks
  along : (ks : List Block) (j left first fuel at n : ℕ) → drop (suc j) (blocks (chain t)) ≡ ks → j ≤ tail_at t → length ks ≤ left → 0 < first → first ≤ n
      → part_at a (in_block t j first left at n) ≡ replicate (zeros (eqb j (tail_at t)) t j) 0
      → Readable reports fuel n (restored first ks) → run fuel a used reports (in_block t j first left at n) ≡ whole (restored first ks)
  unfolding restored run follow entered
  along [] j left first zero at n d h m p le q r = absurd (omega (arith, r.enough))
  along [] j left first (suc fuel) at n d h m p le q r =
      let last : j ≡ tail_at t = omega (arith, behind (chain t) j d) in
      let is : eqb j (tail_at t) ≡ true = eq-eqb j _ last in
      rw (step_end a used reports (in_block t j first left at n) p (zeros (eqb j (tail_at t)) t j) q (eqb-true _ _ (tail_test j h ∙ is)) (rw is)
      (block_in_lem st j (omega (arith, len))) (offset_in_lem holds).1)
  along (k ∷ ks) j left first zero at n d h m p le q r = absurd (omega (arith, r.enough))
  along (k ∷ ks) j left first (suc fuel) at n d h m p le q r =
      let x : Next (chain t) j k ks = next_block_lem (chain t) j k ks d in
      let g : ℕ = first + (block_in (chain t) (suc j)).opening.gap in
      let inner : suc j ≤ tail_at t = x.inside in
      let link : link_of a (block_no t j) ≡ block_no t (suc j) =
      link_is st j (omega (arith, len)) ∙ get_or-inside t.nos (suc j) (chain t).reach.first 0 (omega (arith, len)) in
      rw (
        ← x.block,
        step_next a used reports (in_block t j first left at n) p (zeros (eqb j (tail_at t)) t j) q (block_no t (suc j))
            (λ e. eqb-false _ _ (tail_test j h ∙ ne_eqb j _ (λ z. omega arith)) e) link (st.in_use (suc j) (omega (arith, len))) (omega arith),
      )
      (from_start_lem (suc j) (left - 1) n first fuel (restored g ks) inner le (rw (← x.block) at r)
      (λ p fuel at n le q r. along ks (suc j) (left - 1) g fuel at n x.others inner (omega arith) p le q r))

  -- ---- the head

  -- where the postings of the tail begin
  tail-start : (n : ℕ) → tail_at t ≡ n → cond (eqb (tail_no t) (head_no t)) (start_of t) link_size ≡ start_at (start_of t) n
  tail-start zero e =
      let z : length t.nos - 1 ≡ 0 = omega (arith, len) in
      rw (z, eq-eqb (head_no t) (head_no t) refl)
  tail-start (suc n) e =
      let ne : eqb 0 (tail_at t) ≡ false = ne_eqb 0 (tail_at t) (λ q. omega arith) in
      rw (ne_eqb (tail_no t) (head_no t) (λ q. eqb-false _ _ (tail_test 0 (omega arith) ∙ ne) (sym q)))

  -- it is in order
  good_head : bad_head (head_for t) used (head_no t) ≡ false
  unfolding bad_head part_start head_for
  good_head =
      rw (
        lt-leb used (tail_no t) (st.in_use (length t.nos - 1) (omega (arith, len))),
        tail-start (tail_at t) refl,
        lt-leb (chain t).reach.offset (start_at (start_of t) (tail_at t)) (offset_in_lem holds).0,
        le-ltb block_size (chain t).reach.offset (offset_in_lem holds).1,
      )

  -- and agrees with the postings
  agrees : agreeing (head_for t) (whole (postings_of t)) ≡ whole (postings_of t)
  unfolding agreeing head_for
  agrees = rw (eq-eqb (suc (length t.rest)) (suc (length t.rest)) refl, eq-eqb (last_from 0 (postings_of t)) (chain t).reach.last (sym holds.last_is))

  -- the steps from the head give them all
  reads_all : last_from 0 (postings_of t) ≤ reports → run (suc reports) a used reports (at_head (head_for t) used (head_no t)) ≡ whole (postings_of t)
  unfolding run at_head head_for numbers codes
  reads_all h =
      let c : Cursor = in_block t 0 0 (used - 1) (start_of t) 0 in
      let k : Block = block_in (chain t) 0 in
      let ks : List Block = drop 1 (blocks (chain t)) in
      let split : postings_of t ≡ numbers 0 (entries k) ++ restored (0 + k.opening.gap) ks =
      sym holds.reads ∙ restored_head 0 (chain t).closed (chain t).tail in
      let r : Readable reports (suc reports) 0 (postings_of t) =
      record { rises = st.sound.rises; last_le = h; enough = omega (arith, last_ge st.sound.rises) } in
      let f : After 0 (record { number = 0 + k.opening.gap; count = k.opening.count }) = after_of (rw split at st.sound.rises) in
      let few : length ks ≤ used - 1 = omega (arith, behind (chain t) 0 refl, len, st.sound.few) in
      let z : ℕ = zeros (eqb 0 (tail_at t)) t 0 in
      let q : part_at a c ≡ coded k.opening ++ (codes k.others ++ replicate z 0) =
      start-ahead 0 (used - 1) 0 (omega arith) ∙ append_assoc (coded k.opening) (codes k.others) (replicate z 0) in
      rw (step_first a used reports c refl, split)
      (from_start_lem 0 (used - 1) 0 0 reports (restored (0 + k.opening.gap) ks) (omega arith) (omega arith) (rw split at r)
      (λ p fuel at n le q r. along ks 0 (used - 1) (0 + k.opening.gap) fuel at n refl (omega arith) few p le q r))

  -- THE WHOLE CHAIN
  pub reads_chain : last_from 0 (postings_of t) ≤ reports → chain_of a used reports (head_no t) ≡ whole (postings_of t)
  unfolding chain_of
  reads_chain h = rw (head-is st, good_head, reads_all h) agrees
