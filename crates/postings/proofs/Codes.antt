-- Laws of a posting's code: decoding undoes coding, and coding undoes decoding.
-- Assumes nothing.
use mathlib.Core.Path.{◌≡◌, refl, sym, ap, ◌∙◌}
use mathlib.Core.List.{List, [], ◌∷◌, ◌++◌, append_assoc}
use mathlib.Core.Logic.{◌⊎◌, inl, inr}
use Prim.Native.Nat.{ℕ, suc, ◌+◌, ◌-◌, ◌*◌, ◌/◌, ◌%◌, ◌≤◌, ◌<◌}
use native.Mathlib.Omega.{arith}
use native.Mathlib.Numerals.{add-one}
use lib.ListN.{length, take, drop, get_or, length-append}
use lib.Seq.{drop-cons, drop-append_seam, take-append_seam, drop-drop}
use borrow.Author.Tests.{lt-ltb, le-ltb, le-leb, lt-leb}
use Rattle.std.specs.Prelude.{None}
use Rattle.postings.specs.declared.Decoded.{Decoded}
use Rattle.postings.specs.Coding.{threshold, max_gap, max_count, max_first, max_second, vbyte, code, valued, posting, value, at_most, onto, second, first, decoded}
use Rattle.basics.proofs.Cases.{by-lt}
use Rattle.basics.proofs.Stores.{sets_behind}
use Rattle.postings.proofs.Values.{value-last, value_more, onto-number, value-vbyte, Front, View, view}

-- a posting that is found says which numbers were found
pub posting_same : {g f l g' f' l' : ℕ} → posting g f l ≡ posting g' f' l' → (g ≡ g') × (f ≡ f') × (l ≡ l')
posting_same {g} {f} {l} {g'} {f'} {l'} e =
    let r : ◌≡◌ {A = Decoded} (record { gap = g; count = f; length = l }) (record { gap = g'; count = f'; length = l' }) = cc in
    (ap (λ (x : Decoded). x.gap) r, ap (λ (x : Decoded). x.count) r, ap (λ (x : Decoded). x.length) r)

-- ---- the steps of coding and decoding

pub code_low : (g f : ℕ) → f < threshold → code g f ≡ vbyte ((g - 1) * threshold + f)
unfolding code
code_low g f h = rw (lt-ltb f threshold h)

pub code_high : (g f : ℕ) → threshold ≤ f → code g f ≡ vbyte (g * threshold) ++ vbyte (f - 3)
unfolding code
code_high g f h = rw (le-ltb f threshold h)

pub length_high : (g f : ℕ) → threshold ≤ f → length (code g f) ≡ length (vbyte (g * threshold)) + length (vbyte (f - 3))
length_high g f h = rw (code_high g f h, length-append)

-- what a code is and how long, and that its second value is stored behind the first
pub ruleset coded = (code_low, code_high, length_high, sets_behind)

pub at_most_lem : (m v l : ℕ) → v ≤ m → at_most m (valued v l) ≡ valued v l
unfolding at_most
at_most_lem m v l h = rw (le-leb v m h)

pub over : (m v l : ℕ) → m < v → at_most m (valued v l) ≡ None
unfolding at_most
over m v l h = rw (lt-leb v m h)

pub none : (m : ℕ) → at_most m None ≡ None
unfolding at_most
none m = refl

pub first_low : (s : List ℕ) (v l : ℕ) → 0 < v % threshold → first s (valued v l) ≡ posting (v / threshold + 1) (v % threshold) l
unfolding first
first_low s v l h = rw (lt-ltb 0 (v % threshold) h)

pub first_high : (s : List ℕ) (v l : ℕ) → v % threshold ≡ 0 → first s (valued v l) ≡ second (v / threshold) l (at_most max_second (value (drop l s)))
unfolding first
first_high s v l h = rw (le-ltb 0 (v % threshold) (omega arith))

pub decoded_low : (s : List ℕ) (v l : ℕ) → at_most max_first (value s) ≡ valued v l → 0 < v % threshold → decoded s ≡ posting (v / threshold + 1) (v % threshold) l
unfolding decoded
decoded_low s v l e h = rw e (first_low s v l h)

pub decoded_high : (s : List ℕ) (v l : ℕ) → at_most max_first (value s) ≡ valued v l → v % threshold ≡ 0
    → decoded s ≡ second (v / threshold) l (at_most max_second (value (drop l s)))
unfolding decoded
decoded_high s v l e h = rw e (first_high s v l h)

pub second-number : (g l w m : ℕ) → second g l (valued w m) ≡ posting g (w + 3) (l + m)
unfolding second
second-number g l w m = refl

-- of no bytes nothing is decoded
pub decoded_none : (s : List ℕ) → length s ≡ 0 → decoded s ≡ None
unfolding decoded first at_most value
decoded_none [] e = refl
decoded_none (b ∷ s) e = absurd (omega arith)

-- ---- the short codes

-- one byte below 128 that 4 does not divide
decoded-one : (b : ℕ) (s : List ℕ) → b < 128 → 0 < b % threshold → decoded (b ∷ s) ≡ posting (b / threshold + 1) (b % threshold) 1
decoded-one b s h p = decoded_low (b ∷ s) b 1 (ap (at_most max_first) (value-last b s (omega arith) h) ∙ at_most_lem max_first b 1 (omega arith)) p

module _ (b d : ℕ) (s : List ℕ) (p : 0 < d) (h : d < 128) where
  -- a value of one byte that 4 divides, and a count that takes one
  decoded_pair : 0 < b → b < 128 → b % threshold ≡ 0 → decoded (b ∷ d ∷ s) ≡ posting (b / threshold) (d + 3) 2
  decoded_pair q k z =
      decoded_high (b ∷ d ∷ s) b 1 (ap (at_most max_first) (value-last b (d ∷ s) q k) ∙ at_most_lem max_first b 1 (omega arith)) z
      ∙ ap (second (b / threshold) 1) (ap (at_most max_second) (value-last d s p h) ∙ at_most_lem max_second d 1 (omega arith))
      ∙ second-number (b / threshold) 1 d 1

  -- a value of two bytes that 4 does not divide
  decoded_two : 128 ≤ b → b < 256 → 0 < b % threshold → decoded (b ∷ d ∷ s) ≡ posting ((b - 128 + 128 * d) / threshold + 1) (b % threshold) 2
  decoded_two q k z =
      let v : ℕ = b - 128 + 128 * d in
      let e : v % threshold ≡ b % threshold = omega arith in
      decoded_low (b ∷ d ∷ s) v 2
      (ap (at_most max_first) (value_more b (d ∷ s) q k ∙ ap (onto b) (value-last d s p h) ∙ onto-number b d 1) ∙ at_most_lem max_first v 2 (omega arith))
      (omega arith)
      ∙ rw e

-- the same from an offset on
module _ (s : List ℕ) (at : ℕ) (i : at < length s) where
  abbrev b : ℕ
  b = get_or s at 0

  pub at_one : b < 128 → 0 < b % threshold → decoded (drop at s) ≡ posting (b / threshold + 1) (b % threshold) 1
  at_one h p = rw (drop-cons s at 0 i) (decoded-one b (drop (suc at) s) h p)

  module _ (j : at + 1 < length s) where
    abbrev d : ℕ
    d = get_or s (at + 1) 0

    both : drop at s ≡ b ∷ d ∷ drop (suc (at + 1)) s
    both = drop-cons s at 0 i ∙ ap (λ (r : List ℕ). b ∷ r) (ap (λ (k : ℕ). drop k s) (sym (add-one at)) ∙ drop-cons s (at + 1) 0 j)

    module _ (p : 0 < d) (h : d < 128) where
      pub at_pair : 0 < b → b < 128 → b % threshold ≡ 0 → decoded (drop at s) ≡ posting (b / threshold) (d + 3) 2
      at_pair q k z = ap decoded both ∙ decoded_pair b d (drop (suc (at + 1)) s) p h q k z

      pub at_two : 128 ≤ b → b < 256 → 0 < b % threshold → decoded (drop at s) ≡ posting ((b - 128 + 128 * d) / threshold + 1) (b % threshold) 2
      at_two q k z = ap decoded both ∙ decoded_two b d (drop (suc (at + 1)) s) p h q k z

-- decoding a coded posting, with anything after it, returns it and its length
pub decode-code : (g f : ℕ) → 0 < g → g ≤ max_gap → 0 < f → f ≤ max_count → (s : List ℕ)
    → decoded (code g f ++ s) ≡ posting g f (length (code g f))
unfolding decoded second
decode-code g f pg hg pf hf s =
    by-lt f threshold
    (λ h.
    let v : ℕ = (g - 1) * threshold + f in
    let a : v / threshold + 1 ≡ g = omega arith in
    let b : v % threshold ≡ f = omega arith in
    let l : ℕ = length (vbyte v) in
    rw (code_low g f h, value-vbyte v (omega arith) s, at_most_lem max_first v l (omega arith), first_low (vbyte v ++ s) v l (omega arith))
    (rw (a, b)))
    (λ h.
    let v : ℕ = g * threshold in
    let l : ℕ = length (vbyte v) in
    let w : ℕ = f - 3 in
    let t : List ℕ = vbyte w ++ s in
    let a : v / threshold ≡ g = omega arith in
    let b : w + 3 ≡ f = omega arith in
    rw (code_high g f h, append_assoc, value-vbyte v (omega arith) t, at_most_lem max_first v l (omega arith), first_high (vbyte v ++ t) v l (omega arith), drop-append_seam, value-vbyte w (omega arith) s, at_most_lem max_second w (length (vbyte w)) (omega arith), length-append)
    (rw (a, b)))

-- what a posting that was decoded says of the bytes
pub record Held (s : List ℕ) (g f l : ℕ) : Type 0 where
  pub gap : (0 < g) × (g ≤ max_gap)
  pub count : (0 < f) × (f ≤ max_count)
  pub len : l ≡ length (code g f)
  pub bytes : s ≡ code g f ++ drop l s

abbrev pub Seen : List ℕ → Type 0
Seen s = (decoded s ≡ None) ⊎ ((g : ℕ) × (f : ℕ) × (l : ℕ) × (decoded s ≡ posting g f l) × Held s g f l)

held_low : (s : List ℕ) (v l : ℕ) → Front s v l → v ≤ max_first → 0 < v % threshold → Held s (v / threshold + 1) (v % threshold) l
held_low s v l t h p =
    let e : code (v / threshold + 1) (v % threshold) ≡ vbyte v = code_low (v / threshold + 1) (v % threshold) (omega arith) ∙ ap vbyte (omega arith) in
    record {
      gap = omega arith;
      count = omega arith;
      len = rw e t.len;
      bytes = rw e t.bytes;
    }

held_high : (s : List ℕ) (v l w m : ℕ) → Front s v l → v ≤ max_first → v % threshold ≡ 0 → Front (drop l s) w m → w ≤ max_second → Held s (v / threshold) (w + 3) (l + m)
held_high s v l w m t h p u k =
    let pv : 0 < v = t.pos in
    let pw : 0 < w = u.pos in
    let a : v / threshold * threshold ≡ v = omega arith in
    let b : w + 3 - 3 ≡ w = omega arith in
    let e : code (v / threshold) (w + 3) ≡ vbyte v ++ vbyte w = code_high (v / threshold) (w + 3) (omega arith) ∙ rw (a, b) in
    record {
      gap = omega arith;
      count = omega arith;
      len = rw (e, length-append) (omega (arith, t.len, u.len));
      bytes = rw (e, append_assoc, ← drop-drop m l s) (t.bytes ∙ ap (λ (r : List ℕ). vbyte v ++ r) u.bytes);
    }

seen_high : (s : List ℕ) (v l : ℕ) → decoded s ≡ second (v / threshold) l (at_most max_second (value (drop l s)))
    → Front s v l → v ≤ max_first → v % threshold ≡ 0 → View (drop l s) → Seen s
unfolding second at_most
seen_high s v l e t h p (inl n) = inl (e ∙ rw n)
seen_high s v l e t h p (inr u) =
    let w : ℕ = u.0 in
    let m : ℕ = u.1 in
    by-lt max_second w
    (λ k. inl (e ∙ rw (u.2, over max_second w m k)))
    (λ k. inr (v / threshold, w + 3, l + m, e ∙ rw (u.2, at_most_lem max_second w m k), held_high s v l w m t h p u.3 k))

seen_first : (s : List ℕ) → View s → Seen s
unfolding decoded first at_most
seen_first s (inl n) = inl (rw n)
seen_first s (inr t) =
    let v : ℕ = t.0 in
    let l : ℕ = t.1 in
    by-lt max_first v
    (λ k. inl (rw (t.2, over max_first v l k)))
    (λ k. by-lt 0 (v % threshold)
    (λ p. inr (v / threshold + 1, v % threshold, l, rw (t.2, at_most_lem max_first v l k, first_low s v l p), held_low s v l t.3 k p))
    (λ p. seen_high s v l (rw (t.2, at_most_lem max_first v l k, first_high s v l (omega arith))) t.3 k (omega arith) (view (drop l s))))

pub seen : (s : List ℕ) → Seen s
seen s = seen_first s (view s)

-- a posting that was decoded is held by the bytes
pub decoded_held : (s : List ℕ) (g f l : ℕ) → decoded s ≡ posting g f l → Held s g f l
decoded_held s g f l e = go (seen s)
  where
    go : Seen s → Held s g f l
    go (inl n) = let z : ◌≡◌ {A = ℕ} 0 1 = cc in absurd (omega arith)
    go (inr t) =
        let same : (t.0 ≡ g) × (t.1 ≡ f) × (t.2 ≡ l) = posting_same (sym t.3 ∙ e) in
        rw (same.0, same.1, same.2) at t.4

-- coding a decoded posting returns the bytes consumed
pub code_decode : (s : List ℕ) (g f l : ℕ) → decoded s ≡ posting g f l → code g f ≡ take l s
code_decode s g f l e =
    let h : Held s g f l = decoded_held s g f l e in
    sym (ap (take l) h.bytes ∙ rw h.len (take-append_seam (code g f) _))
