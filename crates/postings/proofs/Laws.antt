-- What callers use of `code` and `decoded`, beside `decode-code`, `decoded_held` and `code_decode` of `posting`.
-- Assumes nothing.
use mathlib.Core.Path.{◌≡◌, refl, sym, ap, ◌∙◌}
use mathlib.Core.List.{List, [], ◌∷◌, ◌++◌}
use Prim.Native.Nat.{ℕ, ◌+◌, ◌-◌, ◌*◌, ◌%◌, ◌^◌, ◌≤◌, ◌<◌}
use native.Mathlib.Omega.{arith}
use lib.ListN.{length, drop, get_or, length-append}
use borrow.Author.Tests.{lt-leb, le-leb}
use Rattle.std.specs.Prelude.{Some, None}
use Rattle.postings.specs.Coding.{counted, vbyte, code, max_code, posting, value, at_most, first, decoded}
use Rattle.basics.proofs.Cases.{by-lt}
use Rattle.postings.proofs.Values.{by_bytes, last, more, length_pos, length_le}
use Rattle.postings.proofs.Codes.{code_low, code_high, length_high}
pub use Rattle.postings.proofs.Codes.{Held, decode-code, decoded_held, code_decode}

-- ---- numbers

-- a number that was counted, and where none was
module _ (reports earlier g : ℕ) where
  pub counted_is : {n : ℕ} → counted reports earlier g ≡ Some n → (n ≡ earlier + g) × (n ≤ reports)
  counted_is {n} e =
      by-lt reports (earlier + g) (λ h. cc (rw (lt-leb (earlier + g) reports h) at e))
      (λ h. let q : n ≡ earlier + g = cc (rw (le-leb (earlier + g) reports h) at e) in omega arith)

  pub counted_over : counted reports earlier g ≡ None → reports < earlier + g
  counted_over e = by-lt reports (earlier + g) (λ h. h) (λ h. cc (rw (le-leb (earlier + g) reports h) at e))

-- ---- the length

pub length-code_pos : (g f : ℕ) → 0 < length (code g f)
length-code_pos g f =
    by-lt f 4 (λ h. rw (code_low g f h) (length_pos ((g - 1) * 4 + f)))
    (λ h. omega (arith, length_high g f h, length_pos (g * 4)))

pub length-code_le : (g f : ℕ) → g < 2 ^ 32 → f < 2 ^ 32 → length (code g f) ≤ max_code
length-code_le g f hg hf =
    by-lt f 4 (λ h. omega (arith, ap length (code_low g f h), length_le 4 ((g - 1) * 4 + f) (omega arith)))
    (λ h. omega (arith, length_high g f h, length_le 4 (g * 4) (omega arith), length_le 4 (f - 3) (omega arith)))

-- ---- the bytes: from 1 to 255, so that a null byte never stands in a code

pub data Bytes : List ℕ → Type 0 where
  none : Bytes []
  some : {b : ℕ} {s : List ℕ} → 0 < b → b < 256 → Bytes s → Bytes (b ∷ s)

bytes-append : {s t : List ℕ} → Bytes s → Bytes t → Bytes (s ++ t)
bytes-append none q = q
bytes-append (some a b p) q = some a b (bytes-append p q)

bytes-vbyte : (n : ℕ) → 0 < n → Bytes (vbyte n)
bytes-vbyte =
    by_bytes (λ (n : ℕ). 0 < n → Bytes (vbyte n)) (λ n h p. rw (last n h) (some p (omega arith) none))
    (λ n h ih p. rw (more n h) (some {b = 128 + n % 128} (omega arith) (omega arith) (ih (omega arith))))

pub bytes-code : (g f : ℕ) → 0 < g → 0 < f → Bytes (code g f)
bytes-code g f pg pf =
    by-lt f 4 (λ h. rw (code_low g f h) (bytes-vbyte ((g - 1) * 4 + f) (omega arith)))
    (λ h. rw (code_high g f h) (bytes-append (bytes-vbyte (g * 4) (omega arith)) (bytes-vbyte (f - 3) (omega arith))))

-- ---- decoding

-- nothing is decoded at the end, nor at a null byte
pub decoded-nil : decoded [] ≡ None
unfolding decoded first at_most value
decoded-nil = refl

pub decoded_null : (s : List ℕ) → decoded (0 ∷ s) ≡ None
unfolding decoded first at_most value
decoded_null s = refl

-- decoding finds the posting whose code stands at the front: with `decoded_held`, exactly that one
pub decoded-from : {s : List ℕ} {g f l : ℕ} → Held s g f l → decoded s ≡ posting g f l
decoded-from {s} {g} {f} {l} h =
    ap decoded h.bytes ∙ decode-code g f h.gap.0 h.gap.1 h.count.0 h.count.1 (drop l s) ∙ ap (posting g f) (sym h.len)

-- a posting that is decoded takes at least one byte and lies within the part
pub decoded-within : (s : List ℕ) {g f l : ℕ} → decoded s ≡ posting g f l → (0 < l) × (l ≤ length s)
decoded-within s {g} {f} {l} e =
    let h : Held s g f l = decoded_held s g f l e in
    omega (arith, h.len, length-code_pos g f, simp length-append at (ap length h.bytes))

-- the first byte of a code is not null
pub code-head : (g f : ℕ) → 0 < g → 0 < f → (s : List ℕ) → 0 < get_or (code g f ++ s) 0 0
code-head g f pg pf s = head (bytes-code g f pg pf) (length-code_pos g f)
  where
    head : {t : List ℕ} → Bytes t → 0 < length t → 0 < get_or (t ++ s) 0 0
    head none h = absurd (omega arith)
    head (some p k b) h = p
