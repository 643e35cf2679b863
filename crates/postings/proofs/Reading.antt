-- A loop that reads a value, on plain numbers and lists: w is 128 for each byte passed, and v what those bytes say.
-- Assumes nothing.
use mathlib.Core.Path.{◌≡◌, refl, sym, ap, ◌∙◌}
use mathlib.Core.List.{List, ◌∷◌}
use mathlib.Core.Logic.{inl, inr}
use Prim.Native.Nat.{ℕ, ◌+◌, ◌-◌, ◌*◌, ◌^◌, ◌≤◌, ◌<◌}
use native.Mathlib.Omega.{arith}
use native.Mathlib.Nat.{mul-le-mul_right}
use native.Mathlib.Numerals.{add-one}
use lib.ListN.{length, get_or, drop, drop_of_length-le}
use lib.Seq.{drop-cons}
use lib.Pow.{pow-add, pow_mono}
use Rattle.postings.specs.declared.Value.{Value}
use Rattle.std.specs.Prelude.{Option, Some, None}
use Rattle.postings.specs.Coding.{valued, onto, value, at_most}
use Rattle.postings.proofs.Values.{value-last, value_more, value-zero, View, view}
use Rattle.postings.proofs.Codes.{over}

-- a value after j bytes that said a
abbrev pub after : ℕ → ℕ → ℕ → Option Value → Option Value
after a w j (Some n) = valued (a + n.value * w) (j + n.length)
after a w j None = None

after_onto : (a w j b : ℕ) (x : Option Value) → after a w j (onto b x) ≡ after (a + (b - 128) * w) (w * 128) (j + 1) x
unfolding onto
after_onto a w j b None = refl
after_onto a w j b (Some n) =
    let p : a + (b - 128 + 128 * n.value) * w ≡ a + (b - 128) * w + n.value * (w * 128) = omega arith in
    let q : j + (n.length + 1) ≡ j + 1 + n.length = omega arith in
    rw (p, q)

after_start : (x : Option Value) → x ≡ after 0 1 0 x
after_start None = refl
after_start (Some n) =
    let p : 0 + n.value * 1 ≡ n.value = omega arith in
    let q : 0 + n.length ≡ n.length = omega arith in
    rw (p, q)

-- a value that is more than 35 bits
over_long : (most a w j : ℕ) (s : List ℕ) → most < w → View s → at_most most (after a w j (value s)) ≡ None
unfolding at_most
over_long most a w j s h (inl e) = rw e
over_long most a w j s h (inr t) =
    let m : 1 * w ≤ t.0 * w = mul-le-mul_right w t.3.pos in
    rw (t.2, over most (a + t.0 * w) (j + t.1) (omega arith))

pub record Read (s : List ℕ) (v w i : ℕ) : Type 0 where
  pub below : v < w
  pub few : i ≤ 4
  pub power : w ≡ 2 ^ (7 * i)
  pub is : value s ≡ after v w i (value (drop i s))

pub start : (s : List ℕ) → Read s 0 1 0
start s = record { below = omega arith; few = omega arith; power = refl; is = after_start (value s) }

-- seven bits times the weight
pub part : {b : ℕ} (w : ℕ) → b < 128 → b * w ≤ 127 * w
part {b} w h = mul-le-mul_right w (omega arith)

pub seven : {b : ℕ} → 128 ≤ b → b < 256 → (w : ℕ) → (b - 128) * w ≤ 127 * w
seven {b} p k w = part w (omega arith)

module _ {s : List ℕ} {v w i : ℕ} (r : Read s v w i) where
  pub small : w ≤ 268435456
  small = rw r.power (pow_mono {i = 7 * i} {j = 28} (omega (arith, r.few)))

  pub ended : length s ≤ i → value s ≡ None
  unfolding value
  ended h = r.is ∙ rw (drop_of_length-le s h)

  module _ (h : i < length s) where
    at : drop i s ≡ get_or s i 0 ∷ drop (i + 1) s
    at = rw add-one (drop-cons s i 0 h)

    pub zero_byte : get_or s i 0 ≡ 0 → value s ≡ None
    zero_byte e = r.is ∙ rw (at, value-zero (get_or s i 0) (drop (i + 1) s) e)

    pub last_byte : 0 < get_or s i 0 → get_or s i 0 < 128 → value s ≡ valued (v + get_or s i 0 * w) (i + 1)
    last_byte p k = r.is ∙ rw (at, value-last (get_or s i 0) (drop (i + 1) s) p k)

    module _ (p : 128 ≤ get_or s i 0) (k : get_or s i 0 < 256) where
      onward : value s ≡ after (v + (get_or s i 0 - 128) * w) (w * 128) (i + 1) (value (drop (i + 1) s))
      onward = r.is ∙ rw (at, value_more (get_or s i 0) (drop (i + 1) s) p k) (after_onto v w i (get_or s i 0) (value (drop (i + 1) s)))

      pub more_byte : i < 4 → Read s (v + (get_or s i 0 - 128) * w) (w * 128) (i + 1)
      more_byte u = record {
        below = omega (arith, r.below, seven p k w);
        few = omega arith;
        power = ap (λ (x : ℕ). x * 128) r.power ∙ sym (pow-add 2 (7 * i) 7) ∙ ap (λ (x : ℕ). 2 ^ x) (omega arith);
        is = onward;
      }

      pub too_long : i ≡ 4 → (most : ℕ) → most < 2 ^ 35 → at_most most (value s) ≡ None
      too_long u most m =
          let e : w ≡ 268435456 = r.power ∙ rw u in
          ap (at_most most) onward ∙ over_long most (v + (get_or s i 0 - 128) * w) (w * 128) (i + 1) (drop (i + 1) s) (omega arith) (view (drop (i + 1) s))
