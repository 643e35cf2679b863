-- What is claimed of the coding of postings: `Shares` and `RoundTripsBy` of any code and decoder, and
-- `codes_round_trip` states them of ours.
use Rattle.std.specs.Prelude.{ℕ, ◌+◌, ◌-◌, ◌*◌, ◌≤◌, ◌<◌, ◌≡◌, List, ◌++◌, length, take, Option}
use Rattle.postings.specs.declared.Decoded.{Decoded}
use Rattle.postings.specs.Coding.{max_gap, max_count, max_first, max_second, vbyte, code, posting, decoded}

-- a count below 4 shares one value with the gap; from 4 on the gap and the count take a value each
pub record Shares (code : ℕ → ℕ → List ℕ) : Type 0 where
  pub below_four : (g f : ℕ) → f < 4 → code g f ≡ vbyte ((g - 1) * 4 + f)
  pub from_four : (g f : ℕ) → 4 ≤ f → code g f ≡ vbyte (g * 4) ++ vbyte (f - 3)

-- gap g and count f are from 1 to their largest, and so are the values that code them: one, or a first and a second
pub record Within (g f : ℕ) : Type 0 where
  pub gap : (1 ≤ g) × (g ≤ max_gap)
  pub count : (1 ≤ f) × (f ≤ max_count)
  pub below_four : f < 4 → (1 ≤ (g - 1) * 4 + f) × ((g - 1) * 4 + f ≤ max_first)
  pub from_four : 4 ≤ f → (1 ≤ g * 4) × (g * 4 ≤ max_first) × (1 ≤ f - 3) × (f - 3 ≤ max_second)

-- a coded posting with anything behind it is decoded, in all of its bytes and no other
abbrev pub Decodes : (ℕ → ℕ → List ℕ) → (List ℕ → Option Decoded) → Type 0
Decodes code decoded =
    (g f : ℕ) → 1 ≤ g → g ≤ max_gap → 1 ≤ f → f ≤ max_count → (s : List ℕ)
    → decoded (code g f ++ s) ≡ posting g f (length (code g f))

-- coding and decoding undo each other
pub record RoundTripsBy (code : ℕ → ℕ → List ℕ) (decoded : List ℕ → Option Decoded) : Type 0 where
  pub decode_code : Decodes code decoded
  -- what decoding took are exactly the bytes that coding gives
  pub code_decode : (s : List ℕ) (g f l : ℕ) → decoded s ≡ posting g f l → code g f ≡ take l s
  -- what is decoded is within the limits, and takes as many bytes as its code has and at most those there
  pub limits :
      (s : List ℕ) (g f l : ℕ) → decoded s ≡ posting g f l
      → Within g f × (l ≡ length (code g f)) × (l ≤ length s)

-- our code and our decoder
abbrev pub RoundTrips : Type 0
RoundTrips = RoundTripsBy code decoded

-- a code that is the same for all postings has no decoder
abbrev pub NotConstant : Type 0
NotConstant = (same : List ℕ) (decoded : List ℕ → Option Decoded) → Decodes (λ g f. same) decoded → ⊥
