-- The marked cases of document 01, "Coding a posting". The blocks crate joins the marked chain to them and shows all
-- twelve right by one computed test.
use Rattle.std.specs.Prelude.{ℕ, List, [], ◌∷◌, Option, Some, None, Bool, false, ◌&&◌, eqb, length}
use Rattle.basics.specs.Lists.{same}
use Rattle.postings.specs.declared.Decoded.{Decoded}
use Rattle.postings.specs.Coding.{vbyte, code, decoded}

-- a gap and a count with their bytes, or a single value with its bytes
pub data Case : Type 0 where
  posting : ℕ → ℕ → List ℕ → Case
  single : ℕ → List ℕ → Case

unfoldable pub marked : List Case
marked =
    posting 1 1 (0x01 ∷ [])
    ∷ posting 5 3 (0x13 ∷ [])
    ∷ posting 32 3 (0x7f ∷ [])
    ∷ posting 33 1 (0x81 ∷ 0x01 ∷ [])
    ∷ posting 1 4 (0x04 ∷ 0x01 ∷ [])
    ∷ posting 31 4 (0x7c ∷ 0x01 ∷ [])
    ∷ posting 32 4 (0x80 ∷ 0x01 ∷ 0x01 ∷ [])
    ∷ posting 1 130 (0x04 ∷ 0x7f ∷ [])
    ∷ posting 1 131 (0x04 ∷ 0x80 ∷ 0x01 ∷ [])
    ∷ posting 4294967295 4294967295 (0xfc ∷ 0xff ∷ 0xff ∷ 0xff ∷ 0x3f ∷ 0xfc ∷ 0xff ∷ 0xff ∷ 0xff ∷ 0x0f ∷ [])
    ∷ single 12345 (0xb9 ∷ 0x60 ∷ [])
    ∷ []

-- decoding found this gap and count in so many bytes
unfoldable pub finds : ℕ → ℕ → ℕ → Option Decoded → Bool
finds g f l (Some d) = eqb g d.gap && eqb f d.count && eqb l d.length
finds g f l None = false

-- the definitions give the bytes, and read them back
unfoldable pub right : Case → Bool
right (posting g f s) = same (code g f) s && finds g f (length s) (decoded s)
right (single n s) = same (vbyte n) s
