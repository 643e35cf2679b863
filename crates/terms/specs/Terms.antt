-- Terms: which bytes they may have and how they are folded (document 01, "Frames"), and their hash ("Finding a term").
use Rattle.std.specs.Prelude.{ℕ, ◌+◌, ◌*◌, ◌%◌, ◌^◌, List, map, fold, Bool, cond, ◌&&◌, leb, length}
use Rattle.std.specs.Int.Bits.{bit_xor}
use Rattle.basics.specs.Lists.{all}
use Rattle.terms.specs.declared.Judged.{Judged}

-- ---- folding

-- the most bytes that a term has
abbrev pub max_term : ℕ
max_term = 36

-- the bytes that a term may have: 21 to 7E. The others are barred
unfoldable pub allowed : ℕ → Bool
allowed b = leb 0x21 b && leb b 0x7e

-- A to Z
unfoldable pub capital : ℕ → Bool
capital b = leb 0x41 b && leb b 0x5a

-- A to Z count as a to z; a barred byte gives 0
unfoldable pub fold_byte : ℕ → ℕ
fold_byte b = cond (allowed b) (cond (capital b) (b + 32) b) 0

unfoldable pub folded : List ℕ → List ℕ
folded s = map fold_byte s

-- 1 to 36 bytes, none barred
unfoldable pub is_term : List ℕ → Bool
is_term s = leb 1 (length s) && leb (length s) max_term && all allowed s

-- ---- FNV-1a with 32 bits

unfoldable pub mixed : ℕ → ℕ → ℕ
mixed hash b = bit_xor hash b * 16777619 % 2 ^ 32

unfoldable pub fnv1a : List ℕ → ℕ
fnv1a s = fold mixed 2166136261 s

-- ---- bytes folded and judged in one pass

unfoldable pub judged_as : List ℕ → Judged
judged_as s = record { term = is_term s; hash = fnv1a (folded s) }
