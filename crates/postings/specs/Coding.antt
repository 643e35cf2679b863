-- Double-VByte with threshold 4 (document 01, "Coding a posting"; source document 001, algorithm 2, F = 4).
use Rattle.std.specs.Prelude.{ℕ, zero, suc, ◌+◌, ◌-◌, ◌*◌, ◌/◌, ◌%◌, max, List, [], ◌∷◌, ◌++◌, Option, Some, None, cond, drop, ltb, leb}
use Rattle.postings.specs.declared.Value.{Value}
use Rattle.postings.specs.declared.Decoded.{Decoded}

-- ---- the numbers of the coding

-- a count below this shares one value with the gap
abbrev pub threshold : ℕ
threshold = 4

-- a report number, so a gap, and a count have 32 bits
abbrev pub max_gap : ℕ
max_gap = 4294967295

abbrev pub max_count : ℕ
max_count = 4294967295

-- the largest first and second value of a posting: 17,179,869,180 and 4,294,967,292
abbrev pub max_first : ℕ
max_first = max_gap * threshold

abbrev pub max_second : ℕ
max_second = max_count - 3

-- the number that a gap leads to from an earlier one, where it is at most `reports`
abbrev pub counted : ℕ → ℕ → ℕ → Option ℕ
counted reports earlier g = cond (leb (earlier + g) reports) (Some (earlier + g)) None

-- ---- coding

-- a value, seven bits at a time, lowest first; a byte that another follows has 128 added. At most `fuel` bytes follow
-- the first
unfoldable pub groups : ℕ → ℕ → List ℕ
groups zero n = n ∷ []
groups (suc fuel) n =
    let longer = (128 + n % 128) ∷ groups fuel (n / 128) in cond (ltb n 128) (n ∷ []) longer

-- the code of a value: n bytes are always enough
unfoldable pub vbyte : ℕ → List ℕ
vbyte n = groups n n

-- how many bytes code a value of so many bits
unfoldable pub code_length : ℕ → ℕ
code_length bits = max 1 ((bits + 6) / 7)

-- the code of the posting with gap g and count f
unfoldable pub code : ℕ → ℕ → List ℕ
code g f = cond (ltb f threshold) (vbyte ((g - 1) * threshold + f)) (vbyte (g * threshold) ++ vbyte (f - 3))

-- the longest code has so many bytes: two values of five
abbrev pub max_code : ℕ
max_code = 10

-- ---- decoding

-- value v in l bytes
abbrev pub valued : ℕ → ℕ → Option Value
valued v l = Some (record { value = v; length = l })

-- gap g and count f in l bytes
abbrev pub posting : ℕ → ℕ → ℕ → Option Decoded
posting g f l = Some (record { gap = g; count = f; length = l })

-- a byte of 128 or more in front of a value
unfoldable pub onto : ℕ → Option Value → Option Value
onto b (Some n) = valued (b - 128 + 128 * n.value) (n.length + 1)
onto b None = None

-- the value at the front and the bytes it takes: bytes from 128 to 255, then one from 1 to 127. A null last byte is no
-- shortest code
unfoldable pub value : List ℕ → Option Value
value [] = None
value (b ∷ s) = cond (ltb b 128) (cond (ltb 0 b) (valued b 1) None) (cond (ltb b 256) (onto b (value s)) None)

-- a value of at most `most`
unfoldable pub at_most : ℕ → Option Value → Option Value
at_most most (Some n) = cond (leb n.value most) (Some n) None
at_most most None = None

-- gap g was coded in l bytes; the second value gives the count
unfoldable pub second : ℕ → ℕ → Option Value → Option Decoded
second g l (Some n) = posting g (n.value + 3) (l + n.length)
second g l None = None

-- the first value gives gap and count, or the gap alone where 4 divides it
unfoldable pub first : List ℕ → Option Value → Option Decoded
first s (Some n) =
    let v = n.value in
    cond (ltb 0 (v % threshold)) (posting (v / threshold + 1) (v % threshold) n.length)
    (second (v / threshold) n.length (at_most max_second (value (drop n.length s))))
first s None = None

-- the posting at the front of the bytes, and how many bytes it takes; none where they are rejected
unfoldable pub decoded : List ℕ → Option Decoded
decoded s = first s (at_most max_first (value s))
