-- A 32-bit number in four bytes, highest first ("multi-byte fields are big-endian", document 01).
use Rattle.std.specs.Prelude.{ℕ, ◌+◌, ◌*◌, ◌/◌, ◌%◌, List, [], ◌∷◌, get_or}

-- the four bytes of n
unfoldable pub word : ℕ → List ℕ
word n = n / 16777216 ∷ n / 65536 % 256 ∷ n / 256 % 256 ∷ n % 256 ∷ []

-- the number in the four bytes from `at` on
unfoldable pub word_at : List ℕ → ℕ → ℕ
word_at s at =
    get_or s at 0 * 16777216 + get_or s (at + 1) 0 * 65536 + get_or s (at + 2) 0 * 256 + get_or s (at + 3) 0
