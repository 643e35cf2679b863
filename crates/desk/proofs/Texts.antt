-- Laws of the text: the digits of a number, and texts stored one behind the other.
-- Assumes nothing.
use Prim.Native.Nat.{ℕ, zero, suc, ◌+◌, ◌*◌, ◌/◌, ◌%◌, ◌≤◌, ◌<◌}
use mathlib.Core.Path.{◌≡◌, refl, sym, ap, ◌∙◌}
use mathlib.Core.List.{List, [], ◌∷◌, ◌++◌, append-nil, append_assoc}
use native.Mathlib.Omega.{arith}
use lib.ListN.{length, get_or, take, length-append}
use lib.Seq.{length-sets}
use borrow.Author.Tests.{lt-ltb, le-ltb}
use Rattle.basics.proofs.Cases.{by-lt}
use Rattle.basics.proofs.Stores.{sets_two}
use Rattle.desk.specs.Text.{zero_digit, decimal_up_to, decimal, pair_text, pairs_text, place_text, places_text}
use Rattle.desk.specs.Needs.{Puts}

-- ---- digits

-- more fuel than the number is enough
agree : (j k n : ℕ) → n < j → n < k → decimal_up_to j n ≡ decimal_up_to k n
unfolding decimal_up_to
agree zero k n p q = absurd (omega arith)
agree (suc j) zero n p q = absurd (omega arith)
agree (suc j) (suc k) n p q =
    by-lt n 10 (λ h. rw (lt-ltb n 10 h)) (λ h. rw (le-ltb n 10 h, agree j k (n / 10) (omega arith) (omega arith)))

pub decimal-one : (n : ℕ) → n < 10 → decimal n ≡ (zero_digit + n) ∷ []
unfolding decimal decimal_up_to
decimal-one n h = let e : n % 10 ≡ n = omega arith in rw (lt-ltb n 10 h, e)

pub decimal_more : (n : ℕ) → 10 ≤ n → decimal n ≡ decimal (n / 10) ++ ((zero_digit + n % 10) ∷ [])
unfolding decimal decimal_up_to
decimal_more n h = rw (le-ltb n 10 h, agree n (suc (n / 10)) (n / 10) (omega arith) (omega arith))

-- ten, a hundred, a thousand ..
abbrev tens : ℕ → ℕ
tens zero = 10
tens (suc k) = tens k * 10

length-decimal : (k n : ℕ) → n < tens k → length (decimal n) ≤ suc k
length-decimal zero n h = rw (decimal-one n h) (omega arith)
length-decimal (suc k) n h =
    by-lt n 10 (λ p. rw (decimal-one n p) (omega arith))
    (λ p. rw (decimal_more n p, length-append) (omega (arith, length-decimal k (n / 10) (omega arith))))

-- a 32-bit number has at most ten digits, its tens at most nine
pub ten_digits : (n : ℕ) → n < 4294967296 → length (decimal n) ≤ 10
ten_digits n h = length-decimal 9 n (omega arith)

pub nine_digits : (n : ℕ) → n < 4294967296 → length (decimal (n / 10)) ≤ 9
nine_digits n h = length-decimal 8 (n / 10) (omega arith)

-- ---- texts in a buffer

-- one text behind another is both at once
pub puts_then : {p q : ℕ} {s t u : List ℕ} {i j k : ℕ} {a b : List ℕ} → Puts p s i a j t → Puts q t j b k u → Puts (p + q) s i (a ++ b) k u
puts_then {s = s} {i = i} {a = a} {b = b} x y = record {
  ends = rw length-append (omega arith);
  stored = sets_two s i a b x.stored x.ends y.stored;
  near = omega arith;
}

-- the same text under another name, with more room
pub puts_as : {p q : ℕ} {s t : List ℕ} {i j : ℕ} {a b : List ℕ} → Puts p s i a j t → a ≡ b → p ≤ q → Puts q s i b j t
puts_as x e h = record { ends = rw e at x.ends; stored = rw e at x.stored; near = omega arith }

-- nothing stored
pub puts_none : (s : List ℕ) (i : ℕ) → Puts 0 s i [] i s
puts_none s i = record { ends = omega arith; stored = refl; near = omega arith }

-- ---- the places of a listing, one more at the end

pub places_more : (numbers : List ℕ) (i : ℕ) → i < length numbers → places_text (take i numbers) ++ place_text (get_or numbers i 0) ≡ places_text (take (i + 1) numbers)
unfolding places_text
places_more [] i h = absurd (omega arith)
places_more (n ∷ numbers) zero h = rw append-nil
places_more (n ∷ numbers) (suc i) h = let e : suc i + 1 ≡ suc (i + 1) = omega arith in rw (append_assoc, e, places_more numbers i (omega arith))

pub puts-length : {p : ℕ} {s t : List ℕ} {i j : ℕ} {a : List ℕ} → Puts p s i a j t → length t ≡ length s
puts-length {s = s} {i = i} {a = a} x = ap length x.stored ∙ length-sets s i a

-- ---- the pairs of a listing: the texts of the first ones are put, those of `left` and `right` are not

no_pairs : (left right : List ℕ) → length left ≡ 0 → pairs_text left right ≡ []
unfolding pairs_text
no_pairs [] right z = refl
no_pairs (x ∷ left) right z = absurd (omega arith)

pub record Putting (out : List ℕ) (at : ℕ) (numbers counts left right : List ℕ) (end : ℕ) (after : List ℕ) : Type 0 where
  pub done : List ℕ
  pub n : ℕ
  pub puts : Puts (22 * n) out at done end after
  pub split : pairs_text numbers counts ≡ done ++ pairs_text left right
  pub all : n + length left ≡ length numbers
  pub both : length left ≡ length right

pub putting_start : (out : List ℕ) (at : ℕ) (numbers counts : List ℕ) → length numbers ≡ length counts → Putting out at numbers counts numbers counts at out
putting_start out at numbers counts e = record { done = []; n = 0; puts = puts_none out at; split = refl; all = omega arith; both = e }

module _ {out : List ℕ} {at : ℕ} {numbers counts left right : List ℕ} {end : ℕ} {after : List ℕ} (p : Putting out at numbers counts left right end after) where
  -- there is room for one more
  pub putting_room : {x : ℕ} {rest : List ℕ} → left ≡ x ∷ rest → at + 22 * length numbers ≤ length out → end + 22 ≤ length after
  putting_room e h = omega (arith, p.puts.near, puts-length p.puts, p.all, ap length e)

  pub putting_more : {x y : ℕ} {rest rest' : List ℕ} {end' : ℕ} {after' : List ℕ} → left ≡ x ∷ rest → right ≡ y ∷ rest' → Puts 22 after end (pair_text x y) end' after' → Putting out at numbers counts rest rest' end' after'
  unfolding pairs_text
  putting_more {x} {y} {rest} {rest'} e q h = record {
    done = p.done ++ pair_text x y;
    n = p.n + 1;
    puts = puts_as (puts_then p.puts h) refl (omega arith);
    split = p.split ∙ rw (e, q, append_assoc);
    all = omega (arith, p.all, ap length e);
    both = omega (arith, p.both, ap length e, ap length q);
  }

  pub putting_all : length left ≡ 0 → Puts (22 * length numbers) out at (pairs_text numbers counts) end after
  putting_all z = puts_as p.puts (sym (p.split ∙ rw (no_pairs left right z) (append-nil p.done))) (omega (arith, p.all))
