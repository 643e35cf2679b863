-- The three rows: what their bytes add up to one by one is what adding up their postings gives.
-- Assumes nothing.
use Prim.Native.Nat.{ℕ, zero, suc, ◌+◌, ◌/◌, ◌%◌, ◌≤◌, ◌<◌}
use mathlib.Core.Path.{◌≡◌, refl, sym, ap, ap₂, subst, ◌∙◌}
use mathlib.Core.Bool.{true, false}
use mathlib.Core.List.{List}
use native.Mathlib.Omega.{arith}
use native.Mathlib.Nat.{add_assoc}
use lib.ListN.{length, get_or, take, drop, drop_of_length-le, set, length-set}
use lib.Seq.{get_or-set_same, get_or-set_other, get_or-take, get_or-drop}
use Rattle.std.specs.Prelude.{sum}
use Rattle.std.proofs.lemmas.List.Sums.{sum_by-drop_more}
use Rattle.basics.proofs.Cases.{by-lt, by-eq}
use Rattle.postings.proofs.Codes.{at_one, at_pair}
use Rattle.sums.specs.declared.Sum.{Sum}
use Rattle.sums.specs.Adding.{added_to}
use Rattle.sums.specs.Rows.{is_second, gap_of, mark_of, gap_at, mark_at, sum_from, lane, Lane, Rows}
use Rattle.sums.proofs.Adding.{Adds, at_stop, added_on, added_ends}
use Rattle.sums.proofs.Bytes.{second_yes, second-behind, second_past, gap-second, gap-one, gap_pair, Fit, before_pair, of_one_byte, mark_start, mark_second, mark_fits}

-- ---- sums

-- of the elements of a list from place i on
sum_drop : (n : ℕ) (xs : List ℕ) (i : ℕ) → i + n ≡ length xs → sum (drop i xs) ≡ sum_from (λ j. get_or xs j 0) i n
unfolding sum_from
sum_drop zero xs i h = rw (drop_of_length-le xs {i = i} (omega arith))
sum_drop (suc n) xs i h =
    sum_by-drop_more (λ x. x) xs i 0 (omega arith) ∙ ap (λ x. get_or xs i 0 + x) (sum_drop n xs (i + 1) (omega arith))

-- of two functions that are the same place by place
sum_same : (f g : ℕ → ℕ) (i j n : ℕ) → ((a b : ℕ) → i ≤ a → a < i + n → a + j ≡ b + i → f a ≡ g b) → sum_from f i n ≡ sum_from g j n
unfolding sum_from
sum_same f g i j zero h = refl
sum_same f g i j (suc n) h =
    ap₂ (λ (x y : ℕ). x + y) (h i j (omega arith) (omega arith) (omega arith))
    (sum_same f g (i + 1) (j + 1) n (λ a b x y e. h a b (omega arith) (omega arith) (omega arith)))

sum-add : (f g : ℕ → ℕ) (i n : ℕ) → sum_from (λ j. f j + g j) i n ≡ sum_from f i n + sum_from g i n
unfolding sum_from
sum-add f g i zero = refl
sum-add f g i (suc n) = omega (arith, sum-add f g (i + 1) n)

sum_shift : (f : ℕ → ℕ) (m n : ℕ) → sum_from (λ j. f (j + m)) 0 n ≡ sum_from f m n
sum_shift f m n = sum_same (λ j. f (j + m)) f 0 m n (λ a b x y e. ap f (omega arith))

sum_split : (f : ℕ → ℕ) (i m n : ℕ) → sum_from f i (m + n) ≡ sum_from f i m + sum_from f (i + m) n
unfolding sum_from
sum_split f i zero n =
    let e : 0 + n ≡ n = omega arith in
    let d : i + 0 ≡ i = omega arith in
    omega (arith, ap (sum_from f i) e, ap (λ (x : ℕ). sum_from f x n) d)
sum_split f i (suc m) n =
    let e : suc m + n ≡ suc (m + n) = omega arith in
    let d : i + 1 + m ≡ i + suc m = omega arith in
    omega (arith, ap (sum_from f i) e, sum_split f (i + 1) m n, ap (λ (x : ℕ). sum_from f x n) d)

-- ---- lanes

-- the places before i are filled
pub record Filled (f : ℕ → ℕ) (xs : List ℕ) (i : ℕ) : Type 0 where
  pub places : length xs ≡ 16
  pub each : (j : ℕ) → j < i → get_or xs j 0 ≡ lane f j

pub filled_more : (f : ℕ → ℕ) {xs : List ℕ} {i : ℕ} (y : ℕ) → Filled f xs i → i < 16 → y ≡ lane f i → Filled f (set xs i y) (i + 1)
filled_more f {xs} {i} y w h e = record {
  places = length-set xs i y ∙ w.places;
  each = λ j k. by-eq j i
      (λ q. ap (λ (x : ℕ). get_or (set xs i y) x 0) q ∙ get_or-set_same xs i y 0 (omega (arith, w.places)) ∙ e ∙ sym (ap (lane f) q))
      (λ n. get_or-set_other xs i j y 0 n ∙ w.each j (omega (arith, n)));
}

-- the lane at place j, read byte by byte
module _ (s : List ℕ) (j : ℕ) where
  pub gap_lane : gap_of (get_or s (j + 2) 0) (get_or s (j + 1) 0) (get_or s j 0)
      + gap_of (get_or s (j + 18) 0) (get_or s (j + 17) 0) (get_or s (j + 16) 0)
      + gap_of (get_or s (j + 34) 0) (get_or s (j + 33) 0) (get_or s (j + 32) 0) ≡ lane (gap_at s) j
  unfolding lane gap_at
  gap_lane = simp add_assoc

  pub mark_lane : mark_of (get_or s (j + 2) 0) (get_or s (j + 1) 0) (get_or s j 0)
      + mark_of (get_or s (j + 18) 0) (get_or s (j + 17) 0) (get_or s (j + 16) 0)
      + mark_of (get_or s (j + 34) 0) (get_or s (j + 33) 0) (get_or s (j + 32) 0) ≡ lane (mark_at s) j
  unfolding lane mark_at
  mark_lane = simp add_assoc

-- the lanes add up to the rows
pub lanes_total : (f : ℕ → ℕ) (xs : List ℕ) → Lane f xs → sum xs ≡ sum_from f 0 48
unfolding lane
lanes_total f xs w =
    sum_drop 16 xs 0 (sym w.places)
    ∙ sum_same (λ i. get_or xs i 0) (λ j. f j + f (j + 16) + f (j + 32)) 0 0 16 (λ a b x y e. w.each a y ∙ ap (lane f) (omega arith))
    ∙ omega (arith, sum-add (λ j. f j + f (j + 16)) (λ j. f (j + 32)) 0 16, sum-add f (λ j. f (j + 16)) 0 16, sum_shift f 16 16, sum_shift f 32 16, sum_split f 0 32 16, sum_split f 0 16 16)

-- ---- the postings

abbrev byte : List ℕ → ℕ → ℕ
byte s i = get_or s i 0

abbrev state : ℕ → ℕ → ℕ → Sum ℕ
state at number postings = record { at = at; number = number; postings = postings }

same_state : {a a' n n' c c' : ℕ} → a ≡ a' → n ≡ n' → c ≡ c' → state a n c ≡ state a' n' c'
same_state p q r = rw (p, q, r)

-- the rows of the window that begins at offset o
module _ (s : List ℕ) (o : ℕ) (len : o + 2 + 48 ≤ length s) (closed : is_second (byte s (o + 49)) (byte s (o + 48)) ≡ false) where
  abbrev end : ℕ
  end = o + 2 + 48

  -- m bytes from offset j + 2 on add what each of them adds
  abbrev Add : ℕ → ℕ → ℕ → ℕ → Type 0
  Add m j n c = added_to s end (state (j + 2) n c) ≡ state end (n + sum_from (gap_at s) j m) (c + sum_from (mark_at s) j m)

  -- so it is where a code starts there and all bytes from there on fit
  abbrev Claim : ℕ → ℕ → ℕ → ℕ → Type 0
  Claim m j n c = j + 2 + m ≡ end → is_second (byte s (j + 1)) (byte s j) ≡ false → sum_from (mark_at s) j m < 64 → Add m j n c

  module _ (j n c : ℕ) (b : is_second (byte s (j + 1)) (byte s j) ≡ false) (i : j + 2 < end) (first : mark_at s j < 64) where
    fit : Fit (byte s (j + 2)) (byte s (j + 1)) (byte s j)
    unfolding mark_at
    fit = mark_fits (byte s (j + 2)) (byte s (j + 1)) (byte s j) first

    starts : mark_at s j ≡ 1
    unfolding mark_at
    starts = mark_start (byte s (j + 2)) (byte s (j + 1)) (byte s j) fit b

    next_two : j + 1 + 1 ≡ j + 2
    next_two = omega arith

    -- a code of one byte
    one : (m : ℕ) → j + 2 + suc m ≡ end → sum_from (mark_at s) j (suc m) < 64 → 0 < byte s (j + 2) % 4
        → ((n c : ℕ) → Claim m (j + 1) n c) → Add (suc m) j n c
    unfolding sum_from gap_at
    one m e w u ih =
        let y = byte s (j + 2) / 4 + 1 in
        let adds : Adds s end (state (j + 2) n c) = record { g = y; f = byte s (j + 2) % 4; l = 1; before_stop = i; found = at_one s (j + 2) (omega arith) fit.high u } in
        added_on s end len adds
        ∙ ap (λ (a : ℕ). added_to s end (state a (n + y) (c + 1))) (omega arith)
        ∙ ih (n + y) (c + 1) (omega arith) (rw next_two (second-behind (byte s (j + 2)) (byte s (j + 1)) u)) (omega (arith, w))
        ∙ same_state refl (omega (arith, gap-one (byte s (j + 2)) (byte s (j + 1)) (byte s j) b u)) (omega (arith, starts))

    -- the byte behind it, and both together
    next_three : j + 1 + 2 ≡ j + 2 + 1
    next_three = omega arith

    next_mark : mark_at s (j + 1) ≡ mark_of (byte s (j + 2 + 1)) (byte s (j + 2)) (byte s (j + 1))
    unfolding mark_at
    next_mark = rw (next_two, next_three)

    next_gap : gap_at s (j + 1) ≡ gap_of (byte s (j + 2 + 1)) (byte s (j + 2)) (byte s (j + 1))
    unfolding gap_at
    next_gap = rw (next_two, next_three)

    two : (f : ℕ → ℕ) (m : ℕ) → sum_from f j (suc (suc m)) ≡ f j + f (j + 1) + sum_from f (j + 2) m
    unfolding sum_from
    two f m = rw next_two (omega arith)

    -- a code of two
    pair : (m : ℕ) → j + 2 + suc (suc m) ≡ end → sum_from (mark_at s) j (suc (suc m)) < 64 → byte s (j + 2) % 4 ≡ 0
        → ((n c : ℕ) → Claim m (j + 2) n c) → Add (suc (suc m)) j n c
    unfolding gap_at
    pair m e w z ih =
        let y = byte s (j + 2) / 4 in
        let fit' : Fit (byte s (j + 2 + 1)) (byte s (j + 2)) (byte s (j + 1)) = mark_fits _ _ _ (omega (arith, w, next_mark, two (mark_at s) m)) in
        let t : is_second (byte s (j + 2)) (byte s (j + 1)) ≡ true = second_yes _ _ z (before_pair _ _ _ fit b z) in
        let adds : Adds s end (state (j + 2) n c) = record {
          g = y;
          f = byte s (j + 2 + 1) + 3;
          l = 2;
          before_stop = i;
          found = at_pair s (j + 2) (omega arith) (omega arith) fit'.low fit'.high fit.low fit.high z;
        } in
        added_on s end len adds
        ∙ ih (n + y) (c + 1) (omega arith) (second_past (byte s (j + 2 + 1)) (byte s (j + 2)) z) (omega (arith, w, two (mark_at s) m))
        ∙ same_state refl
        (omega (arith, two (gap_at s) m, gap_pair (byte s (j + 2)) (byte s (j + 1)) (byte s j) b z, next_gap, gap-second (byte s (j + 2 + 1)) (byte s (j + 2)) (byte s (j + 1)) t))
        (omega (arith, two (mark_at s) m, starts, next_mark, mark_second (byte s (j + 2 + 1)) (byte s (j + 2)) (byte s (j + 1)) fit' t))

  rows : (m j n c : ℕ) → Claim m j n c
  unfolding sum_from
  rows zero j n c e b w = added_ends s end (at_stop (omega arith)) ∙ same_state (omega arith) (omega arith) (omega arith)
  rows (suc zero) j n c e b w =
      let h : mark_at s j < 64 = omega (arith, w) in
      let i : j + 2 < end = omega arith in
      let e1 : o + 48 ≡ j + 1 = omega arith in
      let e2 : o + 49 ≡ j + 2 = omega arith in
      one j n c b i h zero e w (of_one_byte _ _ _ (fit j n c b i h) b (rw (e1, e2) at closed)) (λ n c. rows zero (j + 1) n c)
  rows (suc (suc m)) j n c e b w =
      let h : mark_at s j < 64 = omega (arith, w) in
      let i : j + 2 < end = omega arith in
      by-lt 0 (byte s (j + 2) % 4)
      (λ u. one j n c b i h (suc m) e w u (λ n c. rows (suc m) (j + 1) n c))
      (λ z. pair j n c b i h m e w (omega arith) (λ n c. rows m (j + 2) n c))

  pub rows_add : is_second (byte s (o + 1)) (byte s o) ≡ false → sum_from (mark_at s) o 48 < 64 → (n c : ℕ) → Add 48 o n c
  rows_add b w n c = rows 48 o n c (omega arith) b w

-- ---- a window

module _ (part : List ℕ) (o n : ℕ) (h : 50 ≤ n) where
  abbrev window : List ℕ
  window = take n (drop o part)

  window_byte : (i j : ℕ) → i < 50 → o + i ≡ j → byte window i ≡ byte part j
  window_byte i j k e = get_or-take n (drop o part) i 0 (omega arith) ∙ get_or-drop o part i 0 ∙ ap (byte part) e

  -- what is told by each byte and the two before it adds up to the same in the part
  window_sum : (f : ℕ → ℕ → ℕ → ℕ) → sum_from (λ i. f (byte window (i + 2)) (byte window (i + 1)) (byte window i)) 0 48
      ≡ sum_from (λ i. f (byte part (i + 2)) (byte part (i + 1)) (byte part i)) o 48
  window_sum f =
      sum_same _ _ 0 o 48
      (λ a b x y e. rw (window_byte (a + 2) (b + 2) (omega arith) (omega arith), window_byte (a + 1) (b + 1) (omega arith) (omega arith), window_byte a b (omega arith) (omega arith)))

  -- what the lanes of a window add up to is what its rows add
  pub rows_told : (at : ℕ) → o + 2 ≡ at → at + 48 ≤ length part → is_second (byte window 1) (byte window 0) ≡ false
      → is_second (byte window 49) (byte window 48) ≡ false → (gaps marks : List ℕ) → Lane (gap_at window) gaps → Lane (mark_at window) marks
      → sum marks ≤ 48 → Rows part at (record { gaps = sum gaps; postings = sum marks })
  unfolding gap_at mark_at
  rows_told at e len begins closed gaps marks g m few =
      subst (λ (a : ℕ). Rows part a (record { gaps = sum gaps; postings = sum marks })) e (record {
        within = omega (arith, len);
        few = few;
        adds = λ n c.
            rw (lanes_total _ gaps g, lanes_total _ marks m, window_sum gap_of, window_sum mark_of)
            (rows_add part o (omega arith)
            (rw (← window_byte 48 (o + 48) (omega arith) refl, ← window_byte 49 (o + 49) (omega arith) refl) closed)
            (rw (← window_byte 1 (o + 1) (omega arith) refl, ← window_byte 0 o (omega arith) (omega arith)) begins)
            (omega (arith, lanes_total _ marks m, window_sum mark_of)) n c);
      })
