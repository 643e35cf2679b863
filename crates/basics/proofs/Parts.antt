-- Parts of lists: of a part, of a list that was stored into, and behind the end of one of two lists.
-- Assumes nothing.
use mathlib.Core.Path.{◌≡◌, refl, sym, ap, ◌∙◌}
use mathlib.Core.List.{List, [], ◌∷◌, ◌++◌, append-nil}
use Prim.Native.Nat.{ℕ, zero, suc, ◌+◌, ◌-◌, ◌≤◌, ◌<◌}
use native.Mathlib.Nat.{add-zero, zero-add, add-suc, suc-add, sub-zero, zero-sub, suc-sub-suc}
use native.Mathlib.Omega.{arith}
use lib.ListN.{length, get_or, take, drop, set, length-drop}
use lib.Seq.{take-nil, take-set-le, drop-set-lt, take-set-lt, drop-set-add, drop-length, drop-drop, get_or-drop, sets, sets-eq, take_at, get_or-append_seam}

module _ {A : Type 0} where
  -- ---- a part of a part

  pub drop-take : (m n : ℕ) (l : List A) → drop m (take n l) ≡ take (n - m) (drop m l)
  drop-take zero n l = rw sub-zero
  drop-take (suc m) zero l = rw zero-sub
  drop-take (suc m) (suc n) [] = sym (take-nil (suc n - suc m))
  drop-take (suc m) (suc n) (x ∷ l) = rw suc-sub-suc (drop-take m n l)

  -- ---- parts of a list that was stored into

  -- the part in front of the stores
  pub take-before : (n : ℕ) (l : List A) (i : ℕ) (vs : List A) → n ≤ i → take n (sets l i vs) ≡ take n l
  take-before n l i [] h = refl
  take-before n l i (v ∷ vs) h = take-before n (set l i v) (suc i) vs (omega arith) ∙ take-set-le n l i v h

  -- the part behind them
  pub drop-behind : (n : ℕ) (l : List A) (i : ℕ) (vs : List A) → i + length vs ≤ n → drop n (sets l i vs) ≡ drop n l
  drop-behind n l i [] h = refl
  drop-behind n l i (v ∷ vs) h = drop-behind n (set l i v) (suc i) vs (omega arith) ∙ drop-set-lt n l i v (omega arith)

  -- a part that holds them
  pub take-sets : (n : ℕ) (l : List A) (i : ℕ) (vs : List A) → i + length vs ≤ n → take n (sets l i vs) ≡ sets (take n l) i vs
  take-sets n l i [] h = refl
  take-sets n l i (v ∷ vs) h = take-sets n (set l i v) (suc i) vs (omega arith) ∙ rw (take-set-lt n l i v (omega arith))

  pub drop-sets : (n : ℕ) (l : List A) (i : ℕ) (vs : List A) → drop n (sets l (n + i) vs) ≡ sets (drop n l) i vs
  drop-sets n l i [] = refl
  drop-sets n l i (v ∷ vs) = rw (← add-suc, drop-sets n (set l (n + i) v) (suc i) vs, drop-set-add n l i v)

  -- ---- stores into one of two lists, or over a whole list

  sets-suc : (x : A) (l : List A) (i : ℕ) (vs : List A) → sets (x ∷ l) (suc i) vs ≡ x ∷ sets l i vs
  sets-suc x l i [] = refl
  sets-suc x l i (v ∷ vs) = sets-suc x (set l i v) (suc i) vs

  pub sets-second : (s t : List A) (i : ℕ) (vs : List A) → sets (s ++ t) (length s + i) vs ≡ s ++ sets t i vs
  sets-second [] t i vs = rw zero-add
  sets-second (x ∷ s) t i vs = rw (suc-add, sets-suc, sets-second s t i vs)

  pub sets-whole : (l vs : List A) → length l ≡ length vs → sets l 0 vs ≡ vs
  sets-whole l vs e =
      let z : 0 + length vs ≡ length l = omega arith in
      sets-eq vs l 0 (omega arith) ∙ rw (z, drop-length) (append-nil vs)

  -- what was stored in a part is read there again
  pub stored_at : (l : List A) (i : ℕ) (vs : List A) (n : ℕ) → length vs ≡ n → i + n ≤ length l → take n (drop i (sets l i vs)) ≡ vs
  stored_at l i vs n e h =
      let z : 0 + length vs ≤ length (drop i l) = rw length-drop (omega arith) in
      ap (λ (k : ℕ). take n (drop i (sets l k vs))) (sym (add-zero i))
      ∙ ap (take n) (drop-sets i l 0 vs ∙ sets-eq vs (drop i l) 0 z)
      ∙ take_at vs _ n e

  -- ---- a list whose rest from the n-th element on is known

  module _ (l : List A) (n : ℕ) {x : A} {xs : List A} (e : drop n l ≡ x ∷ xs) where
    -- that element
    pub rest_here : (d : A) → get_or l n d ≡ x
    rest_here d = ap (λ (k : ℕ). get_or l k d) (sym (add-zero n)) ∙ sym (get_or-drop n l 0 d) ∙ ap (λ (z : List A). get_or z 0 d) e

    pub rest_in : n < length l
    rest_in = omega (arith, simp length-drop at (ap length e))

    -- the rest behind it
    pub rest-next : drop (n + 1) l ≡ xs
    rest-next = sym (drop-drop 1 n l) ∙ ap (drop 1) e

  -- ---- elements of a list and of one that is longer

  -- inside a list it does not matter what stands for the elements behind it
  pub get_or-inside : (l : List A) (i : ℕ) (d e : A) → i < length l → get_or l i d ≡ get_or l i e
  get_or-inside [] i d e h = absurd (omega arith)
  get_or-inside (x ∷ l) zero d e h = refl
  get_or-inside (x ∷ l) (suc i) d e h = get_or-inside l i d e (omega arith)

  -- one more element stands for what is behind the list
  pub get_or-snoc : (l : List A) (i : ℕ) (x d : A) → i ≤ length l → get_or (l ++ (x ∷ [])) i d ≡ get_or l i x
  get_or-snoc [] zero x d h = refl
  get_or-snoc [] (suc i) x d h = absurd (omega arith)
  get_or-snoc (y ∷ l) zero x d h = refl
  get_or-snoc (y ∷ l) (suc i) x d h = get_or-snoc l i x d (omega arith)

  pub get_or-last : (l : List A) (x d : A) → get_or (l ++ (x ∷ [])) (length l) d ≡ x
  get_or-last l x d = get_or-append_seam l x [] d
