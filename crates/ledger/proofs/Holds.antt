-- What the index of a ledger holds: the ledger's names in their order, the postings of each, and as many blocks as it prescribes.
-- Assumes nothing.
use mathlib.Core.Path.{◌≡◌, refl, sym, ap, ap₂, ◌∙◌}
use Prim.Native.Nat.{ℕ, zero, suc, ◌+◌, ◌≤◌, ◌<◌}
use mathlib.Core.Bool.{Bool, true, false, cond, ◌||◌}
use mathlib.Core.List.{List, [], ◌∷◌, ◌++◌, map, map-append, append_assoc, append-nil}
use native.Mathlib.Omega.{arith}
use lib.Dec.{ltb}
use lib.ListN.{length, get_or, set, length-append, length-map}
use lib.Seq.{map-set_same}
use borrow.Author.Tests.{ltb-true, ltb-false, lt-ltb, le-ltb}
use Rattle.basics.specs.Lists.{any, same}
use Rattle.basics.proofs.Lists.{same_eq, same_refl, or_left, or_right}
use Rattle.frames.specs.Frames.{Line}
use Rattle.blocks.specs.Fields.{max_word}
use Rattle.blocks.specs.Prescribed.{Posting, prescribed}
use Rattle.blocks.specs.Writes.{fits}
use Rattle.chains.specs.Chains.{last_from}
use Rattle.layout.specs.Chains.{After}
use Rattle.layout.specs.Held.{Held, postings_of as postings_in, head_for}
use Rattle.layout.specs.Index.{Index, no_term, term_at, used_of, Linked, empty, joined, with_term, with_posting}
use Rattle.layout.proofs.Held.{nos-closed}
use Rattle.layout.proofs.Linked.{linked-posting, linked-term, linked-empty}
use Rattle.ledger.specs.Ledger.{Report, in_report, in_reports, postings_of, with_name, names_after, names_from, names, sum, prescribed_blocks}
use Rattle.ledger.specs.Grown.{find, knows, posting, take_as, take_line, take_lines, take_reports, grown, GoodLine, Apart, nowhere, elsewhere, GoodLines, no_line, line, GoodReports, no_report, report}
use Rattle.ledger.proofs.Ask.{same_swap, find-name, ask, ask_set, ask_fresh, ask_known, ask_unknown, line_other}

-- ---- names

abbrev pub names_of : List Held → List (List ℕ)
names_of ts = map (λ (t : Held). t.name) ts

known_case : (b c : Bool) (w : List ℕ) (ts : List Held) → any (same w) (names_of ts) ≡ knows ts w → knows ts w ≡ c
    → b || any (same w) (names_of ts) ≡ ltb (cond b 0 (suc (find w ts))) (suc (length ts))
known_case true c w ts ih e = sym (lt-ltb 0 (suc (length ts)) (omega arith))
known_case false true w ts ih e = ih ∙ e ∙ sym (lt-ltb (suc (find w ts)) (suc (length ts)) (omega (arith, ltb-true (find w ts) (length ts) e)))
known_case false false w ts ih e = ih ∙ e ∙ sym (le-ltb (suc (find w ts)) (suc (length ts)) (omega (arith, ltb-false (find w ts) (length ts) e)))

-- a name is known exactly when it is among them
pub named_known : (w : List ℕ) (ts : List Held) → any (same w) (names_of ts) ≡ knows ts w
unfolding any find
named_known w [] = sym (le-ltb 0 0 (omega arith))
named_known w (t ∷ ts) = known_case (same w t.name) (knows ts w) w ts (named_known w ts) refl

names_case : (b : Bool) (ix : Index) (n : ℕ) (l : Line) → names_of (take_as b ix n l).terms ≡ cond b (names_of ix.terms) (names_of ix.terms ++ (l.term ∷ []))
unfolding with_posting with_term
names_case true ix n l = map-set_same (λ (t : Held). t.name) ix.terms (find l.term ix.terms) _ no_term refl
names_case false ix n l = map-append (λ (t : Held). t.name) ix.terms _

line-names : (ix : Index) (n : ℕ) (l : Line) → names_of (take_line ix n l).terms ≡ with_name (names_of ix.terms) l.term
unfolding take_line with_name
line-names ix n l = names_case (knows ix.terms l.term) ix n l ∙ rw (named_known l.term ix.terms)

lines-names : (ix : Index) (n : ℕ) (ls : List Line) → names_of (take_lines ix n ls).terms ≡ names_after (names_of ix.terms) ls
unfolding take_lines names_after
lines-names ix n [] = refl
lines-names ix n (l ∷ ls) = lines-names (take_line ix n l) n ls ∙ rw (line-names ix n l)

reports-names : (ix : Index) (n : ℕ) (rs : List Report) → names_of (take_reports ix n rs).terms ≡ names_from (names_of ix.terms) rs
unfolding take_reports names_from
reports-names ix n [] = refl
reports-names ix n (r ∷ rs) = reports-names (take_lines ix n r) (suc n) rs ∙ rw (lines-names ix n r)

-- THE NAMES are the ledger's, in order
pub grown-names : (rs : List Report) → names_of (grown rs).terms ≡ names rs
unfolding grown names
grown-names rs = reports-names empty 1 rs

pub grown-terms : (rs : List Report) → length (grown rs).terms ≡ length (names rs)
grown-terms rs = sym (length-map (grown rs).terms (λ (t : Held). t.name)) ∙ ap length (grown-names rs)

-- ---- postings

-- the postings held of the term of name w
abbrev pub held : List ℕ → List Held → List Posting
held w ts = ask postings_in [] w ts

held_as : (c b : Bool) (ix : Index) (n : ℕ) (l : Line) (v : List ℕ) → same v l.term ≡ c → knows ix.terms l.term ≡ b
    → held v (take_as b ix n l).terms ≡ held v ix.terms ++ cond c (posting n l ∷ []) []
unfolding with_posting with_term
held_as true true ix n l v q e =
    let h : find l.term ix.terms < length ix.terms = ltb-true _ _ e in
    ask_set postings_in [] v l.term ix.terms _ h (find-name l.term ix.terms h)
    ∙ rw (q, same_eq v l.term q, ask_known postings_in [] l.term ix.terms h)
held_as true false ix n l v q e =
    ask_fresh postings_in [] v l.term ix.terms _ (ltb-false _ _ e) refl
    ∙ rw (q, same_eq v l.term q, ask_unknown postings_in [] l.term ix.terms (ltb-false _ _ e))
held_as false true ix n l v q e =
    let h : find l.term ix.terms < length ix.terms = ltb-true _ _ e in
    ask_set postings_in [] v l.term ix.terms _ h (find-name l.term ix.terms h) ∙ rw q (sym (append-nil (held v ix.terms)))
held_as false false ix n l v q e =
    ask_fresh postings_in [] v l.term ix.terms _ (ltb-false _ _ e) refl ∙ rw q (sym (append-nil (held v ix.terms)))

line_held : (ix : Index) (n : ℕ) (l : Line) (v : List ℕ) → held v (take_line ix n l).terms ≡ held v ix.terms ++ cond (same v l.term) (posting n l ∷ []) []
unfolding take_line
line_held ix n l v = held_as (same v l.term) (knows ix.terms l.term) ix n l v refl refl

join_case : (b : Bool) (xs : List Posting) (p : Posting) (ys : List Posting) → xs ++ cond b (p ∷ []) [] ++ ys ≡ xs ++ cond b (p ∷ ys) ys
join_case true xs p ys = append_assoc xs (p ∷ []) ys
join_case false xs p ys = rw (append-nil xs)

lines_held : (ix : Index) (n : ℕ) (ls : List Line) (v : List ℕ) → held v (take_lines ix n ls).terms ≡ held v ix.terms ++ in_report v n ls
unfolding take_lines in_report
lines_held ix n [] v = sym (append-nil (held v ix.terms))
lines_held ix n (l ∷ ls) v =
    lines_held (take_line ix n l) n ls v ∙ rw (line_held ix n l v) (join_case (same v l.term) (held v ix.terms) (posting n l) (in_report v n ls))

reports_held : (ix : Index) (n : ℕ) (rs : List Report) (v : List ℕ) → held v (take_reports ix n rs).terms ≡ held v ix.terms ++ in_reports v n rs
unfolding take_reports in_reports
reports_held ix n [] v = sym (append-nil (held v ix.terms))
reports_held ix n (r ∷ rs) v = reports_held (take_lines ix n r) (suc n) rs v ∙ rw (lines_held ix n r v, append_assoc)

-- THE POSTINGS of each name are the ledger's
pub grown_held : (rs : List Report) (v : List ℕ) → held v (grown rs).terms ≡ postings_of rs v
unfolding grown ask postings_of
grown_held rs v = reports_held empty 1 rs v

-- ---- numbers

pub last-append : (k : ℕ) (xs ys : List Posting) → last_from k (xs ++ ys) ≡ last_from (last_from k xs) ys
unfolding last_from
last-append k [] ys = refl
last-append k (x ∷ xs) ys = last-append x.number xs ys

last_in_lem : (v : List ℕ) (k n : ℕ) (ls : List Line) → k ≤ n → last_from k (in_report v n ls) ≤ n
unfolding in_report last_from
last_in_lem v k n [] h = h
last_in_lem v k n (l ∷ ls) h = go (same v l.term) (last_in_lem v n n ls (omega arith)) (last_in_lem v k n ls h)
  where
    go : (b : Bool) → last_from n (in_report v n ls) ≤ n → last_from k (in_report v n ls) ≤ n → last_from k (cond b (posting n l ∷ in_report v n ls) (in_report v n ls)) ≤ n
    go true x y = x
    go false x y = y

last-all : (v : List ℕ) (k n : ℕ) (rs : List Report) → k < n → last_from k (in_reports v n rs) < n + length rs
unfolding in_reports last_from
last-all v k n [] h = omega arith
last-all v k n (r ∷ rs) h =
    rw (last-append k (in_report v n r) (in_reports v (suc n) rs))
    (omega (arith, last-all v (last_from k (in_report v n r)) (suc n) rs (omega (arith, last_in_lem v k n r (omega arith)))))

-- no posting has a number above that of the last report
pub last_le : (rs : List Report) (v : List ℕ) → last_from 0 (postings_of rs v) ≤ length rs
unfolding postings_of
last_le rs v = omega (arith, last-all v 0 1 rs (omega arith))

-- ---- no name comes twice

pub data Distinct : List (List ℕ) → Type 0 where
  none : Distinct []
  next : {w : List ℕ} {ws : List (List ℕ)} → any (same w) ws ≡ false → Distinct ws → Distinct (w ∷ ws)

any_snoc : (v w : List ℕ) (vs : List (List ℕ)) → any (same v) vs ≡ false → same v w ≡ false → any (same v) (vs ++ (w ∷ [])) ≡ false
unfolding any
any_snoc v w [] e n = rw n
any_snoc v w (x ∷ vs) e n = rw (or_left (same v x) (any (same v) vs) e) (any_snoc v w vs (or_right (same v x) (any (same v) vs) e) n)

distinct_snoc : (w : List ℕ) {vs : List (List ℕ)} → any (same w) vs ≡ false → Distinct vs → Distinct (vs ++ (w ∷ []))
unfolding any
distinct_snoc w e none = next refl none
distinct_snoc w e (next {w = v} {ws = vs} n d) =
    next (any_snoc v w vs n (same_swap v w (or_left (same w v) (any (same w) vs) e))) (distinct_snoc w (or_right (same w v) (any (same w) vs) e) d)

distinct_as : (b : Bool) (ws : List (List ℕ)) (w : List ℕ) → any (same w) ws ≡ b → Distinct ws → Distinct (cond b ws (ws ++ (w ∷ [])))
distinct_as true ws w e d = d
distinct_as false ws w e d = distinct_snoc w e d

lines_distinct : (ws : List (List ℕ)) (ls : List Line) → Distinct ws → Distinct (names_after ws ls)
unfolding names_after with_name
lines_distinct ws [] d = d
lines_distinct ws (l ∷ ls) d = lines_distinct (with_name ws l.term) ls (distinct_as (any (same l.term) ws) ws l.term refl d)

reports_distinct : (ws : List (List ℕ)) (rs : List Report) → Distinct ws → Distinct (names_from ws rs)
unfolding names_from
reports_distinct ws [] d = d
reports_distinct ws (r ∷ rs) d = reports_distinct (names_after ws r) rs (lines_distinct ws r d)

pub names_distinct : (rs : List Report) → Distinct (names rs)
unfolding names
names_distinct rs = reports_distinct [] rs none

-- ---- blocks in use are the blocks of the terms

abbrev nos_of : Held → ℕ
nos_of t = length t.nos

sum-append : (xs ys : List ℕ) → sum (xs ++ ys) ≡ sum xs + sum ys
unfolding sum
sum-append [] ys = omega arith
sum-append (x ∷ xs) ys = rw (sum-append xs ys) (omega arith)

sum-set : (f : Held → ℕ) (ts : List Held) (i : ℕ) (t : Held) (k : ℕ) → i < length ts → f t ≡ f (get_or ts i no_term) + k → sum (map f (set ts i t)) ≡ sum (map f ts) + k
unfolding sum
sum-set f [] i t k h e = absurd (omega arith)
sum-set f (x ∷ ts) zero t k h e = rw e (omega arith)
sum-set f (x ∷ ts) (suc i) t k h e = rw (sum-set f ts i t k (omega arith) e) (omega arith)

-- one block more, unless the posting fits
abbrev extra : Bool → ℕ
extra true = 0
extra false = 1

length-joined : {A : Type 0} (b : Bool) (s : List A) (x : A) → length (joined b s x) ≡ length s + extra b
length-joined true s x = omega arith
length-joined false s x = length-append s (x ∷ [])

total_as : (b : Bool) (ix : Index) (n : ℕ) (l : Line) → knows ix.terms l.term ≡ b → sum (map nos_of ix.terms) ≡ used_of ix
    → sum (map nos_of (take_as b ix n l).terms) ≡ used_of (take_as b ix n l)
unfolding with_posting with_term sum
total_as true ix n l e h =
    let i : ℕ = find l.term ix.terms in
    let t : Held = term_at ix i in
    let b : Bool = fits (head_for t) n l.count in
    sum-set nos_of ix.terms i _ (extra b) (ltb-true _ _ e) (length-joined b t.nos (used_of ix)) ∙ rw h (sym (length-joined b ix.owners _))
total_as false ix n l e h = rw (map-append, sum-append, h, length-append)

line-total : (ix : Index) (n : ℕ) (l : Line) → sum (map nos_of ix.terms) ≡ used_of ix → sum (map nos_of (take_line ix n l).terms) ≡ used_of (take_line ix n l)
unfolding take_line
line-total ix n l h = total_as (knows ix.terms l.term) ix n l refl h

lines-total : (ix : Index) (n : ℕ) (ls : List Line) → sum (map nos_of ix.terms) ≡ used_of ix → sum (map nos_of (take_lines ix n ls).terms) ≡ used_of (take_lines ix n ls)
unfolding take_lines
lines-total ix n [] h = h
lines-total ix n (l ∷ ls) h = lines-total (take_line ix n l) n ls (line-total ix n l h)

reports-total : (ix : Index) (n : ℕ) (rs : List Report) → sum (map nos_of ix.terms) ≡ used_of ix → sum (map nos_of (take_reports ix n rs).terms) ≡ used_of (take_reports ix n rs)
unfolding take_reports
reports-total ix n [] h = h
reports-total ix n (r ∷ rs) h = reports-total (take_lines ix n r) (suc n) rs (lines-total ix n r h)

grown-total : (rs : List Report) → sum (map nos_of (grown rs).terms) ≡ used_of (grown rs)
unfolding grown sum
grown-total rs = reports-total empty 1 rs refl

length-sum : (f : Held → ℕ) (ts : List Held) → ((i : ℕ) → i < length ts → 1 ≤ f (get_or ts i no_term)) → length ts ≤ sum (map f ts)
unfolding sum
length-sum f [] h = omega arith
length-sum f (t ∷ ts) h = omega (arith, h 0 (omega arith), length-sum f ts (λ i l. h (suc i) (omega arith)))

-- no more terms than blocks
pub grown_housed : (rs : List Report) → Linked (grown rs) → length (grown rs).terms ≤ used_of (grown rs)
grown_housed rs l =
    omega (arith, grown-total rs, length-sum nos_of (grown rs).terms (λ i h. omega (arith, nos-closed (l.sound i h))))

-- ---- a sum over the terms is one over their names

module _ (g : List ℕ → List Posting → ℕ) where
  sum_skip : (t : Held) (ts : List Held) (us : List (List ℕ)) → any (same t.name) us ≡ false → sum (map (λ w. g w (held w (t ∷ ts))) us) ≡ sum (map (λ w. g w (held w ts)) us)
  unfolding sum any ask
  sum_skip t ts [] e = refl
  sum_skip t ts (u ∷ us) e =
      rw (same_swap u t.name (or_left (same t.name u) (any (same t.name) us) e), sum_skip t ts us (or_right (same t.name u) (any (same t.name) us) e))

  sum-names : (ts : List Held) → Distinct (names_of ts) → ((i : ℕ) → i < length ts → nos_of (get_or ts i no_term) ≡ g (get_or ts i no_term).name (postings_in (get_or ts i no_term)))
      → sum (map nos_of ts) ≡ sum (map (λ w. g w (held w ts)) (names_of ts))
  unfolding sum ask
  sum-names [] d h = refl
  sum-names (t ∷ ts) (next n d) h =
      rw (sum_skip t ts (names_of ts) n) (ap₂ ◌+◌ (h 0 (omega arith) ∙ rw (same_refl t.name)) (sum-names ts d (λ i l. h (suc i) (omega arith))))

sum_ext : (f g : List ℕ → ℕ) (ws : List (List ℕ)) → ((w : List ℕ) → f w ≡ g w) → sum (map f ws) ≡ sum (map g ws)
unfolding sum
sum_ext f g [] h = refl
sum_ext f g (w ∷ ws) h = ap₂ ◌+◌ (h w) (sum_ext f g ws h)

-- AS MANY BLOCKS as the ledger prescribes
pub grown-used : (rs : List Report) → Linked (grown rs) → used_of (grown rs) ≡ prescribed_blocks rs
unfolding prescribed_blocks
grown-used rs l =
    let ts : List Held = (grown rs).terms in
    sym (grown-total rs)
    ∙ sum-names (λ w ps. prescribed (length w) ps) ts (rw (grown-names rs) (names_distinct rs)) (λ i h. (l.sound i h).whole)
    ∙ rw (grown-names rs) (sum_ext (λ w. prescribed (length w) (held w ts)) (λ w. prescribed (length w) (postings_of rs w)) (names rs)
    (λ w. ap (prescribed (length w)) (grown_held rs w)))

-- ---- the index is sound

-- every line's term was last met before report n
pub data Earlier (n : ℕ) (ts : List Held) : List Line → Type 0 where
  none : Earlier n ts []
  next : {l : Line} {ls : List Line} → last_from 0 (held l.term ts) < n → Earlier n ts ls → Earlier n ts (l ∷ ls)

pub earlier_head : {n : ℕ} {ts : List Held} {l : Line} {ls : List Line} → Earlier n ts (l ∷ ls) → last_from 0 (held l.term ts) < n
earlier_head (next h e) = h

pub earlier_tail : {n : ℕ} {ts : List Held} {l : Line} {ls : List Line} → Earlier n ts (l ∷ ls) → Earlier n ts ls
earlier_tail (next h e) = e

-- a line of another term leaves that so
pub earlier_line : (ix : Index) (n : ℕ) (l : Line) {ls : List Line} → Apart l.term ls → Earlier n ix.terms ls → Earlier n (take_line ix n l).terms ls
earlier_line ix n l nowhere none = none
earlier_line ix n l (elsewhere {l = k} q a) (next h e) = next {l = k} (rw (line_other postings_in [] ix n l k.term q) h) (earlier_line ix n l a e)

pub earlier_all : (n : ℕ) (ts : List Held) → ((v : List ℕ) → last_from 0 (held v ts) < n) → (ls : List Line) → Earlier n ts ls
earlier_all n ts b [] = none
earlier_all n ts b (l ∷ ls) = next {l = l} (b l.term) (earlier_all n ts b ls)

-- the posting of a good line stands behind what is held
pub line_after : (n : ℕ) (l : Line) (k : ℕ) → GoodLine l → n ≤ max_word → k < n → After k (posting n l)
line_after n l k g h e = record { above = e; number_small = h; count_pos = g.count_pos; count_small = g.count_small }

pub term_after : (ix : Index) (n : ℕ) (l : Line) → GoodLine l → n ≤ max_word → last_from 0 (held l.term ix.terms) < n
    → find l.term ix.terms < length ix.terms → After (last_from 0 (postings_in (term_at ix (find l.term ix.terms)))) (posting n l)
term_after ix n l g h e k =
    line_after n l _ g h (rw (← (ask_known postings_in [] l.term ix.terms k)) e)

linked_as : (b : Bool) (ix : Index) (n : ℕ) (l : Line) → knows ix.terms l.term ≡ b → GoodLine l → n ≤ max_word → last_from 0 (held l.term ix.terms) < n
    → Linked ix → Linked (take_as b ix n l)
linked_as true ix n l k g h e s =
    let i : find l.term ix.terms < length ix.terms = ltb-true _ _ k in
    linked-posting ix (find l.term ix.terms) (posting n l) i s (term_after ix n l g h e i)
linked_as false ix n l k g h e s = linked-term ix l.term (posting n l) s g.short (line_after n l 0 g h (omega arith))

pub linked-line : (ix : Index) (n : ℕ) (l : Line) → GoodLine l → n ≤ max_word → last_from 0 (held l.term ix.terms) < n → Linked ix → Linked (take_line ix n l)
unfolding take_line
linked-line ix n l g h e s = linked_as (knows ix.terms l.term) ix n l refl g h e s

linked-lines : (ix : Index) (n : ℕ) {ls : List Line} → GoodLines ls → n ≤ max_word → Earlier n ix.terms ls → Linked ix → Linked (take_lines ix n ls)
unfolding take_lines
linked-lines ix n no_line h e s = s
linked-lines ix n (line {l = l} {ls = ls} g a gs) h e s =
    linked-lines (take_line ix n l) n gs h (earlier_line ix n l a (earlier_tail e)) (linked-line ix n l g h (earlier_head e) s)

-- after report n no number is above n
lines-before : (ix : Index) (n : ℕ) (ls : List Line) → ((v : List ℕ) → last_from 0 (held v ix.terms) < n) → (v : List ℕ) → last_from 0 (held v (take_lines ix n ls).terms) < suc n
lines-before ix n ls b v =
    rw (lines_held ix n ls v, last-append 0 (held v ix.terms) (in_report v n ls))
    (omega (arith, last_in_lem v (last_from 0 (held v ix.terms)) n ls (omega (arith, b v))))

linked-reports : (ix : Index) (n : ℕ) {rs : List Report} → GoodReports rs → n + length rs ≤ suc max_word → ((v : List ℕ) → last_from 0 (held v ix.terms) < n) → Linked ix → Linked (take_reports ix n rs)
unfolding take_reports
linked-reports ix n no_report h b s = s
linked-reports ix n (report {r = r} {rs = rs} g gs) h b s =
    linked-reports (take_lines ix n r) (suc n) gs (omega arith) (lines-before ix n r b)
    (linked-lines ix n g (omega arith) (earlier_all n ix.terms b r) s)

-- THE INDEX of good reports is sound
pub grown-linked : {rs : List Report} → GoodReports rs → length rs ≤ max_word → Linked (grown rs)
unfolding grown last_from ask
grown-linked g h = linked-reports empty 1 g (omega arith) (λ v. omega arith) linked-empty

-- ---- one report more

reports-snoc : (ix : Index) (n : ℕ) (rs : List Report) (r : Report) → take_reports ix n (rs ++ (r ∷ [])) ≡ take_lines (take_reports ix n rs) (n + length rs) r
unfolding take_reports
reports-snoc ix n [] r = ap (λ (k : ℕ). take_lines ix k r) (omega arith)
reports-snoc ix n (x ∷ rs) r =
    reports-snoc (take_lines ix n x) (suc n) rs r ∙ ap (λ (k : ℕ). take_lines (take_reports (take_lines ix n x) (suc n) rs) k r) (omega arith)

pub grown-snoc : (rs : List Report) (r : Report) → grown (rs ++ (r ∷ [])) ≡ take_lines (grown rs) (length rs + 1) r
unfolding grown
grown-snoc rs r = reports-snoc empty 1 rs r ∙ ap (λ (k : ℕ). take_lines (take_reports empty 1 rs) k r) (omega arith)

pub good_snoc : {rs : List Report} {r : Report} → GoodReports rs → GoodLines r → GoodReports (rs ++ (r ∷ []))
good_snoc no_report g = report g no_report
good_snoc (report h hs) g = report h (good_snoc hs g)
