-- The terms and blocks that a report takes, counted before its first line is written: no line touches the term of another.
-- Assumes nothing.
use mathlib.Core.Path.{◌≡◌, refl, ap₂, ◌∙◌}
use Prim.Native.Nat.{ℕ, suc, ◌+◌}
use mathlib.Core.Bool.{Bool, true, false, cond}
use mathlib.Core.List.{List, [], ◌∷◌}
use native.Mathlib.Omega.{arith}
use lib.ListN.{length}
use borrow.Author.Tests.{ltb-true, ltb-false}
use Rattle.frames.specs.Frames.{Line}
use Rattle.blocks.specs.Writes.{fits}
use Rattle.layout.specs.Held.{Held, head_for}
use Rattle.layout.specs.Index.{Index, term_at, used_of}
use Rattle.layout.proofs.Laws.{terms-term, terms-posting, used-posting, used-term}
use Rattle.ledger.specs.Grown.{find, knows, posting, take_as, take_line, take_lines, Apart, nowhere, elsewhere, GoodLines, no_line, line}
use Rattle.ledger.proofs.Ask.{ask, ask_known, ask_unknown, line_other}

-- what a line needs: a block where its term is unknown or the posting does not fit
abbrev pub block_of : ℕ → Line → Held → ℕ
block_of n l t = cond (fits (head_for t) n l.count) 0 1

abbrev pub needs : ℕ → List Held → Line → ℕ
needs n ts l = ask (block_of n l) 1 l.term ts

-- and a term where it is unknown
abbrev pub none_of : Held → ℕ
none_of t = 0

abbrev pub news : List Held → Line → ℕ
news ts l = ask none_of 1 l.term ts

-- summed over lines
unfoldable pub over : (Line → ℕ) → List Line → ℕ
over f [] = 0
over f (l ∷ ls) = f l + over f ls

-- ---- one line

used_as : (b : Bool) (ix : Index) (n : ℕ) (l : Line) → knows ix.terms l.term ≡ b → used_of (take_as b ix n l) ≡ used_of ix + needs n ix.terms l
used_as true ix n l e =
    let i : ℕ = find l.term ix.terms in
    rw (ask_known (block_of n l) 1 l.term ix.terms (ltb-true _ _ e)) (used-posting ix i (posting n l) ∙ go (fits (head_for (term_at ix i)) n l.count))
  where
    go : (b : Bool) → cond b (used_of ix) (suc (used_of ix)) ≡ used_of ix + cond b 0 1
    go true = omega arith
    go false = omega arith
used_as false ix n l e = rw (ask_unknown (block_of n l) 1 l.term ix.terms (ltb-false _ _ e)) (used-term ix l.term (posting n l) ∙ omega arith)

pub used-line : (ix : Index) (n : ℕ) (l : Line) → used_of (take_line ix n l) ≡ used_of ix + needs n ix.terms l
unfolding take_line
used-line ix n l = used_as (knows ix.terms l.term) ix n l refl

terms_as : (b : Bool) (ix : Index) (n : ℕ) (l : Line) → knows ix.terms l.term ≡ b → length (take_as b ix n l).terms ≡ length ix.terms + news ix.terms l
terms_as true ix n l e =
    rw (ask_known none_of 1 l.term ix.terms (ltb-true _ _ e)) (terms-posting ix (find l.term ix.terms) (posting n l) ∙ omega arith)
terms_as false ix n l e = rw (ask_unknown none_of 1 l.term ix.terms (ltb-false _ _ e)) (terms-term ix l.term (posting n l) ∙ omega arith)

pub terms-line : (ix : Index) (n : ℕ) (l : Line) → length (take_line ix n l).terms ≡ length ix.terms + news ix.terms l
unfolding take_line
terms-line ix n l = terms_as (knows ix.terms l.term) ix n l refl

-- ---- the lines of a report

needs_other : (ix : Index) (n : ℕ) (l : Line) {ls : List Line} → Apart l.term ls → over (needs n (take_line ix n l).terms) ls ≡ over (needs n ix.terms) ls
unfolding over
needs_other ix n l nowhere = refl
needs_other ix n l (elsewhere {l = k} q a) = ap₂ ◌+◌ (line_other (block_of n k) 1 ix n l k.term q) (needs_other ix n l a)

news_other : (ix : Index) (n : ℕ) (l : Line) {ls : List Line} → Apart l.term ls → over (news (take_line ix n l).terms) ls ≡ over (news ix.terms) ls
unfolding over
news_other ix n l nowhere = refl
news_other ix n l (elsewhere {l = k} q a) = ap₂ ◌+◌ (line_other none_of 1 ix n l k.term q) (news_other ix n l a)

-- COUNTED BEFOREHAND: blocks
pub used-lines : (ix : Index) (n : ℕ) {ls : List Line} → GoodLines ls → used_of (take_lines ix n ls) ≡ used_of ix + over (needs n ix.terms) ls
unfolding over take_lines
used-lines ix n no_line = omega arith
used-lines ix n (line {l = l} {ls = ls} g a gs) =
    used-lines (take_line ix n l) n gs ∙ rw (needs_other ix n l a, used-line ix n l) (omega arith)

-- and terms
pub terms-lines : (ix : Index) (n : ℕ) {ls : List Line} → GoodLines ls → length (take_lines ix n ls).terms ≡ length ix.terms + over (news ix.terms) ls
unfolding over take_lines
terms-lines ix n no_line = omega arith
terms-lines ix n (line {l = l} {ls = ls} g a gs) =
    terms-lines (take_line ix n l) n gs ∙ rw (news_other ix n l a, terms-line ix n l) (omega arith)
