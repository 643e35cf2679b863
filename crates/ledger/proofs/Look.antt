-- What a memory that stands for a ledger says: where a term is found, what is read there, and the counters.
-- Assumes nothing.
use mathlib.Core.Path.{◌≡◌, refl, sym, ap, ◌∙◌}
use Prim.Native.Nat.{ℕ, ◌<◌}
use mathlib.Core.Bool.{Bool, true, false, cond, not, ◌||◌}
use mathlib.Core.List.{List, [], ◌∷◌, map}
use native.Mathlib.Omega.{arith}
use Rattle.std.specs.Prelude.{Ok}
use lib.Dec.{eqb}
use lib.ListN.{length}
use borrow.Author.Tests.{ltb-true, ltb-false}
use Rattle.basics.specs.Lists.{all, any, same}
use Rattle.basics.proofs.Lists.{and_left, and_right}
use Rattle.frames.specs.Refusals.{Row, first_of}
use Rattle.frames.specs.Frames.{head_rows, field_rows, report_rows}
use Rattle.chains.specs.Chains.{whole, chain_of}
use Rattle.lookup.specs.Lookup.{search}
use Rattle.lookup.specs.declared.Found.TheVariants.{At, Unknown}
use Rattle.counters.specs.Counters.{Memory}
use Rattle.layout.specs.Held.{postings_of as postings_in, head_no}
use Rattle.layout.specs.Index.{term_at}
use Rattle.ledger.specs.Ledger.{Report, names, postings_of, prescribed_blocks, ledger_rows}
use Rattle.ledger.specs.Grown.{find, knows, grown}
use Rattle.ledger.proofs.Ask.{ask_known, ask_unknown}
use Rattle.ledger.proofs.Holds.{named_known, grown-names, grown-terms, grown_held, last_le, grown-used}
use Rattle.ledger.proofs.Rep.{search_known, search_unknown, rep_reads}
use Rattle.ledger.proofs.Reports.{rows_are, StandsFor}

-- ---- terms

-- a name of the ledger is one that the index knows
pub names_known : (rs : List Report) (w : List ℕ) → any (same w) (names rs) ≡ knows (grown rs).terms w
names_known rs w = ap (any (same w)) (sym (grown-names rs)) ∙ named_known w (grown rs).terms

-- the search for a term of name w: at a head whose chain reads as the ledger's postings, or unknown and the ledger has none
pub data Looks (m : Memory) (rs : List Report) (w : List ℕ) : Type 0 where
  at : (h : ℕ) → any (same w) (names rs) ≡ true → search m.arena m.counters.used m.table w ≡ Ok (At h)
      → chain_of m.arena m.counters.used m.counters.reports h ≡ whole (postings_of rs w) → Looks m rs w
  off : (s : ℕ) → any (same w) (names rs) ≡ false → search m.arena m.counters.used m.table w ≡ Ok (Unknown s)
      → postings_of rs w ≡ [] → Looks m rs w

module _ {m : Memory} {rs : List Report} (s : StandsFor m rs) where
  looks_as : (b : Bool) (w : List ℕ) → knows (grown rs).terms w ≡ b → Looks m rs w
  looks_as true w e =
      let i : ℕ = find w (grown rs).terms in
      let hi : i < length (grown rs).terms = ltb-true _ _ e in
      let q : postings_in (term_at (grown rs) i) ≡ postings_of rs w = sym (ask_known postings_in [] w (grown rs).terms hi) ∙ grown_held rs w in
      at (head_no (term_at (grown rs) i)) (names_known rs w ∙ e) (search_known s.rep w e)
      (rep_reads s.rep i hi (rw q (last_le rs w)) ∙ ap whole q)
  looks_as false w e =
      let o = search_unknown s.rep w e in
      off o.0 (names_known rs w ∙ e) o.1 (sym (grown_held rs w) ∙ ask_unknown postings_in [] w (grown rs).terms (ltb-false _ _ e))

  -- LOOKING UP a term, and reading its chain
  pub looks : (w : List ℕ) → Looks m rs w
  looks w = looks_as (knows (grown rs).terms w) w refl

  -- ---- counters

  pub used_are : m.counters.used ≡ prescribed_blocks rs
  used_are = s.rep.used_is ∙ grown-used rs s.rep.linked

  pub terms_are : m.counters.terms ≡ length (names rs)
  terms_are = s.rep.terms_is ∙ grown-terms rs

  pub reports_are : m.counters.reports ≡ length rs
  reports_are = s.rep.reports_is

-- ---- refusals that no ledger gives

-- 8, 10 and 13
abbrev pub Given : ℕ → Type 0
Given n = (n ≡ 8 → ⊥) × (n ≡ 10 → ⊥) × (n ≡ 13 → ⊥)

abbrev given : ℕ → Bool
given n = not (eqb n 8 || (eqb n 10 || eqb n 13))

first-given : (rs : List Row) → all given (map (λ r. r.number) rs) ≡ true → Given (first_of rs)
unfolding first_of all
first-given [] e = (λ z. omega arith, λ z. omega arith, λ z. omega arith)
first-given (r ∷ rs) e = go r.holds (first-given rs (and_right (given r.number) _ e))
  where
    here : given r.number ≡ true
    here = and_left (given r.number) _ e

    go : (b : Bool) → Given (first_of rs) → Given (cond b r.number (first_of rs))
    go true x = (λ z. cc (here, z), λ z. cc (here, z), λ z. cc (here, z))
    go false x = x

-- of the numbers of the rows none is 8, 10 or 13
pub never : (bytes entries : ℕ) (rs : List Report) (f : List ℕ) → Given (first_of (ledger_rows bytes entries rs f))
unfolding report_rows head_rows field_rows all
never bytes entries rs f = rw rows_are (first-given _ refl)
