-- Listing reports, and the refusals of a listing: 1 to 5 of its frame, 8, and 10.
use Rattle.std.specs.Prelude.{ℕ, min, List, [], ◌∷◌, ◌++◌, map, Result, Ok, Err, Bool, false, cond, not, ◌&&◌, ltb, leb, eqb, length, take}
use Rattle.std.proofs.lemmas.List.Edits.{sets}
use Rattle.basics.specs.Lists.{all, any, keep}
use Rattle.frames.specs.Refusals.{Row, ◌if◌, first_of}
use Rattle.frames.specs.Frames.{query_rows, query_start, query_terms}
use Rattle.blocks.specs.Prescribed.{Posting}
use Rattle.chains.specs.Chains.{Reading, damaged, whole, is_whole, chain_of}
use Rattle.refusals.specs.declared.Refusal.{Refusal}
use Rattle.lookup.specs.declared.Found.{Found}
use Rattle.lookup.specs.declared.Found.TheVariants.{At, Unknown}
use Rattle.lookup.specs.Lookup.{search}
use Rattle.counters.specs.Counters.{Memory, wrong_counters}
use Rattle.query.specs.declared.ListAnswer.{ListAnswer}

-- ---- the chains of the named terms

-- a known term's chain is read whole; an unknown term has no postings
unfoldable pub read_found : Memory → Result Found Refusal → Reading
read_found m (Ok (At h)) = chain_of m.arena m.counters.used m.counters.reports h
read_found m (Ok (Unknown s)) = whole []
read_found m (Err r) = damaged

unfoldable pub read_term : Memory → List ℕ → Reading
read_term m w = read_found m (search m.arena m.counters.used m.table w)

unfoldable pub postings_in : Reading → List Posting
postings_in damaged = []
postings_in (whole ps) = ps

unfoldable pub postings_of : Memory → List ℕ → List Posting
postings_of m w = postings_in (read_term m w)

-- 10: damage at look-up or in the chain of any named term
unfoldable pub damaged_terms : Memory → List (List ℕ) → Bool
damaged_terms m ws = any (λ w. not (is_whole (read_term m w))) ws

-- ---- refusals

unfoldable pub list_rows : ℕ → ℕ → Memory → List ℕ → List Row
list_rows kind most m f =
    query_rows kind most f
    ++ ((8 if wrong_counters m.arena m.table m.counters) ∷ (10 if damaged_terms m (query_terms f)) ∷ [])

unfoldable pub list_refusal : ℕ → ℕ → Memory → List ℕ → ℕ
list_refusal kind most m f = first_of (list_rows kind most m f)

-- ---- the reports listed

-- report n is among the postings
unfoldable pub holds : List Posting → ℕ → Bool
holds ps n = any (λ p. eqb p.number n) ps

-- of the first term's postings, in their order, those at or past the start whose report the other terms hold too
unfoldable pub common : ℕ → List (List Posting) → List Posting
common start [] = []
common start (ps ∷ rest) = keep (λ p. leb start p.number && all (λ qs. holds qs p.number) rest) ps

unfoldable pub matches : Memory → List ℕ → List Posting
matches m f = common (query_start f) (map (postings_of m) (query_terms f))

-- ---- the calls: the lists are filled from the front, later places keep their contents; more remain exactly when some did not fit

pub record ListedOne : Type 0 where
  pub answer : ListAnswer
  pub numbers : List ℕ
  pub counts : List ℕ

pub record ListedAll : Type 0 where
  pub answer : ListAnswer
  pub numbers : List ℕ

abbrev pub refused : ℕ → ListAnswer
refused n = record { refusal = n; more = false; filled = 0 }

abbrev pub listed : ℕ → List Posting → ListAnswer
listed room ps = record { refusal = 0; more = ltb room (length ps); filled = min room (length ps) }

-- as many as fit, from the front
abbrev pub numbers_of : ℕ → List Posting → List ℕ
numbers_of room ps = map (λ p. p.number) (take room ps)

abbrev pub counts_of : ℕ → List Posting → List ℕ
counts_of room ps = map (λ p. p.count) (take room ps)

unfoldable pub list_one : List Posting → List ℕ → List ℕ → ListedOne
list_one ps numbers counts =
    let room = min (length numbers) (length counts) in
    record { answer = listed room ps; numbers = sets numbers 0 (numbers_of room ps); counts = sets counts 0 (counts_of room ps) }

unfoldable pub list_all : List Posting → List ℕ → ListedAll
list_all ps numbers =
    let room = length numbers in
    record { answer = listed room ps; numbers = sets numbers 0 (numbers_of room ps) }

unfoldable pub list_one_call : Memory → List ℕ → List ℕ → List ℕ → ListedOne
list_one_call m f numbers counts =
    let r = list_refusal 2 1 m f in
    cond (eqb r 0) (list_one (matches m f) numbers counts) (record { answer = refused r; numbers = numbers; counts = counts })

unfoldable pub list_all_call : Memory → List ℕ → List ℕ → ListedAll
list_all_call m f numbers =
    let r = list_refusal 3 8 m f in
    cond (eqb r 0) (list_all (matches m f) numbers) (record { answer = refused r; numbers = numbers })
