-- The memory that stands for an index, and where a line goes in it.
-- Assumes nothing.
use mathlib.Core.Path.{◌≡◌, refl, sym, ap, ◌∙◌}
use Prim.Native.Nat.{ℕ, ◌+◌, ◌-◌, ◌≤◌, ◌<◌}
use mathlib.Core.Bool.{Bool, true, false, cond}
use mathlib.Core.List.{List, [], ◌∷◌}
use native.Mathlib.Omega.{arith}
use Rattle.std.specs.Prelude.{Ok}
use lib.Dec.{leb}
use lib.ListN.{length, replicate, length-map, get_or-map}
use borrow.Author.Tests.{ltb-true, ltb-false, le-ltb}
use Rattle.basics.proofs.Cases.{by-eq}
use Rattle.frames.specs.Frames.{Line}
use Rattle.blocks.specs.declared.Head.{Head}
use Rattle.postings.specs.Coding.{code}
use Rattle.blocks.specs.Fields.{capacity, link_of, head_of}
use Rattle.blocks.specs.Prescribed.{full, behind_link, Posting, Reach, opened, onward, reached}
use Rattle.blocks.specs.Writes.{fits}
use Rattle.chains.specs.Chains.{whole, last_from, chain_of}
use Rattle.chains.proofs.Laws.{chain-whole}
use Rattle.lookup.specs.Lookup.{slots, search, Known}
use Rattle.lookup.specs.declared.Found.TheVariants.{At, Unknown}
use Rattle.lookup.proofs.Search.{search-none}
use Rattle.lookup.proofs.Table.{nth, Tab, Lacks, Open, known, unknown, tab_start}
use Rattle.counters.specs.Counters.{Memory, memory}
use Rattle.ingest.specs.declared.Place.TheVariants.{New, Stays, Spills}
use Rattle.ingest.specs.Report.{damaged_head, place_at, placed, place_of}
use Rattle.layout.specs.Chains.{Rising, none, next}
use Rattle.layout.specs.Held.{Held, postings_of as postings_in, head_no, tail_no, start_of, head_for}
use Rattle.layout.specs.Index.{Index, no_term, term_at, used_of, Linked, Image, empty}
use Rattle.layout.specs.Claims.{Fields}
use Rattle.layout.proofs.Laws.{fields, head_for_lem, reads_back, read_back}
use Rattle.ledger.specs.Grown.{find, knows, GoodLine}
pub use Rattle.ledger.specs.Grown.{entry_of, entries_of}
use Rattle.ledger.proofs.Ask.{find-name, name_found, ask_known}
use Rattle.ledger.proofs.Holds.{held}

-- THE INVARIANT: arena, table and counters stand for the index after n reports
pub record Rep (m : Memory) (ix : Index) (n : ℕ) : Type 0 where
  pub image : Image m.arena ix
  pub linked : Linked ix
  pub tab : Tab m.arena (used_of ix) m.table (entries_of ix)
  pub used_is : m.counters.used ≡ used_of ix
  pub terms_is : m.counters.terms ≡ length ix.terms
  pub reports_is : m.counters.reports ≡ n
  pub inside : used_of ix ≤ capacity m.arena

-- a start
pub rep_start : (a : List ℕ) (k : ℕ) → Rep (memory a (replicate k 0) (record { used = 0; terms = 0; reports = 0 })) empty 0
rep_start a k = record {
  image = (read_back.starts a).0;
  linked = (read_back.starts a).1;
  tab = tab_start a 0 k;
  used_is = refl;
  terms_is = refl;
  reports_is = refl;
  inside = omega arith;
}

-- the entries of the table
pub nth_entry : (ix : Index) (i : ℕ) → nth (entries_of ix) i ≡ entry_of (term_at ix i)
nth_entry ix i = get_or-map entry_of ix.terms i no_term

pub length-entries : (ix : Index) → length (entries_of ix) ≡ length ix.terms
length-entries ix = length-map ix.terms entry_of

pub lacks : (ix : Index) (w : List ℕ) → knows ix.terms w ≡ false → Lacks (entries_of ix) w
lacks ix w e i h q =
    let z : find w ix.terms < length ix.terms = name_found w ix.terms i (rw (length-entries ix) at h) (sym (ap (λ (k : Known). k.name) (nth_entry ix i)) ∙ q) in
    omega (arith, ltb-false (find w ix.terms) (length ix.terms) e)

-- ---- a search

module _ {m : Memory} {ix : Index} {n : ℕ} (r : Rep m ix n) (w : List ℕ) where
  -- of a known name
  pub search_known : knows ix.terms w ≡ true → search m.arena m.counters.used m.table w ≡ Ok (At (head_no (term_at ix (find w ix.terms))))
  search_known e =
      let i : ℕ = find w ix.terms in
      let h : i < length ix.terms = ltb-true _ _ e in
      let q : nth (entries_of ix) i ≡ entry_of (term_at ix i) = nth_entry ix i in
      let nm : (nth (entries_of ix) i).name ≡ w = ap (λ (k : Known). k.name) q ∙ find-name w ix.terms h in
      ap (λ (u : ℕ). search m.arena u m.table w) r.used_is
      ∙ ap (search m.arena (used_of ix) m.table) (sym nm) ∙ known r.tab i (rw (length-entries ix) h) ∙ ap (λ (k : Known). Ok (At k.head)) q

  -- of an unknown one
  pub search_unknown : knows ix.terms w ≡ false → (s : ℕ) × (search m.arena m.counters.used m.table w ≡ Ok (Unknown s))
  search_unknown e =
      by-eq (slots m.table) 0
      (λ z. (0, search-none m.arena m.counters.used m.table w z))
      (λ z. let o : Open m.arena (used_of ix) m.table w = unknown r.tab w (lacks ix w e) (omega arith) in
      (o.slot, ap (λ (u : ℕ). search m.arena u m.table w) r.used_is ∙ o.answer))

-- ---- numbers of rising postings

-- as many postings as numbers at most
pub rising_length : {n : ℕ} {ps : List Posting} → Rising n ps → n + length ps ≤ last_from n ps
unfolding last_from
rising_length none = omega arith
rising_length (next f s) = omega (arith, rising_length s)

-- the first number of a tail is not above the last
first_le : {k : ℕ} {ps : List Posting} (c : Reach) → c.last ≡ k → c.first ≤ k → Rising k ps → (reached c ps).first ≤ last_from k ps
unfolding reached last_from onward
first_le c e h none = h
first_le {k} c e h (next {p = p} {ps = ps} f s) = go (leb (c.offset + length (code (p.number - c.last) p.count)) full) (λ x q g. first_le x q g s)
  where
    go : (b : Bool) → ((x : Reach) → x.last ≡ p.number → x.first ≤ p.number → (reached x ps).first ≤ last_from p.number ps)
        → (reached (cond b (record { blocks = c.blocks; offset = c.offset + length (code (p.number - c.last) p.count); first = c.first; last = p.number })
        (record { blocks = c.blocks + 1; offset = behind_link + length (code (p.number - c.first) p.count); first = p.number; last = p.number })) ps).first ≤ last_from p.number ps
    go true ih = ih (record { blocks = c.blocks; offset = c.offset + length (code (p.number - c.last) p.count); first = c.first; last = p.number }) refl (omega (arith, f.above))
    go false ih = ih (record { blocks = c.blocks + 1; offset = behind_link + length (code (p.number - c.first) p.count); first = p.number; last = p.number }) refl (omega arith)

first-all : (start : ℕ) {p : Posting} {ps : List Posting} → Rising 0 (p ∷ ps) → (reached (opened start p) ps).first ≤ last_from 0 (p ∷ ps)
unfolding last_from opened
first-all start {p} (next f s) = first_le (opened start p) refl (omega arith) s

-- ---- where a line goes

module _ {m : Memory} {ix : Index} {n : ℕ} (r : Rep m ix n) where
  module _ (i : ℕ) (hi : i < length ix.terms) (low : last_from 0 (postings_in (term_at ix i)) ≤ n) where
    abbrev term : Held
    term = term_at ix i

    abbrev place : ℕ
    place = head_no (term_at ix i)

    -- its chain reads back
    pub rep_reads : chain_of m.arena m.counters.used m.counters.reports place ≡ whole (postings_in term)
    rep_reads = rw (r.used_is, r.reports_is) (reads_back r.image r.linked i hi n low)

    -- the head of a term is never damaged
    sound-head : damaged_head m.arena m.counters place (head_of m.arena place) ≡ false
    unfolding damaged_head
    sound-head =
        let w = chain-whole m.arena m.counters.used m.counters.reports place (postings_in term) rep_reads in
        let s = (r.linked.sound i hi).rises in
        let fs : Fields m.arena term = fields r.image r.linked i hi in
        let tl : (head_of m.arena place).tail ≡ tail_no term = ap (λ (d : Head). d.tail) fs.head in
        let ln : link_of m.arena (head_of m.arena place).tail ≤ n = rw (tl, fs.first) (omega (arith, first-all (start_of term) s)) in
        rw (
          w.good,
          le-ltb m.counters.reports (head_of m.arena place).last (omega (arith, w.last, r.reports_is)),
          le-ltb m.counters.reports (link_of m.arena (head_of m.arena place).tail) (omega (arith, r.reports_is)),
          le-ltb m.counters.reports (head_of m.arena place).postings (omega (arith, w.postings, r.reports_is, rising_length s)),
        )

    place_at_lem : (f : ℕ) → place_at m.arena m.counters f place ≡ Ok (cond (fits (head_for term) (n + 1) f) (Stays place) (Spills place))
    unfolding place_at
    place_at_lem f = rw (sound-head, head_for_lem r.image r.linked i hi, r.reports_is)

  -- the three ways that a line goes
  pub data Goes (l : Line) : Type 0 where
    stays : knows ix.terms l.term ≡ true → fits (head_for (term_at ix (find l.term ix.terms))) (n + 1) l.count ≡ true
        → place_of m l ≡ Ok (Stays (head_no (term_at ix (find l.term ix.terms)))) → Goes l
    spills : knows ix.terms l.term ≡ true → fits (head_for (term_at ix (find l.term ix.terms))) (n + 1) l.count ≡ false
        → place_of m l ≡ Ok (Spills (head_no (term_at ix (find l.term ix.terms)))) → Goes l
    opens : knows ix.terms l.term ≡ false → (s : ℕ) → search m.arena m.counters.used m.table l.term ≡ Ok (Unknown s)
        → place_of m l ≡ Ok (New s) → Goes l

  module _ (l : Line) (g : GoodLine l) (low : last_from 0 (held l.term ix.terms) ≤ n) where
    -- of a known term
    known_goes : (b : Bool) → knows ix.terms l.term ≡ true → fits (head_for (term_at ix (find l.term ix.terms))) (n + 1) l.count ≡ b → Goes l
    unfolding place_of placed
    known_goes b e q =
        let i : ℕ = find l.term ix.terms in
        let hi : i < length ix.terms = ltb-true _ _ e in
        let lo : last_from 0 (postings_in (term_at ix i)) ≤ n = rw (← (ask_known postings_in [] l.term ix.terms hi)) low in
        let p : place_of m l ≡ Ok (cond (fits (head_for (term_at ix i)) (n + 1) l.count) (Stays (head_no (term_at ix i))) (Spills (head_no (term_at ix i)))) =
        ap (placed m.arena m.counters l.count) (search_known r l.term e) ∙ place_at_lem i hi lo l.count in
        go b q p
      where
        go : (b : Bool) → fits (head_for (term_at ix (find l.term ix.terms))) (n + 1) l.count ≡ b
            → place_of m l ≡ Ok (cond (fits (head_for (term_at ix (find l.term ix.terms))) (n + 1) l.count) (Stays (head_no (term_at ix (find l.term ix.terms)))) (Spills (head_no (term_at ix (find l.term ix.terms)))))
            → Goes l
        go true q p = stays e q (p ∙ rw q)
        go false q p = spills e q (p ∙ rw q)

    goes_as : (b : Bool) → knows ix.terms l.term ≡ b → Goes l
    unfolding place_of placed
    goes_as true e = known_goes (fits (head_for (term_at ix (find l.term ix.terms))) (n + 1) l.count) e refl
    goes_as false e =
        let o = search_unknown r l.term e in
        opens e o.0 o.1 (ap (placed m.arena m.counters l.count) o.1)

    -- A LINE goes in one of these ways
    pub goes : Goes l
    goes = goes_as (knows ix.terms l.term) refl
