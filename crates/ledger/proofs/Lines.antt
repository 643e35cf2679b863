-- Writing the lines of a report keeps the memory that stands for the index.
-- Assumes nothing.
use mathlib.Core.Path.{◌≡◌, refl, sym, ap, ◌∙◌, subst}
use Prim.Native.Nat.{ℕ, suc, ◌+◌, ◌≤◌, ◌<◌}
use mathlib.Core.Bool.{true, false}
use mathlib.Core.List.{List, [], ◌∷◌, ◌++◌, map-append}
use native.Mathlib.Omega.{arith}
use Rattle.std.specs.Prelude.{Ok}
use lib.ListN.{length}
use lib.Seq.{map-set_same}
use borrow.Author.Tests.{ltb-true, ltb-false}
use Rattle.frames.specs.Frames.{Line}
use Rattle.blocks.specs.declared.Head.{Head}
use Rattle.blocks.specs.Fields.{max_word, capacity, place, head_of}
use Rattle.blocks.specs.Prescribed.{Posting}
use Rattle.blocks.specs.Writes.{fits, open_head, append}
use Rattle.chains.specs.Chains.{last_from}
use Rattle.lookup.specs.Lookup.{search, enter, Known}
use Rattle.lookup.specs.declared.Found.TheVariants.{Unknown}
use Rattle.lookup.proofs.Search.{Stands, length-enter}
use Rattle.lookup.proofs.Table.{Tab, tab_keep, tab_enter}
use Rattle.counters.specs.Counters.{Memory, memory, max_terms}
use Rattle.ingest.specs.declared.Place.TheVariants.{New, Stays, Spills}
use Rattle.ingest.specs.Report.{place_of, is_damaged, terms_for, blocks_for, written}
use Rattle.layout.specs.Chains.{After}
use Rattle.layout.specs.Held.{Held, head_no, head_for}
use Rattle.layout.specs.Index.{Index, no_term, term_at, used_of, Linked, fresh, with_term, with_posting}
use Rattle.layout.specs.Claims.{Onward}
use Rattle.layout.proofs.Held.{nos-closed}
use Rattle.layout.proofs.Linked.{joined_is}
use Rattle.layout.proofs.Laws.{head_for_lem, opens, opens_name, appends, used-posting, used-term, terms-posting, terms-term}
use Rattle.ledger.specs.Grown.{find, knows, posting, take_line, GoodLine}
use Rattle.ledger.proofs.Ask.{ask_known, ask_unknown}
use Rattle.ledger.proofs.Holds.{held, line_after, term_after}
use Rattle.ledger.proofs.Plan.{block_of, needs, none_of, news}
use Rattle.ledger.proofs.Rep as rep
use Rattle.ledger.proofs.Rep.{Rep, entry_of, entries_of, nth_entry, length-entries, lacks, Goes, goes}

-- memory m' stands for the index, and is as long as m
pub record Wrote (m m' : Memory) (ix : Index) (n : ℕ) : Type 0 where
  pub rep : Rep m' ix n
  pub arena_kept : length m'.arena ≡ length m.arena
  pub table_kept : length m'.table ≡ length m.table

-- ---- which index a line leads to

take_known : (ix : Index) (n : ℕ) (l : Line) → knows ix.terms l.term ≡ true → take_line ix n l ≡ with_posting ix (find l.term ix.terms) (posting n l)
unfolding take_line
take_known ix n l e = rw e

take_new : (ix : Index) (n : ℕ) (l : Line) → knows ix.terms l.term ≡ false → take_line ix n l ≡ with_term ix l.term (posting n l)
unfolding take_line
take_new ix n l e = rw e

-- room for so many blocks
pub room : (a : List ℕ) (k : ℕ) → k ≤ capacity a → place k ≤ length a
unfolding capacity
room a k h = omega arith

pub same-capacity : (a b : List ℕ) → length a ≡ length b → capacity a ≡ capacity b
unfolding capacity
same-capacity a b e = rw e

-- a posting more leaves the entries of the table
entries-posting : (ix : Index) (i : ℕ) (p : Posting) → i < length ix.terms → Linked ix → entries_of (with_posting ix i p) ≡ entries_of ix
unfolding with_posting
entries-posting ix i p h l =
    let t : Held = term_at ix i in
    map-set_same entry_of ix.terms i _ no_term
    (ap (λ (x : ℕ). record { name = t.name; head = x })
    (joined_is (fits (head_for t) p.number p.count) t.nos (used_of ix) 0 0 (omega (arith, nos-closed (l.sound i h)))))

entries-term : (ix : Index) (w : List ℕ) (p : Posting) → entries_of (with_term ix w p) ≡ entries_of ix ++ (record { name = w; head = used_of ix } ∷ [])
unfolding with_term
entries-term ix w p = map-append entry_of ix.terms (fresh (used_of ix) w p ∷ [])

-- names of heads stay
tab_onward : {a : List ℕ} {ix : Index} {table : List ℕ} (a' : List ℕ) (ix' : Index) → Tab a (used_of ix) table (entries_of ix) → Onward a ix a' ix' → Tab a' (used_of ix') table (entries_of ix)
tab_onward {ix = ix} a' ix' t o =
    tab_keep t a' (used_of ix') o.keeps.used_le (λ i h. rw (nth_entry ix i) (o.names i (rw (length-entries ix) at h)))

-- ---- a line

module _ {m : Memory} {ix : Index} {n : ℕ} (r : Rep m ix n) (l : Line) (g : GoodLine l) (small : n < max_word)
    (low : last_from 0 (held l.term ix.terms) ≤ n) where
  -- of a known term
  module _ (e : knows ix.terms l.term ≡ true) where
    abbrev here : ℕ
    here = find l.term ix.terms

    abbrev next_ix : Index
    next_ix = with_posting ix (find l.term ix.terms) (posting (n + 1) l)

    abbrev head : ℕ
    head = head_no (term_at ix (find l.term ix.terms))

    append_rep : used_of next_ix ≤ capacity m.arena → (k : ℕ) → k ≡ used_of next_ix → (a' : List ℕ) → append m.arena head m.counters.used (n + 1) l.count ≡ a'
        → Wrote m (memory a' m.table (record { used = k; terms = m.counters.terms; reports = m.counters.reports })) next_ix n
    append_rep h k q a' w =
        let hi : here < length ix.terms = ltb-true _ _ e in
        let o₀ : Onward m.arena ix (append m.arena head (used_of ix) (n + 1) l.count) next_ix =
        appends m.arena ix r.image r.linked here hi (posting (n + 1) l) (term_after ix (n + 1) l g (omega arith) (omega arith) hi) (room m.arena (used_of next_ix) h) in
        let o₁ : Onward m.arena ix (append m.arena head m.counters.used (n + 1) l.count) next_ix = rw r.used_is o₀ in
        let o : Onward m.arena ix a' next_ix = rw w at o₁ in
        record {
          rep = record {
            image = o.image;
            linked = o.linked;
            tab = rw (entries-posting ix here (posting (n + 1) l) hi r.linked) (tab_onward a' next_ix r.tab o);
            used_is = q;
            terms_is = r.terms_is ∙ sym (terms-posting ix here (posting (n + 1) l));
            reports_is = r.reports_is;
            inside = rw (same-capacity a' m.arena o.same_length) h;
          };
          arena_kept = o.same_length;
          table_kept = refl;
        }

    fits-is : fits (head_of m.arena head) (n + 1) l.count ≡ fits (head_for (term_at ix here)) (n + 1) l.count
    fits-is = ap (λ (d : Head). fits d (n + 1) l.count) (head_for_lem r.image r.linked here (ltb-true _ _ e))

    stays_rep : fits (head_for (term_at ix here)) (n + 1) l.count ≡ true → used_of next_ix ≤ capacity m.arena
        → Wrote m (written m (n + 1) l (Ok (Stays head))) next_ix n
    unfolding written append
    stays_rep f h =
        append_rep h m.counters.used (r.used_is ∙ sym (used-posting ix here (posting (n + 1) l) ∙ rw f)) _ (rw (fits-is, f))

    spills_rep : fits (head_for (term_at ix here)) (n + 1) l.count ≡ false → used_of next_ix ≤ capacity m.arena
        → Wrote m (written m (n + 1) l (Ok (Spills head))) next_ix n
    unfolding written append
    spills_rep f h =
        append_rep h (m.counters.used + 1) (rw (used-posting ix here (posting (n + 1) l), f) (omega (arith, r.used_is))) _ (rw (fits-is, f))

  -- of a new one
  opens_rep : knows ix.terms l.term ≡ false → (s : ℕ) → search m.arena m.counters.used m.table l.term ≡ Ok (Unknown s)
      → suc (used_of ix) ≤ capacity m.arena → suc (length ix.terms) ≤ max_terms m.table
      → Wrote m (written m (n + 1) l (Ok (New s))) (with_term ix l.term (posting (n + 1) l)) n
  unfolding written max_terms
  opens_rep e s q h t =
      let p : Posting = posting (n + 1) l in
      let ix' : Index = with_term ix l.term p in
      let k : Known = record { name = l.term; head = used_of ix } in
      let a' : List ℕ = open_head m.arena (used_of ix) l.term (n + 1) l.count in
      let af : After 0 p = line_after (n + 1) l 0 g (omega arith) (omega arith) in
      let o : Onward m.arena ix a' ix' = opens m.arena ix r.image r.linked l.term p g.short af (room m.arena (suc (used_of ix)) h) in
      let st : Stands a' (used_of ix') l.term (used_of ix) = record {
        below = rw (used-term ix l.term p) (omega arith);
        named = opens_name m.arena ix r.image r.linked l.term p g.short af (room m.arena (suc (used_of ix)) h);
      } in
      let tb : Tab a' (used_of ix') (enter m.table s (used_of ix)) (entries_of ix ++ (k ∷ [])) =
      tab_enter (tab_onward a' ix' r.tab o) k (lacks ix l.term e) st (rw (length-entries ix) (omega arith)) m.arena m.counters.used s q in
      let go : Wrote m (memory a' (enter m.table s (used_of ix)) (record { used = used_of ix + 1; terms = m.counters.terms + 1; reports = m.counters.reports })) ix' n =
      record {
        rep = record {
          image = o.image;
          linked = o.linked;
          tab = rw (entries-term ix l.term p) tb;
          used_is = rw (used-term ix l.term p) (omega arith);
          terms_is = rw (terms-term ix l.term p) (omega (arith, r.terms_is));
          reports_is = r.reports_is;
          inside = rw (same-capacity a' m.arena o.same_length, used-term ix l.term p) h;
        };
        arena_kept = o.same_length;
        table_kept = length-enter m.table s (used_of ix);
      } in
      subst (λ (u : ℕ). Wrote m (memory (open_head m.arena u l.term (n + 1) l.count) (enter m.table s u) (record { used = u + 1; terms = m.counters.terms + 1; reports = m.counters.reports })) ix' n)
      (sym r.used_is) go

  -- A LINE written keeps the invariant
  pub line_rep : used_of (take_line ix (n + 1) l) ≤ capacity m.arena → length (take_line ix (n + 1) l).terms ≤ max_terms m.table
      → Wrote m (written m (n + 1) l (place_of m l)) (take_line ix (n + 1) l) n
  line_rep h t = go (goes r l g low)
    where
      go : Goes r l → Wrote m (written m (n + 1) l (place_of m l)) (take_line ix (n + 1) l) n
      go (rep.stays e f p) = rw (p, take_known ix (n + 1) l e) (stays_rep e f (rw (take_known ix (n + 1) l e) at h))
      go (rep.spills e f p) = rw (p, take_known ix (n + 1) l e) (spills_rep e f (rw (take_known ix (n + 1) l e) at h))
      go (rep.opens e s q p) =
          rw (p, take_new ix (n + 1) l e)
          (opens_rep e s q (rw (take_new ix (n + 1) l e, used-term ix l.term (posting (n + 1) l)) at h)
          (rw (take_new ix (n + 1) l e, terms-term ix l.term (posting (n + 1) l)) at t))

  -- what it needs is what was counted, and it is not damaged
  pub line_fine : is_damaged (place_of m l) ≡ false
  unfolding is_damaged
  line_fine = go (goes r l g low)
    where
      go : Goes r l → is_damaged (place_of m l) ≡ false
      go (rep.stays e f p) = rw p
      go (rep.spills e f p) = rw p
      go (rep.opens e s q p) = rw p

  pub line_needs : blocks_for (place_of m l) ≡ needs (n + 1) ix.terms l
  unfolding blocks_for
  line_needs = go (goes r l g low)
    where
      go : Goes r l → blocks_for (place_of m l) ≡ needs (n + 1) ix.terms l
      go (rep.stays e f p) = rw (p, ask_known (block_of (n + 1) l) 1 l.term ix.terms (ltb-true _ _ e), f)
      go (rep.spills e f p) = rw (p, ask_known (block_of (n + 1) l) 1 l.term ix.terms (ltb-true _ _ e), f)
      go (rep.opens e s q p) = rw (p, ask_unknown (block_of (n + 1) l) 1 l.term ix.terms (ltb-false _ _ e))

  pub line_news : terms_for (place_of m l) ≡ news ix.terms l
  unfolding terms_for
  line_news = go (goes r l g low)
    where
      go : Goes r l → terms_for (place_of m l) ≡ news ix.terms l
      go (rep.stays e f p) = rw (p, ask_known none_of 1 l.term ix.terms (ltb-true _ _ e))
      go (rep.spills e f p) = rw (p, ask_known none_of 1 l.term ix.terms (ltb-true _ _ e))
      go (rep.opens e s q p) = rw (p, ask_unknown none_of 1 l.term ix.terms (ltb-false _ _ e))
