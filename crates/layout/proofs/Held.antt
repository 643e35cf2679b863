-- A held term's chain, and what one posting more does to the term.
-- Assumes nothing.
use mathlib.Core.Path.{◌≡◌, refl, sym, ap, ◌∙◌}
use Prim.Native.Nat.{ℕ, suc, ◌+◌, ◌-◌, ◌≤◌}
use mathlib.Core.Bool.{Bool, true, false}
use mathlib.Core.List.{List, [], ◌∷◌, ◌++◌}
use native.Mathlib.Omega.{arith}
use lib.ListN.{length, length-append}
use Rattle.basics.proofs.Parts.{get_or-last}
use Rattle.terms.specs.Terms.{max_term}
use Rattle.blocks.specs.Fields.{link_size, head_fixed}
use Rattle.blocks.specs.Writes.{fits}
use Rattle.blocks.specs.Prescribed.{Posting, opened, reached, prescribed}
use Rattle.chains.specs.Chains.{last_from}
use Rattle.layout.specs.Chains.{After, none, next, coded, d_entry, b_entry, begun, stays, put_as, put}
use Rattle.layout.specs.Held.{Held, postings_of, tail_no, start_of, chain, head_for}
use Rattle.layout.specs.Index.{Sound, fresh, grown}
use Rattle.layout.proofs.Chains.{Holds, rising_snoc, onward-stays, onward-next, holds-chain, reach-puts, puts-snoc, blocks-prescribed}
use Rattle.blocks.proofs.Sizes.{sizes}

-- ---- the chain

-- the place of the tail among the blocks
abbrev pub tail_at : Held → ℕ
tail_at t = length (chain t).closed

pub chain-reach : (t : Held) → (chain t).reach ≡ reached (opened (start_of t) t.first) t.rest
unfolding chain begun
chain-reach t = reach-puts (begun (start_of t) t.first) t.rest

blocks_is : (t : Held) → (chain t).reach.blocks ≡ prescribed (length t.name) (postings_of t)
unfolding prescribed head_fixed
blocks_is t = rw (chain-reach t)

module _ {used : ℕ} {t : Held} (s : Sound used t) where
  pub chain-holds : Holds (start_of t) (postings_of t) (chain t)
  unfolding chain
  chain-holds = holds-chain (omega (arith, sizes, s.short)) s.rises

  pub nos-closed : length t.nos ≡ suc (tail_at t)
  unfolding chain
  nos-closed = s.whole ∙ sym (blocks-prescribed (length t.name) t.first t.rest) ∙ rw length-append (omega arith)

-- ---- one posting more

-- a posting fits a head as it stays in the chain
pub fits-stays : (t : Held) (p : Posting) → fits (head_for t) p.number p.count ≡ stays (chain t).reach p
unfolding fits head_for stays
fits-stays t p = refl

module _ (used : ℕ) (t : Held) (p : Posting) where
  pub chain-grown : (b : Bool) → stays (chain t).reach p ≡ b → chain (grown b used t p) ≡ put_as b (chain t) p
  unfolding chain put
  chain-grown b e = puts-snoc (begun (start_of t) t.first) t.rest p ∙ rw (e, put)

  -- the fields of the head
  pub head-stays : stays (chain t).reach p ≡ true → head_for (grown true used t p)
      ≡ record {
        tail = tail_no t;
        last = p.number;
        postings = (head_for t).postings + 1;
        end = (head_for t).end + length (coded (d_entry (chain t).reach p));
        length = length t.name;
      }
  unfolding head_for
  head-stays e =
      let m : suc (length t.rest + 1) ≡ suc (length t.rest) + 1 = omega arith in
      rw (chain-grown true e, onward-stays (chain t).reach p e, length-append, m)

  pub tail-stays : (head_for t).tail ≡ (head_for (grown true used t p)).tail
  unfolding head_for
  tail-stays = refl

  pub head-next : stays (chain t).reach p ≡ false → head_for (grown false used t p)
      ≡ record {
        tail = used;
        last = p.number;
        postings = (head_for t).postings + 1;
        end = link_size + length (coded (b_entry (chain t).reach p));
        length = length t.name;
      }
  unfolding head_for
  head-next e =
      let l : length (t.nos ++ (used ∷ [])) - 1 ≡ length t.nos = rw length-append (omega arith) in
      let m : suc (length t.rest + 1) ≡ suc (length t.rest) + 1 = omega arith in
      rw (chain-grown false e, onward-next (chain t).reach p e, l, get_or-last t.nos used 0, length-append, m)

  module _ (s : Sound used t) (f : After (last_from 0 (postings_of t)) p) where
    -- as many blocks as are prescribed
    blocks-grown : (b : Bool) → stays (chain t).reach p ≡ b → length (grown b used t p).nos ≡ (put_as b (chain t) p).reach.blocks
    blocks-grown true e = rw (onward-stays (chain t).reach p e) (s.whole ∙ sym (blocks_is t))
    blocks-grown false e = rw (onward-next (chain t).reach p e, length-append) (ap (λ (n : ℕ). n + 1) (s.whole ∙ sym (blocks_is t)))

    pub sound-grown : (b : Bool) → stays (chain t).reach p ≡ b → (used' : ℕ)
        → length (grown b used t p).nos ≤ used' → Sound used' (grown b used t p)
    sound-grown b e used' h =
        record {
          short = s.short;
          rises = rising_snoc s.rises f;
          whole = blocks-grown b e ∙ rw (← (chain-grown b e), blocks_is);
          few = h;
        }

-- ---- a new term

pub sound-fresh : (used : ℕ) (name : List ℕ) (p : Posting) → length name ≤ max_term → After 0 p → Sound (suc used) (fresh used name p)
unfolding prescribed reached opened
sound-fresh used name p h f = record { short = h; rises = next f none; whole = refl; few = omega arith }

pub sound_more : {used used' : ℕ} {t : Held} → used ≤ used' → Sound used t → Sound used' t
sound_more h s = record { short = s.short; rises = s.rises; whole = s.whole; few = omega (arith, s.few) }
