-- Equal ledgers have equal memories.
-- Assumes nothing.
use mathlib.Core.Path.{◌≡◌, refl, sym, ap, ◌∙◌, subst}
use Prim.Native.Nat.{ℕ}
use mathlib.Core.List.{List}
use native.Mathlib.Omega.{arith}
use lib.ListN.{length}
use Rattle.counters.specs.declared.Counters.{Counters}
use Rattle.counters.specs.Counters.{Memory}
use Rattle.lookup.specs.Lookup.{table_of}
use Rattle.layout.specs.Index.{Index, used_of}
use Rattle.layout.proofs.Image.{image_same}
use Rattle.ledger.specs.Ledger.{Report}
use Rattle.ledger.specs.Grown.{grown, entries_of}
use Rattle.ledger.specs.State.{Same, SameState, TableTold}
use Rattle.ledger.proofs.Rep.{Rep}
use Rattle.ledger.proofs.Calls.{carried}
use Rattle.ledger.proofs.Agree.{Carried, carries}

same_counters : (k l : Counters) → k.used ≡ l.used → k.terms ≡ l.terms → k.reports ≡ l.reports → k ≡ l
same_counters k l u t r = rw (u, t, r) refl

-- memories that stand for one index
same_index : {a b : Memory} {ix : Index} {n : ℕ} → Rep a ix n → Rep b ix n → length a.table ≡ length b.table → Same a b
same_index {a} {b} {ix} {n} x y e =
    record {
      counters = same_counters a.counters b.counters (x.used_is ∙ sym y.used_is) (x.terms_is ∙ sym y.terms_is) (x.reports_is ∙ sym y.reports_is);
      table = x.tab.is ∙ ap (λ (k : ℕ). table_of k (entries_of ix)) e ∙ sym y.tab.is;
      blocks = rw (x.used_is, y.used_is) (image_same ix x.image y.image (used_of ix) (omega arith));
    }

-- and so memories that stand for equal ledgers
same_ledgers : {b e b' e' : ℕ} {m m' : Memory} {rs rs' : List Report} → Carried b e m rs → Carried b' e' m' rs' → e ≡ e' → rs ≡ rs' → Same m m'
same_ledgers {m = m} {m' = m'} {rs = rs} {rs' = rs'} c d e q =
    same_index c.stands.rep (subst (λ (r : List Report). Rep m' (grown r) (length r)) (sym q) d.stands.rep) (c.table_is ∙ e ∙ sym d.table_is)

pub same_state : SameState
same_state m m' rs rs' cs cs' h h' e q = same_ledgers (carried Carried carries m rs cs h) (carried Carried carries m' rs' cs' h') e q

table_told_of : {b e : ℕ} {m : Memory} {rs : List Report} → Carried b e m rs → m.table ≡ table_of e (entries_of (grown rs))
table_told_of {e = e} {rs = rs} c = c.stands.rep.tab.is ∙ ap (λ (k : ℕ). table_of k (entries_of (grown rs))) c.table_is

pub table_told : TableTold
table_told m rs cs h = table_told_of (carried Carried carries m rs cs h)
