-- No more is filled than there are places.
-- Assumes nothing.
use Prim.Native.Nat.{ℕ, ◌≤◌, min}
use mathlib.Core.List.{List}
use mathlib.Core.Bool.{Bool, true, false, cond}
use native.Mathlib.Omega.{arith}
use lib.Dec.{eqb}
use lib.ListN.{length}
use Rattle.blocks.specs.Prescribed.{Posting}
use Rattle.counters.specs.Counters.{Memory}
use Rattle.query.specs.Listing.{ListedOne, ListedAll, refused, list_refusal, matches, list_one, list_all, list_one_call, list_all_call}
use Rattle.query.specs.Needs.{filled_as, all_as}

one_case : (b : Bool) (x y : ListedOne) (n : ℕ) → x.answer.filled ≤ n → y.answer.filled ≤ n → (cond b x y).answer.filled ≤ n
one_case true x y n p q = p
one_case false x y n p q = q

one-room : (ps : List Posting) (numbers counts : List ℕ) → (list_one ps numbers counts).answer.filled ≤ min (length numbers) (length counts)
unfolding list_one
one-room ps numbers counts = omega arith

pub one_bound : (m : Memory) (f numbers counts : List ℕ) → (list_one_call m f numbers counts).answer.filled ≤ min (length numbers) (length counts)
unfolding list_one_call
one_bound m f numbers counts =
    let r = list_refusal 2 1 m f in
    one_case (eqb r 0) (list_one (matches m f) numbers counts) (filled_as (refused r) numbers counts) _ (one-room (matches m f) numbers counts) (omega arith)

all_case : (b : Bool) (x y : ListedAll) (n : ℕ) → x.answer.filled ≤ n → y.answer.filled ≤ n → (cond b x y).answer.filled ≤ n
all_case true x y n p q = p
all_case false x y n p q = q

all_room : (ps : List Posting) (numbers : List ℕ) → (list_all ps numbers).answer.filled ≤ length numbers
unfolding list_all
all_room ps numbers = omega arith

pub all_bound : (m : Memory) (f numbers : List ℕ) → (list_all_call m f numbers).answer.filled ≤ length numbers
unfolding list_all_call
all_bound m f numbers =
    let r = list_refusal 3 8 m f in
    all_case (eqb r 0) (list_all (matches m f) numbers) (all_as (refused r) numbers) _ (all_room (matches m f) numbers) (omega arith)
