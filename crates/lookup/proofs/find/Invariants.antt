-- What is left of the search from the slot reached is the whole search.
use Rattle.std.proofs.Common.{◌≡◌, ◌-◌, length}
use Rattle.lookup.specs.Lookup.{search, search_from}
use Rattle.lookup.proofs.Search.{Meets, nth_slot}
use Rattle.lookup.proofs.find.Given as goal

abbrev pub invariant-loop-slot : goal.invariant-loop-slot
invariant-loop-slot l =
    let a = l.used.arena.now in
    let w = l.name.bytes.now in
    let n = length l.yielded in
    record {
      meets : Meets l.t l.start l.initial.slot-iterator;
      ahead : search a l.used.blocks l.table w ≡ search_from (l.t - n) a l.used.blocks l.table w (nth_slot l.t l.start n);
    }
