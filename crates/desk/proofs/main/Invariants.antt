-- Between two turns: the sizes of the buffers, and what was read and written so far.
use Rattle.std.proofs.Common.{◌≡◌, ◌≤◌, length, take}
use Rattle.counters.specs.Counters.{memory}
use Rattle.desk.specs.Needs.{Reached}
use Rattle.desk.proofs.main.Given as goal

abbrev pub invariant-turns : goal.invariant-turns
invariant-turns l = record {
  arena_size : length l.arena ≡ 64000;
  table_size : length l.table ≡ 512;
  input_size : length l.input ≡ 65536;
  out_size : length l.out ≡ 65536;
  room : l.held ≤ length l.input;
  reached : Reached (memory l.arena l.table l.counters) (take l.held l.input) l.ended;
}
