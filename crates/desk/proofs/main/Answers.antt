-- Turn after turn: the goals of the loop.
use Rattle.std.proofs.Common.{ℕ, ◌≡◌, ◌-◌, ◌∙◌, length, take, replicate, refl, sym, ap, arith}
use Rattle.std.proofs.lemmas.List.{length-take-le}
use Rattle.desk.proofs.Turns.{reached-start, reached-settle, reached-starved, reached_stop, reached-read, reached_end}
use Rattle.desk.proofs.main.Goals as goal
use Rattle.desk.proofs.main.Goals.{in-Settle, in-Read+in-Ok-eq0, in-Read+in-Ok}

pub turns-init : goal.turns-init
turns-init c = record {
  arena_size = refl;
  table_size = refl;
  input_size = refl;
  out_size = refl;
  room = omega arith;
  reached = reached-start _ _ c.default-counters.result refl refl c.default-counters.ensures (replicate 65536 0);
}

-- the lines of all turns are the whole output of what was read
pub returns-in-Stop : goal.returns-in-Stop
returns-in-Stop c =
    let written = reached_stop c.turns.invariant.reached c.take_turn-t.ensures c.in-Stop.is in
    tt

pub turns-preserved : goal.turns-preserved
turns-preserved c =
    let t = c.take_turn-t in
    let l = c.turns.invariant in
    let left : c.turns.held - t.result.taken ≡ length (take c.turns.held c.turns.input) - t.result.taken = ap (λ (n : ℕ). n - t.result.taken) (sym (length-take-le _ _ l.room)) in
    let arena = t.auto.arena ∙ l.arena_size in
    let table = t.auto.table ∙ l.table_size in
    let input = t.auto.input ∙ l.input_size in
    let out = t.auto.out ∙ l.out_size in
    elim c.match-t.branch [
      | in-Settle w ↦
          rw (w.input-is, w.held-is, w.ended-is)
          (record {
            arena_size = arena;
            table_size = table;
            input_size = input;
            out_size = out;
            room = omega (arith, input, l.input_size, l.room);
            reached = reached-settle l.reached t.ensures _ left w.in-Settle.is;
          })
      | in-Read+in-Ok-eq0 w ↦
          let m = w.read_more in
          let s = w.in-Read.is in
          rw (w.input-is, w.held-is, w.ended-is)
          (record {
            arena_size = arena;
            table_size = table;
            input_size = m.auto.input ∙ input;
            out_size = out;
            room = omega (arith, m.auto.input, input, l.input_size, l.room);
            reached = reached_end m.ensures (t.ensures.settles.starved s).0 (reached-starved l.reached t.ensures _ left s);
          })
      | in-Read+in-Ok w ↦
          let m = w.read_more in
          let s = w.in-Read.is in
          rw (w.input-is, w.held-is, w.ended-is)
          (record {
            arena_size = arena;
            table_size = table;
            input_size = m.auto.input ∙ input;
            out_size = out;
            room = w.in-Ok.ensures.room;
            reached = reached-read m.ensures w.in-Ok.n (t.ensures.settles.starved s).0 (reached-starved l.reached t.ensures _ left s);
          })
    ]
