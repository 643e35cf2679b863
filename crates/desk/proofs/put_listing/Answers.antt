-- The places are pairs where there are counts, else numbers alone; the line is `Q`, the places and the end, one behind the other.
use Rattle.std.proofs.Common.{◌≡◌, option_map, length, take, refl, arith}
use Rattle.std.proofs.lemmas.Bool.{eq-eqb}
use Rattle.std.proofs.lemmas.List.{length-take-le}
use Rattle.desk.specs.Text.{list_line}
use Rattle.desk.specs.Needs.{Puts, filled_text}
use Rattle.desk.proofs.Texts.{puts_then, puts_as}
use Rattle.desk.proofs.put_listing.Goals as goal
use Rattle.desk.proofs.put_listing.Goals.{in-Some, in-None}

pub returns : goal.returns
unfolding list_line
returns c =
    let a = c.args.a in
    let b = c.put_byte-b in
    let m = c.match-counts in
    let filled : length (take a.filled c.args.numbers.now) ≡ a.filled = length-take-le _ _ c.requires.listed in
    let places : Puts 352 b.new.out b.result (filled_text a.filled c.args.numbers.now (option_map (λ c. c.now) c.args.counts)) m.c m.out =
    elim m.branch [
      | in-Some w ↦ rw (w.out-is, w.c-is, w.in-Some.is) (puts_as w.put_pairs-c.ensures refl (omega (arith, filled)))
      | in-None w ↦ rw (w.out-is, w.c-is, w.in-None.is) (puts_as w.put_places-c.ensures refl (omega (arith, filled)))
    ] in
    puts_as (puts_then b.ensures (puts_then places c.put_end.ensures)) (rw (eq-eqb _ _ c.if-a-ne0.false)) (omega arith)
