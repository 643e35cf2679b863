-- The texts of the places so far.
use Rattle.std.proofs.Common.{◌*◌, take}
use Rattle.desk.specs.Text.{places_text}
use Rattle.desk.specs.Needs.{Puts}
use Rattle.desk.proofs.put_places.Given as goal

abbrev pub invariant-loop-number : goal.invariant-loop-number
invariant-loop-number l = Puts (11 * l.number-index) l.initial.out l.at (places_text (take l.number-index l.numbers)) l.end l.out
