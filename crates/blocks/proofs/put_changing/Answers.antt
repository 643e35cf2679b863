use Rattle.blocks.specs.Fields.{place}
use Rattle.blocks.proofs.Writes.{changing-stored}
use Rattle.blocks.proofs.put_changing.Goals as goal

pub returns : goal.returns
returns c =
    let a = c.args in
    rw (c.put_growing.ensures, c.write_word.ensures, c.place_of.ensures)
    (changing-stored a.arena.now (place a.h) a.d.tail a.d.last a.d.postings a.d.end)
