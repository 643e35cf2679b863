use Rattle.blocks.specs.Fields.{place}
use Rattle.blocks.proofs.Writes.{growing-stored}
use Rattle.blocks.proofs.put_growing.Goals as goal

pub returns : goal.returns
returns c =
    let a = c.args in
    rw (c.write_word-2.ensures, c.write_word.ensures, c.place_of-at.ensures)
    (growing-stored a.arena.now (place a.h) a.d.last a.d.postings a.d.end)
