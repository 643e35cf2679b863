use Rattle.desk.specs.Text.{place_text}
use Rattle.desk.proofs.Texts.{puts_then}
use Rattle.desk.proofs.put_place.Goals as goal

pub returns : goal.returns
unfolding place_text
returns c = puts_then c.put_byte-a.ensures c.put_number.ensures
