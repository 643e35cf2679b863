use Rattle.std.proofs.Common.{refl, arith}
use Rattle.desk.specs.Text.{pair_text}
use Rattle.desk.proofs.Texts.{puts_then, puts_as}
use Rattle.desk.proofs.put_pair.Goals as goal

pub returns : goal.returns
unfolding pair_text
returns c = puts_as {q = 22} (puts_then c.put_byte-a.ensures (puts_then c.put_number-b.ensures (puts_then c.put_byte-c.ensures c.put_number.ensures))) refl (omega arith)
