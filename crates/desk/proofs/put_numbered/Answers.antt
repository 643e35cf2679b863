use Rattle.std.proofs.Common.{refl, arith}
use Rattle.desk.specs.Text.{numbered}
use Rattle.desk.proofs.Texts.{puts_then, puts_as}
use Rattle.desk.proofs.put_numbered.Goals as goal

pub returns : goal.returns
unfolding numbered
returns c = puts_as {q = 13} (puts_then (puts_then c.put_byte-a.ensures c.put_byte-b.ensures) (puts_then c.put_number-c.ensures c.put_byte.ensures)) refl (omega arith)
