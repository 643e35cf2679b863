use Rattle.std.proofs.Common.{refl, arith}
use Rattle.desk.specs.Text.{end_text}
use Rattle.desk.proofs.Texts.{puts_then, puts_as}
use Rattle.desk.proofs.put_end.Goals as goal

pub returns-then-more : goal.returns-then-more
unfolding end_text
returns-then-more c = rw c.if-more.true (puts_as (puts_then (puts_then c.put_byte-a.ensures c.put_byte-b.ensures) c.put_byte.ensures) refl (omega arith))

pub returns : goal.returns
unfolding end_text
returns c = rw c.if-more.false (puts_as c.put_byte-2.ensures refl (omega arith))
