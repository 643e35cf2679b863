-- A number below ten is one digit; of another the digits of its tens stand before the last.
use Rattle.std.proofs.Common.{sym, arith}
use Rattle.desk.proofs.Texts.{decimal-one, decimal_more, ten_digits, nine_digits, puts_then, puts_as}
use Rattle.desk.proofs.+put_number.Goals as goal

pub returns-then-n-lt10 : goal.returns-then-n-lt10
returns-then-n-lt10 t c = puts_as c.put_byte.ensures (sym (decimal-one _ c.if-n-lt10.true)) (omega arith)

pub put_byte-requires-2 : goal.put_byte-requires-2
put_byte-requires-2 t c = omega (arith, nine_digits c.args.n (omega arith))

pub returns : goal.returns
returns t c =
    let r = puts_as {q = 11} (puts_then c.put_number-end.ensures c.put_byte-2.ensures) (sym (decimal_more c.args.n c.if-n-lt10.false)) (omega arith) in
    record { ends = r.ends; stored = r.stored; near = omega (arith, r.ends, ten_digits c.args.n (omega arith)) }
