use Rattle.std.proofs.Common.{◌-◌, ◌*◌, arith}
use Rattle.postings.proofs.Values.{length_le}
use Rattle.postings.proofs.posting_length.Goals as goal

pub overflow_add-result : goal.overflow_add-result
overflow_add-result c =
    omega (arith, length_le 4 (c.from-g.result * 4) (omega arith), length_le 4 (c.from-f.result - 3) (omega arith))
