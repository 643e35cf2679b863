-- The code of a posting is no longer than ten bytes.
use Rattle.std.proofs.Common.{arith, ◌≤◌, length, sym, length-take-le}
use Rattle.postings.specs.Coding.{code}
use Rattle.postings.proofs.Laws.{length-code_le}
use Rattle.vectors.proofs.code.Goals as goal

pub put_posting-end-requires : goal.put_posting-end-requires
put_posting-end-requires g c =
    let ten : length (code c.read_word-gap.result c.read_word-count.result) ≤ 10 = length-code_le _ _ c.read_word-gap.type_inv c.read_word-count.type_inv in
    (omega arith, omega arith)

pub slice_bounds-bytes-end : goal.slice_bounds-bytes-end
slice_bounds-bytes-end g c =
    let ten : length (code c.read_word-gap.result c.read_word-count.result) ≤ 10 = length-code_le _ _ c.read_word-gap.type_inv c.read_word-count.type_inv in
    omega (arith, c.put_posting-end.ensures.0, c.put_posting-end.auto.s)

pub slice_bounds-print_bytes-end : goal.slice_bounds-print_bytes-end
slice_bounds-print_bytes-end g c =
    let ten : length (code c.read_word-gap.result c.read_word-count.result) ≤ 10 = length-code_le _ _ c.read_word-gap.type_inv c.read_word-count.type_inv in
    sym (length-take-le _ _ (omega (arith, c.put_posting-end.ensures.0, c.put_posting-end.auto.s)))
