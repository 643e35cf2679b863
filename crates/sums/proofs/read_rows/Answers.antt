-- What the lanes add up to is what adding up gives, by `rows_told`.
use Rattle.std.proofs.Common.{◌+◌, ◌-◌, arith}
use Rattle.sums.proofs.Rows.{rows_told}
use Rattle.sums.proofs.read_rows.Goals as goal

pub returns : goal.returns
returns c =
    let at = c.args.at in
    let lanes = c.lanes_of-lanes in
    rw (c.total_of-gaps.ensures, c.total_of-postings.ensures)
    (rows_told c.args.part.now (at - 2) (at + 48 - (at - 2)) (omega arith) at (omega arith) (omega arith) (cc) (cc)
    lanes.result.gaps lanes.result.marks lanes.ensures.0 lanes.ensures.1 (omega arith))
