-- Proved in `State`.
use Rattle.ledger.proofs.State.{same_state, table_told}
use Rattle.ledger.proofs.same_state.Goals as goal

pub returns-clause-same : goal.returns-clause-same
returns-clause-same c = same_state

pub returns-clause-table : goal.returns-clause-table
returns-clause-table c = table_told
