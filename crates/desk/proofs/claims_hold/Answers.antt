use Rattle.desk.proofs.Example.{example_printed}
use Rattle.desk.proofs.LastFrames.{last-refused}
use Rattle.desk.proofs.LedgerTold.{tells_ledger}
use Rattle.desk.proofs.claims_hold.Goals as goal

pub returns-clause-last_refused : goal.returns-clause-last_refused
returns-clause-last_refused c = last-refused

pub returns-clause-tells_ledger : goal.returns-clause-tells_ledger
returns-clause-tells_ledger c = tells_ledger

pub returns-clause-example : goal.returns-clause-example
returns-clause-example c = example_printed
