-- Proved in `Agree`.
use Rattle.ledger.proofs.Agree.{agree}
use Rattle.ledger.proofs.ledger_agrees.Goals as goal

pub returns : goal.returns
returns c = agree
