-- The parts of the claim stand in `Laws`.
use Rattle.layout.proofs.Laws.{read_back}
use Rattle.layout.proofs.chains_read_back.Goals as goal

pub returns : goal.returns
returns c = read_back
