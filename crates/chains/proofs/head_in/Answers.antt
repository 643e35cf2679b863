-- A slice's bytes are below 256.
use Rattle.blocks.proofs.Fields.{head-short}
use Rattle.chains.proofs.head_in.Goals as goal

pub returns-clause-short : goal.returns-clause-short
returns-clause-short c = head-short _ _ c.head_of.ensures (λ i. (c.type_inv.arena i).fits)
