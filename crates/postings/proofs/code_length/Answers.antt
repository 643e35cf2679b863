-- The table's rule is a test at each of its 35 entries, which antt computes.
use Rattle.std.proofs.Common.{eqb, ◌∙◌}
use Rattle.std.proofs.Math.Dec.{eqb→eq}
use Rattle.basics.proofs.Table.{at}
use Rattle.postings.specs.declared.TheConstants.{CODE_LENGTHS}
use Rattle.postings.specs.Coding.{code_length}
use Rattle.postings.proofs.code_length.Goals as goal

pub returns : goal.returns
unfolding code_length
returns c =
    c.from.ensures
    ∙ eqb→eq _ _ (at (λ bits entry. eqb entry (code_length bits)) CODE_LENGTHS tt c.args.bits c.requires)
