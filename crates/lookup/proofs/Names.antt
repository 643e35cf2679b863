-- What a comparison of names takes.
-- Assumes nothing.
use Rattle.std.proofs.lemmas.Bool.Decides.{nat_tests}
use Rattle.blocks.proofs.Fields.{name_own, name_other}

pub ruleset naming = (nat_tests, name_own, name_other)
