use Rattle.std.proofs.Common.{◌≡◌}
use Rattle.chains.specs.Chains.{linked}
use Rattle.chains.proofs.Counting.{Entering}
use Rattle.chains.proofs.is_sound.Given as goal

abbrev pub invariant-loop-r : goal.invariant-loop-r
invariant-loop-r l =
    record { entering : Entering l.used.arena.now l.used.blocks l.reports l.h l.d l.c l.base l.n; next_is : l.next ≡ linked l.used.arena.now l.used.blocks l.c.block }

abbrev pub decreases-loop-r : goal.decreases-loop-r
decreases-loop-r l = l.c.left
