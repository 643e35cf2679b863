use Rattle.std.proofs.Common.{◌≡◌, length, take, drop}
use Rattle.std.specs.List.{AllZip}
use Rattle.basics.proofs.map_into.Given as goal

-- the places met hold what `f` gives, and those behind the last that will be met hold what they held
abbrev pub invariant-loop-i : goal.invariant-loop-i
invariant-loop-i g l =
    AllZip (goal.F-post g l.f) (take l.i l.from) (take l.i l.into)
    × (drop (length l.from) l.into ≡ drop (length l.from) l.initial.into)
