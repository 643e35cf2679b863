-- The number of each refusal, as an answer gives it.
use Rattle.std.specs.Prelude.{ℕ, Result, Ok, Err}
use Rattle.refusals.specs.declared.Refusal.{Refusal}
use Rattle.refusals.specs.declared.Refusal.TheVariants.{WrongVersion, WrongLength, WrongKind, WrongFields, BadTerm, ZeroCount, RepeatedTerm, WrongCounters, NumbersSpent, Damaged, TableFull, ArenaFull, Stopped}

abbrev pub number_of : Refusal → ℕ
number_of WrongVersion = 1
number_of WrongLength = 2
number_of WrongKind = 3
number_of WrongFields = 4
number_of BadTerm = 5
number_of ZeroCount = 6
number_of RepeatedTerm = 7
number_of WrongCounters = 8
number_of NumbersSpent = 9
number_of Damaged = 10
number_of TableFull = 11
number_of ArenaFull = 12
number_of Stopped = 13

-- the number under which a call was refused; 0 where it was not
abbrev pub refused_under : {A : Type 0} → Result A Refusal → ℕ
refused_under (Ok a) = 0
refused_under (Err r) = number_of r
