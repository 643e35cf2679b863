-- The folded bytes that a buffer holds.
use Rattle.std.specs.Prelude.{ℕ, List, take}
use Rattle.terms.specs.declared.name.Folded.{Folded}

abbrev pub folded_bytes : Folded → List ℕ
folded_bytes f = take f.length f.bytes
