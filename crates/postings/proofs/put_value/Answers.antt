-- Each byte written takes one off the code that is left to write.
use Rattle.std.proofs.Common.{arith}
use Rattle.std.proofs.lemmas.Grind.{common_steps}
use Rattle.postings.proofs.Values.{length_last, length_more, length_pos, sets_last, sets_more}
use Rattle.postings.proofs.put_value.Goals as goal

pub bounds-s-i : goal.bounds-s-i
bounds-s-i c = omega (arith, length_pos c.loop-n.n)

pub loop-n-preserved : goal.loop-n-preserved
loop-n-preserved c = grind (arith, common_steps, length_more, sets_more)

pub bounds-s-i-2 : goal.bounds-s-i-2
bounds-s-i-2 c = omega (arith, length_pos c.loop-n.n)

pub returns : goal.returns
returns c = grind (arith, common_steps, length_last, sets_last)
