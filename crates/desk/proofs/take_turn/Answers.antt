use Rattle.desk.proofs.Turns.{turned}
use Rattle.desk.proofs.take_turn.Goals as goal

pub returns : goal.returns
returns c = turned c.args.input.now c.args.held c.requires c.settle-s.ensures c.copy_within.ensures.after
