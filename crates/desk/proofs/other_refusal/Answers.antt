use Rattle.std.proofs.Common.{◌∙◌, arith}
use Rattle.desk.proofs.OtherKinds.{other_report, other_not_report, other_some}
use Rattle.desk.proofs.other_refusal.Goals as goal

pub returns-in-Err : goal.returns-in-Err
returns-in-Err c = c.in-Err.ensures.refused ∙ other_report _ (other_not_report _ c.requires)

pub returns-in-Ok : goal.returns-in-Ok
returns-in-Ok c =
    let f = c.args.frame.now in
    absurd (omega (arith, other_some f, other_report f (other_not_report f c.requires), c.in-Ok.ensures.refused))
