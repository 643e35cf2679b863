use Rattle.std.proofs.Common.{◌≡◌, Some, None, refl, sym, arith}
use Rattle.frames.specs.declared.Kind.TheVariants.{Report, One, All}
use Rattle.desk.specs.Desk.{kind_of, answered_as, answered}
use Rattle.desk.proofs.Texts.{puts_as}
use Rattle.desk.proofs.answer_frame.Goals as goal

pub returns-in-Some-Report : goal.returns-in-Some-Report
unfolding answered
returns-in-Some-Report c = let e : kind_of c.args.frame.now ≡ Some Report = cc in rw e c.answer_report.ensures

pub returns-in-Some-One : goal.returns-in-Some-One
unfolding answered answered_as
returns-in-Some-One c = let e : kind_of c.args.frame.now ≡ Some One = cc in rw e (record { puts = c.answer_one.ensures; leaves = refl })

pub returns-in-Some-All : goal.returns-in-Some-All
unfolding answered answered_as
returns-in-Some-All c = let e : kind_of c.args.frame.now ≡ Some All = cc in rw e (record { puts = c.answer_all.ensures; leaves = refl })

pub returns-in-None : goal.returns-in-None
unfolding answered answered_as
returns-in-None c =
    let e : kind_of c.args.frame.now ≡ None = cc in
    rw (e, sym c.other_refusal.ensures, sym c.from-refusal.ensures, sym c.from.ensures) (record { puts = puts_as c.put_numbered.ensures refl (omega arith); leaves = refl })
