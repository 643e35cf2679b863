use Rattle.std.proofs.Common.{◌<◌, length, sym, refl, arith}
use Rattle.frames.specs.declared.report.LinesLeft.{LinesLeft}
use Rattle.frames.specs.Frames.{count_bytes}
use Rattle.frames.proofs.Fields.{whole-on}
use Rattle.frames.proofs.Conditions.{good_on}
use Rattle.frames.proofs.Read.{line_named, folds_here, folds_on, hashes-some, hashes-none, first-hash, other-hashes}
use Rattle.frames.proofs.Laws.{Sound, sound_field, sound-name, sound-some}
use Rattle.frames.proofs.report.LinesLeftIterator.next.Goals as goal

sound_left : (s : LinesLeft) → Sound count_bytes s.frame.now s.at
sound_left s = record { whole = s.whole; good = s.good }

starts : (s : LinesLeft) → 0 < length s.hashes.now → s.at < length s.frame.now
starts s h = hashes-some s.frame.now s.at s.hashed h

pub returns-in_err-hash-clause-steps : goal.returns-in_err-hash-clause-steps
returns-in_err-hash-clause-steps c =
    let s = c.args.self.now in
    rw c.from_residual.ensures (hashes-none s.frame.now s.at s.hashed c.in_err-hash.ensures.cases, refl)

pub past-requires : goal.past-requires
past-requires c = (starts c.args.self.now (omega (arith, c.in_ok-hash.ensures.cases.1)), omega arith)

pub name-requires : goal.name-requires
name-requires c =
    let s = c.args.self.now in
    let h = starts s (omega (arith, c.in_ok-hash.ensures.cases.1)) in
    line_named (record { whole = sound_field (sound_left s) h; folds = folds_here s.frame.now s.names.now s.at h s.folded })

pub count-requires : goal.count-requires
count-requires c =
    let s = c.args.self.now in sound_field (sound_left s) (starts s (omega (arith, c.in_ok-hash.ensures.cases.1)))

pub invariant_of-self : goal.invariant_of-self
invariant_of-self c =
    let s = c.args.self.now in
    let h = starts s (omega (arith, c.in_ok-hash.ensures.cases.1)) in
    rw c.past.ensures
    (record {
      room = s.room;
      folded = folds_on s.frame.now s.names.now s.at h s.folded;
      whole = whole-on count_bytes s.frame.now s.at s.whole h;
      good = good_on count_bytes s.frame.now s.at h s.good;
      hashed = other-hashes s.frame.now s.at s.hashed _ _ c.in_ok-hash.ensures.cases.0 h;
    })

pub returns-clause-steps : goal.returns-clause-steps
returns-clause-steps c =
    let s = c.args.self.now in
    let h = starts s (omega (arith, c.in_ok-hash.ensures.cases.1)) in
    record {
      here = record {
        starts = h;
        name = c.name.ensures;
        count = c.count.ensures;
        some = rw c.name.ensures (sound-some (sound_left s) h);
      };
      past = c.past.ensures;
      fewer = sym c.in_ok-hash.ensures.cases.1;
      frame = refl;
    }

pub invariant_of-result : goal.invariant_of-result
invariant_of-result c =
    let s = c.args.self.now in
    let h = starts s (omega (arith, c.in_ok-hash.ensures.cases.1)) in
    rw c.name.ensures
    (record {
      short = sound-name (sound_left s) h;
      hashed = first-hash s.frame.now s.at s.hashed _ _ c.in_ok-hash.ensures.cases.0 h;
    })
