-- A value's bits are what its leading zeros leave of 64.
use Rattle.std.proofs.Common.{◌≡◌, ◌-◌, ◌∙◌, sym, ap, arith}
use Rattle.std.proofs.Math.Pow.{pow_mono}
use Rattle.std.specs.Int.Count.{count_leading_zeros, leading_length}
use Rattle.basics.proofs.Cases.{by-lt}
use Rattle.postings.specs.Coding.{code_length}
use Rattle.postings.proofs.Values.{length_bits}
use Rattle.postings.proofs.value_length.Goals as goal

pub code_length-requires : goal.code_length-requires
code_length-requires c =
    let l = leading_length 64 c.args.v c.ranges.v.fits in
    by-lt l.0 35 (λ h. omega (arith, l.1)) (λ h. absurd (omega (arith, l.3, pow_mono h)))

pub returns : goal.returns
returns c =
    let v = c.args.v in
    let l = leading_length 64 v c.ranges.v.fits in
    let e : 64 - count_leading_zeros 64 v ≡ l.0 = omega (arith, l.1) in
    c.code_length.ensures ∙ ap code_length e ∙ sym (length_bits l.0 v l.2 l.3)
