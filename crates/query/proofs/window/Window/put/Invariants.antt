-- Each turn puts the first report that is still marked into the next place.
use Rattle.std.proofs.Common.{◌≡◌, ℕ, ◌≤◌, ◌<◌, ◌^◌, true, length}
use Rattle.query.specs.Marks.{In, is_marked, Puts}
use Rattle.query.proofs.window.Window.put.Given as goal

abbrev pub invariant-loop-mask : goal.invariant-loop-mask
invariant-loop-mask l = record {
  within : l.filled ≤ length l.numbers;
  in_bits : l.mask < 2 ^ 64;
  small : (n : ℕ) → In l.self.span.base n → is_marked l.mask l.self.span.base n ≡ true → n ≤ l.self.span.to;
  puts : Puts l.self.span.base l.self.mask l.fn.numbers l.fn.from l.mask l.numbers l.filled;
}

abbrev pub decreases-loop-mask : goal.decreases-loop-mask
decreases-loop-mask l = l.mask
