-- The loop keeps that the digits left, read behind the value so far, give the whole.
use Rattle.std.proofs.Common.{◌≡◌, ◌^◌, ◌<◌, drop}
use Rattle.text.specs.Format.{decimal, below64, read_digits}
use Rattle.text.proofs.ids.read_digits.Given as goal

abbrev pub invariant-loop-b : goal.invariant-loop-b
invariant-loop-b l = record {
  below : l.high < 2 ^ 64;
  same : below64 (decimal l.high (drop l.b-index l.s)) ≡ read_digits l.s;
}
