-- The loop keeps that the numbers left, written from here on, give the whole.
use Rattle.std.proofs.Common.{drop}
use Rattle.text.proofs.WriteLaws.{Writing}
use Rattle.wire.specs.Number.{numbers}
use Rattle.wire.proofs.number.put_numbers.Given as goal

abbrev pub invariant-loop-n : goal.invariant-loop-n
invariant-loop-n l = Writing l.initial.out l.at (numbers l.ns) l.out l.p (numbers (drop l.n-index l.ns))
