-- The loop keeps that what is left of the escaped text, written from here on, gives the whole.
use Rattle.std.proofs.Common.{drop}
use Rattle.text.specs.Format.{escape}
use Rattle.text.proofs.WriteLaws.{Writing}
use Rattle.text.proofs.escape.put_escaped.Given as goal

abbrev pub invariant-loop-b : goal.invariant-loop-b
invariant-loop-b l = Writing l.initial.out l.at (escape l.s) l.out l.p (escape (drop l.b-index l.s))
