-- The loop keeps that what is counted and what is left make the whole.
use Rattle.std.proofs.Common.{◌≡◌, ◌+◌, ◌≤◌, length, drop}
use Rattle.text.specs.Format.{escape}
use Rattle.text.proofs.escape.escaped_len.Given as goal

abbrev pub invariant-loop-b : goal.invariant-loop-b
invariant-loop-b l = record {
  small : l.n ≤ l.most;
  whole : l.n + length (escape (drop l.b-index l.s)) ≡ length (escape l.s);
}
