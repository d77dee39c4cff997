-- The rows below `g` are read.
use Rattle.std.proofs.Common.{◌≡◌}
use Rattle.wire.specs.Script.{groups_into}
use Rattle.wire.proofs.ScriptLaws.{placed}
use Rattle.wire.proofs.script.read_groups.Given as goal

abbrev pub invariant-loop-g : goal.invariant-loop-g
invariant-loop-g l = placed l.groups l.s l.given l.g ≡ groups_into l.groups l.s 88 l.initial.given
