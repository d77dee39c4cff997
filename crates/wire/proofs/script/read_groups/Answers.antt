-- The rows below `g` are read; the loop ends where all are, or where the table is full.
use Rattle.std.proofs.Common.{◌∙◌, sym, arith}
use native.Mathlib.Nat.{sub-zero}
use Rattle.wire.proofs.ScriptLaws.{groups_more, groups_done}
use Rattle.wire.proofs.script.read_groups.Goals as goal

pub loop-g-init : goal.loop-g-init
loop-g-init c = simp sub-zero

pub loop-g-preserved : goal.loop-g-preserved
loop-g-preserved c =
    let l = c.loop-g in
    rw c.group_at.ensures (groups_more c.args.groups c.args.s.now l.given l.g (omega arith) (omega arith) ∙ l.invariant)

pub returns : goal.returns
returns c =
    let l = c.loop-g in
    let m = c.min-g-end.ensures in sym (groups_done _ _ l.given l.g (omega arith)) ∙ l.invariant
