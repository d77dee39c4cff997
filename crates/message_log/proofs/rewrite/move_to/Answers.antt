-- A copy within the log; nothing where the bytes stand there already.
use mathlib.Core.Path.{◌≡◌, sym, ◌∙◌, subst}
use Prim.Native.Nat.{◌+◌}
use native.Mathlib.Omega.{arith}
use Rattle.text.specs.Bytes.{write, part}
use Rattle.text.proofs.WriteLaws.{move_same}
use Rattle.message_log.proofs.TableLaws.{copied}
use Rattle.message_log.proofs.rewrite.move_to.Goals as goal

pub returns-then-to-a : goal.returns-then-to-a
returns-then-to-a c = c.copy_within.ensures.after ∙ copied c.args.log.now c.args.a (c.args.a + c.args.n) c.args.to
    (omega arith) c.requires.0

pub returns-else-to-a : goal.returns-else-to-a
returns-else-to-a c =
    let args = c.args in
    let log = args.log.now in
    subst (λ t. log ≡ write log t (part log args.a (args.a + args.n))) (sym c.if-to-a.false)
    (sym (move_same log args.a (args.a + args.n) (omega arith) c.requires.0))
