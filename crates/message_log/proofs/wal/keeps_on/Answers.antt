-- The sum is made only where it fits, and is halved where it would be compared with a double.
use mathlib.Core.Path.{sym, ◌∙◌}
use Prim.Native.Nat.{◌+◌}
use borrow.Author.Tests.{leb-true, leb-false, lt-ltb}
use Rattle.message_log.proofs.WalLaws.{keeps_long, keeps_limit, keeps_live}
use Rattle.message_log.proofs.wal.keeps_on.Goals as goal

pub returns-then-not-fits_behind : goal.returns-then-not-fits_behind
returns-then-not-fits_behind c =
    let args = c.args in
    sym (keeps_long args.limit args.long args.live (args.size + args.n) (leb-false _ _
    (sym c.if-not-fits_behind.ensures)))

pub returns-then-to-limit : goal.returns-then-to-limit
returns-then-to-limit c =
    let args = c.args in
    lt-ltb _ _ c.if-to-limit.true ∙ sym (keeps_limit args.limit args.long args.live (args.size + args.n)
    (leb-true _ _ (sym c.if-not-fits_behind.ensures)) c.if-to-limit.true)

pub returns-else-to-limit : goal.returns-else-to-limit
returns-else-to-limit c =
    let args = c.args in
    sym (keeps_live args.limit args.long args.live (args.size + args.n) (leb-true _ _
    (sym c.if-not-fits_behind.ensures)) c.if-to-limit.false)
