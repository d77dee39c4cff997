-- `run::waiters` meets its contract: the groups below `g` have no waiting actor, as far as the loop has come.
use mathlib.Core.Path.{◌≡◌, sym}
use native.Mathlib.Omega.{arith}
use borrow.Author.Tests.{lt-ltb, le-ltb}
use Rattle.pool.proofs.Loops.{waiters_none, waiters_more, waiters_found}
use Rattle.pool.proofs.run.waiters.Goals as goal

pub loop-g-init : goal.loop-g-init
loop-g-init c = waiters_none _

pub returns-then-count_at-gt0 : goal.returns-then-count_at-gt0
returns-then-count_at-gt0 c =
    let some = simp (c.count_at.ensures, c.waiting_row.ensures) at (lt-ltb _ _ c.if-count_at-gt0.true) in
    sym (waiters_found _ _ _ (omega arith) some)

pub loop-g-preserved : goal.loop-g-preserved
loop-g-preserved c =
    let none = simp (c.count_at.ensures, c.waiting_row.ensures) at (le-ltb _ _ c.if-count_at-gt0.false) in
    waiters_more _ _ none c.loop-g.invariant

pub returns : goal.returns
returns c = let e : c.loop-g.g ≡ c.args.groups = omega arith in sym (rw e at c.loop-g.invariant)
