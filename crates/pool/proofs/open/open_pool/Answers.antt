-- `open::open_pool` meets its contract: each table by the function that fills it. Assumes nothing.
use mathlib.Core.Path.{ap}
use Rattle.turn.specs.State.{Pool}
use Rattle.answers.specs.declared.answer.Answer.TheVariants as answer
use Rattle.pool.proofs.OpenLaws.{filled, store_open}
use Rattle.pool.proofs.open.open_pool.Goals as goal

pub returns : goal.returns
returns c =
    let e1 = c.put_groups.ensures in
    let e2 = c.start.ensures in
    let e3 = simp (e2) at c.put_left.ensures in
    let e4 = c.blank_keys.ensures in
    let e5 = simp (c.limits_from.ensures, c.waits.ensures, c.from.ensures) at c.start-2.ensures in
    let e6 = ap answer.Open (store_open _ _ _ _ _ _ (ap (λ (p : Pool). p.turn.disk) e5)) in
    filled _ _ _ _ _ _ _ _ _ e1 e3 e4 e5 e6
