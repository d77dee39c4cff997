-- Nothing is written before the file is accepted.
use mathlib.Core.Path.{sym, ◌∙◌}
use native.Mathlib.Omega.{arith}
use lib.Seq.{length-take-le}
use Rattle.message_log.proofs.DecisionLaws.{open_wrong, open_refused, open_yes}
use Rattle.message_log.proofs.OpenLaws.{sized_all}
use Rattle.message_log.proofs.opening.open_log.Goals as goal

pub returns-then-not-sizes_fit : goal.returns-then-not-sizes_fit
returns-then-not-sizes_fit c =
    let args = c.args in
    open_wrong args.log.now args.n args.store.now args.records.now args.left.now _
    (sym c.if-not-sizes_fit.ensures) c.closed.ensures

pub slice_bounds-decide-end-2 : goal.slice_bounds-decide-end-2
slice_bounds-decide-end-2 c = omega (arith, (sized_all _ _ _ _ _ (sym c.if-not-sizes_fit.ensures)).file)

pub slice_bounds-decide-end-3 : goal.slice_bounds-decide-end-3
slice_bounds-decide-end-3 c =
    sym (length-take-le c.args.n c.args.log.now (sized_all _ _ _ _ _ (sym c.if-not-sizes_fit.ensures)).file)

pub returns-in-Err : goal.returns-in-Err
returns-in-Err c =
    let args = c.args in
    open_refused args.log.now args.n args.store.now args.records.now args.left.now _ c.in-Err.r
    (sym c.if-not-sizes_fit.ensures) c.in-Err.ensures c.closed-in-Err.ensures

pub returns-in-Ok : goal.returns-in-Ok
returns-in-Ok c =
    let args = c.args in
    c.accept.ensures ∙ open_yes args.log.now args.n args.store.now args.records.now args.left.now
    (sym c.if-not-sizes_fit.ensures) c.in-Ok.ensures.opens
