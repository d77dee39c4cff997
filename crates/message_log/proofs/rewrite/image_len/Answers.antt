-- The loop keeps that what is said of the rows left is said of all (`Measuring`).
use Rattle.std.proofs.Common.{arith, drop_of_length-le}
use Rattle.message_log.proofs.RewriteLaws.{measuring_ends, measured, over_low, over_long, over_span, end_is, no_end}
use Rattle.message_log.proofs.rewrite.image_len.Goals as goal

pub returns-then-at-start : goal.returns-then-at-start
returns-then-at-start c = over_low c.loop-r.invariant c.loop-r-test.true c.if-at-start.true

pub returns-in_err-start : goal.returns-in_err-start
returns-in_err-start c =
    rw c.from_residual.ensures (over_long c.loop-r.invariant c.loop-r-test.true (no_end _ _ _ c.in_err-start.ensures))

pub returns-in_err-to : goal.returns-in_err-to
returns-in_err-to c =
    let over = no_end _ _ _ c.in_err-to.ensures in
    rw c.from_residual-in_err-to.ensures (over_span c.loop-r.invariant c.loop-r-test.true (omega (arith, over)))

pub returns-in_err-to-2 : goal.returns-in_err-to-2
returns-in_err-to-2 c =
    let two = end_is _ _ _ _ c.in_ok-to.ensures in
    let over = no_end _ _ _ c.in_err-to-2.ensures in
    rw c.from_residual-in_err-to-2.ensures (over_span c.loop-r.invariant c.loop-r-test.true (omega
    (arith, over, two.0, c.tries_len.ensures)))

pub loop-r-preserved : goal.loop-r-preserved
loop-r-preserved c =
    let one = end_is _ _ _ _ c.in_ok-start.ensures in
    let two = end_is _ _ _ _ c.in_ok-to.ensures in
    let three = end_is _ _ _ _ c.in_ok-to-2.ensures in
    measured c.loop-r.invariant c.loop-r-test.true c.if-at-start.false one.1 _ _ one.0 (omega
    (arith, two.0, three.0, c.tries_len.ensures)) (omega (arith, three.0, three.1))

pub returns : goal.returns
returns c = measuring_ends c.loop-r.invariant (drop_of_length-le c.args.records.now c.loop-r-test.false)
