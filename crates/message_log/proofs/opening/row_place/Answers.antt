-- The loop keeps that the row at the place, if there is one, is not below.
use Rattle.std.proofs.Common.{◌≡◌, ◌+◌, ◌-◌, ◌<◌, take, subst, arith}
use Rattle.message_log.specs.Scan.{PlaceOf}
use Rattle.message_log.proofs.RowLaws.{found_place}
use Rattle.message_log.proofs.opening.row_place.Goals as goal

pub returns-then-rows-i : goal.returns-then-rows-i
returns-then-rows-i c =
    let args = c.args in
    let loop = c.loop-i in
    let same : loop.i ≡ loop.i - 1 + 1 = omega (arith, c.loop-i-test.true) in
    subst (PlaceOf (take args.count args.rows.now) args.id) same
    (found_place args.rows.now args.count loop.i args.id c.requires.0 c.requires.1 loop.invariant.0
    (λ _. c.if-rows-i.true) loop.invariant.1)

pub loop-i-preserved : goal.loop-i-preserved
loop-i-preserved c = (omega (arith, c.loop-i.invariant.0), λ _. c.if-rows-i.false)

pub returns : goal.returns
returns c =
    let args = c.args in
    let loop = c.loop-i in
    let none : loop.i ≡ 0 = omega (arith, c.loop-i-test.false) in
    subst (PlaceOf (take args.count args.rows.now) args.id) none
    (found_place args.rows.now args.count loop.i args.id c.requires.0 c.requires.1 loop.invariant.0 (λ
    (h : 0 < loop.i). absurd (omega (arith, c.loop-i-test.false))) loop.invariant.1)
