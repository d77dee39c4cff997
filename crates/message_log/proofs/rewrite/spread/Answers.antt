-- The loop keeps that the records from place i on stand where they are to stand (`Spreading`).
use Prim.Native.Nat.{◌-◌}
use native.Mathlib.Omega.{arith}
use mathlib.Core.Path.{refl, ap}
use Rattle.message_log.proofs.RewriteLaws.{spreading_begins, spreading_ends, to_be_spread, spread_on}
use Rattle.message_log.proofs.rewrite.spread.Goals as goal

pub loop-i-init : goal.loop-i-init
loop-i-init c =
    let args = c.args in
    let pre = c.requires in
    spreading_begins args.log.now args.records.now args.count pre.0 (omega (arith, pre.1, pre.2))
    pre.3 args.end pre.2

pub overflow_sub-to : goal.overflow_sub-to
overflow_sub-to c =
    let args = c.args in
    let pre = c.requires in
    let loop = c.loop-i in
    let loop-test = c.loop-i-test in
    let tries-len = c.tries_len-to in
    let lies = to_be_spread args.log.now args.records.now args.count pre.0
    (omega (arith, pre.1, pre.2)) pre.3 loop.invariant loop-test.true in
    omega (arith, lies.0, tries-len.ensures)

pub put_tries-requires : goal.put_tries-requires
put_tries-requires c =
    let args = c.args in
    let pre = c.requires in
    let loop = c.loop-i in
    let loop-test = c.loop-i-test in
    let tries-len = c.tries_len-to in
    let lies = to_be_spread args.log.now args.records.now args.count pre.0
    (omega (arith, pre.1, pre.2)) pre.3 loop.invariant loop-test.true in
    omega (arith, lies.0, lies.1, tries-len.ensures)

pub overflow_sub-to-in-loop-i : goal.overflow_sub-to-in-loop-i
overflow_sub-to-in-loop-i c =
    let args = c.args in
    let pre = c.requires in
    let loop = c.loop-i in
    let loop-test = c.loop-i-test in
    let tries-len = c.tries_len-to in
    let lies = to_be_spread args.log.now args.records.now args.count pre.0
    (omega (arith, pre.1, pre.2)) pre.3 loop.invariant loop-test.true in
    omega (arith, lies.0, tries-len.ensures)

pub move_to-requires : goal.move_to-requires
move_to-requires c =
    let args = c.args in
    let pre = c.requires in
    let loop = c.loop-i in
    let loop-test = c.loop-i-test in
    let tries-len = c.tries_len-to in
    let put-tries = c.put_tries in
    let lies = to_be_spread args.log.now args.records.now args.count pre.0
    (omega (arith, pre.1, pre.2)) pre.3 loop.invariant loop-test.true in (
      omega (arith, lies.0, tries-len.ensures),
      omega (arith, lies.0, lies.1, tries-len.ensures, put-tries.auto.log),
    )

pub loop-i-preserved : goal.loop-i-preserved
loop-i-preserved c =
    let args = c.args in
    let pre = c.requires in
    let loop = c.loop-i in
    let loop-test = c.loop-i-test in
    let tries-len = c.tries_len-to in
    let put-tries = c.put_tries in
    let move_to = c.move_to in
    spread_on args.log.now args.records.now args.count pre.0 (omega (arith, pre.1, pre.2)) pre.3
    loop.invariant loop-test.true _ _ _ _ (ap (λ n. loop.to - n) tries-len.ensures) refl
    put-tries.ensures.bytes move_to.ensures

pub returns : goal.returns
returns c =
    let args = c.args in
    let pre = c.requires in
    let loop = c.loop-i in
    let loop-test = c.loop-i-test in
    let all = spreading_ends args.log.now args.records.now args.count pre.0 (omega (arith, pre.1, pre.2))
    pre.3 loop.invariant (omega (arith, loop-test.false)) in
    record { bytes = all.0; table = all.1 }
