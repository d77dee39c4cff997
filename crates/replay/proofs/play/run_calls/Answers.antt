-- `play::run_calls` meets its contract: the calls from p on, run from here, give the whole (`Running`). Assumes nothing.
use native.Mathlib.Omega.{arith}
use mathlib.Core.Path.{refl, sym, subst, ◌∙◌}
use Rattle.wire.specs.Script.{InScript}
use Rattle.replay.proofs.PlayLaws.{running_begins, running_stops, running_ends, running_torn, running_on}
use Rattle.replay.proofs.play.run_calls.Goals as goal

pub loop-e-init : goal.loop-e-init
loop-e-init c = (refl, refl, refl, running_begins _ _ _ _ _)

pub returns-then-script-p : goal.returns-then-script-p
returns-then-script-p c = running_ends c.loop-e.invariant.3 c.if-script-p.true

pub returns-in_default : goal.returns-in_default
returns-in_default c =
    let torn = sym c.in_default.is ∙ c.read_call.ensures.says in
    running_torn c.loop-e.invariant.3 c.loop-e-test.true c.if-script-p.false torn

pub step-called-requires : goal.step-called-requires
step-called-requires c =
    let within = subst (InScript c.args.script.now c.loop-e.p) c.in-Some.is c.read_call.ensures.inside in
    (within.1, within.2, within.3)

pub loop-e-smaller : goal.loop-e-smaller
loop-e-smaller c =
    let within = subst (InScript c.args.script.now c.loop-e.p) c.in-Some.is c.read_call.ensures.inside in
    omega (arith, c.if-script-p.false, within.0)

pub loop-e-preserved : goal.loop-e-preserved
loop-e-preserved c =
    let loop = c.loop-e in
    let within = subst (InScript c.args.script.now loop.p) c.in-Some.is c.read_call.ensures.inside in
    let read = sym c.in-Some.is ∙ c.read_call.ensures.says in
    let step = c.step-called in (
      step.auto.log ∙ loop.invariant.0,
      step.auto.store ∙ loop.invariant.1,
      c.output_entry-e.auto.out ∙ loop.invariant.2,
      running_on loop.invariant.3 c.loop-e-test.true c.if-script-p.false c.in-Some.call read within.0 step.ensures
          c.output_entry-e.ensures,
    )

pub returns : goal.returns
returns c = running_stops c.loop-e.invariant.3 c.loop-e-test.false
