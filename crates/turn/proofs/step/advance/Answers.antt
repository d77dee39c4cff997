-- `step::advance` meets its contract: each step keeps the turn's end, by the definition's fuel, and lowers the weight. Assumes nothing.
use mathlib.Core.Path.{sym, ◌∙◌}
use Rattle.turn.proofs.Advance.{fell, stepped, advanced_stop}
use Rattle.turn.proofs.StepLaws.{kept_on}
use Rattle.turn.proofs.step.advance.Goals as goal

pub loop-t-smaller : goal.loop-t-smaller
loop-t-smaller c = fell _ _ c.step.ensures.stepped (sym c.running.ensures ∙ c.loop-t-test.true)

pub loop-t-preserved : goal.loop-t-preserved
loop-t-preserved c =
    let l = c.loop-t.invariant in
    let run = sym c.running.ensures ∙ c.loop-t-test.true in
    (kept_on c.args.t.now c.loop-t.t c.step.new.t l.0 c.step.ensures.kept, stepped _ _ c.step.ensures.stepped run ∙ l.1)

pub returns-clause-advanced : goal.returns-clause-advanced
returns-clause-advanced c =
    let stop = sym c.running.ensures ∙ c.loop-t-test.false in
    sym (advanced_stop _ stop) ∙ c.loop-t.invariant.1
