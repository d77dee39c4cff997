-- `asks::fixed_wants` meets its contract: by its calls and its tests. Assumes nothing.
use Rattle.steps.specs.StepFixed.{fixed_asks}
use Rattle.turn.specs.Asks.{wanted_by}
use Rattle.turn.proofs.asks.fixed_wants.Goals as goal

pub returns-in-Start : goal.returns-in-Start
unfolding wanted_by fixed_asks
returns-in-Start c links who =
    let h1 = c.in-Start.is in
    simp (h1)

pub returns-in-Resume : goal.returns-in-Resume
unfolding wanted_by fixed_asks
returns-in-Resume c links who =
    let h1 = c.in-Resume.is in
    simp (h1)

pub returns-in-Drain : goal.returns-in-Drain
unfolding wanted_by fixed_asks
returns-in-Drain c links who =
    let h1 = c.in-Drain.is in
    simp (h1)

pub returns-in-Push : goal.returns-in-Push
unfolding wanted_by fixed_asks
returns-in-Push c links who =
    let h1 = c.in-Push.is in
    simp (h1)

pub returns-in-Dispatch : goal.returns-in-Dispatch
unfolding wanted_by fixed_asks
returns-in-Dispatch c links who =
    let h1 = c.in-Dispatch.is in
    simp (h1)
