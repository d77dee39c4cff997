-- `asks::eval_wants` meets its contract: by its calls and its tests. Assumes nothing.
use Rattle.turn.specs.Asks.{wanted_by}
use Rattle.steps.specs.StepEval.{eval_asks}
use Rattle.turn.proofs.asks.eval_wants.Goals as goal

pub returns-in-Clock : goal.returns-in-Clock
unfolding wanted_by eval_asks
returns-in-Clock c who o =
    let h1 = c.in-Clock.is in
    simp (h1)

pub returns-in-Boot : goal.returns-in-Boot
unfolding wanted_by eval_asks
returns-in-Boot c who o =
    let h1 = c.in-Boot.is in
    simp (h1)

pub returns-in-StartClock : goal.returns-in-StartClock
unfolding wanted_by eval_asks
returns-in-StartClock c who o =
    let h1 = c.in-StartClock.is in
    simp (h1)

pub returns-in-Start : goal.returns-in-Start
unfolding wanted_by eval_asks
returns-in-Start c who o =
    let h1 = c.in-Start.is in
    simp (h1)

pub returns-in-Resume : goal.returns-in-Resume
unfolding wanted_by eval_asks
returns-in-Resume c who o =
    let h1 = c.in-Resume.is in
    simp (h1)

pub returns-in-Dispatch : goal.returns-in-Dispatch
unfolding wanted_by eval_asks
returns-in-Dispatch c who o =
    let h1 = c.in-Dispatch.is in
    simp (h1)

pub returns-in-Tell : goal.returns-in-Tell
unfolding eval_asks
returns-in-Tell c who o =
    let h1 = c.in-Tell.is in
    let e1 = c.first-found.ensures in
    let e2 = simp (e1) at c.caller_first-caller.ensures in
    simp (h1, ← e2) (c.tell_wants.ensures _)
