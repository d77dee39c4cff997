-- `resume::clock_reply` meets its contract: by its calls and its tests. Assumes nothing.
use Rattle.turn.specs.Resume.{clock_reply}
use Rattle.turn.proofs.resume.clock_reply.Goals as goal

pub returns-in-Some : goal.returns-in-Some
unfolding clock_reply
returns-in-Some c =
    let e1 = c.clock_in-came.ensures in
    let h1 = simp (e1) at c.in-Some.is in
    let e2 = c.wake.ensures in
    simp (e1, e2, h1)

pub returns-in-None : goal.returns-in-None
unfolding clock_reply
returns-in-None c =
    let e1 = c.clock_in-came.ensures in
    let h1 = simp (e1) at c.in-None.is in
    let e2 = c.tick_clock.ensures in
    simp (e1, e2, h1)
