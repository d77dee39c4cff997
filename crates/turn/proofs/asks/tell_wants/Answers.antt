-- `asks::tell_wants` meets its contract: by its calls and its tests. Assumes nothing.
use Rattle.turn.specs.Asks.{wanted_by}
use Rattle.turn.proofs.asks.tell_wants.Goals as goal

pub returns-in-Some : goal.returns-in-Some
unfolding wanted_by
returns-in-Some c o =
    let h1 = c.in-Some.is in
    simp (h1)

pub returns-in-None : goal.returns-in-None
unfolding wanted_by
returns-in-None c o =
    let h1 = c.in-None.is in
    simp (h1)
