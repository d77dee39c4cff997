-- `step::advance` meets its contract: each step keeps the turn's end, by the definition's fuel, and lowers the weight. Assumes nothing.
use mathlib.Core.Path.{◌≡◌}
use Rattle.turn.specs.Rail.{state_in, RailKept}
use Rattle.turn.specs.Step.{advanced}
use Rattle.turn.specs.Weight.{weight_of}
use Rattle.turn.proofs.step.advance.Given as goal

abbrev pub invariant-loop-t : goal.invariant-loop-t
invariant-loop-t l = RailKept l.initial.t l.t × (advanced (state_in l.t) ≡ advanced (state_in l.initial.t))

abbrev pub decreases-loop-t : goal.decreases-loop-t
decreases-loop-t l = weight_of (state_in l.t).pool.turn
