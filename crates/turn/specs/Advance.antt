-- Where the loop of a turn stops, without fuel and weights. A turn goes on from point to point while it runs; it
-- stops exactly where nothing runs: at a question, at an order, after a failed one, or with the turn over. `advanced`
-- is the one state that a state goes on to and where it stops. The proofs are `advances` and `advances_only`, in
-- proofs/Advance.
use Rattle.std.specs.Prelude.{◌≡◌, true, false}
use Rattle.turn.specs.State.{State, running_of}
use Rattle.turn.specs.Step.{turn_step, advanced}

-- from a state to another, by the steps of points that run
pub data GoesOn : State → State → Type 0 where
  here : (s : State) → GoesOn s s
  step : (s s' : State) → running_of s.pool ≡ true → GoesOn (turn_step s) s' → GoesOn s s'

-- nothing runs
abbrev pub Stops : State → Type 0
Stops s = running_of s.pool ≡ false

-- every state goes on to where it stops
abbrev pub Advances : Type 0
Advances = (s : State) → GoesOn s (advanced s) × Stops (advanced s)

-- and there is no other such state
abbrev pub AdvancesOnly : Type 0
AdvancesOnly = (s s' : State) → GoesOn s s' → Stops s' → s' ≡ advanced s
