-- A call stops where nothing runs: at a question, at an order, after a failed one, or with no turn under way. That it
-- runs everything before is crates/turn/specs/Advance. The proof is `calls_stop`, in proofs/Stopping.
use Rattle.std.specs.Prelude.{List}
use Rattle.turn.specs.State.{State}
use Rattle.turn.specs.Advance.{Stops}
use Rattle.answers.specs.Refusals.{Lent}
use Rattle.pool.specs.Open.{open_of}
use Rattle.theorem.specs.Rail.{Call, call_of, after}

-- nothing runs after an opening, after a call made where nothing ran, and after any list of calls
pub record CallsStop : Type 0 where
  -- nothing runs in a pool that was opened, accepted or not
  pub openings : (l : Lent) → Stops (open_of l).state
  -- from any state where nothing runs, every call leads to one, refused or not
  pub calls : (s : State) (c : Call) → Stops s → Stops (call_of s c).state
  -- so nothing runs after any list of calls
  pub lists : (l : Lent) (calls : List Call) → Stops (after l calls).state
