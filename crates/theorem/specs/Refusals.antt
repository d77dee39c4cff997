-- Every call goes by its table of refusals (crates/answers/specs/Refusals): it is refused with r, and leaves the state
-- as it was, exactly where the table says r. On any state, not only on those that an opening leads to. The proof is
-- `by_the_table`, in proofs/Refusals.
use Rattle.std.specs.Prelude.{List, ℕ, Option}
use Rattle.actor.specs.declared.message.CallerId.{CallerId}
use Rattle.actor.specs.declared.question.Reply.{Reply}
use Rattle.turn.specs.State.{State}
use Rattle.answers.specs.Refusals.{Lent, JudgedBy, judged, open_refusals, admit_refusals, turn_refusals, reply_refusals}
use Rattle.answers.specs.Refusals.{sync_refusals, close_refusals}
use Rattle.pool.specs.Open.{unopened, open_of}
use Rattle.pool.specs.Admit.{admit_of}
use Rattle.pool.specs.Calls.{turn_of, reply_of, sync_of, close_of}

-- each of the six calls, on any state and with any arguments, is refused just as its table says, with nothing changed
pub record ByTheTable : Type 0 where
  pub openings : (l : Lent) → JudgedBy (judged (open_refusals l)) (unopened l) (open_of l)
  pub admits : (s : State) (name body : List ℕ) (who : Option CallerId)
      → JudgedBy (judged (admit_refusals s name body who)) s (admit_of s name body who)
  pub turns : (s : State) → JudgedBy (judged (turn_refusals s.pool)) s (turn_of s)
  pub replies : (s : State) (r : Reply) (name body : List ℕ)
      → JudgedBy (judged (reply_refusals s r name body)) s (reply_of s r name body)
  pub syncs : (s : State) → JudgedBy (judged (sync_refusals s.pool)) s (sync_of s)
  pub closes : (s : State) → JudgedBy (judged (close_refusals s.pool)) s (close_of s)
