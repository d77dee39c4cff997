-- A refused call leaves the state as it was, whatever that is: every call goes by its table. Assumes nothing.
use mathlib.Core.Path.{◌≡◌}
use mathlib.Core.Bool.{false}
use Rattle.turn.specs.State.{State}
use Rattle.theorem.specs.Rail.{Call, admit, turn, reply, sync, close, call_of, accepted}
use Rattle.theorem.proofs.Refusals.{judged_stays, by_the_table}

-- Of any state whatever: refused, the call leaves it.
pub refused_stays : (s : State) (c : Call) → accepted (call_of s c).answer ≡ false → (call_of s c).state ≡ s
unfolding call_of
refused_stays s (admit name body who) = judged_stays _ s _ (by_the_table.admits s name body who)
refused_stays s turn = judged_stays _ s _ (by_the_table.turns s)
refused_stays s (reply r name body) = judged_stays _ s _ (by_the_table.replies s r name body)
refused_stays s sync = judged_stays _ s _ (by_the_table.syncs s)
refused_stays s close = judged_stays _ s _ (by_the_table.closes s)
