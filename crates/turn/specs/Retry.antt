-- Retries: a message that was logged and is tried again after a crash has its attempts written in the log, in the step
-- that tries it again. The order waits before Trap, before the next trapped actor is retired, and before the turn ends.
use Rattle.std.specs.Prelude.{eqb, ℕ, Option, Some, None}
use Rattle.lists.specs.Links.{pick, hand_of, HAND}
use Rattle.lists.specs.KeyLists.{keys_at, front_of}
use Rattle.message_log.specs.declared.LogId.{LogId}
use Rattle.message_log.specs.Log.{DidMark, retry_of}
use Rattle.actor.specs.Messages.{message_at}
use Rattle.points.specs.declared.at.Point.{Point}
use Rattle.points.specs.declared.at.Point.TheVariants as point
use Rattle.points.specs.declared.at.Cursor.{Cursor}
use Rattle.group.specs.Roster.{TRAPPED, slot_at}
use Rattle.tick.specs.Crash.{again_first}
use Rattle.turn.specs.declared.state.OrderFor.TheVariants as orderFor
use Rattle.turn.specs.State.{State, wal_of, with_due}
use Rattle.turn.specs.Go.{go_of}

-- ---- what a point tries again

-- the message in the hand of the trapped actor with this key, if it is tried again
abbrev pub again_trapped : State → Cursor → Option ℕ → Option ℕ
again_trapped s c (Some k) =
    again_first s.groups s.links s.rows c.group (hand_of (slot_at c.group k))
again_trapped s c None = None

-- the message that a point tries again: at a crash that in the step's hand, and at the retiring of a trapped actor that
-- in its hand; no other point tries one
unfoldable pub again_at : State → Point → Option ℕ
again_at s (point.Seed g) = None
again_at s (point.Intake left) = None
again_at s (point.Route left) = None
again_at s (point.Wake g clock) = None
again_at s (point.WakeNext g clock left) = None
again_at s (point.Ready g clock pops) = None
again_at s (point.StepEnd c e) = None
again_at s (point.Settle c e) = None
again_at s (point.Crash c) = again_first s.groups s.links s.rows c.group HAND
again_at s (point.AskTrap c) = None
again_at s (point.CrashTrapped c left) =
    pick (eqb left 0) None (again_trapped s c (front_of (keys_at s.keys TRAPPED)))

-- ---- its attempts are written

-- a retry in the log: its order waits, if one was due
abbrev pub retried_in : State → LogId → DidMark → State
retried_in s id d = with_due s d (orderFor.Retry id)

-- the attempts of a message that was logged are written; of one that was not, nothing is
unfoldable pub retry_logged : State → Option LogId → ℕ → State
retry_logged s (Some id) attempts = retried_in s id (retry_of (wal_of s) id.0 attempts)
retry_logged s None attempts = s

-- the attempts of the entry that was tried again, as its row has them now, are written
unfoldable pub retry_entry : State → Option ℕ → State
retry_entry s (Some e) = retry_logged s (message_at s.rows e).id (message_at s.rows e).attempts
retry_entry s None = s

-- a point runs, and what it tried again is written
unfoldable pub ran_of : State → Point → State
ran_of s p = retry_entry (go_of s p) (again_at s p)
