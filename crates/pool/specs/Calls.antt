-- Turn, reply, sync and close: refused by its table (crates/answers/specs/Refusals), or with its effect.
use Rattle.std.specs.Prelude.{Bool, true, false, List, ℕ, Option, Some, None}
use Rattle.message_log.specs.declared.Order.{Order}
use Rattle.lists.specs.Links.{pick, PENDING, ENTRIES}
use Rattle.message_log.specs.Log.{AnsweredDue}
use Rattle.message_log.specs.Log as log
use Rattle.actor.specs.declared.question.Reply.{Reply}
use Rattle.actor.specs.declared.question.Reply.TheVariants as reply
use Rattle.points.specs.declared.at.At.{At}
use Rattle.points.specs.declared.at.At.TheVariants as at
use Rattle.points.specs.declared.at.Point.TheVariants as point
use Rattle.turn.specs.declared.state.OrderFor.TheVariants as orderFor
use Rattle.turn.specs.declared.state.Disk.TheVariants as disk
use Rattle.turn.specs.State.{Pool, State, with_pool, with_disk, begun_at, closed_pool}
use Rattle.turn.specs.Resume.{resume_of}
use Rattle.answers.specs.Answers.{Did, shown, kept}
use Rattle.answers.specs.Refusals.{judged, by_table, in_turn, is_message, turn_refusals, reply_refusals, sync_refusals}
use Rattle.answers.specs.Refusals.{close_refusals}
use Rattle.pool.specs.Stored.{StoredIn}
use Rattle.pool.specs.Stored as stored
use Rattle.pool.specs.Run.{run_of}

-- ---- turn

-- the first turn begins with the spawns, a later one with the intake
abbrev pub first_point : Bool → At
first_point true = at.Runs (point.Intake ENTRIES)
first_point false = at.Runs (point.Seed 0)

-- the pool as a turn begins: at its first point, with no actor stepped in it yet, and the first turn taken
abbrev pub begun_turn : Pool → Pool
begun_turn p = begun_at p (first_point p.seeded)

-- turn: refused by its table; else a turn begins, and runs up to a question, an order or its end
unfoldable pub turn_of : State → Did
turn_of s = by_table s (judged (turn_refusals s.pool)) (run_of (with_pool s (begun_turn s.pool)))

-- ---- reply

-- a reply read as the answer to an order
abbrev pub stored_in : Reply → StoredIn
stored_in reply.Yes = stored.Other
stored_in reply.No = stored.Other
stored_in (reply.Clock ns) = stored.Other
stored_in (reply.Count n) = stored.Other
stored_in (reply.Ran s) = stored.Other
stored_in reply.Message = stored.Other
stored_in reply.End = stored.Other
stored_in reply.Told = stored.Other
stored_in reply.Stored = stored.Stored
stored_in reply.Failed = stored.Failed

-- the order is stored: the disk is free, and all else is as it was
abbrev pub freed : State → State
freed s = with_pool s (with_disk s.pool s.pool.turn.counters disk.Free)

-- stored: the turn runs on, or its question is shown again; with no turn under way nothing is open then
unfoldable pub stored_of : State → Did
stored_of s = pick (in_turn s.pool.turn.at) (run_of (freed s)) (shown (freed s))

-- the order failed: nothing is taken any more
unfoldable pub failed_of : State → Did
failed_of s = shown (with_pool s (with_disk s.pool s.pool.turn.counters disk.Failed))

-- a message that was sent goes to pending's end, not logged, and Sends is asked again
unfoldable pub collect_send : State → List ℕ → List ℕ → Did
collect_send s name body =
    shown (kept s (record { name = name; body = body; caller = None; id = None }) PENDING)

-- the turn's question is answered, where one is open
abbrev pub resume_in : State → At → Reply → State
resume_in s at.Rest r = s
resume_in s (at.Asks a) r = resume_of s a r
resume_in s (at.Runs p) r = s

-- the reply goes to the question at which the turn stands; where it stands at none, nothing changes
unfoldable pub resume_at : State → Reply → State
resume_at s r = resume_in s s.pool.turn.at r

-- any other reply: the turn goes on from its question
unfoldable pub resumed_of : State → Reply → Did
resumed_of s r = run_of (resume_at s r)

-- stored and failed answer the order, a message that was sent goes to pending, any other answers the turn's question
abbrev pub reply_by : State → Reply → List ℕ → List ℕ → StoredIn → Did
reply_by s r name body stored.Stored = stored_of s
reply_by s r name body stored.Failed = failed_of s
reply_by s r name body stored.Other = pick (is_message r) (collect_send s name body) (resumed_of s r)

-- what an accepted reply does: it answers the order, brings a message that was sent, or answers the turn's question
unfoldable pub reply_effect : State → Reply → List ℕ → List ℕ → Did
reply_effect s r name body = reply_by s r name body (stored_in r)

-- with the name and body of a message that was sent; while an order waits, the order is what is open
unfoldable pub reply_of : State → Reply → List ℕ → List ℕ → Did
reply_of s r name body = by_table s (judged (reply_refusals s r name body)) (reply_effect s r name body)

-- ---- sync, close

-- an order that is due waits, and the log's counters are new; with none due the pool is as it was
abbrev pub synced_in : Pool → AnsweredDue → Option Order → Pool
synced_in p d (Some o) = with_disk p d.counters (disk.Waits o orderFor.Nothing)
synced_in p d None = p

-- a flush waits, if one was due
unfoldable pub synced_by : Pool → AnsweredDue → Pool
synced_by p d = synced_in p d d.due

-- the pool after a sync: if the log was dirty, a flush waits and dirty is no; else it is as it was
unfoldable pub sync_effect : Pool → Pool
sync_effect p = synced_by p (log.sync_log p.turn.counters)

-- a flush is ordered, if the log is dirty, and the answer is what is open now
abbrev pub sync_did : State → Did
sync_did s = shown (with_pool s (sync_effect s.pool))

-- sync: refused by its table; else a flush is ordered, if one is due
unfoldable pub sync_of : State → Did
sync_of s = by_table s (judged (sync_refusals s.pool)) (sync_did s)

-- no more is admitted
unfoldable pub close_of : State → Did
close_of s = by_table s (judged (close_refusals s.pool)) (shown (with_pool s (closed_pool s.pool)))
