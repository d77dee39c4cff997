-- Admit: refused by its table (crates/answers/specs/Refusals); else the message is logged under the next id, unless a
-- caller waits for its outcome, and queued in the inbox.
use Rattle.std.specs.Prelude.{List, ℕ, Option, Some, None, Ok, Err, Result}
use Rattle.lists.specs.Links.{INBOX}
use Rattle.message_log.specs.declared.LogId.{LogId}
use Rattle.message_log.specs.declared.Refusal as of-log
use Rattle.message_log.specs.declared.Order.{Order}
use Rattle.message_log.specs.Log as log
use Rattle.message_log.specs.Log.{append_of}
use Rattle.actor.specs.declared.message.CallerId.{CallerId}
use Rattle.turn.specs.declared.state.OrderFor.TheVariants as orderFor
use Rattle.turn.specs.declared.state.Disk.TheVariants as disk
use Rattle.turn.specs.State.{State, wal_of, with_pool, with_log, with_disk}
use Rattle.answers.specs.Answers.{Did, log_refusal, refused, shown, kept}
use Rattle.answers.specs.Refusals.{judged, by_table, admit_refusals}

-- the id that the next record gets
abbrev pub next_id : State → LogId
next_id s = record { 0 = s.pool.turn.counters.next }

-- the log as it is after an append, with its order waiting
abbrev pub recorded : State → log.DidAppend → Order → State
recorded s d o =
    with_log (with_pool s (with_disk s.pool d.wal.counters (disk.Waits o orderFor.Record))) d.wal.bytes
    d.wal.table

-- by what the log answered: in the inbox, with its record ordered; or refused
abbrev pub recorded_in : State → List ℕ → List ℕ → log.DidAppend → Result Order of-log.Refusal → Did
recorded_in s name body d (Ok o) =
    shown
    (kept (recorded s d o)
    (record { name = name; body = body; caller = None; id = Some (next_id s) })
    INBOX)
recorded_in s name body d (Err r) = refused (with_log s d.wal.bytes d.wal.table) (log_refusal r)

-- the log was asked to append the message: it is in the inbox and its record ordered, or it is refused
unfoldable pub recorded_by : State → List ℕ → List ℕ → log.DidAppend → Did
recorded_by s name body d = recorded_in s name body d d.answer

-- nobody waits: the message is logged
unfoldable pub admit_logged : State → List ℕ → List ℕ → Did
admit_logged s name body = recorded_by s name body (append_of (wal_of s) name body)

-- a caller waits: it is not
unfoldable pub admit_called : State → List ℕ → List ℕ → CallerId → Did
admit_called s name body who =
    shown (kept s (record { name = name; body = body; caller = Some who; id = None }) INBOX)

-- with a caller the message goes to the inbox alone; with nobody waiting it is logged, and goes there too
abbrev pub admit_effect : State → List ℕ → List ℕ → Option CallerId → Did
admit_effect s name body (Some who) = admit_called s name body who
admit_effect s name body None = admit_logged s name body

-- admit, of a name, a body and who waits for the outcome: refused by its table, or with its effect
unfoldable pub admit_of : State → List ℕ → List ℕ → Option CallerId → Did
admit_of s name body who = by_table s (judged (admit_refusals s name body who)) (admit_effect s name body who)
