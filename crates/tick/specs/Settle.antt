-- A step's end: Sends is asked of a fixed actor; then the actor is put into a list, or leaves its group. One that
-- ended or raised sends its mailbox back to pending if it ever took a message, else its mail is over.
use Rattle.std.specs.Prelude.{Bool, true, false, ℕ, set, Option}
use Rattle.lists.specs.Links.{Table, len_of, move_all, mailbox_of, PENDING}
use Rattle.lists.specs.KeyLists.{keys_at}
use Rattle.lists.specs.Slabs.{remove_of}
use Rattle.actor.specs.Actors.{actor_at, put_actor, blocked_to, yielded_as}
use Rattle.steps.specs.declared.step.Parked.{Parked}
use Rattle.steps.specs.declared.step.Parked.TheVariants as parked
use Rattle.steps.specs.declared.step.Step.{Step}
use Rattle.steps.specs.declared.step.Step.TheVariants as step
use Rattle.steps.specs.declared.step.End.{End}
use Rattle.steps.specs.declared.step.End.TheVariants as end
use Rattle.points.specs.declared.at.At.{At}
use Rattle.points.specs.declared.at.At.TheVariants as at
use Rattle.points.specs.declared.at.Ask.TheVariants as asks
use Rattle.points.specs.declared.at.Point.TheVariants as point
use Rattle.points.specs.declared.at.Cursor.{Cursor}
use Rattle.points.specs.At.{ready_after}
use Rattle.group.specs.Roster.{Keyed, Mailed, TurnTables, mailed, queued_after, slot_on}
use Rattle.group.specs.Roster.{slab_row, idle_row, waiting_row, push_key, schedule_of, over_all}
use Rattle.tick.specs.declared.settle.Settled as words
use Rattle.points.specs.Words.{at_of}

-- where the turn stands then, and the new counts
pub record Settled : Type 0 where
  pub at : At
  pub queued : ℕ

-- the same of the words that code hands on
abbrev pub settled_of : words.Settled → Settled
settled_of w = record { at = at_of w.at; queued = w.queued }

-- what a release changes: lists of messages, keys, and how many messages are in mailboxes
pub record Released : Type 0 where
  pub links : Table
  pub keys : Table
  pub queued : ℕ

-- what settling changes, and where the turn stands then
pub record Settling : Type 0 where
  pub links : Table
  pub keys : Table
  pub actors : Table
  pub settled : Settled

-- what the step finished has its marks: Sends is asked of a fixed actor, and the step of an eval one is settled
abbrev pub step_end : Cursor → End → At
step_end c (end.Fixed s) = at.Asks (asks.Sends c s)
step_end c (end.Eval p) = at.Runs (point.Settle c (step.Parked p))

-- the actor's key is free again in its group; a key that no actor has changes nothing
unfoldable pub retire_key : Table → ℕ → ℕ → Table
retire_key keys g k = set keys (slab_row g) (remove_of (keys_at keys (slab_row g)) k)

-- the lists of messages once a slot's mail has left, and queued, which changes as the length of its mailbox does
abbrev pub leftover_to : Table → Table → ℕ → ℕ → Mailed
leftover_to t r slot queued = mailed r (queued_after t r slot queued)

-- the mail of an actor that leaves: if it ever took a message, all goes to pending's end, in order; else all is over;
-- queued changes as the mailbox does
unfoldable pub leftover_of : Table → Table → ℕ → Bool → ℕ → Mailed
leftover_of t rows slot true queued = leftover_to t (move_all t (mailbox_of slot) PENDING) slot queued
leftover_of t rows slot false queued =
    leftover_to t (over_all t rows (mailbox_of slot) (len_of t (mailbox_of slot))) slot queued

-- what became of a released actor's mail, with these keys, as one record
abbrev pub released_by : Mailed → Table → Released
released_by m keys = record { links = m.links; keys = keys; queued = m.queued }

-- the step's actor is released: its key is free, and its mail goes to pending or is over
unfoldable pub release_of : Table → TurnTables → Cursor → Released
release_of rows x c =
    released_by
    (leftover_of x.links rows (slot_on c) (actor_at x.actors (slot_on c)).consumed x.queued)
    (retire_key x.keys c.group c.key)

-- blocked becomes yes and wake_at the deadline or none; the key goes to the waiting list's end
unfoldable pub block_at : Table → Table → Cursor → Option ℕ → Keyed
block_at keys actors c until =
    record {
      keys = push_key keys (waiting_row c.group) c.key;
      actors = put_actor actors (slot_on c) (blocked_to (actor_at actors (slot_on c)) until);
    }

-- runnable becomes yes, and the actor is scheduled
unfoldable pub yield_at : Table → Table → Cursor → Keyed
yield_at keys actors c =
    schedule_of keys (put_actor actors (slot_on c) (yielded_as (actor_at actors (slot_on c)))) c.group c.key

-- an actor that goes on is idle, waits or is ready again
unfoldable pub park_at : Table → Table → Cursor → Parked → Keyed
park_at keys actors c parked.Waiting = record { keys = push_key keys (idle_row c.group) c.key; actors = actors }
park_at keys actors c (parked.Blocked until) = block_at keys actors c until
park_at keys actors c parked.Yield = yield_at keys actors c

-- where the turn stands, and queued, as one record
abbrev pub settled_at : At → ℕ → Settled
settled_at a queued = record { at = a; queued = queued }

-- what a release changed, with these actors, and where the turn stands then
abbrev pub settled_release : Released → Table → At → Settling
settled_release r actors a =
    record { links = r.links; keys = r.keys; actors = actors; settled = settled_at a r.queued }

-- the keys and actors once the actor is in a list, with these lists of messages, where the turn stands, and queued
abbrev pub settled_keys : Table → Keyed → At → ℕ → Settling
settled_keys t k a queued =
    record { links = t; keys = k.keys; actors = k.actors; settled = settled_at a queued }

-- done: the actor is released; parked: it goes to a list of its group; after both the ready list goes on; failed: it
-- is released, and its crash comes next
unfoldable pub settle_of : Table → TurnTables → Cursor → Step → Settling
settle_of rows x c step.Done = settled_release (release_of rows x c) x.actors (ready_after c)
settle_of rows x c (step.Parked p) =
    settled_keys x.links (park_at x.keys x.actors c p) (ready_after c) x.queued
settle_of rows x c step.Failed = settled_release (release_of rows x c) x.actors (at.Runs (point.Crash c))
