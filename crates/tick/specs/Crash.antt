-- Crashed messages are tried again up to the group's retries, else dead; dead and crash counts are held at their
-- largest. After a failure in a fixed group Trap is asked, and after yes Trapped of each actor left; those that
-- answer yes are retired in key order: their mailboxes go back to pending, and what they had in their hands crashed.
use Rattle.std.specs.Prelude.{ℕ, ◌+◌, ◌-◌, eqb, ltb, set, Option, Some, None, Bool, true, false}
use Rattle.lists.specs.Links.{pick, Table, capped, first_of, move_first, move_all, mailbox_of, hand_of, PENDING, HAND, KEYS}
use Rattle.lists.specs.KeyLists.{blank_row, keys_at, front_of, pop_front}
use Rattle.lists.specs.Slabs.{next_key}
use Rattle.actor.specs.declared.question.Reply.{Reply}
use Rattle.actor.specs.Questions.{yes_in}
use Rattle.actor.specs.Messages.{message_at, put_message, tried_of}
use Rattle.steps.specs.Steps.{over_first}
use Rattle.points.specs.declared.at.At.{At}
use Rattle.points.specs.declared.at.At.TheVariants as at
use Rattle.points.specs.declared.at.Ask.TheVariants as asks
use Rattle.points.specs.declared.at.Point.TheVariants as point
use Rattle.points.specs.declared.at.Cursor.{Cursor}
use Rattle.points.specs.At.{ready_after}
use Rattle.group.specs.Settings.{group_at}
use Rattle.group.specs.Roster.{TRAPPED, slab_row, slot_at, push_key, queued_after}
use Rattle.tick.specs.declared.crash.Losses.{Losses}
use Rattle.tick.specs.declared.crash.Crashed as words
use Rattle.tick.specs.Waking.{Listed}
use Rattle.tick.specs.Settle.{retire_key}
use Rattle.points.specs.Words.{at_of}

-- where the turn stands then, and the new counts
pub record Crashed : Type 0 where
  pub at : At
  pub queued : ℕ
  pub losses : Losses

-- the same of the words that code hands on
abbrev pub crashed_of : words.Crashed → Crashed
crashed_of w = record { at = at_of w.at; queued = w.queued; losses = w.losses }

-- what a crashed message changes: lists of messages, their rows, and how many messages are dead
pub record Dying : Type 0 where
  pub links : Table
  pub rows : Table
  pub dead : ℕ

-- the lists of messages, their rows and the dead count, as one record
abbrev pub dying : Table → Table → ℕ → Dying
dying t rows dead = record { links = t; rows = rows; dead = dead }

-- what a failed step's crash changes: lists of messages, their rows, and the dead and crash counts
pub record Losing : Type 0 where
  pub links : Table
  pub rows : Table
  pub losses : Losses

-- what retiring works on: lists of messages, their rows, keys, how many messages are in mailboxes, dead and crashes
pub record Retiring : Type 0 where
  pub links : Table
  pub rows : Table
  pub keys : Table
  pub queued : ℕ
  pub losses : Losses

-- the tables and counts that retiring works on, as one record
abbrev pub retiring : Table → Table → Table → ℕ → Losses → Retiring
retiring t rows keys queued l = record { links = t; rows = rows; keys = keys; queued = queued; losses = l }

-- what retiring changes, and where the turn stands then
pub record Crashing : Type 0 where
  pub links : Table
  pub rows : Table
  pub keys : Table
  pub crashed : Crashed

-- a message of a list, its first, crashed: it is tried again, or dead and over
unfoldable pub crashed_entry : Table → Dying → ℕ → ℕ → ℕ → Dying
crashed_entry groups x g from e =
    pick (ltb (message_at x.rows e).attempts (group_at groups g).retry)
    (dying (move_first x.links from PENDING) (put_message x.rows e (tried_of (message_at x.rows e))) x.dead)
    (dying (over_first x.links x.rows from) x.rows (capped (x.dead + 1)))

-- the entry that was found has crashed; where none was found nothing changes
abbrev pub crashed_found : Table → Dying → ℕ → ℕ → Option ℕ → Dying
crashed_found groups x g from (Some e) = crashed_entry groups x g from e
crashed_found groups x g from None = x

-- the entry that was found is tried again if its message crashes: its attempts are below the group's retries
abbrev pub again_found : Table → Table → ℕ → Option ℕ → Option ℕ
again_found groups rows g (Some e) =
    pick (ltb (message_at rows e).attempts (group_at groups g).retry) (Some e) None
again_found groups rows g None = None

-- the first message of a list, if it is tried again when it crashes; where it would be dead, or there is none, nothing
unfoldable pub again_first : Table → Table → Table → ℕ → ℕ → Option ℕ
again_first groups t rows g from = again_found groups rows g (first_of t from)

-- the first message of a list crashed, where there is one
unfoldable pub handle_crash : Table → Dying → ℕ → ℕ → Dying
handle_crash groups x g from = crashed_found groups x g from (first_of x.links from)

-- what a crashed message changed, and this number of crashes beside its dead count
abbrev pub losing : Dying → ℕ → Losing
losing d crashes = record { links = d.links; rows = d.rows; losses = record { dead = d.dead; crashes = crashes } }

-- the message in the step's hand crashed with its actor
unfoldable pub crash_of : Table → Table → Table → Cursor → Losses → Losing
crash_of groups t rows c l =
    losing (handle_crash groups (dying t rows l.dead) c.group HAND) (capped (l.crashes + 1))

-- ---- Trap, and Trapped of each actor in key order

-- Trapped is asked of the actor with this key; with none left the trapped ones are retired, at most 16
abbrev pub trapped_at : Cursor → Option ℕ → At
trapped_at c (Some k) = at.Asks (asks.Trapped c k)
trapped_at c None = at.Runs (point.CrashTrapped c KEYS)

-- Trapped is asked of the group's first actor from this key on; with none left the trapped ones are retired
unfoldable pub trapped_next : Table → Cursor → ℕ → At
trapped_next keys c from = trapped_at c (next_key (keys_at keys (slab_row c.group)) (KEYS - from) from)

-- these lists of keys, and where the turn stands
abbrev pub listed_at : Table → At → Listed
listed_at keys a = record { keys = keys; at = a }

-- yes: no key is trapped so far, and Trapped is asked from key 0 on; no: the ready list goes on; any other reply: Trap
-- stays open
abbrev pub trap_by : Table → Cursor → Option Bool → Listed
trap_by keys c (Some true) = listed_at (set keys TRAPPED blank_row) (trapped_next (set keys TRAPPED blank_row) c 0)
trap_by keys c (Some false) = listed_at keys (ready_after c)
trap_by keys c None = listed_at keys (at.Asks (asks.Trap c))

-- the reply to Trap: yes leads to Trapped of the group's actors, no to the ready list; one that does not fit changes
-- nothing
unfoldable pub trap_reply : Table → Cursor → Reply → Listed
trap_reply keys c r = trap_by keys c (yes_in r)

-- the key after a key, held at 16, which no actor has
abbrev pub next_asked : ℕ → ℕ
next_asked k = pick (ltb k KEYS) (k + 1) KEYS

-- yes: the key goes to the end of the trapped ones; after yes and after no the next actor is asked; any other reply:
-- Trapped stays open
abbrev pub trapped_by : Table → Cursor → ℕ → Option Bool → Listed
trapped_by keys c k (Some true) = listed_at (push_key keys TRAPPED k) (trapped_next (push_key keys TRAPPED k) c (next_asked k))
trapped_by keys c k (Some false) = listed_at keys (trapped_next keys c (next_asked k))
trapped_by keys c k None = listed_at keys (at.Asks (asks.Trapped c k))

-- the reply to Trapped: who answers yes is kept to be retired, and the next actor is asked; one that does not fit
-- changes nothing
unfoldable pub trapped_reply : Table → Cursor → ℕ → Reply → Listed
trapped_reply keys c k r = trapped_by keys c k (yes_in r)

-- ---- those that were trapped are retired

-- where the turn stands, queued, and the dead and crash counts, as one record
abbrev pub crashed_at : At → ℕ → ℕ → ℕ → Crashed
crashed_at a queued dead crashes =
    record { at = a; queued = queued; losses = record { dead = dead; crashes = crashes } }

-- what the crash of a trapped actor's message left, with these keys, where the turn stands, queued and crashes
abbrev pub crash_trapped_by : Dying → Table → At → ℕ → ℕ → Crashing
crash_trapped_by d keys a queued crashes =
    record { links = d.links; rows = d.rows; keys = keys; crashed = crashed_at a queued d.dead crashes }

-- all mail of a slot goes to pending's end, in order
abbrev pub mail_back : Table → ℕ → Table
mail_back t slot = move_all t (mailbox_of slot) PENDING

-- a trapped actor is retired: its key is free, its mail goes back to pending, queued changes as its mailbox does, the
-- crash count rises by 1 up to its largest, and the message in its hand, if any, has crashed
unfoldable pub crash_trapped_key : Table → Retiring → Cursor → ℕ → ℕ → Crashing
crash_trapped_key groups x c k left =
    crash_trapped_by
    (handle_crash groups (dying (mail_back x.links (slot_at c.group k)) x.rows x.losses.dead) c.group
    (hand_of (slot_at c.group k)))
    (retire_key x.keys c.group k)
    (at.Runs (point.CrashTrapped c left))
    (queued_after x.links (mail_back x.links (slot_at c.group k)) (slot_at c.group k) x.queued)
    (capped (x.losses.crashes + 1))

-- no trapped actor is left: the ready list goes on, and nothing else changes
abbrev pub crash_trapped_done : Retiring → Cursor → Crashing
crash_trapped_done x c =
    record {
      links = x.links;
      rows = x.rows;
      keys = x.keys;
      crashed = record { at = ready_after c; queued = x.queued; losses = x.losses };
    }

-- what retiring works on, without the first trapped key
abbrev pub trapped_popped : Retiring → Retiring
trapped_popped x =
    retiring x.links x.rows (set x.keys TRAPPED (pop_front (keys_at x.keys TRAPPED))) x.queued x.losses

-- the first trapped key is popped and its actor retired, with one less left; with no key the ready list goes on
abbrev pub crash_trapped_front : Table → Retiring → Cursor → ℕ → Option ℕ → Crashing
crash_trapped_front groups x c left (Some k) = crash_trapped_key groups (trapped_popped x) c k (left - 1)
crash_trapped_front groups x c left None = crash_trapped_done x c

-- the next trapped actor is retired; with `left` 0 or no trapped key the ready list goes on
unfoldable pub crash_trapped : Table → Retiring → Cursor → ℕ → Crashing
crash_trapped groups x c left =
    pick (eqb left 0) (crash_trapped_done x c) (crash_trapped_front groups x c left (front_of (keys_at x.keys TRAPPED)))
