-- A group's ready list is popped, and each actor that has work is stepped once: its step begins at a question, or has
-- ended.
use Rattle.std.specs.Prelude.{Bool, true, false, ◌&&◌, ℕ, ◌-◌, eqb, set, Option, Some, None}
use Rattle.lists.specs.Links.{pick, Table, len_of, mailbox_of}
use Rattle.lists.specs.KeyLists.{keys_at, front_of, pop_front}
use Rattle.actor.specs.declared.state.Actor.{Actor}
use Rattle.actor.specs.declared.state.Mode.{Mode}
use Rattle.actor.specs.declared.state.Mode.TheVariants as mode
use Rattle.actor.specs.Actors.{actor_at, put_actor, scheduled_as, began_step}
use Rattle.steps.specs.StepFixed.{FixedActors, fixed_start}
use Rattle.steps.specs.StepEval.{EvalStarted, eval_start}
use Rattle.points.specs.declared.at.At.{At}
use Rattle.points.specs.declared.at.At.TheVariants as at
use Rattle.points.specs.declared.at.Ask.TheVariants as asks
use Rattle.points.specs.declared.at.Point.TheVariants as point
use Rattle.points.specs.declared.at.Cursor.{Cursor}
use Rattle.points.specs.At.{next_group, ready_after, eval_after}
use Rattle.group.specs.Roster.{Mailed, mailed, ready_row, slot_on, live_of}
use Rattle.tick.specs.declared.ready.Begun as words
use Rattle.points.specs.Words.{at_of}

-- where the turn stands then, the new queued, and whether an actor was stepped in this turn
pub record Begun : Type 0 where
  pub at : At
  pub queued : ℕ
  pub stepped : Bool

-- the same of the words that code hands on
abbrev pub begun_of : words.Begun → Begun
begun_of w = record { at = at_of w.at; queued = w.queued; stepped = w.stepped }

-- what a ready list works on: lists of messages, keys, actors, how many messages are in mailboxes, and whether an
-- actor was stepped in this turn
pub record Readying : Type 0 where
  pub links : Table
  pub keys : Table
  pub actors : Table
  pub queued : ℕ
  pub stepped : Bool

-- the tables and counts that a ready list works on, as one record
abbrev pub readying : Table → Table → Table → ℕ → Bool → Readying
readying t keys actors queued stepped =
    record { links = t; keys = keys; actors = actors; queued = queued; stepped = stepped }

-- what the begin of a fixed step changes, and where the turn stands then
pub record ActorStarted : Type 0 where
  pub actors : Table
  pub at : At

-- what a popped key's actor changes beside the keys, and where the turn stands then
pub record Stepping : Type 0 where
  pub links : Table
  pub actors : Table
  pub begun : Begun

-- what a pop of the ready list changes, and where the turn stands then
pub record Readied : Type 0 where
  pub links : Table
  pub keys : Table
  pub actors : Table
  pub begun : Begun

-- where the turn stands, queued, and whether an actor was stepped in this turn, as one record
abbrev pub begun_with : At → ℕ → Bool → Begun
begun_with a queued stepped = record { at = a; queued = queued; stepped = stepped }

-- no work: an empty mailbox, and it ran and is not runnable
unfoldable pub rests_of : Actor → ℕ → Bool
rests_of a waiting = eqb waiting 0 && (pick a.runnable false a.ran)

-- a fixed step stands at its first question, with the actors as its start left them
abbrev pub started_fixed : Cursor → FixedActors → ActorStarted
started_fixed c f = record { actors = f.actors; at = at.Asks (asks.Fixed c f.ask) }

-- a fixed actor's step begins with Run: start if its program was never started, else resume; started is then yes
unfoldable pub begin_fixed : Table → Cursor → ℕ → ActorStarted
begin_fixed actors c slot = started_fixed c (fixed_start actors slot)

-- an eval step has begun: it stands at its first question, or has ended; an actor was stepped
abbrev pub started_eval : Cursor → EvalStarted → Stepping
started_eval c s =
    record {
      links = s.links;
      actors = s.actors;
      begun = begun_with (eval_after c s.step.next) s.step.queued true;
    }

-- an eval actor's step begins: Clock with a run under way; else its first message is taken and Boot asked, or without
-- mail the step ends, waiting
unfoldable pub begin_eval : Table → Table → Cursor → ℕ → ℕ → Stepping
begin_eval t actors c slot queued = started_eval c (eval_start t actors slot queued)

-- a fixed step has begun: lists of messages and queued are as they were; an actor was stepped
abbrev pub fixed_begun : Table → ℕ → ActorStarted → Stepping
fixed_begun t queued s = record { links = t; actors = s.actors; begun = begun_with s.at queued true }

-- a fixed actor begins a fixed step, which takes no mail yet; an eval actor begins an eval step
abbrev pub begin_by : Mailed → Table → Cursor → ℕ → Mode → Stepping
begin_by m actors c slot mode.Fixed = fixed_begun m.links m.queued (begin_fixed actors c slot)
begin_by m actors c slot mode.Eval = begin_eval m.links actors c slot m.queued

-- ran becomes yes and runnable no, and the actor begins a step of its mode
unfoldable pub begin_step : Table → Table → Cursor → ℕ → ℕ → Stepping
begin_step t actors c slot queued =
    begin_by (mailed t queued) (put_actor actors slot (began_step (actor_at actors slot))) c slot
    (actor_at actors slot).mode

-- scheduled becomes no: the key was popped from the ready list
abbrev pub unscheduled : Table → ℕ → Table
unscheduled actors slot = put_actor actors slot (scheduled_as (actor_at actors slot) false)

-- a popped key: without an actor nothing happens; else scheduled becomes no, and an actor that has work begins a step;
-- where no step begins the ready list goes on
unfoldable pub ready_key : Readying → Cursor → Stepping
ready_key x c =
    pick (live_of x.keys c.group c.key)
    (pick (rests_of (actor_at x.actors (slot_on c)) (len_of x.links (mailbox_of (slot_on c))))
    (record {
      links = x.links;
      actors = unscheduled x.actors (slot_on c);
      begun = begun_with (ready_after c) x.queued x.stepped;
    })
    (begin_step x.links (unscheduled x.actors (slot_on c)) c (slot_on c) x.queued))
    (record { links = x.links; actors = x.actors; begun = begun_with (ready_after c) x.queued x.stepped })

-- what a popped key's actor changed, and these lists of keys
abbrev pub readied_with : Table → Stepping → Readied
readied_with keys s = record { links = s.links; keys = keys; actors = s.actors; begun = s.begun }

-- the ready list is through: the group after g, held at 8, is woken next, and nothing else changes
abbrev pub wake_after : Readying → ℕ → ℕ → Readied
wake_after x g clock =
    record {
      links = x.links;
      keys = x.keys;
      actors = x.actors;
      begun = begun_with (at.Runs (point.Wake (next_group g) clock)) x.queued x.stepped;
    }

-- the cursor of a key that is popped
abbrev pub cursor_at : ℕ → ℕ → ℕ → ℕ → Cursor
cursor_at g k clock pops = record { group = g; key = k; now = clock; pops = pops }

-- the group's ready list without its first key; an empty one stays as it is
abbrev pub pop_ready : Table → ℕ → Table
pop_ready keys g = set keys (ready_row g) (pop_front (keys_at keys (ready_row g)))

-- what the ready list works on, without the group's first ready key
abbrev pub ready_popped : Readying → ℕ → Readying
ready_popped x g = readying x.links (pop_ready x.keys g) x.actors x.queued x.stepped

-- the first key is popped, with one pop less left, and its actor may be stepped; with no key the next group is woken
abbrev pub ready_front : Readying → ℕ → ℕ → ℕ → Option ℕ → Readied
ready_front x g clock pops (Some k) =
    readied_with (pop_ready x.keys g) (ready_key (ready_popped x g) (cursor_at g k clock (pops - 1)))
ready_front x g clock pops None = wake_after x g clock

-- one pop of a group's ready list; with no pop left, or an empty list, the next group is woken
unfoldable pub ready_of : Readying → ℕ → ℕ → ℕ → Readied
ready_of x g clock pops =
    pick (eqb pops 0) (wake_after x g clock)
    (ready_front x g clock pops (front_of (keys_at x.keys (ready_row g))))
