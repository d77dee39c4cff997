-- The keys of a group's actors: live, scheduled, spawned, idle, least loaded.
use Rattle.std.specs.Prelude.{Bool, true, false, ◌&&◌, List, ℕ, zero, suc, ◌+◌, ◌-◌, ◌*◌, ltb, set, Option, Some, None}
use Rattle.lists.specs.Links.{pick, Table, capped, len_of, mailbox_of, SLOTS, GROUPS}
use Rattle.lists.specs.KeyLists.{keys_at, count_of, last_of, pop_end, push_of}
use Rattle.lists.specs.Slabs.{contains_of, vacant_of, insert_of, live_count}
use Rattle.actor.specs.declared.state.Mode.{Mode}
use Rattle.actor.specs.declared.state.Mode.TheVariants as mode
use Rattle.actor.specs.Questions.{slot_of}
use Rattle.actor.specs.Actors.{actor_at, put_actor, new_actor, scheduled_as}
use Rattle.steps.specs.Steps.{over_first}
use Rattle.points.specs.declared.at.Cursor.{Cursor}
use Rattle.points.specs.At.{who_of}

-- ---- the rows of the table of key lists: four for each of 8 groups, and two for the turn

-- how many rows there are; as the number of a row it is past the table's end
abbrev pub ROWS : ℕ
ROWS = 34

-- the row of what is left of the waiting list that is being gone through
abbrev pub REST : ℕ
REST = 32

-- the row of the keys that answered Trapped with yes, each until its actor is retired
abbrev pub TRAPPED : ℕ
TRAPPED = 33

-- the row of group g's slab, which gives its actors their keys; from g = 8 on it is past the table's end
abbrev pub slab_row : ℕ → ℕ
slab_row g = pick (ltb g GROUPS) (4 * g) ROWS

-- the row of group g's ready list, the keys to be popped and run; from g = 8 on it is past the table's end
abbrev pub ready_row : ℕ → ℕ
ready_row g = pick (ltb g GROUPS) (4 * g + 1) ROWS

-- the row of group g's idle list, where routing looks for an idle actor; from g = 8 on it is past the table's end
abbrev pub idle_row : ℕ → ℕ
idle_row g = pick (ltb g GROUPS) (4 * g + 2) ROWS

-- the row of group g's waiting list, the keys that waking goes through; from g = 8 on it is past the table's end
abbrev pub waiting_row : ℕ → ℕ
waiting_row g = pick (ltb g GROUPS) (4 * g + 3) ROWS

-- the slot of the actor with key k in group g, 16 g + k; from group 8 or key 16 on it is 128, which is no slot
abbrev pub slot_at : ℕ → ℕ → ℕ
slot_at g k = slot_of (who_of g k)

-- the slot of the step's actor
abbrev pub slot_on : Cursor → ℕ
slot_on c = slot_at c.group c.key

-- what an operation on keys works on, and changes
pub record Keyed : Type 0 where
  pub keys : Table
  pub actors : Table

-- these key lists and these actors, for an operation on keys to work on
abbrev pub keyed : Table → Table → Keyed
keyed keys actors = record { keys = keys; actors = actors }

-- lists of messages, and how many messages are in mailboxes
pub record Mailed : Type 0 where
  pub links : Table
  pub queued : ℕ

-- these lists of messages, with so many messages in mailboxes
abbrev pub mailed : Table → ℕ → Mailed
mailed t queued = record { links = t; queued = queued }

-- queued changes as the length of a mailbox does, from these lists to those
abbrev pub queued_after : Table → Table → ℕ → ℕ → ℕ
queued_after t t' slot queued = capped (queued + len_of t' (mailbox_of slot)) - len_of t (mailbox_of slot)

-- what routing and settling work on, and change: lists of messages, keys, actors, and how many messages are in
-- mailboxes
pub record TurnTables : Type 0 where
  pub links : Table
  pub keys : Table
  pub actors : Table
  pub queued : ℕ

-- these lists of messages, key lists and actors, with so many messages in mailboxes
abbrev pub turn_tables : Table → Table → Table → ℕ → TurnTables
turn_tables t keys actors queued = record { links = t; keys = keys; actors = actors; queued = queued }

-- the key lists and actors after a spawn, and the new actor's key; no key where the group had none to give
pub record Spawned : Type 0 where
  pub keys : Table
  pub actors : Table
  pub key : Option ℕ

-- the key lists without the idle keys that were taken, and the key of the idle actor that was found, if one was
pub record IdlePopped : Type 0 where
  pub keys : Table
  pub key : Option ℕ

-- a key goes to the end of the list in a row; a full list is squeezed first, and then gets the key if it is absent;
-- past the table's end nothing changes
unfoldable pub push_key : Table → ℕ → ℕ → Table
push_key keys row k = set keys row (push_of (keys_at keys row) k)

-- the group has an actor of this key
unfoldable pub live_of : Table → ℕ → ℕ → Bool
live_of keys g k = ltb (slot_at g k) SLOTS && contains_of (keys_at keys (slab_row g)) k

-- how many actors the group has: the keys that were ever given, less those that are free
unfoldable pub live_len : Table → ℕ → ℕ
live_len keys g = live_count (keys_at keys (slab_row g))

-- queued to run, unless it is already
unfoldable pub schedule_of : Table → Table → ℕ → ℕ → Keyed
schedule_of keys actors g k =
    pick (live_of keys g k)
    (pick (actor_at actors (slot_at g k)).scheduled
    (record { keys = keys; actors = actors })
    (record {
      keys = push_key keys (ready_row g) k;
      actors = put_actor actors (slot_at g k) (scheduled_as (actor_at actors (slot_at g k)) true);
    }))
    (record { keys = keys; actors = actors })

-- the mode of an actor, by whether its group is eval: eval if it is, else fixed
abbrev pub mode_for : Bool → Mode
mode_for true = mode.Eval
mode_for false = mode.Fixed

-- a new actor of this key, queued to run
unfoldable pub spawn_key : Table → Table → ℕ → ℕ → Bool → Keyed
spawn_key keys actors g k eval =
    schedule_of
    (set keys (slab_row g) (insert_of (keys_at keys (slab_row g))))
    (put_actor actors (slot_at g k) (new_actor (mode_for eval)))
    g
    k

-- these key lists and actors after a spawn, with k as the new actor's key
abbrev pub spawned_as : Keyed → ℕ → Spawned
spawned_as s k = record { keys = s.keys; actors = s.actors; key = Some k }

-- by the next key of the group: a new actor gets it and is queued to run; with no key to give, nothing changes
abbrev pub spawn_by : Table → Table → ℕ → Bool → Option ℕ → Spawned
spawn_by keys actors g eval (Some k) = spawned_as (spawn_key keys actors g k eval) k
spawn_by keys actors g eval None = record { keys = keys; actors = actors; key = None }

-- an actor is spawned under the next key of the group, as slab 0.4 gives it: the last freed one first
unfoldable pub spawn_of : Table → Table → ℕ → Bool → Spawned
spawn_of keys actors g eval = spawn_by keys actors g eval (vacant_of (keys_at keys (slab_row g)))

-- ---- an idle actor

-- the group has an actor of this key, and it is idle
unfoldable pub idle_key : Table → Table → ℕ → ℕ → Bool
idle_key keys actors g k = live_of keys g k && (actor_at actors (slot_at g k)).idle

-- a list of keys, and the key that was popped from it
pub record Popped : Type 0 where
  pub row : List ℕ
  pub key : Option ℕ

-- this row of an idle list, and the key that was popped from it, if any
abbrev pub popped : List ℕ → Option ℕ → Popped
popped row k = record { row = row; key = k }

-- at most n keys are taken off the list's end, until one has an actor that is idle; the key is that one, else none
unfoldable pub pop_idle_row : Table → Table → ℕ → ℕ → List ℕ → Popped
pop_idle_row keys actors g zero row = popped row None
pop_idle_row keys actors g (suc n) row = elim (last_of row) [
  | Some k ↦
      pick (idle_key keys actors g k) (popped (pop_end row) (Some k)) (pop_idle_row keys actors g n (pop_end row))
  | None ↦ pop_idle_row keys actors g n (pop_end row)
]

-- the group's idle list becomes the row that the pops left, and the key is the one popped, if any
abbrev pub pop_idle_in : Table → ℕ → Popped → IdlePopped
pop_idle_in keys g p = record { keys = set keys (idle_row g) p.row; key = p.key }

-- keys are taken off the end of the group's idle list until one has an idle actor; where none has, the list is empty
unfoldable pub pop_idle_of : Table → Table → ℕ → IdlePopped
pop_idle_of keys actors g =
    pop_idle_in keys g (pop_idle_row keys actors g (count_of (keys_at keys (idle_row g))) (keys_at keys (idle_row g)))

-- ---- the least loaded, first of the equals

-- the load of the actor with key k in group g: how many messages its mailbox has
abbrev pub load_of : Table → ℕ → ℕ → ℕ
load_of links g k = len_of links (mailbox_of (slot_at g k))

-- the less loaded of key k and the best so far, of equals the best so far; k where there is none so far
unfoldable pub better_of : Table → ℕ → Option ℕ → ℕ → Option ℕ
better_of links g (Some b) k = pick (ltb (load_of links g k) (load_of links g b)) (Some k) (Some b)
better_of links g None k = Some k

-- the best among n keys from k on that are given out
unfoldable pub least_from : List ℕ → ((Option ℕ) → ℕ → Option ℕ) → ℕ → ℕ → Option ℕ → Option ℕ
least_from given better zero k best = best
least_from given better (suc n) k best =
    least_from given better n (k + 1) (pick (contains_of given k) (better best k) best)

-- the key of the group's actor with the shortest mailbox, of equals the lowest; none where the group has no actor
unfoldable pub least_of : Table → Table → ℕ → Option ℕ
least_of keys links g = least_from (keys_at keys (slab_row g)) (better_of links g) 16 0 None

-- ---- messages that are over

-- the first n messages of a list are over
unfoldable pub over_all : Table → Table → ℕ → ℕ → Table
over_all links rows from zero = links
over_all links rows from (suc n) = over_all (over_first links rows from) rows from n
