-- Waiting actors past their deadline, and those whose Poll gives a count above 0, go to the ready list. Poll is asked
-- only of an actor that is blocked, past no deadline and, if eval, has a run.
use Rattle.std.specs.Prelude.{Bool, true, false, ◌&&◌, ℕ, ◌-◌, eqb, ltb, leb, set, Option, Some, None}
use Rattle.lists.specs.Links.{pick, Table, GROUPS}
use Rattle.lists.specs.KeyLists.{blank_row, keys_at, count_of, front_of, pop_front, FULL}
use Rattle.actor.specs.declared.question.Reply.{Reply}
use Rattle.actor.specs.declared.question.Who.{Who}
use Rattle.actor.specs.declared.state.Actor.{Actor}
use Rattle.actor.specs.declared.state.Mode.{Mode}
use Rattle.actor.specs.declared.state.Mode.TheVariants as mode
use Rattle.actor.specs.Questions.{count_in}
use Rattle.actor.specs.Actors.{actor_at, put_actor, woken_as, has_run}
use Rattle.points.specs.declared.at.At.{At}
use Rattle.points.specs.declared.at.At.TheVariants as at
use Rattle.points.specs.declared.at.Ask.TheVariants as asks
use Rattle.points.specs.declared.at.Point.TheVariants as point
use Rattle.group.specs.Roster.{REST, ready_row, waiting_row, slot_at, Keyed, keyed, push_key, live_of, schedule_of}

-- what a step over keys changes, and where the turn stands then
pub record Listed : Type 0 where
  pub keys : Table
  pub at : At

-- what a step over keys and actors changes, and where the turn stands then
pub record Waked : Type 0 where
  pub keys : Table
  pub actors : Table
  pub at : At

-- a list of keys holds at most 64, so that this changes no count of one
abbrev pub at_most64 : ℕ → ℕ
at_most64 n = pick (ltb n FULL) n FULL

-- group g, of n groups: its waiting list is set aside to be gone through, and grows anew; past the last group the turn
-- is at its end
unfoldable pub wake_of : Table → ℕ → ℕ → ℕ → Listed
wake_of keys n g clock =
    pick (leb n g) (record { keys = keys; at = at.Rest })
    (pick (leb GROUPS g) (record { keys = keys; at = at.Rest })
    (record {
      keys = set (set keys REST (keys_at keys (waiting_row g))) (waiting_row g) blank_row;
      at = at.Runs (point.WakeNext g clock (at_most64 (count_of (keys_at keys (waiting_row g)))));
    }))

-- its deadline has passed
unfoldable pub late_at : Option ℕ → ℕ → Bool
late_at (Some ns) clock = leb ns clock
late_at None clock = false

-- a fixed actor is polled if it is blocked, an eval actor if it is blocked and has a run
abbrev pub polls_by : Bool → Bool → Mode → Bool
polls_by blocked run mode.Fixed = blocked
polls_by blocked run mode.Eval = blocked && run

-- Poll is asked of this actor, unless its deadline has passed
unfoldable pub polls_of : Actor → Bool
polls_of a = polls_by a.blocked (has_run a.run) a.mode

-- awake, it is queued to run; else it waits on, unless it is idle
unfoldable pub woken_to : Table → Table → ℕ → ℕ → Bool → Keyed
woken_to keys actors g k true =
    schedule_of keys (put_actor actors (slot_at g k) (woken_as (actor_at actors (slot_at g k)))) g k
woken_to keys actors g k false =
    pick (actor_at actors (slot_at g k)).idle (record { keys = keys; actors = actors })
    (record { keys = push_key keys (waiting_row g) k; actors = actors })

-- these keys and actors, and where the turn stands
abbrev pub waked_to : Keyed → At → Waked
waked_to k a = record { keys = k.keys; actors = k.actors; at = a }

-- past its deadline it is awake; else it may be polled
unfoldable pub wake_one : Keyed → ℕ → ℕ → ℕ → ℕ → Waked
wake_one x g k clock left =
    pick (live_of x.keys g k)
    (pick (late_at (actor_at x.actors (slot_at g k)).wake_at clock)
    (waked_to (woken_to x.keys x.actors g k true) (at.Runs (point.WakeNext g clock left)))
    (pick (polls_of (actor_at x.actors (slot_at g k)))
    (waked_to x (at.Asks (asks.WakePoll g k clock left)))
    (waked_to (woken_to x.keys x.actors g k false) (at.Runs (point.WakeNext g clock left)))))
    (waked_to x (at.Runs (point.WakeNext g clock left)))

-- pops: how many keys the ready list has at the end of the group's own wake
abbrev pub ready_now : Keyed → ℕ → ℕ → Waked
ready_now x g clock =
    waked_to x (at.Runs (point.Ready g clock (at_most64 (count_of (keys_at x.keys (ready_row g))))))

-- the first key of the rest is popped and its actor looked at, with one less left; with no key the ready list is next
abbrev pub wake_first : Keyed → ℕ → ℕ → ℕ → Option ℕ → Waked
wake_first x g clock left (Some k) =
    wake_one (keyed (set x.keys REST (pop_front (keys_at x.keys REST))) x.actors) g k clock (left - 1)
wake_first x g clock left None = ready_now x g clock

-- one more key of the waiting list that was taken; with `left` 0 or no key the group's ready list is next
unfoldable pub wake_next : Keyed → ℕ → ℕ → ℕ → Waked
wake_next x g clock left =
    pick (eqb left 0) (ready_now x g clock) (wake_first x g clock left (front_of (keys_at x.keys REST)))

-- Poll: above 0 it is awake
abbrev pub poll_by : Keyed → Who → ℕ → ℕ → Option ℕ → Waked
poll_by x who clock left (Some n) =
    waked_to (woken_to x.keys x.actors who.group who.key (ltb 0 n))
    (at.Runs (point.WakeNext who.group clock left))
poll_by x who clock left None = waked_to x (at.Asks (asks.WakePoll who.group who.key clock left))

-- the reply to Poll: above 0 the actor is woken, at 0 it is not; one that does not fit changes nothing
unfoldable pub poll_reply : Keyed → Who → ℕ → ℕ → Reply → Waked
poll_reply x who clock left r = poll_by x who clock left (count_in r)
