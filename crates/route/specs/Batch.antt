-- The batch's messages go to actors of their groups. Pick: an idle one, else a spawn under the ceiling, else the
-- least loaded, first of the equals. A message whose group does not exist, or for which there is no actor, is over.
use Rattle.std.specs.Prelude.{◌≡◌, Bool, true, false, List, ℕ, ◌-◌, eqb, ltb, Option, Some, None}
use Rattle.lists.specs.Links.{pick, Table, first_of, move_first, mailbox_of, BATCH}
use Rattle.actor.specs.declared.question.Reply.{Reply}
use Rattle.actor.specs.Questions.{yes_in}
use Rattle.actor.specs.Messages.{message_at}
use Rattle.actor.specs.Actors.{actor_at, put_actor, delivered_to}
use Rattle.steps.specs.Steps.{over_first}
use Rattle.points.specs.declared.at.At.{At}
use Rattle.points.specs.declared.at.At.TheVariants as at
use Rattle.points.specs.declared.at.Ask.TheVariants as asks
use Rattle.points.specs.declared.at.Point.TheVariants as point
use Rattle.group.specs.Settings.{group_at, by_name}
use Rattle.group.specs.Roster.{Keyed, Mailed, Spawned, TurnTables, mailed, turn_tables, queued_after}
use Rattle.group.specs.Roster.{slot_at, live_len, schedule_of, spawn_of, pop_idle_of, least_of}
use Rattle.points.specs.declared.words.Where.{Where}
use Rattle.route.specs.declared.batch.Routed as words
use Rattle.route.specs.declared.batch.Tables.{Tables}
use Rattle.route.specs.Intake.{Linked}
use Rattle.points.specs.Words.{at_of}

-- where the turn stands then, and the new queued
pub record Routed : Type 0 where
  pub at : At
  pub queued : ℕ

-- the same of the words that code hands on
abbrev pub routed_of : words.Routed → Routed
routed_of w = record { at = at_of w.at; queued = w.queued }

-- what routing changes, and where the turn stands then
pub record RoutedTables : Type 0 where
  pub links : Table
  pub keys : Table
  pub actors : Table
  pub routed : Routed

-- the tables that routing has in its hands
abbrev pub held_tables : Tables → TurnTables
held_tables t = turn_tables t.links.now t.keys.now t.actors.now t.queued

-- what routing left in its hands, and where the turn stands then
abbrev pub routed_in : Tables → Where → RoutedTables
routed_in t w =
    record {
      links = t.links.now;
      keys = t.keys.now;
      actors = t.actors.now;
      routed = record { at = at_of w; queued = t.queued };
    }

-- these are the same tables, with the values that they have now
abbrev pub RouteKept : Tables → Tables → Type 0
RouteKept t u =
    (u.links.ghost_name ≡ t.links.ghost_name) × (u.keys.ghost_name ≡ t.keys.ghost_name)
    × (u.actors.ghost_name ≡ t.actors.ghost_name)

-- the table of groups, how many of its rows are groups, and the body store, which has the names in messages
pub record Programs : Type 0 where
  pub groups : Table
  pub count : ℕ
  pub store : List ℕ

-- this table of groups, how many of its rows are groups, and this body store
abbrev pub programs : Table → ℕ → List ℕ → Programs
programs groups count store = record { groups = groups; count = count; store = store }

-- the turn stands there, with so many messages in mailboxes
abbrev pub routed_to : At → ℕ → Routed
routed_to a queued = record { at = a; queued = queued }

-- the batch's first message is over
unfoldable pub undeliverable : Table → Table → ℕ → Linked
undeliverable t rows left = record { links = over_first t rows BATCH; at = at.Runs (point.Route (left - 1)) }

-- it is over, and what routing changes else is as it was
abbrev pub lost_to : Linked → TurnTables → RoutedTables
lost_to l x =
    record { links = l.links; keys = x.keys; actors = x.actors; routed = routed_to l.at x.queued }

-- nothing changes, and the turn stands there
abbrev pub same_to : TurnTables → At → RoutedTables
same_to x a = record { links = x.links; keys = x.keys; actors = x.actors; routed = routed_to a x.queued }

-- ---- delivery

-- idle no more, and queued to run
unfoldable pub wake_at : Table → Table → ℕ → ℕ → Keyed
wake_at keys actors g k = schedule_of keys (put_actor actors (slot_at g k) (delivered_to (actor_at actors (slot_at g k)))) g k

-- the batch's first message goes to the end of a mailbox
unfoldable pub deliver_to : Table → ℕ → ℕ → Mailed
deliver_to t slot queued =
    mailed (move_first t BATCH (mailbox_of slot)) (queued_after t (move_first t BATCH (mailbox_of slot)) slot queued)

-- the lists, queued, keys and actors after a delivery; the turn routes on, with one message less to go
abbrev pub delivered_by : Mailed → Keyed → ℕ → RoutedTables
delivered_by m k left =
    record {
      links = m.links;
      keys = k.keys;
      actors = k.actors;
      routed = routed_to (at.Runs (point.Route (left - 1))) m.queued;
    }

-- to the mailbox of an actor, which is woken
unfoldable pub deliver : TurnTables → ℕ → ℕ → ℕ → RoutedTables
deliver x g k left =
    delivered_by (deliver_to x.links (slot_at g k) x.queued) (wake_at x.keys x.actors g k) left

-- to an actor, where there is one; else it is over
unfoldable pub deliver_key : Table → TurnTables → ℕ → Option ℕ → ℕ → RoutedTables
deliver_key rows x g (Some k) left = deliver x g k left
deliver_key rows x g None left = lost_to (undeliverable x.links rows left) x

-- ---- pick

-- to the least loaded
unfoldable pub route_least : Table → TurnTables → ℕ → ℕ → RoutedTables
route_least rows x g left = deliver_key rows x g (least_of x.keys x.links g) left

-- to the actor that was spawned; where none was, to the least loaded
abbrev pub spawned_sent : Table → TurnTables → ℕ → ℕ → Option ℕ → RoutedTables
spawned_sent rows x g left (Some k) = deliver x g k left
spawned_sent rows x g left None = route_least rows x g left

-- with keys and actors as the spawn left them: to the new actor; where none was spawned, to the least loaded
abbrev pub spawn_sent : Table → Mailed → ℕ → ℕ → Spawned → RoutedTables
spawn_sent rows m g left s = spawned_sent rows (turn_tables m.links s.keys s.actors m.queued) g left s.key

-- an actor is spawned for it
unfoldable pub route_spawned : Table → TurnTables → ℕ → Bool → ℕ → RoutedTables
route_spawned rows x g eval left =
    spawn_sent rows (mailed x.links x.queued) g left (spawn_of x.keys x.actors g eval)

-- a spawn under the ceiling, for which a fixed group is asked Boot, else the least loaded
unfoldable pub route_new : Table → Table → TurnTables → ℕ → ℕ → RoutedTables
route_new groups rows x g left =
    pick (ltb (live_len x.keys g) (group_at groups g).ceiling)
    (pick (group_at groups g).eval (route_spawned rows x g true left) (same_to x (at.Asks (asks.RouteBoot g left))))
    (route_least rows x g left)

-- an idle one, where there is one, else that
abbrev pub idle_else : TurnTables → ℕ → ℕ → Option ℕ → RoutedTables → RoutedTables
idle_else x g left (Some k) other = deliver x g k left
idle_else x g left None other = other

-- without the idle keys that were looked at
abbrev pub idle_popped : TurnTables → ℕ → TurnTables
idle_popped x g = turn_tables x.links (pop_idle_of x.keys x.actors g).keys x.actors x.queued

-- an idle one, else a spawn under the ceiling, else the least loaded
unfoldable pub pick_of : Table → Table → TurnTables → ℕ → ℕ → RoutedTables
pick_of groups rows x g left =
    idle_else (idle_popped x g) g left (pop_idle_of x.keys x.actors g).key
    (route_new groups rows (idle_popped x g) g left)

-- to its group; with no group of its name it is over
abbrev pub route_named : Table → Table → TurnTables → ℕ → Option ℕ → RoutedTables
route_named groups rows x left (Some g) = pick_of groups rows x g left
route_named groups rows x left None = lost_to (undeliverable x.links rows left) x

-- the group is the one of the name that the message has in the store
unfoldable pub route_one : Programs → Table → TurnTables → ℕ → ℕ → RoutedTables
route_one p rows x entry left =
    route_named p.groups rows x left
    (by_name p.groups p.store entry (message_at rows entry).name_len p.count)

-- ---- the batch's first message, or the tick where none is left

-- routing has ended: Clock is asked for the tick, and nothing else changes
abbrev pub clock_next : TurnTables → RoutedTables
clock_next x = same_to x (at.Asks asks.TickClock)

-- the batch's first message is routed; where the batch has none, Clock is asked for the tick
abbrev pub route_first : Programs → Table → TurnTables → ℕ → Option ℕ → RoutedTables
route_first p rows x left (Some e) = route_one p rows x e left
route_first p rows x left None = clock_next x

-- one message of the batch is routed, its first; with none left to route, or none in it, Clock is asked for the tick
unfoldable pub route_of : Programs → Table → TurnTables → ℕ → RoutedTables
route_of p rows x left = pick (eqb left 0) (clock_next x) (route_first p rows x left (first_of x.links BATCH))

-- Boot yes: spawn, and deliver to it; no: the least loaded
unfoldable pub route_booted : Table → TurnTables → ℕ → ℕ → Bool → RoutedTables
route_booted rows x g left true = route_spawned rows x g false left
route_booted rows x g left false = route_least rows x g left

-- Boot yes: an actor is spawned for it; no: to the least loaded; any other reply: nothing changes, and Boot stays open
abbrev pub route_by : Table → TurnTables → ℕ → ℕ → Option Bool → RoutedTables
route_by rows x g left (Some booted) = route_booted rows x g left booted
route_by rows x g left None = same_to x (at.Asks (asks.RouteBoot g left))

-- the reply to the Boot that routing asked of group g; one that is neither yes nor no leaves it open
unfoldable pub route_reply : Table → TurnTables → ℕ → ℕ → Reply → RoutedTables
route_reply rows x g left r = route_by rows x g left (yes_in r)
