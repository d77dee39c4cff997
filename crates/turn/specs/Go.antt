-- One point of a turn that runs: what each leaves, by the definitions of route and tick.
use Rattle.points.specs.declared.at.At.TheVariants as at
use Rattle.points.specs.declared.at.Ask.TheVariants as asks
use Rattle.points.specs.declared.at.Point.{Point}
use Rattle.points.specs.declared.at.Point.TheVariants as point
use Rattle.points.specs.declared.at.Cursor.{Cursor}
use Rattle.group.specs.Roster.{TurnTables, keyed, turn_tables}
use Rattle.route.specs.Seed.{Seeded, seed_of}
use Rattle.route.specs.Intake.{Linked, intake_of}
use Rattle.route.specs.Batch.{RoutedTables, programs, route_of}
use Rattle.tick.specs.Waking.{Listed, Waked, wake_of, wake_next}
use Rattle.tick.specs.Ready.{Readied, readying, ready_of}
use Rattle.tick.specs.Settle.{Settling, step_end, settle_of}
use Rattle.tick.specs.Crash.{Losing, Crashing, retiring, crash_of, crash_trapped}
use Rattle.turn.specs.State.{State, with_pool, with_links, with_rows, with_keys, with_actors}
use Rattle.turn.specs.State.{stood_at, queued_at, stepped_at, lost_at}

-- ---- the state with what a part of a turn changed

-- seeding, and the reply to its Boot, change the keys, the actors, and where the turn stands
abbrev pub seeded : State → Seeded → State
seeded s d = with_actors (with_keys (with_pool s (stood_at s.pool d.at)) d.keys) d.actors

-- intake changes the lists of messages, and where the turn stands
abbrev pub linked : State → Linked → State
linked s d = with_links (with_pool s (stood_at s.pool d.at)) d.links

-- routing, and the reply to its Boot, change lists of messages, keys, actors, queued, and where the turn stands
abbrev pub routed : State → RoutedTables → State
routed s d =
    with_actors
    (with_keys (with_links (with_pool s (queued_at s.pool d.routed.at d.routed.queued)) d.links) d.keys)
    d.actors

-- setting a waiting list aside, and the replies to Trap and Trapped, change the keys, and where the turn stands
abbrev pub listed : State → Listed → State
listed s d = with_keys (with_pool s (stood_at s.pool d.at)) d.keys

-- going through the waiting list set aside, and the reply to Poll, change keys, actors, and where the turn stands
abbrev pub waked : State → Waked → State
waked s d = with_actors (with_keys (with_pool s (stood_at s.pool d.at)) d.keys) d.actors

-- a pop of the ready list changes lists of messages, keys, actors, queued, stepped, and where the turn stands
abbrev pub readied : State → Readied → State
readied s d =
    with_actors
    (with_keys
    (with_links (with_pool s (stepped_at s.pool d.begun.at d.begun.queued d.begun.stepped)) d.links)
    d.keys)
    d.actors

-- settling changes lists of messages, keys, actors, queued, and where the turn stands
abbrev pub settled : State → Settling → State
settled s d =
    with_actors
    (with_keys
    (with_links (with_pool s (queued_at s.pool d.settled.at d.settled.queued)) d.links)
    d.keys)
    d.actors

-- a crash leads to the question whether its neighbours are trapped
abbrev pub crashed : State → Cursor → Losing → State
crashed s c d =
    with_rows
    (with_links
    (with_pool s (lost_at s.pool (at.Runs (point.AskTrap c)) s.pool.turn.counts.queued d.losses))
    d.links)
    d.rows

-- retiring a trapped actor changes message lists and rows, keys, queued, dead, crashes, and where the turn stands
abbrev pub retired : State → Crashing → State
retired s d =
    with_keys
    (with_rows
    (with_links
    (with_pool s (lost_at s.pool d.crashed.at d.crashed.queued d.crashed.losses))
    d.links)
    d.rows)
    d.keys

-- the tables that routing and settling work on
abbrev pub tables_of : State → TurnTables
tables_of s = turn_tables s.links s.keys s.actors s.pool.turn.counts.queued

-- ---- the points

-- the state after a point has run: each by its own definition in route or tick, but for AskTrap, which asks Trap
unfoldable pub go_of : State → Point → State
go_of s (point.Seed g) = seeded s (seed_of s.groups s.pool.limits.groups s.keys s.actors g)
go_of s (point.Intake left) =
    linked s (intake_of s.links s.pool.turn.counts.queued s.pool.limits.backlog left)
go_of s (point.Route left) =
    routed s
    (route_of (programs s.groups s.pool.limits.groups s.store) s.rows (tables_of s) left)
go_of s (point.Wake g clock) = listed s (wake_of s.keys s.pool.limits.groups g clock)
go_of s (point.WakeNext g clock left) = waked s (wake_next (keyed s.keys s.actors) g clock left)
go_of s (point.Ready g clock pops) =
    readied s
    (ready_of
    (readying s.links s.keys s.actors s.pool.turn.counts.queued s.pool.turn.counts.stepped) g
    clock pops)
go_of s (point.StepEnd c e) = with_pool s (stood_at s.pool (step_end c e))
go_of s (point.Settle c step) = settled s (settle_of s.rows (tables_of s) c step)
go_of s (point.Crash c) = crashed s c (crash_of s.groups s.links s.rows c s.pool.turn.counts.losses)
go_of s (point.AskTrap c) = with_pool s (stood_at s.pool (at.Asks (asks.Trap c)))
go_of s (point.CrashTrapped c left) =
    retired s
    (crash_trapped s.groups
    (retiring s.links s.rows s.keys s.pool.turn.counts.queued s.pool.turn.counts.losses) c left)
