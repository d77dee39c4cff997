-- The state of a pool, as every definition of the pool has it: the pool's own state and the lent tables.
use Rattle.std.specs.Prelude.{Bool, true, false, ◌&&◌, List, ℕ, Option, Some, None}
use Rattle.message_log.specs.declared.Order.{Order}
use Rattle.lists.specs.Links.{Table}
use Rattle.message_log.specs.declared.Counters.{Counters}
use Rattle.message_log.specs.Log.{Wal, DidMark}
use Rattle.points.specs.declared.at.At.{At}
use Rattle.points.specs.declared.at.At.TheVariants as at
use Rattle.points.specs.declared.at.Point.{Point}
use Rattle.points.specs.declared.at.Point.TheVariants as point
use Rattle.tick.specs.declared.crash.Losses.{Losses}
use Rattle.turn.specs.declared.state.OrderFor.{OrderFor}
use Rattle.turn.specs.declared.state.Disk.{Disk}
use Rattle.turn.specs.declared.state.Disk.TheVariants as disk
use Rattle.turn.specs.declared.state.Limits.{Limits}

-- messages in mailboxes; dead messages and crashes; whether an actor was stepped in this turn
pub record Counts : Type 0 where
  pub queued : ℕ
  pub losses : Losses
  pub stepped : Bool

-- where a turn stands, the disk, the counts, and the log's counters
pub record Turn : Type 0 where
  pub at : At
  pub disk : Disk
  pub counts : Counts
  pub counters : Counters

-- the pool's own state; code has it in cells (specs/Words)
pub record Pool : Type 0 where
  pub turn : Turn
  pub limits : Limits
  pub closed : Bool
  pub seeded : Bool

-- what each call gets as the one before left it: the pool, the log's bytes and table of open records, the body store,
-- and the pool's tables
pub record State : Type 0 where
  pub pool : Pool
  pub bytes : List ℕ
  pub records : Table
  pub store : List ℕ
  pub groups : Table
  pub links : Table
  pub rows : Table
  pub keys : Table
  pub actors : Table

-- the log as the state has it
abbrev pub wal_of : State → Wal
wal_of s = record { bytes = s.bytes; table = s.records; counters = s.pool.turn.counters }

-- ---- one part is this, all else is as it was

-- the pool's own state is this; the log, the body store and the tables are as they were
abbrev pub with_pool : State → Pool → State
with_pool s p = record {
  pool = p;
  bytes = s.bytes;
  records = s.records;
  store = s.store;
  groups = s.groups;
  links = s.links;
  rows = s.rows;
  keys = s.keys;
  actors = s.actors;
}

-- the lists of messages are these; all else is as it was
abbrev pub with_links : State → Table → State
with_links s t = record {
  pool = s.pool;
  bytes = s.bytes;
  records = s.records;
  store = s.store;
  groups = s.groups;
  links = t;
  rows = s.rows;
  keys = s.keys;
  actors = s.actors;
}

-- the messages' rows are these; all else is as it was
abbrev pub with_rows : State → Table → State
with_rows s rows = record {
  pool = s.pool;
  bytes = s.bytes;
  records = s.records;
  store = s.store;
  groups = s.groups;
  links = s.links;
  rows = rows;
  keys = s.keys;
  actors = s.actors;
}

-- the groups' keys and lists of keys are these; all else is as it was
abbrev pub with_keys : State → Table → State
with_keys s keys = record {
  pool = s.pool;
  bytes = s.bytes;
  records = s.records;
  store = s.store;
  groups = s.groups;
  links = s.links;
  rows = s.rows;
  keys = keys;
  actors = s.actors;
}

-- the actors are these; all else is as it was
abbrev pub with_actors : State → Table → State
with_actors s actors = record {
  pool = s.pool;
  bytes = s.bytes;
  records = s.records;
  store = s.store;
  groups = s.groups;
  links = s.links;
  rows = s.rows;
  keys = s.keys;
  actors = actors;
}

-- the body store is this; all else is as it was
abbrev pub with_store : State → List ℕ → State
with_store s store = record {
  pool = s.pool;
  bytes = s.bytes;
  records = s.records;
  store = store;
  groups = s.groups;
  links = s.links;
  rows = s.rows;
  keys = s.keys;
  actors = s.actors;
}

-- the log's bytes and open records; its counters are the pool's
abbrev pub with_log : State → List ℕ → Table → State
with_log s bytes records = record {
  pool = s.pool;
  bytes = bytes;
  records = records;
  store = s.store;
  groups = s.groups;
  links = s.links;
  rows = s.rows;
  keys = s.keys;
  actors = s.actors;
}

-- ---- the same of the pool

-- the turn is this; the limits, closed and seeded are as they were
abbrev pub with_turn : Pool → Turn → Pool
with_turn p t = record { turn = t; limits = p.limits; closed = p.closed; seeded = p.seeded }

-- the log's counters and the disk are these; where the turn stands and its counts are as they were
abbrev pub with_disk : Pool → Counters → Disk → Pool
with_disk p n d = with_turn p (record { at = p.turn.at; disk = d; counts = p.turn.counts; counters = n })

-- what the log had due waits, for this
abbrev pub disk_for : Option Order → OrderFor → Disk
disk_for (Some o) w = disk.Waits o w
disk_for None w = disk.Free

-- the log is as a mark or a retry left it, and its order waits, if one was due, for this; all else is as it was
abbrev pub with_due : State → DidMark → OrderFor → State
with_due s d w =
    with_log (with_pool s (with_disk s.pool d.wal.counters (disk_for d.due w))) d.wal.bytes d.wal.table

-- the turn stands there, with these counts
abbrev pub counted_at : Pool → At → Counts → Pool
counted_at p a n = with_turn p (record { at = a; disk = p.turn.disk; counts = n; counters = p.turn.counters })

-- the turn stands there; its counts are as they were
abbrev pub stood_at : Pool → At → Pool
stood_at p a = counted_at p a p.turn.counts

-- the turn stands there, with so many messages in mailboxes; the other counts are as they were
abbrev pub queued_at : Pool → At → ℕ → Pool
queued_at p a queued =
    counted_at p a
    (record { queued = queued; losses = p.turn.counts.losses; stepped = p.turn.counts.stepped })

-- the turn stands there, with so many messages in mailboxes, and whether an actor was stepped in it
abbrev pub stepped_at : Pool → At → ℕ → Bool → Pool
stepped_at p a queued stepped =
    counted_at p a (record { queued = queued; losses = p.turn.counts.losses; stepped = stepped })

-- the turn stands there, with so many messages in mailboxes, and these counts of dead messages and crashes
abbrev pub lost_at : Pool → At → ℕ → Losses → Pool
lost_at p a queued losses =
    counted_at p a (record { queued = queued; losses = losses; stepped = p.turn.counts.stepped })

-- a turn begins there: no actor was stepped in it yet, and the first turn was taken
abbrev pub begun_at : Pool → At → Pool
begun_at p a =
    record {
      turn = record {
        at = a;
        disk = p.turn.disk;
        counts = record { queued = p.turn.counts.queued; losses = p.turn.counts.losses; stepped = false };
        counters = p.turn.counters;
      };
      limits = p.limits;
      closed = p.closed;
      seeded = true;
    }

-- no more is admitted
abbrev pub closed_pool : Pool → Pool
closed_pool p = record { turn = p.turn; limits = p.limits; closed = true; seeded = p.seeded }

-- a pool at rest: nothing queued, nobody dead
abbrev pub new_pool : Limits → Counters → Disk → Pool
new_pool limits n d =
    record {
      turn = record {
        at = at.Rest;
        disk = d;
        counts = record {
          queued = 0;
          losses = record { dead = 0; crashes = 0 };
          stepped = false;
        };
        counters = n;
      };
      limits = limits;
      closed = false;
      seeded = false;
    }

-- ---- what runs

-- no order waits, and none failed
abbrev pub is_free : Disk → Bool
is_free disk.Free = true
is_free (disk.Waits o w) = false
is_free disk.Failed = false

-- the turn stands at a point: it is under way, and not at a question
abbrev pub runs_at : At → Bool
runs_at at.Rest = false
runs_at (at.Asks a) = false
runs_at (at.Runs p) = true

-- no order waits or failed, and the turn stands at a point
unfoldable pub running_of : Pool → Bool
running_of p = is_free p.turn.disk && runs_at p.turn.at

-- Before these points run, what is over gets its mark, one order at a time. So what a step finished is marked, in its
-- order, before Sends is asked, or before an eval actor is settled; and what routing, a crash or a retired neighbour
-- left, before the turn goes on.
unfoldable pub marks_at : Point → Bool
marks_at (point.Seed g) = false
marks_at (point.Intake left) = false
marks_at (point.Route left) = true
marks_at (point.Wake g clock) = false
marks_at (point.WakeNext g clock left) = false
marks_at (point.Ready g clock pops) = true
marks_at (point.StepEnd c e) = true
marks_at (point.Settle c s) = false
marks_at (point.Crash c) = true
marks_at (point.AskTrap c) = true
marks_at (point.CrashTrapped c left) = true
