-- What the cells of a pool mean: where its turn stands (points, specs/Words), the disk, the counts, the log's counters
-- and the limits. Any cells mean some pool. The cells are numbered in src/state.
use Rattle.std.specs.Prelude.{Bool, true, false, List, ℕ, eqb, get_or}
use Rattle.lists.specs.Links.{pick}
use Rattle.message_log.specs.declared.Counters.{Counters}
use Rattle.message_log.specs.declared.Order.{Order}
use Rattle.message_log.specs.declared.Order.TheVariants.{Append, Replace, Flush}
use Rattle.points.specs.declared.words.Where.{Where}
use Rattle.points.specs.Words.{at_of}
use Rattle.turn.specs.declared.state.OrderFor.{OrderFor}
use Rattle.turn.specs.declared.state.OrderFor.TheVariants as orderFor
use Rattle.turn.specs.declared.state.Disk.{Disk}
use Rattle.turn.specs.declared.state.Disk.TheVariants as disk
use Rattle.turn.specs.declared.state.DiskKind.{DiskKind}
use Rattle.turn.specs.declared.state.DiskKind.TheVariants as kind
use Rattle.turn.specs.declared.state.What.{What}
use Rattle.turn.specs.declared.state.What.TheVariants as what
use Rattle.turn.specs.declared.state.DiskWords.{DiskWords}
use Rattle.turn.specs.declared.state.Limits.{Limits}
use Rattle.turn.specs.State.{Counts, Turn, Pool}

-- ---- yes and no: 0 is no

-- 0 is no, any other number yes
unfoldable pub is_yes : ℕ → Bool
is_yes n = pick (eqb n 0) false true

-- ---- the disk: 0 free, 4 failed; else an order waits: 1 an append, 2 a replace, any other number a flush

-- 0 is free, 1 an append that waits, 2 a replace, 4 failed, any other number a flush
unfoldable pub disk_kind_of : ℕ → DiskKind
disk_kind_of n =
    pick (eqb n 0) kind.Free
    (pick (eqb n 1) kind.Append
    (pick (eqb n 2) kind.Replace
    (pick (eqb n 4) kind.Failed kind.Flush)))

-- what an order is for: 0 a record, 1 the mark of a message, 3 the retry of a message, any other number none of these
unfoldable pub what_of : ℕ → What
what_of n =
    pick (eqb n 0) what.Record
    (pick (eqb n 1) what.Mark
    (pick (eqb n 3) what.Retry what.Nothing))

-- the order of a disk where one waits: an append of bytes `from` to `to`, a replace by the first `to` bytes, or a flush
abbrev pub order_by : DiskKind → DiskWords → Order
order_by kind.Free w = Flush
order_by kind.Append w = Append w.from w.to
order_by kind.Replace w = Replace w.to
order_by kind.Flush w = Flush
order_by kind.Failed w = Flush

-- the order that the words of a disk name
abbrev pub order_in : DiskWords → Order
order_in w = order_by (disk_kind_of w.disk) w

-- what it is for, with the message that a mark or a retry is for
abbrev pub order_for_of : What → ℕ → OrderFor
order_for_of what.Record id = orderFor.Record
order_for_of what.Mark id = orderFor.Mark (record { 0 = id })
order_for_of what.Nothing id = orderFor.Nothing
order_for_of what.Retry id = orderFor.Retry (record { 0 = id })

-- by the kind: free, failed, or the words' order waits, for what the words say it is for
abbrev pub disk_by : DiskKind → DiskWords → Disk
disk_by kind.Free w = disk.Free
disk_by kind.Append w = disk.Waits (order_in w) (order_for_of (what_of w.what) w.id)
disk_by kind.Replace w = disk.Waits (order_in w) (order_for_of (what_of w.what) w.id)
disk_by kind.Flush w = disk.Waits (order_in w) (order_for_of (what_of w.what) w.id)
disk_by kind.Failed w = disk.Failed

-- the disk that words mean: its kind alone says that it is free or failed
unfoldable pub disk_of : DiskWords → Disk
disk_of w = disk_by (disk_kind_of w.disk) w

-- ---- the cells

-- cells 0 to 6 are where the turn stands, as words; a cell that is not there is 0, here and below
abbrev pub where_in : List ℕ → Where
where_in c = record {
  place = get_or c 0 0;
  group = get_or c 1 0;
  key = get_or c 2 0;
  now = get_or c 3 0;
  left = get_or c 4 0;
  step = get_or c 5 0;
  more = get_or c 6 0;
}

-- cells 7 to 11 are the disk, as words
abbrev pub disk_in : List ℕ → DiskWords
disk_in c = record {
  disk = get_or c 7 0;
  from = get_or c 8 0;
  to = get_or c 9 0;
  what = get_or c 10 0;
  id = get_or c 11 0;
}

-- cell 12 is queued, 13 the dead messages, 14 the crashes, 15 whether an actor was stepped in this turn
abbrev pub counts_in : List ℕ → Counts
counts_in c = record {
  queued = get_or c 12 0;
  losses = record { dead = get_or c 13 0; crashes = get_or c 14 0 };
  stepped = is_yes (get_or c 15 0);
}

-- cells 16 to 20 are the log's counters: next, live, size, dirty, and how many records are open
abbrev pub counters_in : List ℕ → Counters
counters_in c = record {
  next = get_or c 16 0;
  live = get_or c 17 0;
  size = get_or c 18 0;
  dirty = is_yes (get_or c 19 0);
  count = get_or c 20 0;
}

-- cells 21 to 25 are the limits: how many groups, inbox, backlog, compact_at, and nanoseconds of a tick
abbrev pub limits_in : List ℕ → Limits
limits_in c = record {
  groups = get_or c 21 0;
  inbox = get_or c 22 0;
  backlog = get_or c 23 0;
  compact_at = get_or c 24 0;
  tick = get_or c 25 0;
}

-- cells 0 to 20 are the turn: where it stands, the disk, the counts, and the log's counters
abbrev pub turn_in : List ℕ → Turn
turn_in c = record {
  at = at_of (where_in c);
  disk = disk_of (disk_in c);
  counts = counts_in c;
  counters = counters_in c;
}

-- what cells mean: 0 to 20 the turn, 21 to 25 the limits, 26 whether it is closed, 27 whether the first turn was taken
unfoldable pub pool_of : List ℕ → Pool
pool_of c = record {
  turn = turn_in c;
  limits = limits_in c;
  closed = is_yes (get_or c 26 0);
  seeded = is_yes (get_or c 27 0);
}
