-- What holds between two calls, and between two points of a turn: the invariant behind the theorem.
use mathlib.Core.Path.{◌≡◌}
use mathlib.Core.List.{List}
use Prim.Native.Nat.{ℕ, ◌+◌, ◌≤◌, ◌<◌}
use Rattle.lists.specs.Family.{count}
use Rattle.message_log.specs.declared.LogId.{LogId}
use Rattle.message_log.specs.declared.Order.{Order}
use Rattle.message_log.specs.Opening.{remove, retried}
use Rattle.message_log.specs.Recovery as disk
use Rattle.message_log.proofs.RecoveryLaws as log
use Rattle.actor.specs.Messages.{message_at}
use Rattle.turn.specs.declared.state.OrderFor.{OrderFor}
use Rattle.turn.specs.declared.state.OrderFor.TheVariants as orderFor
use Rattle.turn.specs.declared.state.Disk.{Disk}
use Rattle.turn.specs.declared.state.Disk.TheVariants as order
use Rattle.turn.specs.declared.state.Limits.{Limits}
use Rattle.turn.specs.State.{State, wal_of}
use Rattle.theorem.specs.Places.{stands}
use Rattle.theorem.specs.Keeping.{PointOk}
use Rattle.theorem.specs.Living.{AtLives}
use Rattle.theorem.proofs.Turn.{StateSound}
use Rattle.theorem.proofs.LivingTurn.{StateLives}
use Rattle.theorem.specs.Handing.{ids_of, AllTried}
use Rattle.theorem.specs.Rail.{World, KeepsTail, LastTried}

-- the pool's disk and the journal's say the same
abbrev pub Agrees : Disk → disk.Status → List ℕ → Type 0
Agrees order.Free status bytes = status ≡ disk.settled
Agrees (order.Waits o for) status bytes = status ≡ disk.waits (disk.sent bytes o)
Agrees order.Failed status bytes = (s : disk.Sent) × (status ≡ disk.lost s)

-- the ids logged: each once, each below the next id, each open or done
pub record Ledger (j : disk.LogWorld) (next : ℕ) (logged done : List ℕ) : Type 0 where
  -- the world's next id is the log's
  pub next_is : next ≡ j.wal.counters.next
  pub adds : (x : ℕ) → count x (ids_of j.now) + count x done ≡ count x logged
  pub once : (x : ℕ) → count x logged ≤ 1
  pub below : (x : ℕ) → 0 < count x logged → x < j.wal.counters.next

-- a state with the journal beside it: sound lists; each id stands as often as it is logged and not done; who holds a
-- message lives; no message has more attempts in the log than in its row; the log of the journal; the disk
pub record Working (long : ℕ) (j : disk.LogWorld) (s : State) : Type 0 where
  pub sound : StateSound s
  pub ids : (x : ℕ) → stands x s.links s.rows ≡ count x (ids_of j.now)
  pub ok : PointOk s.pool.turn.at s.links
  pub lives : StateLives s
  pub here : AtLives s.pool.turn.at s.links s.keys s.actors
  pub tried : AllTried s.links s.rows j.now
  pub wal : j.wal ≡ wal_of s
  pub agrees : Agrees s.pool.turn.disk j.disk.status s.bytes
  pub journal : log.Sound long j

-- the journal after the order of a mark
abbrev pub marked_off : disk.LogWorld → State → Order → LogId → disk.LogWorld
marked_off j s o id = disk.issue j (wal_of s) (remove id.0 j.now) (disk.sent s.bytes o)

-- the journal after the order of a retry
abbrev pub retried_as : disk.LogWorld → State → Order → LogId → ℕ → disk.LogWorld
retried_as j s o id n = disk.issue j (wal_of s) (retried id.0 n j.now) (disk.sent s.bytes o)

-- the log's bytes at and after its size are those given
abbrev pub TailKept : List ℕ → State → Type 0
TailKept bytes s = KeepsTail s.pool.turn.counters.size bytes s.bytes

-- how a run ended: with no order, or with the mark or the retry of a message that was logged and not done, the log's
-- bytes behind its new size as they were
pub data Runs (long : ℕ) (j : disk.LogWorld) (s : State) : Type 0 where
  still : s.pool.turn.disk ≡ order.Free → Working long j s → Runs long j s
  marks : (o : Order) (id : LogId) → s.pool.turn.disk ≡ order.Waits o (orderFor.Mark id)
      → 0 < count id.0 (ids_of j.now) → s.pool.turn.counters.next ≡ j.wal.counters.next
      → TailKept j.wal.bytes s → Working long (marked_off j s o id) s → Runs long j s
  tries : (o : Order) (for : OrderFor) (l : LastTried s j.now) → s.pool.turn.disk ≡ order.Waits o for
      → s.pool.turn.counters.next ≡ j.wal.counters.next → TailKept j.wal.bytes s
      → Working long (retried_as j s o l.id (message_at s.rows l.entry).attempts) s → Runs long j s

-- what holds after every list of calls
pub record Steady (long : ℕ) (limits : Limits) (w : World) : Type 0 where
  pub works : Working long w.journal w.state
  pub ledger : Ledger w.journal w.next w.logged w.done
  pub limits_are : w.state.pool.limits ≡ limits
