-- A sync by what the log had due: its order waits, or the pool is as it was.
use Rattle.std.specs.Prelude.{Some, None}
use Rattle.message_log.specs.declared.Order.{Order}
use mathlib.Core.Path.{◌≡◌, ap}
use Rattle.message_log.specs.declared.Counters.{Counters}
use Rattle.message_log.specs.Log.{AnsweredDue}
use Rattle.message_log.specs.Log as log
use Rattle.turn.specs.declared.state.OrderFor.TheVariants as orderFor
use Rattle.turn.specs.declared.state.Disk.TheVariants as disk
use Rattle.turn.specs.State.{State, with_pool, with_disk}
use Rattle.answers.specs.Answers.{Did, shown}
use Rattle.pool.specs.Calls.{synced_by, sync_effect, sync_did}

module _ (s : State) (n : Counters) where
  abbrev showing : AnsweredDue → Did
  showing d = shown (with_pool s (synced_by s.pool d))

  pub sync_due : (o : Order) → ◌≡◌ {A = AnsweredDue} (record { counters = n; due = Some o }) (log.sync_log s.pool.turn.counters)
      → shown (with_pool s (with_disk s.pool n (disk.Waits o orderFor.Nothing))) ≡ sync_did s
  unfolding sync_effect synced_by
  sync_due o did = ap showing did

  pub sync_none : ◌≡◌ {A = AnsweredDue} (record { counters = n; due = None }) (log.sync_log s.pool.turn.counters)
      → shown s ≡ sync_did s
  unfolding sync_effect synced_by
  sync_none did = ap showing did
