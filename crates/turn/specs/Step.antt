-- A step of a turn, and the turn as far as it runs by itself.
use Rattle.std.specs.Prelude.{ℕ, zero, suc, Option, Some, None}
use Rattle.lists.specs.Links.{pick, FREE, first_of, move_first, OVER}
use Rattle.message_log.specs.declared.LogId.{LogId}
use Rattle.message_log.specs.Log.{DidMark, mark_of}
use Rattle.actor.specs.Messages.{message_at}
use Rattle.points.specs.declared.at.At.{At}
use Rattle.points.specs.declared.at.At.TheVariants as at
use Rattle.points.specs.declared.at.Point.{Point}
use Rattle.turn.specs.declared.state.OrderFor.TheVariants as orderFor
use Rattle.turn.specs.State.{State, wal_of, with_links, with_due, is_free, marks_at, running_of}
use Rattle.turn.specs.Retry.{ran_of}
use Rattle.turn.specs.Weight.{weight_of}

-- ---- marks

-- a mark in the log: its order waits, if one was due
abbrev pub marked : State → LogId → DidMark → State
marked s id d = with_due s d (orderFor.Mark id)

-- a message that was logged gets its mark
unfoldable pub mark_logged : State → Option LogId → State
mark_logged s (Some id) = marked s id (mark_of s.pool.limits.compact_at (wal_of s) id.0)
mark_logged s None = s

-- the entry found first in over is free again, and its message gets its mark if it was logged; else nothing changes
abbrev pub mark_entry : State → Option ℕ → State
mark_entry s (Some e) = mark_logged (with_links s (move_first s.links OVER FREE)) (message_at s.rows e).id
mark_entry s None = s

-- the first message that is over: its entry is free, and its mark is ordered
unfoldable pub mark_first : State → State
mark_first s = mark_entry s (first_of s.links OVER)

-- ---- a step

-- what is over gets its mark first, at the points that say so
abbrev pub mark_at : State → Point → State
mark_at s p = pick (marks_at p) (mark_first s) s

-- the point runs, and what it tried again is written, unless an order waits or failed
abbrev pub go_free : State → Point → State
go_free s p = pick (is_free s.pool.turn.disk) (ran_of s p) s

-- at a point the first message that is over gets its mark, if the point has marks, and then the point runs, if the
-- disk is free; at rest and at a question nothing changes
abbrev pub step_at : State → At → State
step_at s at.Rest = s
step_at s (at.Asks a) = s
step_at s (at.Runs p) = go_free (mark_at s p) p

-- one step of the turn, from where it stands: one mark at most, and then the point, unless an order waits
unfoldable pub turn_step : State → State
turn_step s = step_at s s.pool.turn.at

-- ---- the loop

-- at most n steps
unfoldable pub advance_of : ℕ → State → State
advance_of zero s = s
advance_of (suc n) s = pick (running_of s.pool) (advance_of n (turn_step s)) s

-- as far as it runs by itself: the weight is at least as much as the steps that are left (`Advances`, in specs/Advance,
-- says what this is without a weight)
unfoldable pub advanced : State → State
advanced s = advance_of (weight_of s.pool.turn) s
