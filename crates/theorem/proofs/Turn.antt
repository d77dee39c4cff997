-- Every point of a turn that runs, and every reply, keeps each message in its place or moves it to another one.
-- Assumes nothing.
use Rattle.std.specs.Prelude.{Option, Some, None, ℕ}
use Prim.Native.Nat.{◌<◌}
use native.Mathlib.Omega.{arith}
use Rattle.lists.specs.Links.{Table}
use Rattle.actor.specs.declared.question.Reply.{Reply}
use Rattle.actor.specs.declared.question.Reply.TheVariants as reply
use Rattle.actor.specs.Questions.{clock_in}
use Rattle.steps.specs.declared.step.Step.{Step}
use Rattle.steps.specs.declared.fixed.FixedNext.{FixedNext}
use Rattle.steps.specs.declared.fixed.FixedNext.TheVariants as fixed
use Rattle.steps.specs.StepFixed.{FixedBoth}
use Rattle.steps.specs.StepEval.{EvalBoth, step_eval}
use Rattle.points.specs.declared.at.Ask.{Ask}
use Rattle.points.specs.declared.at.Ask.TheVariants as asks
use Rattle.points.specs.declared.at.Point.{Point}
use Rattle.points.specs.declared.at.Point.TheVariants as point
use Rattle.points.specs.declared.at.Cursor.{Cursor}
use Rattle.points.specs.At.{fixed_after}
use Rattle.group.specs.Roster.{slot_at}
use Rattle.turn.specs.State.{State}
use Rattle.turn.specs.Go.{go_of}
use Rattle.turn.specs.Resume.{clock_by, clock_reply, sends_reply, fixed_stepped, eval_stepped, limit_of, resume_of}
use Rattle.theorem.specs.Places.{Sound, Keeps, NextFull}
use Rattle.theorem.proofs.PlaceMoves.{same_keeps}
use Rattle.theorem.proofs.Steps.{FixedKeeps, fixed_keeps, eval_keeps}
use Rattle.theorem.specs.Keeping.{BetweenSteps, AskOk, PointOk}
use Rattle.theorem.proofs.Routing.{seed_between, seed_reply_between, intake_keeps, intake_between, route_keeps}
use Rattle.theorem.proofs.Routing.{route_between, route_reply_keeps, route_reply_between}
use Rattle.theorem.proofs.Ticking as tick
use Rattle.steps.specs.Steps.{step_tables}

-- the messages of a state are sound, with what its counts say is queued
abbrev pub StateSound : State → Type 0
StateSound s = Sound s.links s.rows s.pool.turn.counts.queued

-- from one state to another: the messages are kept, and the second stands at a point that fits
pub record StateKeeps (s s' : State) : Type 0 where
  pub keeps : Keeps s.links s.rows s'.links s'.rows s'.pool.turn.counts.queued
  pub ok : PointOk s'.pool.turn.at s'.links

-- where the messages are kept and no step is under way, the point fits
between_keeps : {s s' : State} → Keeps s.links s.rows s'.links s'.rows s'.pool.turn.counts.queued
    → BetweenSteps s'.pool.turn.at → StateKeeps s s'
between_keeps {s' = s'} keeps between =
    record { keeps = keeps; ok = tick.between_ok s'.pool.turn.at s'.links between }

-- no message moved
stay : (s : State) → StateSound s → Keeps s.links s.rows s.links s.rows s.pool.turn.counts.queued
stay s sound = same_keeps s.links s.rows s.pool.turn.counts.queued sound

-- ---- points that run

pub go_keeps : (s : State) (p : Point) → StateSound s → StateKeeps s (go_of s p)
unfolding go_of
go_keeps s (point.Seed g) sound =
    between_keeps (stay s sound) (seed_between s.groups s.pool.limits.groups s.keys s.actors g)
go_keeps s (point.Intake left) sound =
    between_keeps
    (intake_keeps s.links s.rows s.pool.turn.counts.queued s.pool.limits.backlog left sound)
    (intake_between s.links s.pool.turn.counts.queued s.pool.limits.backlog left)
go_keeps s (point.Route left) sound =
    between_keeps
    (route_keeps s.groups s.pool.limits.groups s.store s.links s.rows s.keys s.actors
    s.pool.turn.counts.queued left sound)
    (route_between s.groups s.pool.limits.groups s.store s.links s.rows s.keys s.actors
    s.pool.turn.counts.queued left)
go_keeps s (point.Wake g clock) sound =
    between_keeps (stay s sound) (tick.wake_between s.keys s.pool.limits.groups g clock)
go_keeps s (point.WakeNext g clock left) sound =
    between_keeps (stay s sound) (tick.wake_next_between s.keys s.actors g clock left)
go_keeps s (point.Ready g clock pops) sound =
    record {
      keeps = tick.ready_keeps s.links s.rows s.keys s.actors s.pool.turn.counts.queued
          s.pool.turn.counts.stepped g clock pops sound;
      ok = tick.ready_ok s.links s.keys s.actors s.pool.turn.counts.queued
          s.pool.turn.counts.stepped g clock pops;
    }
go_keeps s (point.StepEnd c e) sound = record { keeps = stay s sound; ok = tick.step_end_ok s.links c e }
go_keeps s (point.Settle c step) sound =
    record {
      keeps = tick.settle_keeps s.links s.rows s.keys s.actors c step s.pool.turn.counts.queued
          sound;
      ok = tick.settle_ok _ s.links s.rows s.keys s.actors c step s.pool.turn.counts.queued;
    }
go_keeps s (point.Crash c) sound =
    between_keeps
    (tick.crash_keeps s.groups s.links s.rows c s.pool.turn.counts.losses
    s.pool.turn.counts.queued sound)
    (omega arith)
go_keeps s (point.AskTrap c) sound = between_keeps (stay s sound) (omega arith)
go_keeps s (point.CrashTrapped c left) sound =
    between_keeps
    (tick.crash_trapped_keeps s.groups s.links s.rows s.keys c left s.pool.turn.counts.queued
    s.pool.turn.counts.losses sound)
    (tick.crash_trapped_between s.groups s.links s.rows s.keys c left s.pool.turn.counts.queued
    s.pool.turn.counts.losses)

-- ---- replies

-- the clock begins no step of an actor, and nor does the end of what was sent
clock_between : (c : Option ℕ) → BetweenSteps (clock_by c)
clock_between (Some ns) = omega arith
clock_between None = omega arith

pub clock_reply_between : (r : Reply) → BetweenSteps (clock_reply r)
unfolding clock_reply
clock_reply_between r = clock_between (clock_in r)

sends_reply_ok : (t : Table) (c : Cursor) (s : Step) (r : Reply) → PointOk (sends_reply c s r) t
unfolding sends_reply
sends_reply_ok t c s reply.Yes = omega arith
sends_reply_ok t c s reply.No = omega arith
sends_reply_ok t c s (reply.Clock ns) = omega arith
sends_reply_ok t c s (reply.Count n) = omega arith
sends_reply_ok t c s (reply.Ran x) = omega arith
sends_reply_ok t c s reply.Message = omega arith
sends_reply_ok t c s reply.End = omega arith
sends_reply_ok t c s reply.Told = omega arith
sends_reply_ok t c s reply.Stored = omega arith
sends_reply_ok t c s reply.Failed = omega arith

-- the next point of a step: it is still of an actor that there can be, or the step ended
module _ (c : Cursor) (slot_is : slot_at c.group c.key < 128) where
  fixed_after_ok : (t : Table) (n : FixedNext) → NextFull n t → PointOk (fixed_after c n) t
  fixed_after_ok t (fixed.Asks a) full = (slot_is, full)
  fixed_after_ok t (fixed.Ended s) full = full

  fixed_resumes : (s : State) (d : FixedBoth) → FixedKeeps s.links s.rows d → StateKeeps s (fixed_stepped s c d)
  fixed_resumes s d next =
      record { keeps = next.keeps; ok = fixed_after_ok d.links d.step.next next.full }

  eval_resumes : (s : State) (d : EvalBoth)
      → Keeps s.links s.rows d.links s.rows s.pool.turn.counts.queued
      → StateKeeps s (eval_stepped s c d)
  eval_resumes s d keeps = record { keeps = keeps; ok = tick.eval_ok d.links c slot_is d.next }

pub resume_keeps : (s : State) (a : Ask) (r : Reply) → StateSound s → AskOk a s.links
    → StateKeeps s (resume_of s a r)
unfolding resume_of
resume_keeps s (asks.SeedBoot g) r sound ok =
    between_keeps (stay s sound) (seed_reply_between s.keys s.actors g r)
resume_keeps s (asks.RouteBoot g left) r sound ok =
    between_keeps
    (route_reply_keeps s.links s.rows s.keys s.actors g s.pool.turn.counts.queued left r sound)
    (route_reply_between s.links s.rows s.keys s.actors g s.pool.turn.counts.queued left r)
resume_keeps s asks.TickClock r sound ok = between_keeps (stay s sound) (clock_reply_between r)
resume_keeps s (asks.WakePoll g k clock left) r sound ok =
    between_keeps (stay s sound) (tick.poll_reply_between s.keys s.actors g k clock left r)
resume_keeps s (asks.Fixed c a) r sound (slot_is, full) =
    fixed_resumes c slot_is s _
    (fixed_keeps s.links s.rows s.actors s.pool.turn.counts.queued (slot_at c.group c.key) sound
    slot_is a full r)
resume_keeps s (asks.Eval c a) r sound slot_is =
    eval_resumes c slot_is s
    (step_eval (step_tables s.links s.rows s.actors) (slot_at c.group c.key) (limit_of s c) a r)
    (eval_keeps s.links s.rows s.actors s.pool.turn.counts.queued (slot_at c.group c.key) sound
    slot_is (limit_of s c) a r)
resume_keeps s (asks.Sends c step) r sound ok =
    record { keeps = stay s sound; ok = sends_reply_ok s.links c step r }
resume_keeps s (asks.Trap c) r sound ok = between_keeps (stay s sound) (tick.trap_reply_between s.keys c r)
resume_keeps s (asks.Trapped c k) r sound ok =
    between_keeps (stay s sound) (tick.trapped_reply_between s.keys c k r)
