-- Every point of a turn that runs, and every reply, keeps the invariant of who holds messages. Assumes nothing.
use Prim.Native.Nat.{◌≤◌}
use native.Mathlib.Omega.{arith}
use Rattle.lists.specs.Links.{Table}
use Rattle.lists.specs.Family.{Good}
use Rattle.actor.specs.declared.question.Reply.{Reply}
use Rattle.actor.specs.declared.question.Reply.TheVariants as reply
use Rattle.steps.specs.declared.step.Step.{Step}
use Rattle.steps.specs.declared.step.Step.TheVariants as step
use Rattle.steps.specs.declared.step.End.{End}
use Rattle.steps.specs.declared.step.End.TheVariants as end
use Rattle.steps.specs.declared.fixed.FixedAsk.{FixedAsk}
use Rattle.steps.specs.declared.fixed.FixedAsk.TheVariants as fixed
use Rattle.steps.specs.declared.eval.EvalAsk.{EvalAsk}
use Rattle.steps.specs.declared.eval.EvalAsk.TheVariants as eval
use Rattle.steps.specs.StepFixed.{FixedBoth}
use Rattle.steps.specs.StepEval.{EvalBoth}
use Rattle.points.specs.declared.at.At.{At}
use Rattle.points.specs.declared.at.At.TheVariants as at
use Rattle.points.specs.declared.at.Ask.{Ask}
use Rattle.points.specs.declared.at.Ask.TheVariants as asks
use Rattle.points.specs.declared.at.Point.{Point}
use Rattle.points.specs.declared.at.Point.TheVariants as point
use Rattle.points.specs.declared.at.Cursor.{Cursor}
use Rattle.turn.specs.State.{State}
use Rattle.turn.specs.Go.{go_of}
use Rattle.turn.specs.Resume.{sends_reply, fixed_stepped, eval_stepped, limit_of, resume_of}
use Rattle.theorem.specs.Keeping.{AskBetween, PointBetween, BetweenSteps}
use Rattle.theorem.specs.Living.{step_hand, Lives, StepHands, EndHands, FixedHands, EvalHands, Lively}
use Rattle.theorem.specs.Living.{PointLives, AskLives, AtLives}
use Rattle.theorem.proofs.Routing.{seed_between, seed_reply_between, intake_between, route_between}
use Rattle.theorem.proofs.Routing.{route_reply_between}
use Rattle.theorem.proofs.Ticking as tick
use Rattle.theorem.proofs.Turn.{clock_reply_between}
use Rattle.theorem.proofs.Living.{less_lives, less_hand, same_lives}
use Rattle.theorem.proofs.LivingSteps.{FixedLives, fixed_lives, EvalLives, eval_lives}
use Rattle.theorem.proofs.LivingRouting.{seed_lives, seed_reply_lives, intake_less, route_rests}
use Rattle.theorem.proofs.LivingRouting.{route_reply_rests}
use Rattle.theorem.proofs.LivingTicking.{Stands, fixed_after_lives, eval_after_lives, wake_same, wake_next_same}
use Rattle.theorem.proofs.LivingTicking.{poll_same, trap_same, trapped_same, ready_stands, step_end_lives}
use Rattle.theorem.proofs.LivingTicking.{settle_stands, crash_lives, crash_hand, crash_trapped_stands}

-- ---- between steps the step's hand is empty

module _ (t keys actors : Table) (h : step_hand t ≤ 0) where
  ask_between : (a : Ask) → AskBetween a → AskLives a t keys actors
  ask_between (asks.SeedBoot g) between = h
  ask_between (asks.RouteBoot g left) between = h
  ask_between asks.TickClock between = h
  ask_between (asks.WakePoll g k clock left) between = h
  ask_between (asks.Fixed c a) between = absurd between
  ask_between (asks.Eval c a) between = absurd between
  ask_between (asks.Sends c s) between = absurd between
  ask_between (asks.Trap c) between = h
  ask_between (asks.Trapped c k) between = h

  point_between : (p : Point) → PointBetween p → PointLives p t
  point_between (point.Seed g) between = h
  point_between (point.Intake left) between = h
  point_between (point.Route left) between = h
  point_between (point.Wake g clock) between = h
  point_between (point.WakeNext g clock left) between = h
  point_between (point.Ready g clock pops) between = h
  point_between (point.StepEnd c e) between = absurd between
  point_between (point.Settle c s) between = absurd between
  point_between (point.Crash c) between = absurd between
  point_between (point.AskTrap c) between = h
  point_between (point.CrashTrapped c left) between = h

  between_lives : (a : At) → BetweenSteps a → AtLives a t keys actors
  between_lives at.Rest between = h
  between_lives (at.Asks a) between = ask_between a between
  between_lives (at.Runs p) between = point_between p between

-- ---- at every point the step's hand holds at most one message

module _ (t : Table) (c : Cursor) where
  step_few : (s : Step) → StepHands c s t → step_hand t ≤ 1
  step_few step.Done (h, e) = omega arith
  step_few (step.Parked p) h = omega arith
  step_few step.Failed (h, e) = h

  end_few : (e : End) → EndHands c e t → step_hand t ≤ 1
  end_few (end.Fixed s) h = step_few s h
  end_few (end.Eval p) h = omega arith

  fixed_few : (a : FixedAsk) → FixedHands c a t → step_hand t ≤ 1
  fixed_few (fixed.Run start) h = omega arith
  fixed_few fixed.Drain (h, e) = omega arith
  fixed_few fixed.Push (h, e) = h
  fixed_few fixed.Dispatch h = omega arith

  eval_few : (a : EvalAsk) → EvalHands c a t → step_hand t ≤ 1
  eval_few eval.Clock h = omega arith
  eval_few eval.Boot (h, e) = h
  eval_few eval.StartClock (h, e) = h
  eval_few (eval.Run start) h = omega arith
  eval_few eval.Dispatch h = omega arith
  eval_few (eval.Tell o) h = h

module _ (t : Table) where
  ask_few : (keys actors : Table) (a : Ask) → AskLives a t keys actors → step_hand t ≤ 1
  ask_few keys actors (asks.SeedBoot g) h = omega arith
  ask_few keys actors (asks.RouteBoot g left) h = omega arith
  ask_few keys actors asks.TickClock h = omega arith
  ask_few keys actors (asks.WakePoll g k clock left) h = omega arith
  ask_few keys actors (asks.Fixed c a) (live, h) = fixed_few t c a h
  ask_few keys actors (asks.Eval c a) (live, h) = eval_few t c a h
  ask_few keys actors (asks.Sends c s) h = step_few t c s h
  ask_few keys actors (asks.Trap c) h = omega arith
  ask_few keys actors (asks.Trapped c k) h = omega arith

  point_few : (p : Point) → PointLives p t → step_hand t ≤ 1
  point_few (point.Seed g) h = omega arith
  point_few (point.Intake left) h = omega arith
  point_few (point.Route left) h = omega arith
  point_few (point.Wake g clock) h = omega arith
  point_few (point.WakeNext g clock left) h = omega arith
  point_few (point.Ready g clock pops) h = omega arith
  point_few (point.StepEnd c e) h = end_few t c e h
  point_few (point.Settle c s) h = step_few t c s h
  point_few (point.Crash c) h = h
  point_few (point.AskTrap c) h = omega arith
  point_few (point.CrashTrapped c left) h = omega arith

pub few_hand : (a : At) (t keys actors : Table) → AtLives a t keys actors → step_hand t ≤ 1
few_hand at.Rest t keys actors h = omega arith
few_hand (at.Asks a) t keys actors h = ask_few t keys actors a h
few_hand (at.Runs p) t keys actors h = point_few t p h

-- ---- states

-- who holds messages in a state
abbrev pub StateLives : State → Type 0
StateLives s = Lives s.links s.keys s.actors

-- the same, and the state stands at a point that fits
abbrev pub StateStands : State → Type 0
StateStands s = Stands s.pool.turn.at s.links s.keys s.actors

-- between steps every point fits where the step's hand is empty
between_stands : {a : At} {t keys actors : Table} → Lives t keys actors → BetweenSteps a → step_hand t ≤ 0
    → Stands a t keys actors
between_stands {a = a} {t = t} {keys = keys} {actors = actors} l between h =
    record { lives = l; ok = between_lives t keys actors h a between }

-- ---- points that run

pub go_lives : (s : State) (p : Point) → Good s.links → StateLives s → PointLives p s.links
    → StateStands (go_of s p)
unfolding go_of
go_lives s (point.Seed g) good l h =
    between_stands (seed_lives s.links s.keys s.actors l s.groups s.pool.limits.groups g)
    (seed_between s.groups s.pool.limits.groups s.keys s.actors g) h
go_lives s (point.Intake left) good l h =
    let less = intake_less s.links good s.pool.turn.counts.queued s.pool.limits.backlog left in
    between_stands (less_lives s.links _ s.keys s.actors less l)
    (intake_between s.links s.pool.turn.counts.queued s.pool.limits.backlog left)
    (less_hand s.links _ less 0 h)
go_lives s (point.Route left) good l h =
    let went = route_rests s.links good h s.rows s.pool.turn.counts.queued left s.groups
    s.pool.limits.groups s.store s.keys s.actors l in
    between_stands went.lives
    (route_between s.groups s.pool.limits.groups s.store s.links s.rows s.keys s.actors
    s.pool.turn.counts.queued left)
    went.free
go_lives s (point.Wake g clock) good l h =
    between_stands (same_lives (wake_same s.keys s.actors s.pool.limits.groups g clock) l)
    (tick.wake_between s.keys s.pool.limits.groups g clock) h
go_lives s (point.WakeNext g clock left) good l h =
    between_stands (same_lives (wake_next_same s.keys s.actors g clock left) l)
    (tick.wake_next_between s.keys s.actors g clock left) h
go_lives s (point.Ready g clock pops) good l h =
    ready_stands s.links s.keys s.actors good l h s.pool.turn.counts.queued
    s.pool.turn.counts.stepped g clock pops
go_lives s (point.StepEnd c e) good l h =
    record { lives = l; ok = step_end_lives s.links s.keys s.actors c e h }
go_lives s (point.Settle c step) good l h =
    settle_stands s.links s.rows s.keys s.actors good l c s.pool.turn.counts.queued step h
go_lives s (point.Crash c) good l h =
    record {
      lives = crash_lives s.groups s.links s.rows s.keys s.actors good l c
          s.pool.turn.counts.losses;
      ok = crash_hand s.groups s.links s.rows good h c s.pool.turn.counts.losses;
    }
go_lives s (point.AskTrap c) good l h = record { lives = l; ok = h }
go_lives s (point.CrashTrapped c left) good l h =
    let went = crash_trapped_stands s.groups s.links s.rows s.keys s.actors good l h c left
    s.pool.turn.counts.queued s.pool.turn.counts.losses in
    between_stands went.0
    (tick.crash_trapped_between s.groups s.links s.rows s.keys c left s.pool.turn.counts.queued
    s.pool.turn.counts.losses)
    went.1

-- ---- replies

sends_lives : (t keys actors : Table) (c : Cursor) (s : Step) (r : Reply) → StepHands c s t
    → AtLives (sends_reply c s r) t keys actors
unfolding sends_reply
sends_lives t keys actors c s reply.Yes h = h
sends_lives t keys actors c s reply.No h = h
sends_lives t keys actors c s (reply.Clock ns) h = h
sends_lives t keys actors c s (reply.Count n) h = h
sends_lives t keys actors c s (reply.Ran x) h = h
sends_lives t keys actors c s reply.Message h = h
sends_lives t keys actors c s reply.End h = h
sends_lives t keys actors c s reply.Told h = h
sends_lives t keys actors c s reply.Stored h = h
sends_lives t keys actors c s reply.Failed h = h

-- a step is at its next point, or ended
module _ (s : State) (c : Cursor) (live : Lively s.keys c) where
  fixed_resumes : (d : FixedBoth) → FixedLives s.keys c d → StateStands (fixed_stepped s c d)
  fixed_resumes d next =
      record {
        lives = next.lives;
        ok = fixed_after_lives d.links s.keys d.actors c d.step.next live next.is_fixed
            next.hands;
      }

  eval_resumes : (d : EvalBoth) → EvalLives s.keys c d → StateStands (eval_stepped s c d)
  eval_resumes d next =
      record {
        lives = next.lives;
        ok = eval_after_lives d.links s.keys d.actors c d.next live next.hands;
      }

pub resume_lives : (s : State) (a : Ask) (r : Reply) → Good s.links → StateLives s
    → AskLives a s.links s.keys s.actors → StateStands (resume_of s a r)
unfolding resume_of
resume_lives s (asks.SeedBoot g) r good l h =
    between_stands (seed_reply_lives s.links s.keys s.actors l g r)
    (seed_reply_between s.keys s.actors g r) h
resume_lives s (asks.RouteBoot g left) r good l h =
    let went = route_reply_rests s.links good h s.rows s.pool.turn.counts.queued left s.keys
    s.actors l g r in
    between_stands went.lives
    (route_reply_between s.links s.rows s.keys s.actors g s.pool.turn.counts.queued left r)
    went.free
resume_lives s asks.TickClock r good l h = between_stands l (clock_reply_between r) h
resume_lives s (asks.WakePoll g k clock left) r good l h =
    between_stands (same_lives (poll_same s.keys s.actors g k clock left r) l)
    (tick.poll_reply_between s.keys s.actors g k clock left r) h
resume_lives s (asks.Fixed c a) r good l ((live, is), h) =
    fixed_resumes s c live _
    (fixed_lives s.links s.rows s.keys s.actors s.pool.turn.counts.queued good l c live is a h r)
resume_lives s (asks.Eval c a) r good l (live, h) =
    eval_resumes s c live _
    (eval_lives s.links s.rows s.keys s.actors good l c live (limit_of s c) a h r)
resume_lives s (asks.Sends c step) r good l h =
    record { lives = l; ok = sends_lives s.links s.keys s.actors c step r h }
resume_lives s (asks.Trap c) r good l h =
    between_stands (same_lives (trap_same s.keys s.actors c r) l) (tick.trap_reply_between s.keys c r) h
resume_lives s (asks.Trapped c k) r good l h =
    between_stands (same_lives (trapped_same s.keys s.actors c k r) l)
    (tick.trapped_reply_between s.keys c k r) h
