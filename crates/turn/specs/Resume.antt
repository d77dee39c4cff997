-- A reply to the turn's question leads to the next point or question; one of another kind leaves it open.
use Rattle.std.specs.Prelude.{Option, Some, None, ℕ}
use Rattle.actor.specs.declared.question.Reply.{Reply}
use Rattle.actor.specs.declared.question.Reply.TheVariants as reply
use Rattle.actor.specs.Questions.{clock_in}
use Rattle.steps.specs.declared.step.Step.{Step}
use Rattle.steps.specs.declared.eval.Limit.{Limit}
use Rattle.steps.specs.Steps.{step_tables}
use Rattle.steps.specs.StepFixed.{FixedBoth, step_fixed}
use Rattle.steps.specs.StepEval.{EvalBoth, step_eval}
use Rattle.points.specs.declared.at.At.{At}
use Rattle.points.specs.declared.at.At.TheVariants as at
use Rattle.points.specs.declared.at.Ask.{Ask}
use Rattle.points.specs.declared.at.Ask.TheVariants as asks
use Rattle.points.specs.declared.at.Point.TheVariants as point
use Rattle.points.specs.declared.at.Cursor.{Cursor}
use Rattle.points.specs.At.{who_of, fixed_after, eval_after}
use Rattle.group.specs.Settings.{group_at}
use Rattle.group.specs.Roster.{keyed, slot_on}
use Rattle.route.specs.Seed.{seed_reply}
use Rattle.route.specs.Batch.{route_reply}
use Rattle.tick.specs.Waking.{poll_reply}
use Rattle.tick.specs.Crash.{trap_reply, trapped_reply}
use Rattle.turn.specs.State.{State, with_pool, with_links, with_actors, stood_at, queued_at}
use Rattle.turn.specs.Go.{seeded, routed, listed, waked, tables_of}

-- the tick's clock: the waiting actors of the first group are looked at
abbrev pub clock_by : Option ℕ → At
clock_by (Some ns) = at.Runs (point.Wake 0 ns)
clock_by None = at.Asks asks.TickClock

-- a clock wakes the first group with it; after any other reply Clock is still open
unfoldable pub clock_reply : Reply → At
clock_reply r = clock_by (clock_in r)

-- the end of what was sent; each message that was sent is kept, and Sends asked again
unfoldable pub sends_reply : Cursor → Step → Reply → At
sends_reply c s reply.Yes = at.Asks (asks.Sends c s)
sends_reply c s reply.No = at.Asks (asks.Sends c s)
sends_reply c s (reply.Clock ns) = at.Asks (asks.Sends c s)
sends_reply c s (reply.Count n) = at.Asks (asks.Sends c s)
sends_reply c s (reply.Ran x) = at.Asks (asks.Sends c s)
sends_reply c s reply.Message = at.Asks (asks.Sends c s)
sends_reply c s reply.End = at.Runs (point.Settle c s)
sends_reply c s reply.Told = at.Asks (asks.Sends c s)
sends_reply c s reply.Stored = at.Asks (asks.Sends c s)
sends_reply c s reply.Failed = at.Asks (asks.Sends c s)

-- ---- the state with what a step of an actor changed

-- a reply in a fixed actor's step changes lists of messages, actors, queued, and where the turn stands
abbrev pub fixed_stepped : State → Cursor → FixedBoth → State
fixed_stepped s c d =
    with_actors
    (with_links (with_pool s (queued_at s.pool (fixed_after c d.step.next) d.step.queued)) d.links)
    d.actors

-- a reply in an eval actor's step changes lists of messages, actors, and where the turn stands
abbrev pub eval_stepped : State → Cursor → EvalBoth → State
eval_stepped s c d =
    with_actors (with_links (with_pool s (stood_at s.pool (eval_after c d.next))) d.links) d.actors

-- the time limit of an eval actor's run: the group's timeout, and the length of a tick, to which a deadline is rounded
abbrev pub limit_of : State → Cursor → Limit
limit_of s c = record { timeout = (group_at s.groups c.group).timeout; tick = s.pool.limits.tick }

-- ---- the questions

-- the state after a reply to the turn's question, by that question's own definition; what that leaves out is as it was
unfoldable pub resume_of : State → Ask → Reply → State
resume_of s (asks.SeedBoot g) r = seeded s (seed_reply s.keys s.actors g r)
resume_of s (asks.RouteBoot g left) r = routed s (route_reply s.rows (tables_of s) g left r)
resume_of s asks.TickClock r = with_pool s (stood_at s.pool (clock_reply r))
resume_of s (asks.WakePoll g k clock left) r =
    waked s (poll_reply (keyed s.keys s.actors) (who_of g k) clock left r)
resume_of s (asks.Fixed c a) r =
    fixed_stepped s c
    (step_fixed (step_tables s.links s.rows s.actors) (slot_on c) s.pool.turn.counts.queued a r)
resume_of s (asks.Eval c a) r =
    eval_stepped s c (step_eval (step_tables s.links s.rows s.actors) (slot_on c) (limit_of s c) a r)
resume_of s (asks.Sends c step) r = with_pool s (stood_at s.pool (sends_reply c step r))
resume_of s (asks.Trap c) r = listed s (trap_reply s.keys c r)
resume_of s (asks.Trapped c k) r = listed s (trapped_reply s.keys c k r)
