-- `go::go` meets its contract: by its calls and its tests. Assumes nothing.
use Rattle.turn.specs.Words.{pool_of}
use Rattle.turn.specs.Go.{go_of}
use mathlib.Core.Path.{sym, ◌∙◌}
use Rattle.std.proofs.Common.{◌≡◌, arith}
use Rattle.points.specs.declared.at.Point.TheVariants as point
use Rattle.points.specs.Words.{cursor_of, point_of}
use Rattle.turn.proofs.go.go.Goals as goal

pub returns-in-Seed-clause-went : goal.returns-in-Seed-clause-went
unfolding pool_of go_of
returns-in-Seed-clause-went c =
    let e1 = c.groups-count.ensures in
    let e3 = c.cursor_of-c.ensures in
    let h1 = sym c.from.ensures ∙ c.in-Seed.is in
    let e4 = simp (e1, e3) at c.seed-next.ensures in
    let e5 = c.stand_at.ensures in
    simp (e1, e3, ← e4, e5, h1)

pub returns-in-Intake-clause-went : goal.returns-in-Intake-clause-went
unfolding pool_of go_of
returns-in-Intake-clause-went c =
    let e1 = c.queued-queued.ensures in
    let h1 = sym c.from.ensures ∙ c.in-Intake.is in
    let e3 = c.backlog-backlog.ensures in
    let e4 = simp (e1, e3) at c.intake-next.ensures in
    let e5 = c.stand_at-in-Intake.ensures in
    simp (e1, e3, ← e4, e5, h1)

pub returns-in-Route-clause-went : goal.returns-in-Route-clause-went
unfolding pool_of go_of
returns-in-Route-clause-went c =
    let e1 = c.groups-count.ensures in
    let e2 = c.queued-queued.ensures in
    let h1 = sym c.from.ensures ∙ c.in-Route.is in
    let e4 = simp (e1, e2) at c.route-s.ensures in
    let e5 = c.queue_at.ensures in
    simp (e1, e2, ← e4, e5, h1)

pub returns-in-Wake-clause-went : goal.returns-in-Wake-clause-went
unfolding pool_of go_of
returns-in-Wake-clause-went c =
    let e1 = c.groups-count.ensures in
    let e3 = c.cursor_of-c.ensures in
    let h1 = sym c.from.ensures ∙ c.in-Wake.is in
    let e4 = simp (e1, e3) at c.wake-next.ensures in
    let e5 = c.stand_at-in-Wake.ensures in
    simp (e1, e3, ← e4, e5, h1)

pub returns-in-WakeNext-clause-went : goal.returns-in-WakeNext-clause-went
unfolding pool_of go_of
returns-in-WakeNext-clause-went c =
    let e2 = c.cursor_of-c.ensures in
    let h1 = sym c.from.ensures ∙ c.in-WakeNext.is in
    let e3 = simp (e2) at c.wake_next-next.ensures in
    let e4 = c.stand_at-in-WakeNext.ensures in
    simp (e2, ← e3, e4, h1)

pub returns-in-Ready-clause-went : goal.returns-in-Ready-clause-went
unfolding pool_of go_of
returns-in-Ready-clause-went c =
    let e1 = c.queued-queued.ensures in
    let e3 = c.cursor_of-c.ensures in
    let h1 = sym c.from.ensures ∙ c.in-Ready.is in
    let e4 = c.stepped-stepped.ensures in
    let e5 = simp (e1, e3, e4) at c.ready-s.ensures in
    let e6 = c.step_at.ensures in
    simp (e1, e3, e4, ← e5, e6, h1)

pub returns-in-FixedEnd-clause-went : goal.returns-in-FixedEnd-clause-went
unfolding pool_of go_of
returns-in-FixedEnd-clause-went c =
    let e2 = c.cursor_of-c.ensures in
    let h1 = sym c.from.ensures ∙ c.in-FixedEnd.is in
    let e3 = c.end_of-step.ensures in
    let e4 = c.fixed_end-next.ensures in
    let e5 = c.stand_at-in-FixedEnd.ensures in
    simp (e2, e3, e4, e5, h1)

pub returns-in-EvalEnd-clause-went : goal.returns-in-EvalEnd-clause-went
unfolding pool_of go_of
returns-in-EvalEnd-clause-went c =
    let e2 = c.cursor_of-c.ensures in
    let h1 = sym c.from.ensures ∙ c.in-EvalEnd.is in
    let e3 = c.end_of-step-in-EvalEnd.ensures in
    let e4 = c.eval_end-next.ensures in
    let e5 = c.stand_at-in-EvalEnd.ensures in
    simp (e2, e3, e4, e5, h1)

pub returns-in-Settle-clause-went : goal.returns-in-Settle-clause-went
unfolding pool_of go_of
returns-in-Settle-clause-went c =
    let e1 = c.queued-queued.ensures in
    let e3 = c.cursor_of-c.ensures in
    let h1 = sym c.from.ensures ∙ c.in-Settle.is in
    let e4 = c.end_of-step-in-Settle.ensures in
    let e5 = simp (e1, e3, e4) at c.settle-s.ensures in
    let e6 = c.queue_at-in-Settle.ensures in
    simp (e1, e3, e4, ← e5, e6, h1)

pub returns-in-Crash-clause-went : goal.returns-in-Crash-clause-went
unfolding pool_of go_of
returns-in-Crash-clause-went c =
    let e1 = c.queued-queued.ensures in
    let e3 = c.cursor_of-c.ensures in
    let h1 = sym c.from.ensures ∙ c.in-Crash.is in
    let e4 = c.losses-losses.ensures in
    let e5 = simp (e3, e4) at c.crash-more.ensures in
    let e6 = c.ask_trap-next.ensures in
    let e7 = c.lose_at.ensures in
    simp (e1, e3, e4, ← e5, e6, e7, h1)

pub returns-in-AskTrap-clause-went : goal.returns-in-AskTrap-clause-went
unfolding pool_of go_of
returns-in-AskTrap-clause-went c =
    let e2 = c.cursor_of-c.ensures in
    let h1 = sym c.from.ensures ∙ c.in-AskTrap.is in
    let e3 = c.trap-next.ensures in
    let e4 = c.stand_at-in-AskTrap.ensures in
    simp (e2, e3, e4, h1)

pub returns-in_default-clause-went : goal.returns-in_default-clause-went
unfolding pool_of go_of
returns-in_default-clause-went c =
    let e1 = c.queued-queued.ensures in
    let e3 = c.cursor_of-c.ensures in
    let h1 : point_of c.args.w ≡ point.CrashTrapped (cursor_of c.args.w) c.args.w.more =
    grind (arith, c.from.ensures) in
    let e4 = c.losses-losses-in_default.ensures in
    let e5 = simp (e1, e3, e4) at c.crash_trapped-s.ensures in
    let e6 = c.lose_at-in_default.ensures in
    simp (e1, e3, e4, ← e5, e6, h1)
