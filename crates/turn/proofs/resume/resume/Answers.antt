-- `resume::resume` meets its contract: by its calls and its tests. Assumes nothing.
use Rattle.turn.specs.Words.{pool_of}
use Rattle.turn.specs.Resume.{resume_of}
use mathlib.Core.Path.{sym, ◌∙◌}
use Rattle.std.proofs.Common.{◌≡◌, arith}
use Rattle.points.specs.declared.at.Ask.TheVariants as asks
use Rattle.points.specs.Words.{cursor_of, key_of, ask_of}
use Rattle.turn.proofs.resume.resume.Goals as goal

pub returns-in-SeedBoot : goal.returns-in-SeedBoot
unfolding pool_of resume_of
returns-in-SeedBoot c bytes records store =
    let e2 = c.cursor_of-c.ensures in
    let h1 = sym c.from.ensures ∙ c.in-SeedBoot.is in
    let e3 = simp (e2) at c.seed_reply-next.ensures in
    let e4 = c.stand_at.ensures in
    simp (e2, ← e3, e4, h1)

pub returns-in-RouteBoot : goal.returns-in-RouteBoot
unfolding pool_of resume_of
returns-in-RouteBoot c bytes records store =
    let e1 = c.queued-queued.ensures in
    let e3 = c.cursor_of-c.ensures in
    let h1 = sym c.from.ensures ∙ c.in-RouteBoot.is in
    let e4 = simp (e1, e3) at c.route_reply-s.ensures in
    let e5 = c.queue_at.ensures in
    simp (e1, e3, ← e4, e5, h1)

pub returns-in-TickClock : goal.returns-in-TickClock
unfolding pool_of resume_of
returns-in-TickClock c bytes records store =
    let h1 = sym c.from.ensures ∙ c.in-TickClock.is in
    let e2 = c.clock_reply-next.ensures in
    let e3 = c.stand_at-in-TickClock.ensures in
    simp (e2, e3, h1)

pub returns-in-WakePoll : goal.returns-in-WakePoll
unfolding pool_of resume_of
returns-in-WakePoll c bytes records store =
    let e2 = c.cursor_of-c.ensures in
    let h1 = sym c.from.ensures ∙ c.in-WakePoll.is in
    let e3 = simp (e2) at c.poll_reply-next.ensures in
    let e4 = c.stand_at-in-WakePoll.ensures in
    simp (e2, ← e3, e4, h1)

pub returns-in-Fixed : goal.returns-in-Fixed
unfolding pool_of resume_of
returns-in-Fixed c bytes records store =
    let e1 = c.queued-queued.ensures in
    let e3 = c.cursor_of-c.ensures in
    let h1 = sym c.from.ensures ∙ c.in-Fixed.is in
    let e4 = c.from-step.ensures in
    let e5 = c.slot_at-slot.ensures in
    let e6 = simp (e1, e3, e4, e5) at c.step_fixed-s.ensures in
    let e7 = c.fixed_after-next.ensures in
    let e8 = c.queue_at-in-Fixed.ensures in
    simp (e1, e3, e4, e5, ← e6, e7, e8, h1)

pub returns-in-Eval : goal.returns-in-Eval
unfolding pool_of resume_of
returns-in-Eval c bytes records store =
    let e2 = c.cursor_of-c.ensures in
    let h1 = sym c.from.ensures ∙ c.in-Eval.is in
    let e3 = c.from-step-in-Eval.ensures in
    let e4 = c.from-outcome.ensures in
    let e5 = c.group_at-group.ensures in
    let e6 = c.tick-tick.ensures in
    let e7 = c.slot_at-slot-in-Eval.ensures in
    let e8 = simp (e2, e3, e4, e5, e6, e7) at c.step_eval-after.ensures in
    let e9 = c.eval_after-next.ensures in
    let e10 = c.stand_at-in-Eval.ensures in
    simp (e2, e3, e4, e5, e6, e7, ← e8, e9, e10, h1)

pub returns-in-Sends : goal.returns-in-Sends
unfolding pool_of resume_of
returns-in-Sends c bytes records store =
    let e2 = c.cursor_of-c.ensures in
    let h1 = sym c.from.ensures ∙ c.in-Sends.is in
    let e3 = c.end_of-step.ensures in
    let e4 = c.sends_reply-next.ensures in
    let e5 = c.stand_at-in-Sends.ensures in
    simp (e2, e3, e4, e5, h1)

pub returns-in-Trap : goal.returns-in-Trap
unfolding pool_of resume_of
returns-in-Trap c bytes records store =
    let e2 = c.cursor_of-c.ensures in
    let h1 = sym c.from.ensures ∙ c.in-Trap.is in
    let e3 = simp (e2) at c.trap_reply-next.ensures in
    let e4 = c.stand_at-in-Trap.ensures in
    simp (e2, ← e3, e4, h1)

pub returns-in_default : goal.returns-in_default
unfolding pool_of resume_of
returns-in_default c bytes records store =
    let e2 = c.cursor_of-c.ensures in
    let h1 : ask_of c.args.w ≡ asks.Trapped (cursor_of c.args.w) (key_of c.args.w.more) =
    grind (arith, c.from.ensures) in
    let e3 = c.key_of-other.ensures in
    let e4 = simp (e2, e3) at c.trapped_reply-next.ensures in
    let e5 = c.stand_at-in_default.ensures in
    simp (e2, e3, ← e4, e5, h1)
