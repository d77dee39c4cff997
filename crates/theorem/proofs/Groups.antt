-- A turn that works on a group works on one of the pool's: every point that runs, and every reply, keeps it so. Assumes
-- nothing.
use Rattle.std.specs.Prelude.{Option, Some, None, Bool, true, false}
use mathlib.Core.Bool.{Bool}
use Prim.Native.Nat.{ℕ, ◌-◌, ◌≤◌, ◌<◌}
use native.Mathlib.Omega.{arith}
use borrow.Author.Tests.{leb-false}
use lib.Dec.{eqb, leb}
use lib.ListN.{set}
use Rattle.lists.specs.Links.{Table, len_of, mailbox_of, KEYS, GROUPS}
use Rattle.lists.specs.KeyLists.{blank_row, keys_at, front_of, pop_front}
use Rattle.lists.specs.Slabs.{next_key}
use Rattle.actor.specs.declared.question.Reply.{Reply}
use Rattle.actor.specs.declared.question.Reply.TheVariants as reply
use Rattle.actor.specs.declared.state.Mode.{Mode}
use Rattle.actor.specs.declared.state.Mode.TheVariants as mode
use Rattle.actor.specs.Questions.{yes_in, count_in, clock_in}
use Rattle.actor.specs.Actors.{actor_at, put_actor, began_step}
use Rattle.steps.specs.declared.step.Step.{Step}
use Rattle.steps.specs.declared.step.Step.TheVariants as step
use Rattle.steps.specs.declared.step.End.{End}
use Rattle.steps.specs.declared.step.End.TheVariants as end
use Rattle.steps.specs.declared.fixed.FixedNext.{FixedNext}
use Rattle.steps.specs.declared.fixed.FixedNext.TheVariants as fixed
use Rattle.steps.specs.declared.eval.EvalNext.{EvalNext}
use Rattle.steps.specs.declared.eval.EvalNext.TheVariants as eval
use Rattle.steps.specs.Steps.{step_tables}
use Rattle.steps.specs.StepFixed.{step_fixed}
use Rattle.steps.specs.StepEval.{eval_start, step_eval}
use Rattle.points.specs.declared.at.At.{At}
use Rattle.points.specs.declared.at.At.TheVariants as at
use Rattle.points.specs.declared.at.Ask.{Ask}
use Rattle.points.specs.declared.at.Ask.TheVariants as asks
use Rattle.points.specs.declared.at.Point.{Point}
use Rattle.points.specs.declared.at.Point.TheVariants as point
use Rattle.points.specs.declared.at.Cursor.{Cursor}
use Rattle.points.specs.At.{who_of, fixed_after, eval_after}
use Rattle.group.specs.Settings.{group_at}
use Rattle.group.specs.Roster.{REST, TRAPPED, ready_row, slab_row, slot_at, slot_on, push_key, live_of, turn_tables, keyed}
use Rattle.group.specs.Roster.{mailed}
use Rattle.route.specs.Seed.{Seeded, seed_of, seed_booted, seed_by, seed_reply}
use Rattle.route.specs.Intake.{Linked, batch_of, intake_of}
use Rattle.route.specs.Batch as to
use Rattle.route.specs.Batch.{RoutedTables}
use Rattle.tick.specs.declared.crash.Losses.{Losses}
use Rattle.tick.specs.Waking.{Listed, Waked, wake_of, late_at, polls_of, wake_one, wake_first, wake_next, poll_by, poll_reply}
use Rattle.tick.specs.Ready.{Stepping, Readied, readying, rests_of, begin_fixed, begin_eval, begin_by, begin_step}
use Rattle.tick.specs.Ready.{unscheduled, ready_key, cursor_at, pop_ready, ready_front, ready_of}
use Rattle.tick.specs.Settle.{step_end, settle_of}
use Rattle.tick.specs.Crash.{Crashing, retiring, trapped_at, trapped_next, trap_by, trap_reply, next_asked, trapped_by}
use Rattle.tick.specs.Crash.{trapped_reply, crash_trapped_key, crash_trapped_front, crash_trapped}
use Rattle.turn.specs.State.{State}
use Rattle.turn.specs.Go.{go_of}
use Rattle.turn.specs.Resume.{clock_by, clock_reply, sends_reply, limit_of, resume_of}
use Rattle.theorem.proofs.Steps.{pick_rule}
use Rattle.theorem.proofs.Routing.{Routes, intake_rule, route_rule, reply_rule}

-- the group of a question is one of the pool's n; seeding and routing are in none
abbrev pub AskIn : ℕ → Ask → Type 0
AskIn n (asks.SeedBoot g) = 0 ≤ 0
AskIn n (asks.RouteBoot g left) = 0 ≤ 0
AskIn n asks.TickClock = 0 ≤ 0
AskIn n (asks.WakePoll g k clock left) = g < n
AskIn n (asks.Fixed c a) = c.group < n
AskIn n (asks.Eval c a) = c.group < n
AskIn n (asks.Sends c s) = c.group < n
AskIn n (asks.Trap c) = c.group < n
AskIn n (asks.Trapped c k) = c.group < n

-- the same of a point that runs; Wake tests its group itself
abbrev pub PointIn : ℕ → Point → Type 0
PointIn n (point.Seed g) = 0 ≤ 0
PointIn n (point.Intake left) = 0 ≤ 0
PointIn n (point.Route left) = 0 ≤ 0
PointIn n (point.Wake g clock) = 0 ≤ 0
PointIn n (point.WakeNext g clock left) = g < n
PointIn n (point.Ready g clock pops) = g < n
PointIn n (point.StepEnd c e) = c.group < n
PointIn n (point.Settle c s) = c.group < n
PointIn n (point.Crash c) = c.group < n
PointIn n (point.AskTrap c) = c.group < n
PointIn n (point.CrashTrapped c left) = c.group < n

-- wherever a turn stands
abbrev pub AtIn : ℕ → At → Type 0
AtIn n at.Rest = 0 ≤ 0
AtIn n (at.Asks a) = AskIn n a
AtIn n (at.Runs p) = PointIn n p

module _ (n : ℕ) where
  -- ---- seeding, intake and routing

  abbrev SeededIn : Seeded → Type 0
  SeededIn s = AtIn n s.at

  seed_in : (groups : Table) (many : ℕ) (keys actors : Table) (g : ℕ) → SeededIn (seed_of groups many keys actors g)
  unfolding seed_of
  seed_in groups many keys actors g =
      pick_rule SeededIn (leb many g) (λ e. omega arith)
      (λ e. pick_rule SeededIn (leb GROUPS g) (λ e. omega arith)
      (λ e. pick_rule SeededIn (eqb (group_at groups g).ceiling 0) (λ e. omega arith)
      (λ e. pick_rule SeededIn (group_at groups g).eval (λ e. omega arith) (λ e. omega arith))))

  seed_by_in : (keys actors : Table) (g : ℕ) (y : Option Bool) → SeededIn (seed_by keys actors g y)
  unfolding seed_booted
  seed_by_in keys actors g (Some true) = omega arith
  seed_by_in keys actors g (Some false) = omega arith
  seed_by_in keys actors g None = omega arith

  seed_reply_in : (keys actors : Table) (g : ℕ) (r : Reply) → SeededIn (seed_reply keys actors g r)
  unfolding seed_reply
  seed_reply_in keys actors g r = seed_by_in keys actors g (yes_in r)

  intake_in : (t : Table) (q backlog left : ℕ) → AtIn n (intake_of t q backlog left).at
  unfolding batch_of
  intake_in t q backlog left = intake_rule t q backlog left (λ (s : Linked). AtIn n s.at) (omega arith) (omega arith)

  abbrev RoutedIn : RoutedTables → Type 0
  RoutedIn s = AtIn n s.routed.at

  pub ways_in : (t rows : Table) (q left : ℕ) → Routes t rows q left RoutedIn
  unfolding to.undeliverable to.deliver
  ways_in t rows q left = record {
    over = λ keys actors. omega arith;
    sent = λ keys actors g k. omega arith;
    asks = λ keys actors g. omega arith;
    done = λ keys actors. omega arith;
  }

  -- ---- waking

  abbrev WakedIn : Waked → Type 0
  WakedIn s = AtIn n s.at

  wake_in : (keys : Table) (g now : ℕ) → AtIn n (wake_of keys n g now).at
  unfolding wake_of
  wake_in keys g now =
      let P : Listed → Type 0 = λ s. AtIn n s.at in
      pick_rule P (leb n g) (λ e. omega arith)
      (λ e. pick_rule P (leb GROUPS g) (λ f. omega arith) (λ f. leb-false n g e))

  module _ (g now : ℕ) (here : g < n) where
    one_in : (keys actors : Table) (k left : ℕ) → WakedIn (wake_one (keyed keys actors) g k now left)
    unfolding wake_one
    one_in keys actors k left =
        pick_rule WakedIn (live_of keys g k)
        (λ e. pick_rule WakedIn (late_at (actor_at actors (slot_at g k)).wake_at now) (λ e. here)
        (λ e. pick_rule WakedIn (polls_of (actor_at actors (slot_at g k))) (λ e. here) (λ e. here)))
        (λ e. here)

    first_in_lem : (keys actors : Table) (left : ℕ) (k : Option ℕ) → WakedIn (wake_first (keyed keys actors) g now left k)
    first_in_lem keys actors left (Some k) = one_in (set keys REST (pop_front (keys_at keys REST))) actors k (left - 1)
    first_in_lem keys actors left None = here

    wake_next_in : (keys actors : Table) (left : ℕ) → WakedIn (wake_next (keyed keys actors) g now left)
    unfolding wake_next
    wake_next_in keys actors left =
        pick_rule WakedIn (eqb left 0) (λ e. here) (λ e. first_in_lem keys actors left (front_of (keys_at keys REST)))

    poll_in : (keys actors : Table) (k left : ℕ) (m : Option ℕ)
        → WakedIn (poll_by (keyed keys actors) (who_of g k) now left m)
    poll_in keys actors k left (Some m) = here
    poll_in keys actors k left None = here

    poll_reply_in : (keys actors : Table) (k left : ℕ) (r : Reply)
        → WakedIn (poll_reply (keyed keys actors) (who_of g k) now left r)
    unfolding poll_reply
    poll_reply_in keys actors k left r = poll_in keys actors k left (count_in r)

  -- ---- a step of an actor, which stays in the cursor's group

  module _ (c : Cursor) (here : c.group < n) where
    fixed_in : (x : FixedNext) → AtIn n (fixed_after c x)
    fixed_in (fixed.Asks a) = here
    fixed_in (fixed.Ended s) = here

    eval_in : (x : EvalNext) → AtIn n (eval_after c x)
    eval_in (eval.Asks a) = here
    eval_in (eval.Ended p) = here

    begin_in : (t actors : Table) (slot q : ℕ) (m : Mode) → AtIn n (begin_by (mailed t q) actors c slot m).begun.at
    unfolding begin_fixed begin_eval
    begin_in t actors slot q mode.Fixed = here
    begin_in t actors slot q mode.Eval = eval_in (eval_start t actors slot q).step.next

    key_in : (t keys actors : Table) (q : ℕ) (stepped : Bool)
        → AtIn n (ready_key (readying t keys actors q stepped) c).begun.at
    unfolding ready_key begin_step
    key_in t keys actors q stepped =
        let P : Stepping → Type 0 = λ s. AtIn n s.begun.at in
        let free = unscheduled actors (slot_on c) in
        pick_rule P (live_of keys c.group c.key)
        (λ e. pick_rule P (rests_of (actor_at actors (slot_on c)) (len_of t (mailbox_of (slot_on c)))) (λ e. here)
        (λ e. begin_in t (put_actor free (slot_on c) (began_step (actor_at free (slot_on c)))) (slot_on c) q
        (actor_at free (slot_on c)).mode))
        (λ e. here)

    end_in : (e : End) → AtIn n (step_end c e)
    end_in (end.Fixed s) = here
    end_in (end.Eval p) = here

    sends_in : (s : Step) (r : Reply) → AtIn n (sends_reply c s r)
    unfolding sends_reply
    sends_in s reply.Yes = here
    sends_in s reply.No = here
    sends_in s (reply.Clock ns) = here
    sends_in s (reply.Count m) = here
    sends_in s (reply.Ran x) = here
    sends_in s reply.Message = here
    sends_in s reply.End = here
    sends_in s reply.Told = here
    sends_in s reply.Stored = here
    sends_in s reply.Failed = here

    settle_in : (t rows keys actors : Table) (q : ℕ) (s : Step)
        → AtIn n (settle_of rows (turn_tables t keys actors q) c s).settled.at
    unfolding settle_of
    settle_in t rows keys actors q step.Done = here
    settle_in t rows keys actors q (step.Parked p) = here
    settle_in t rows keys actors q step.Failed = here

    -- ---- Trap and Trapped, and those that were trapped

    asked_in_lem : (k : Option ℕ) → AtIn n (trapped_at c k)
    asked_in_lem (Some k) = here
    asked_in_lem None = here

    next_in : (keys : Table) (from : ℕ) → AtIn n (trapped_next keys c from)
    unfolding trapped_next
    next_in keys from = asked_in_lem (next_key (keys_at keys (slab_row c.group)) (KEYS - from) from)

    trap_in : (keys : Table) (y : Option Bool) → AtIn n (trap_by keys c y).at
    trap_in keys (Some true) = next_in (set keys TRAPPED blank_row) 0
    trap_in keys (Some false) = here
    trap_in keys None = here

    trap_reply_in : (keys : Table) (r : Reply) → AtIn n (trap_reply keys c r).at
    unfolding trap_reply
    trap_reply_in keys r = trap_in keys (yes_in r)

    trapped_in : (keys : Table) (k : ℕ) (y : Option Bool) → AtIn n (trapped_by keys c k y).at
    trapped_in keys k (Some true) = next_in (push_key keys TRAPPED k) (next_asked k)
    trapped_in keys k (Some false) = next_in keys (next_asked k)
    trapped_in keys k None = here

    trapped_reply_in : (keys : Table) (k : ℕ) (r : Reply) → AtIn n (trapped_reply keys c k r).at
    unfolding trapped_reply
    trapped_reply_in keys k r = trapped_in keys k (yes_in r)

    retired_in : (groups t rows keys : Table) (left q : ℕ) (l : Losses) (k : Option ℕ)
        → AtIn n (crash_trapped_front groups (retiring t rows keys q l) c left k).crashed.at
    unfolding crash_trapped_key
    retired_in groups t rows keys left q l (Some k) = here
    retired_in groups t rows keys left q l None = here

    crash_trapped_in : (groups t rows keys : Table) (left q : ℕ) (l : Losses)
        → AtIn n (crash_trapped groups (retiring t rows keys q l) c left).crashed.at
    unfolding crash_trapped
    crash_trapped_in groups t rows keys left q l =
        pick_rule (λ (s : Crashing). AtIn n s.crashed.at) (eqb left 0) (λ e. here)
        (λ e. retired_in groups t rows keys left q l (front_of (keys_at keys TRAPPED)))

  -- ---- the ready list

  module _ (g now : ℕ) (here : g < n) where
    front_in : (t keys actors : Table) (q : ℕ) (stepped : Bool) (pops : ℕ) (k : Option ℕ)
        → AtIn n (ready_front (readying t keys actors q stepped) g now pops k).begun.at
    front_in t keys actors q stepped pops (Some k) =
        key_in (cursor_at g k now (pops - 1)) here t (pop_ready keys g) actors q stepped
    front_in t keys actors q stepped pops None = omega arith

    ready_in : (t keys actors : Table) (q : ℕ) (stepped : Bool) (pops : ℕ)
        → AtIn n (ready_of (readying t keys actors q stepped) g now pops).begun.at
    unfolding ready_of
    ready_in t keys actors q stepped pops =
        pick_rule (λ (s : Readied). AtIn n s.begun.at) (eqb pops 0) (λ e. omega arith)
        (λ e. front_in t keys actors q stepped pops (front_of (keys_at keys (ready_row g))))

  clock_in_lem : (x : Option ℕ) → AtIn n (clock_by x)
  clock_in_lem (Some ns) = omega arith
  clock_in_lem None = omega arith

-- ---- every point, and every reply

pub go_in : (s : State) (p : Point) → PointIn s.pool.limits.groups p
    → AtIn s.pool.limits.groups (go_of s p).pool.turn.at
unfolding go_of
go_in s (point.Seed g) here =
    seed_in s.pool.limits.groups s.groups s.pool.limits.groups s.keys s.actors g
go_in s (point.Intake left) here =
    intake_in s.pool.limits.groups s.links s.pool.turn.counts.queued s.pool.limits.backlog left
go_in s (point.Route left) here =
    let n = s.pool.limits.groups in
    let q = s.pool.turn.counts.queued in
    route_rule s.links s.rows q left (λ (d : RoutedTables). AtIn n d.routed.at)
    (ways_in n s.links s.rows q left) s.groups n s.store s.keys s.actors
go_in s (point.Wake g now) here = wake_in s.pool.limits.groups s.keys g now
go_in s (point.WakeNext g now left) here = wake_next_in s.pool.limits.groups g now here s.keys s.actors left
go_in s (point.Ready g now pops) here =
    ready_in s.pool.limits.groups g now here s.links s.keys s.actors s.pool.turn.counts.queued
    s.pool.turn.counts.stepped pops
go_in s (point.StepEnd c e) here = end_in s.pool.limits.groups c here e
go_in s (point.Settle c e) here =
    settle_in s.pool.limits.groups c here s.links s.rows s.keys s.actors
    s.pool.turn.counts.queued e
go_in s (point.Crash c) here = here
go_in s (point.AskTrap c) here = here
go_in s (point.CrashTrapped c left) here =
    crash_trapped_in s.pool.limits.groups c here s.groups s.links s.rows s.keys left
    s.pool.turn.counts.queued s.pool.turn.counts.losses

pub resume_in_lem : (s : State) (a : Ask) (r : Reply) → AskIn s.pool.limits.groups a
    → AtIn s.pool.limits.groups (resume_of s a r).pool.turn.at
unfolding resume_of clock_reply
resume_in_lem s (asks.SeedBoot g) r here = seed_reply_in s.pool.limits.groups s.keys s.actors g r
resume_in_lem s (asks.RouteBoot g left) r here =
    let n = s.pool.limits.groups in
    let q = s.pool.turn.counts.queued in
    reply_rule s.links s.rows q left (λ (d : RoutedTables). AtIn n d.routed.at)
    (ways_in n s.links s.rows q left) s.keys s.actors g r
resume_in_lem s asks.TickClock r here = clock_in_lem s.pool.limits.groups (clock_in r)
resume_in_lem s (asks.WakePoll g k now left) r here =
    poll_reply_in s.pool.limits.groups g now here s.keys s.actors k left r
resume_in_lem s (asks.Fixed c a) r here =
    fixed_in s.pool.limits.groups c here
    (step_fixed (step_tables s.links s.rows s.actors) (slot_on c) s.pool.turn.counts.queued a r
    ).step.next
resume_in_lem s (asks.Eval c a) r here =
    eval_in s.pool.limits.groups c here
    (step_eval (step_tables s.links s.rows s.actors) (slot_on c) (limit_of s c) a r).next
resume_in_lem s (asks.Sends c step) r here = sends_in s.pool.limits.groups c here step r
resume_in_lem s (asks.Trap c) r here = trap_reply_in s.pool.limits.groups c here s.keys r
resume_in_lem s (asks.Trapped c k) r here = trapped_reply_in s.pool.limits.groups c here s.keys k r
