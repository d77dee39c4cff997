-- Each step lowers the weight, so the steps end, and more fuel than the weight changes nothing. Assumes nothing.
use Rattle.std.specs.Prelude.{Option, Some, None}
use Rattle.message_log.specs.declared.LogId.{LogId}
use mathlib.Core.Path.{◌≡◌, refl, sym, ◌∙◌, ap}
use mathlib.Core.Bool.{Bool, true, false, false≢true, ◌&&◌}
use mathlib.Core.List.{List}
use Prim.Native.Nat.{ℕ, zero, suc, ◌+◌, ◌-◌, ◌<◌, ◌≤◌}
use native.Mathlib.Omega.{arith}
use lib.Dec.{eqb, ltb, leb}
use lib.ListN.{set}
use borrow.Author.Tests.{lt-ltb, ltb-true, leb-false, eqb-false}
use Rattle.lists.specs.Links.{pick, Table, len_of, capped, mailbox_of, first_of, INBOX, PENDING, BATCH}
use Rattle.lists.specs.KeyLists.{keys_at, count_of, front_of, pop_front}
use Rattle.actor.specs.declared.state.Mode.{Mode}
use Rattle.actor.specs.declared.state.Mode.TheVariants as mode
use Rattle.actor.specs.Messages.{message_at}
use Rattle.actor.specs.Actors.{actor_at, put_actor, began_step}
use Rattle.steps.specs.declared.step.Step.{Step}
use Rattle.steps.specs.declared.step.Step.TheVariants as ended
use Rattle.steps.specs.declared.step.End.{End}
use Rattle.steps.specs.declared.step.End.TheVariants as end
use Rattle.steps.specs.declared.eval.EvalNext.{EvalNext}
use Rattle.steps.specs.declared.eval.EvalNext.TheVariants as eval
use Rattle.steps.specs.StepEval.{eval_start}
use Rattle.points.specs.declared.at.At.{At}
use Rattle.points.specs.declared.at.At.TheVariants as at
use Rattle.points.specs.declared.at.Ask.TheVariants as asks
use Rattle.points.specs.declared.at.Point.{Point}
use Rattle.points.specs.declared.at.Point.TheVariants as point
use Rattle.points.specs.declared.at.Cursor.{Cursor}
use Rattle.points.specs.At.{next_group, eval_after}
use Rattle.group.specs.Settings.{group_at, by_name}
use Rattle.group.specs.Roster.{REST, TRAPPED, ready_row, waiting_row, slot_at, live_len, live_of, spawn_of, pop_idle_of}
use Rattle.group.specs.Roster.{least_of}
use Rattle.route.specs.Seed.{Seeded, seed_of}
use Rattle.route.specs.Intake.{Linked, batch_size, batch_of, intake_of}
use Rattle.route.specs.Batch.{RoutedTables, undeliverable, deliver, deliver_key, route_least, spawned_sent, route_spawned}
use Rattle.route.specs.Batch.{route_new, idle_else, pick_of, route_named, route_one, route_first, route_of}
use Rattle.tick.specs.declared.crash.Losses.{Losses}
use Rattle.tick.specs.Waking.{Listed, Waked, at_most64, wake_of, late_at, polls_of, wake_one, wake_first, wake_next}
use Rattle.tick.specs.Ready.{Stepping, Readied, rests_of, begin_fixed, begin_eval, begin_by, begin_step, unscheduled}
use Rattle.tick.specs.Ready.{ready_key, cursor_at, pop_ready, ready_front, ready_of}
use Rattle.tick.specs.Settle.{step_end, settle_of}
use Rattle.tick.specs.Crash.{Crashing, crash_trapped_key, crash_trapped_front, crash_trapped}
use Rattle.turn.specs.declared.state.Disk.{Disk}
use Rattle.turn.specs.declared.state.Disk.TheVariants as disk
use Rattle.turn.specs.State.{State, is_free, runs_at, running_of}
use Rattle.turn.specs.Go.{go_of}
use Rattle.turn.specs.Weight.{pops_left, weight_at, weight_in, weight_by, weight_of}
use Rattle.turn.specs.Retry.{again_at, retry_logged, retry_entry, ran_of}
use Rattle.turn.specs.Step.{mark_at, go_free, step_at, turn_step, advance_of, advanced}
use Rattle.turn.specs.Advance.{GoesOn, here, step, Stops, Advances, AdvancesOnly}
use Rattle.group.specs.Roster.{turn_tables, keyed, mailed}
use Rattle.route.specs.Batch.{programs}
use Rattle.tick.specs.Ready.{readying}
use Rattle.tick.specs.Crash.{retiring}

pick_rule : {A : Type 0} (P : A → Type 0) (b : Bool) {x y : A} → (b ≡ true → P x) → (b ≡ false → P y) → P (pick b x y)
pick_rule P true f g = f refl
pick_rule P false f g = g refl

-- ---- the groups' first actors

next_seed : (g : ℕ) → g < 8 → weight_in (at.Runs (point.Seed (next_group g))) < weight_in (at.Runs (point.Seed g))
unfolding weight_in weight_at
next_seed g l = rw (lt-ltb g 8 l) (omega arith)

seed_falls : (groups : Table) (count : ℕ) (keys actors : Table) (g : ℕ)
    → weight_in (seed_of groups count keys actors g).at < weight_in (at.Runs (point.Seed g))
unfolding seed_of weight_in weight_at
seed_falls groups count keys actors g =
    let P : Seeded → Type 0 = λ s. weight_in s.at < weight_in (at.Runs (point.Seed g)) in
    pick_rule P (leb count g) (λ e. omega arith)
    (λ e. pick_rule P (leb 8 g) (λ e. omega arith)
    (λ e. let next = next_seed g (leb-false 8 g e) in
    pick_rule P (eqb (group_at groups g).ceiling 0) (λ z. next)
    (λ z. pick_rule P (group_at groups g).eval (λ v. next) (λ v. omega arith))))

-- ---- intake and routing

batch_size_lem : (n : ℕ) → batch_size n ≤ 256
batch_size_lem n = pick_rule (λ (m : ℕ). m ≤ 256) (ltb n 256) (λ e. omega (arith, ltb-true n 256 e)) (λ e. omega arith)

batch_falls : (t : Table) → weight_in (batch_of t).at ≤ 257
unfolding batch_of weight_in weight_at
batch_falls t = omega (arith, batch_size_lem (len_of (batch_of t).links BATCH))

intake_falls : (t : Table) (queued backlog left : ℕ) → weight_in (intake_of t queued backlog left).at < weight_in
    (at.Runs (point.Intake left))
unfolding intake_of weight_in weight_at
intake_falls t queued backlog left =
    let P : Linked → Type 0 = λ l. weight_in l.at < weight_in (at.Runs (point.Intake left)) in
    pick_rule P (eqb left 0) (λ e. omega (arith, batch_falls t))
    (λ e. let n = eqb-false left 0 e in
    pick_rule P (leb backlog (capped (len_of t PENDING + queued))) (λ b. omega (arith, batch_falls t))
    (λ b. pick_rule P (eqb (len_of t INBOX) 0) (λ z. omega (arith, batch_falls t)) (λ z. omega arith)))

-- a message of the batch is routed, or a question is open
module _ (left : ℕ) (some : 0 < left) where
  abbrev Less : RoutedTables → Type 0
  Less s = weight_in s.routed.at < 1 + left

  lost_less : (t rows : Table) → weight_in (undeliverable t rows left).at < 1 + left
  unfolding undeliverable weight_in weight_at
  lost_less t rows = omega arith

  deliver_less : (t keys actors : Table) (g k queued : ℕ) → Less (deliver (turn_tables t keys actors queued) g k left)
  unfolding deliver weight_in weight_at
  deliver_less t keys actors g k queued = omega arith

  key_less : (t rows keys actors : Table) (g : ℕ) (k : Option ℕ) (queued : ℕ)
      → Less (deliver_key rows (turn_tables t keys actors queued) g k left)
  unfolding deliver_key
  key_less t rows keys actors g (Some k) queued = deliver_less t keys actors g k queued
  key_less t rows keys actors g None queued = lost_less t rows

  least_less : (t rows keys actors : Table) (g queued : ℕ)
      → Less (route_least rows (turn_tables t keys actors queued) g left)
  unfolding route_least
  least_less t rows keys actors g queued = key_less t rows keys actors g (least_of keys t g) queued

  spawned_less : (t rows : Table) (g queued : ℕ) (keys actors : Table) (k : Option ℕ)
      → Less (spawned_sent rows (turn_tables t keys actors queued) g left k)
  spawned_less t rows g queued keys actors (Some k) = deliver_less t keys actors g k queued
  spawned_less t rows g queued keys actors None = least_less t rows keys actors g queued

  spawn_less : (t rows keys actors : Table) (g : ℕ) (eval : Bool) (queued : ℕ)
      → Less (route_spawned rows (turn_tables t keys actors queued) g eval left)
  unfolding route_spawned
  spawn_less t rows keys actors g eval queued =
      let s = spawn_of keys actors g eval in spawned_less t rows g queued s.keys s.actors s.key

  new_less : (groups t rows keys actors : Table) (g queued : ℕ)
      → Less (route_new groups rows (turn_tables t keys actors queued) g left)
  unfolding route_new weight_in weight_at
  new_less groups t rows keys actors g queued =
      pick_rule Less (ltb (live_len keys g) (group_at groups g).ceiling)
      (λ e. pick_rule Less (group_at groups g).eval (λ v. spawn_less t rows keys actors g true queued)
      (λ v. omega arith))
      (λ e. least_less t rows keys actors g queued)

  idle_less : (groups t rows actors : Table) (g queued : ℕ) (keys : Table) (k : Option ℕ)
      → Less (idle_else (turn_tables t keys actors queued) g left k
      (route_new groups rows (turn_tables t keys actors queued) g left))
  idle_less groups t rows actors g queued keys (Some k) = deliver_less t keys actors g k queued
  idle_less groups t rows actors g queued keys None = new_less groups t rows keys actors g queued

  to_less : (groups t rows keys actors : Table) (g queued : ℕ)
      → Less (pick_of groups rows (turn_tables t keys actors queued) g left)
  unfolding pick_of
  to_less groups t rows keys actors g queued = let p = pop_idle_of keys actors g in idle_less groups t rows actors g
      queued p.keys p.key

  named_less : (groups t rows keys actors : Table) (queued : ℕ) (n : Option ℕ)
      → Less (route_named groups rows (turn_tables t keys actors queued) left n)
  named_less groups t rows keys actors queued (Some g) = to_less groups t rows keys actors g queued
  named_less groups t rows keys actors queued None = lost_less t rows

  first_less : (groups : Table) (count : ℕ) (store : List ℕ) (t rows keys actors : Table) (queued : ℕ) (f : Option ℕ)
      → Less (route_first (programs groups count store) rows (turn_tables t keys actors queued) left f)
  unfolding route_one weight_in weight_at
  first_less groups count store t rows keys actors queued (Some e) =
      named_less groups t rows keys actors queued (by_name groups store e (message_at rows e).name_len count)
  first_less groups count store t rows keys actors queued None = omega arith

route_falls : (groups : Table) (count : ℕ) (store : List ℕ) (t rows keys actors : Table) (queued left : ℕ)
    → weight_in (route_of (programs groups count store) rows (turn_tables t keys actors queued) left).routed.at
    < weight_in (at.Runs (point.Route left))
unfolding route_of weight_in weight_at
route_falls groups count store t rows keys actors queued left =
    pick_rule (λ (s : RoutedTables). weight_in s.routed.at < 1 + left) (eqb left 0)
    (λ e. omega arith)
    (λ e. first_less left (omega (arith, eqb-false left 0 e)) groups count store t rows keys actors queued
    (first_of t BATCH))

-- ---- waking

at_most : (n : ℕ) → at_most64 n ≤ 64
at_most n = pick_rule (λ (m : ℕ). m ≤ 64) (ltb n 64) (λ e. omega (arith, ltb-true n 64 e)) (λ e. omega arith)

wake_falls : (keys : Table) (n g clock : ℕ) → weight_in (wake_of keys n g clock).at
    < weight_in (at.Runs (point.Wake g clock))
unfolding wake_of weight_in weight_at
wake_falls keys n g clock =
    let P : Listed → Type 0 = λ l. weight_in l.at < weight_in (at.Runs (point.Wake g clock)) in
    pick_rule P (leb n g) (λ e. omega arith)
    (λ e. pick_rule P (leb 8 g) (λ f. omega arith)
    (λ f. omega (arith, leb-false 8 g f, at_most (count_of (keys_at keys (waiting_row g))))))

one_falls : (keys actors : Table) (g k clock left : ℕ)
    → weight_in (wake_one (keyed keys actors) g k clock left).at ≤ weight_in
    (at.Runs (point.WakeNext g clock left))
unfolding wake_one weight_in weight_at
one_falls keys actors g k clock left =
    let P : Waked → Type 0 = λ s. weight_in s.at ≤ weight_in (at.Runs (point.WakeNext g clock left)) in
    pick_rule P (live_of keys g k)
    (λ e. pick_rule P (late_at (actor_at actors (slot_at g k)).wake_at clock) (λ l. omega arith)
    (λ l. pick_rule P (polls_of (actor_at actors (slot_at g k))) (λ p. omega arith) (λ p. omega arith)))
    (λ e. omega arith)

ready_now_lem : (keys : Table) (g clock left : ℕ)
    → weight_in (at.Runs (point.Ready g clock (at_most64 (count_of (keys_at keys (ready_row g))))))
    < weight_in (at.Runs (point.WakeNext g clock left))
unfolding weight_in weight_at
ready_now_lem keys g clock left = omega (arith, at_most (count_of (keys_at keys (ready_row g))))

front_falls : (keys actors : Table) (g clock left : ℕ) (k : Option ℕ) → 0 < left
    → weight_in (wake_first (keyed keys actors) g clock left k).at < weight_in (at.Runs (point.WakeNext g clock left))
unfolding weight_in weight_at
front_falls keys actors g clock left (Some k) some =
    omega (arith, one_falls (set keys REST (pop_front (keys_at keys REST))) actors g k clock (left - 1))
front_falls keys actors g clock left None some = ready_now_lem keys g clock left

next_falls : (keys actors : Table) (g clock left : ℕ)
    → weight_in (wake_next (keyed keys actors) g clock left).at < weight_in
    (at.Runs (point.WakeNext g clock left))
unfolding wake_next
next_falls keys actors g clock left =
    pick_rule (λ (s : Waked). weight_in s.at < weight_in (at.Runs (point.WakeNext g clock left))) (eqb left 0)
    (λ e. ready_now_lem keys g clock left)
    (λ e. front_falls keys actors g clock left (front_of (keys_at keys REST)) (omega (arith, eqb-false left 0 e)))

-- ---- a group's ready list

eval_begun : (c : Cursor) (n : EvalNext) → weight_in (eval_after c n) ≤ pops_left c.group c.pops + 60
unfolding weight_in weight_at
eval_begun c (eval.Asks a) = omega arith
eval_begun c (eval.Ended p) = omega arith

begin_by_lem : (t actors : Table) (c : Cursor) (slot queued : ℕ) (m : Mode)
    → weight_in (begin_by (mailed t queued) actors c slot m).begun.at ≤ pops_left c.group c.pops + 60
unfolding begin_fixed begin_eval weight_in weight_at
begin_by_lem t actors c slot queued mode.Fixed = omega arith
begin_by_lem t actors c slot queued mode.Eval = eval_begun c (eval_start t actors slot queued).step.next

key_begun : (t keys actors : Table) (c : Cursor) (queued : ℕ) (stepped : Bool)
    → weight_in (ready_key (readying t keys actors queued stepped) c).begun.at ≤ pops_left c.group c.pops + 60
unfolding ready_key begin_step weight_in weight_at
key_begun t keys actors c queued stepped =
    let slot = slot_at c.group c.key in
    let free = unscheduled actors slot in
    let P : Stepping → Type 0 = λ s. weight_in s.begun.at ≤ pops_left c.group c.pops + 60 in
    pick_rule P (live_of keys c.group c.key)
    (λ e. pick_rule P (rests_of (actor_at actors slot) (len_of t (mailbox_of slot))) (λ r. omega arith)
    (λ r. begin_by_lem t (put_actor free slot (began_step (actor_at free slot))) c slot queued (actor_at free slot).mode))
    (λ e. omega arith)

wake_after_lem : (g clock pops : ℕ) → weight_in (at.Runs (point.Wake (next_group g) clock))
    < weight_in (at.Runs (point.Ready g clock pops))
unfolding weight_in weight_at
wake_after_lem g clock pops =
    pick_rule (λ (n : ℕ). weight_in (at.Runs (point.Wake n clock))
    < weight_in (at.Runs (point.Ready g clock pops))) (ltb g 8) (λ e. omega arith)
    (λ e. omega arith)

ready_front_lem : (t keys actors : Table) (queued : ℕ) (stepped : Bool) (g clock pops : ℕ) (k : Option ℕ) → 0 < pops
    → weight_in (ready_front (readying t keys actors queued stepped) g clock pops k).begun.at
    < weight_in (at.Runs (point.Ready g clock pops))
unfolding weight_in weight_at
ready_front_lem t keys actors queued stepped g clock pops (Some k) some =
    omega (arith, key_begun t (pop_ready keys g) actors (cursor_at g k clock (pops - 1)) queued stepped)
ready_front_lem t keys actors queued stepped g clock pops None some = wake_after_lem g clock pops

ready_falls : (t keys actors : Table) (queued : ℕ) (stepped : Bool) (g clock pops : ℕ)
    → weight_in (ready_of (readying t keys actors queued stepped) g clock pops).begun.at
    < weight_in (at.Runs (point.Ready g clock pops))
unfolding ready_of
ready_falls t keys actors queued stepped g clock pops =
    pick_rule (λ (s : Readied). weight_in s.begun.at < weight_in (at.Runs (point.Ready g clock pops))) (eqb pops 0)
    (λ e. wake_after_lem g clock pops)
    (λ e. ready_front_lem t keys actors queued stepped g clock pops (front_of (keys_at keys (ready_row g)))
    (omega (arith, eqb-false pops 0 e)))

-- ---- the end of an actor's step

end_falls : (c : Cursor) (e : End) → weight_in (step_end c e) < weight_in (at.Runs (point.StepEnd c e))
unfolding weight_in weight_at
end_falls c (end.Fixed s) = omega arith
end_falls c (end.Eval p) = omega arith

settle_falls : (t rows keys actors : Table) (c : Cursor) (s : Step) (queued : ℕ)
    → weight_in (settle_of rows (turn_tables t keys actors queued) c s).settled.at < weight_in
    (at.Runs (point.Settle c s))
unfolding settle_of weight_in weight_at
settle_falls t rows keys actors c ended.Done queued = omega arith
settle_falls t rows keys actors c (ended.Parked p) queued = omega arith
settle_falls t rows keys actors c ended.Failed queued = omega arith

crash_falls : (c : Cursor) → weight_in (at.Runs (point.AskTrap c)) < weight_in (at.Runs (point.Crash c))
unfolding weight_in weight_at
crash_falls c = omega arith

trap_falls : (c : Cursor) → weight_in (at.Asks (asks.Trap c)) < weight_in (at.Runs (point.AskTrap c))
unfolding weight_in weight_at
trap_falls c = omega arith

crash_trapped_front_lem : (groups t rows keys : Table) (c : Cursor) (left queued : ℕ) (l : Losses) (k : Option ℕ) → 0 < left
    → weight_in (crash_trapped_front groups (retiring t rows keys queued l) c left k).crashed.at
    < weight_in (at.Runs (point.CrashTrapped c left))
unfolding crash_trapped_key weight_in weight_at
crash_trapped_front_lem groups t rows keys c left queued l (Some k) some = omega arith
crash_trapped_front_lem groups t rows keys c left queued l None some = omega arith

crash_trapped_falls : (groups t rows keys : Table) (c : Cursor) (left queued : ℕ) (l : Losses)
    → weight_in (crash_trapped groups (retiring t rows keys queued l) c left).crashed.at < weight_in
    (at.Runs (point.CrashTrapped c left))
unfolding crash_trapped weight_in weight_at
crash_trapped_falls groups t rows keys c left queued l =
    pick_rule (λ (s : Crashing). weight_in s.crashed.at < weight_in (at.Runs (point.CrashTrapped c left)))
    (eqb left 0)
    (λ e. omega arith)
    (λ e. crash_trapped_front_lem groups t rows keys c left queued l (front_of (keys_at keys TRAPPED))
    (omega (arith, eqb-false left 0 e)))

-- ---- every point that runs

go_falls : (s : State) (p : Point) → weight_in (go_of s p).pool.turn.at < weight_at p
unfolding go_of weight_in
go_falls s (point.Seed g) = seed_falls s.groups s.pool.limits.groups s.keys s.actors g
go_falls s (point.Intake left) =
    intake_falls s.links s.pool.turn.counts.queued s.pool.limits.backlog left
go_falls s (point.Route left) =
    route_falls s.groups s.pool.limits.groups s.store s.links s.rows s.keys s.actors
    s.pool.turn.counts.queued left
go_falls s (point.Wake g clock) = wake_falls s.keys s.pool.limits.groups g clock
go_falls s (point.WakeNext g clock left) = next_falls s.keys s.actors g clock left
go_falls s (point.Ready g clock pops) =
    ready_falls s.links s.keys s.actors s.pool.turn.counts.queued s.pool.turn.counts.stepped g
    clock pops
go_falls s (point.StepEnd c e) = end_falls c e
go_falls s (point.Settle c e) =
    settle_falls s.links s.rows s.keys s.actors c e s.pool.turn.counts.queued
go_falls s (point.Crash c) = crash_falls c
go_falls s (point.AskTrap c) = trap_falls c
go_falls s (point.CrashTrapped c left) =
    crash_trapped_falls s.groups s.links s.rows s.keys c left s.pool.turn.counts.queued
    s.pool.turn.counts.losses

-- ---- a step

weight_most : (d : Disk) (a : At) → weight_by d a ≤ 1 + weight_in a
weight_most disk.Free a = omega arith
weight_most (disk.Waits o w) a = omega arith
weight_most disk.Failed a = omega arith

weight_stopped : (d : Disk) (a : At) → is_free d ≡ false → weight_by d a ≡ 0
weight_stopped disk.Free a m = absurd (false≢true (sym m))
weight_stopped (disk.Waits o w) a m = refl
weight_stopped disk.Failed a m = refl

-- a state that runs is at a point, with no order waiting
runs_rule : (P : At → Type 0) (d : Disk) (a : At) → (is_free d && runs_at a) ≡ true
    → ((p : Point) → P (at.Runs p)) → P a
runs_rule P disk.Free at.Rest m f = absurd (false≢true m)
runs_rule P disk.Free (at.Asks a) m f = absurd (false≢true m)
runs_rule P disk.Free (at.Runs p) m f = f p
runs_rule P (disk.Waits o w) a m f = absurd (false≢true m)
runs_rule P disk.Failed a m f = absurd (false≢true m)

weight_free : (d : Disk) (a : At) → (is_free d && runs_at a) ≡ true → weight_by d a ≡ 1 + weight_in a
weight_free disk.Free a m = refl
weight_free (disk.Waits o w) a m = absurd (false≢true m)
weight_free disk.Failed a m = absurd (false≢true m)

-- writing what was tried again leaves the turn where it stands
retried_stands : (s : State) (l : Option LogId) (n : ℕ) → (retry_logged s l n).pool.turn.at ≡ s.pool.turn.at
unfolding retry_logged
retried_stands s (Some id) n = refl
retried_stands s None n = refl

entry_stands : (s : State) (f : Option ℕ) → (retry_entry s f).pool.turn.at ≡ s.pool.turn.at
unfolding retry_entry
entry_stands s (Some e) = retried_stands s (message_at s.rows e).id (message_at s.rows e).attempts
entry_stands s None = refl

pub ran_stands : (s : State) (p : Point) → (ran_of s p).pool.turn.at ≡ (go_of s p).pool.turn.at
unfolding ran_of
ran_stands s p = entry_stands (go_of s p) (again_at s p)

free_falls : (s : State) (p : Point) → weight_of (go_free s p).pool.turn < 1 + weight_at p
unfolding weight_of
free_falls s p =
    pick_rule (λ (v : State). weight_of v.pool.turn < 1 + weight_at p) (is_free s.pool.turn.disk)
    (λ e. omega (
      arith,
      weight_most (ran_of s p).pool.turn.disk (ran_of s p).pool.turn.at,
      ap weight_in (ran_stands s p),
      go_falls s p,
    ))
    (λ e. omega (arith, weight_stopped s.pool.turn.disk s.pool.turn.at e))

pub falls : (s : State) → running_of s.pool ≡ true → weight_of (turn_step s).pool.turn < weight_of s.pool.turn
unfolding running_of weight_of weight_in turn_step
falls s m =
    rw (weight_free s.pool.turn.disk s.pool.turn.at m)
    (runs_rule (λ a. weight_of (step_at s a).pool.turn < 1 + weight_in a) s.pool.turn.disk s.pool.turn.at m
    (λ p. free_falls (mark_at s p) p))

-- ---- so the steps end

pub advance_stop : (n : ℕ) (s : State) → running_of s.pool ≡ false → advance_of n s ≡ s
unfolding advance_of
advance_stop zero s h = refl
advance_stop (suc n) s h = rw h

no_weight : (b : Bool) (s : State) → running_of s.pool ≡ b → weight_of s.pool.turn ≤ 0
    → running_of s.pool ≡ false
no_weight true s e h = absurd (omega (arith, falls s e))
no_weight false s e h = e

same_by : (b : Bool) (n m : ℕ) (s : State) → running_of s.pool ≡ b
    → (running_of s.pool ≡ true → advance_of n (turn_step s) ≡ advance_of m (turn_step s))
    → advance_of (suc n) s ≡ advance_of (suc m) s
unfolding advance_of
same_by true n m s e h = rw e (h e)
same_by false n m s e h = rw e

-- any two fuels that are no less than the weight give the same
advance_same : (n m : ℕ) (s : State) → weight_of s.pool.turn ≤ n → weight_of s.pool.turn ≤ m
    → advance_of n s ≡ advance_of m s
advance_same zero m s hn hm =
    let stops = no_weight (running_of s.pool) s refl hn in
    advance_stop zero s stops ∙ sym (advance_stop m s stops)
advance_same (suc n) zero s hn hm =
    let stops = no_weight (running_of s.pool) s refl hm in
    advance_stop (suc n) s stops ∙ sym (advance_stop zero s stops)
advance_same (suc n) (suc m) s hn hm =
    same_by (running_of s.pool) n m s refl
    (λ e. advance_same n m (turn_step s) (omega (arith, falls s e)) (omega (arith, falls s e)))

-- where nothing runs, a turn stays
pub advanced_stop : (s : State) → running_of s.pool ≡ false → advanced s ≡ s
unfolding advanced
advanced_stop s h = advance_stop (weight_of s.pool.turn) s h

-- a step of a running turn leads to the same
pub advanced_step : (s : State) → running_of s.pool ≡ true → advanced (turn_step s) ≡ advanced s
unfolding advance_of advanced
advanced_step s e =
    let n = weight_of s.pool.turn in
    let one : advance_of n (turn_step s) ≡ advance_of (suc n) s = rw e in
    advance_same (weight_of (turn_step s).pool.turn) n (turn_step s) (omega arith) (omega (arith, falls s e))
    ∙ (one ∙ advance_same (suc n) n s (omega arith) (omega arith))

-- the two laws of a step for what a function gave
pub fell : (s v : State) → v ≡ turn_step s → running_of s.pool ≡ true
    → weight_of v.pool.turn < weight_of s.pool.turn
fell s v e run = rw (ap (λ (u : State). weight_of u.pool.turn) e) (falls s run)

pub stepped : (s v : State) → v ≡ turn_step s → running_of s.pool ≡ true → advanced v ≡ advanced s
stepped s v e run = ap advanced e ∙ advanced_step s run

-- ---- where a call stops

goes_by : (b : Bool) (n : ℕ) (s : State) → running_of s.pool ≡ b
    → (running_of s.pool ≡ true → GoesOn (turn_step s) (advance_of n (turn_step s)) × Stops (advance_of n (turn_step s)))
    → GoesOn s (advance_of (suc n) s) × Stops (advance_of (suc n) s)
unfolding advance_of
goes_by true n s e h = rw e (step s (advance_of n (turn_step s)) e (h e).0, (h e).1)
goes_by false n s e h = rw e (here s, e)

goes : (n : ℕ) (s : State) → weight_of s.pool.turn ≤ n → GoesOn s (advance_of n s) × Stops (advance_of n s)
unfolding advance_of
goes zero s h = (here s, no_weight (running_of s.pool) s refl h)
goes (suc n) s h = goes_by (running_of s.pool) n s refl (λ e. goes n (turn_step s) (omega (arith, falls s e)))

pub advances : Advances
unfolding advanced
advances s = goes (weight_of s.pool.turn) s (omega arith)

pub advances_only : AdvancesOnly
advances_only s s' (here _) stops = sym (advanced_stop s stops)
advances_only s s' (step _ _ run on) stops = advances_only (turn_step s) s' on stops ∙ advanced_step s run

-- after the steps a question is open, an order waits or failed, or the turn is over
pub settled : (s : State) → running_of (advanced s).pool ≡ false
settled s = (advances s).1
