-- Waking, stepping, settling and crashing keep every message in a place, and where the turn stands then. Assumes
-- nothing.
use Rattle.std.specs.Prelude.{Option, Some, None, Bool, true, false}
use mathlib.Core.Path.{◌≡◌, refl}
use mathlib.Core.Bool.{Bool, true, false, ◌&&◌}
use Prim.Native.Nat.{ℕ, ◌+◌, ◌-◌, ◌^◌, ◌≤◌, ◌<◌}
use native.Mathlib.Omega.{arith}
use native.Mathlib.Decide.{dec_lt}
use borrow.Author.Tests.{eq-eqb, ltb-true, le-ltb}
use lib.Dec.{eqb, ltb, leb}
use lib.ListN.{set}
use Rattle.lists.specs.Links.{LISTS, Table, len_of, capped, first_of, move_first, mailbox_of, hand_of, PENDING, HAND}
use Rattle.lists.specs.KeyLists.{blank_row, keys_at, front_of, pop_front}
use Rattle.lists.specs.Slabs.{next_key, contains_of}
use Rattle.lists.proofs.Family.{len_past}
use Rattle.actor.specs.declared.question.Reply.{Reply}
use Rattle.actor.specs.declared.state.Mode.{Mode}
use Rattle.actor.specs.declared.state.Mode.TheVariants as mode
use Rattle.actor.specs.Questions.{yes_in, count_in}
use Rattle.actor.specs.Messages.{message_at, tried_of}
use Rattle.actor.specs.Actors.{actor_at, put_actor, began_step}
use Rattle.steps.specs.declared.step.Step.{Step}
use Rattle.steps.specs.declared.step.Step.TheVariants as step
use Rattle.steps.specs.declared.step.End.{End}
use Rattle.steps.specs.declared.step.End.TheVariants as end
use Rattle.steps.specs.declared.fixed.FixedAsk.{FixedAsk}
use Rattle.steps.specs.declared.eval.EvalNext.{EvalNext}
use Rattle.steps.specs.declared.eval.EvalNext.TheVariants as eval
use Rattle.steps.specs.StepFixed.{fixed_start}
use Rattle.steps.specs.StepEval.{eval_start}
use Rattle.points.specs.declared.at.At.{At}
use Rattle.points.specs.declared.at.At.TheVariants as at
use Rattle.points.specs.declared.at.Ask.{Ask}
use Rattle.points.specs.declared.at.Ask.TheVariants as asks
use Rattle.points.specs.declared.at.Cursor.{Cursor}
use Rattle.points.specs.At.{ready_after, eval_after}
use Rattle.group.specs.Settings.{group_at}
use Rattle.group.specs.Roster.{REST, TRAPPED, slab_row, ready_row, slot_at, push_key, live_of}
use Rattle.tick.specs.declared.crash.Losses.{Losses}
use Rattle.tick.specs.Ready.{Begun}
use Rattle.tick.specs.Waking as waking
use Rattle.tick.specs.Waking.{Listed, Waked, wake_of, wake_next, poll_reply}
use Rattle.tick.specs.Ready as starting
use Rattle.tick.specs.Ready.{Stepping, Readied, ready_of}
use Rattle.tick.specs.Settle as settling
use Rattle.tick.specs.Settle.{step_end, settle_of}
use Rattle.tick.specs.Crash as crashing
use Rattle.tick.specs.Crash.{Dying, Crashing, crash_of, trap_reply, trapped_reply, crash_trapped}
use Rattle.theorem.specs.Places.{Sound, Keeps, NotMailbox}
use Rattle.theorem.proofs.PlaceMoves.{not_mailbox_pending, not_mailbox_hand, not_mailbox_held, then_keeps}
use Rattle.theorem.proofs.PlaceMoves.{same_keeps, move_keeps, over_keeps}
use Rattle.theorem.proofs.PlaceMoves.{empty_mailbox, over_mailbox, row_keeps}
use Rattle.theorem.proofs.Steps.{pick_rule, eval_start_keeps}
use Rattle.theorem.specs.Keeping.{AskBetween, BetweenSteps, AskOk, PointOk}
use Rattle.group.specs.Roster.{slot_on, turn_tables, keyed, mailed}
use Rattle.tick.specs.Ready.{readying}
use Rattle.tick.specs.Crash.{retiring, dying}
use Rattle.points.specs.At.{who_of}

-- between the steps of actors nothing is asked of the places
ask_between_ok : (a : Ask) (t : Table) → AskBetween a → AskOk a t
ask_between_ok (asks.SeedBoot g) t between = between
ask_between_ok (asks.RouteBoot g left) t between = between
ask_between_ok asks.TickClock t between = between
ask_between_ok (asks.WakePoll g k clock left) t between = between
ask_between_ok (asks.Fixed c a) t between = absurd between
ask_between_ok (asks.Eval c a) t between = absurd between
ask_between_ok (asks.Sends c s) t between = absurd between
ask_between_ok (asks.Trap c) t between = between
ask_between_ok (asks.Trapped c k) t between = between

pub between_ok : (a : At) (t : Table) → BetweenSteps a → PointOk a t
between_ok at.Rest t between = between
between_ok (at.Asks a) t between = ask_between_ok a t between
between_ok (at.Runs p) t between = omega arith

-- ---- waking

abbrev ListedBetween : Listed → Type 0
ListedBetween s = BetweenSteps s.at

abbrev WakedBetween : Waked → Type 0
WakedBetween s = BetweenSteps s.at

pub wake_between : (keys : Table) (n g clock : ℕ) → BetweenSteps (wake_of keys n g clock).at
unfolding wake_of
wake_between keys n g clock =
    pick_rule ListedBetween (leb n g) (λ e. omega arith) (λ e. pick_rule ListedBetween (leb 8 g) (λ e. omega arith)
    (λ e. omega arith))

one_between : (keys actors : Table) (g k clock left : ℕ)
    → BetweenSteps (waking.wake_one (keyed keys actors) g k clock left).at
unfolding waking.wake_one
one_between keys actors g k clock left =
    pick_rule WakedBetween (live_of keys g k)
    (λ e. pick_rule WakedBetween (waking.late_at (actor_at actors (slot_at g k)).wake_at clock) (λ e. omega arith)
    (λ e. pick_rule WakedBetween (waking.polls_of (actor_at actors (slot_at g k))) (λ e. omega arith) (λ e. omega arith)))
    (λ e. omega arith)

first_between : (keys actors : Table) (g clock left : ℕ) (k : Option ℕ)
    → BetweenSteps (waking.wake_first (keyed keys actors) g clock left k).at
first_between keys actors g clock left (Some k) =
    one_between (set keys REST (pop_front (keys_at keys REST))) actors g k clock (left - 1)
first_between keys actors g clock left None = omega arith

pub wake_next_between : (keys actors : Table) (g clock left : ℕ)
    → BetweenSteps (wake_next (keyed keys actors) g clock left).at
unfolding wake_next
wake_next_between keys actors g clock left =
    pick_rule WakedBetween (eqb left 0) (λ e. omega arith) (λ e. first_between keys actors g clock left
    (front_of (keys_at keys REST)))

poll_between : (keys actors : Table) (g k clock left : ℕ) (n : Option ℕ)
    → BetweenSteps (waking.poll_by (keyed keys actors) (who_of g k) clock left n).at
poll_between keys actors g k clock left (Some n) = omega arith
poll_between keys actors g k clock left None = omega arith

pub poll_reply_between : (keys actors : Table) (g k clock left : ℕ) (r : Reply)
    → BetweenSteps (poll_reply (keyed keys actors) (who_of g k) clock left r).at
unfolding poll_reply
poll_reply_between keys actors g k clock left r = poll_between keys actors g k clock left (count_in r)

-- ---- a step begins

-- the first of two tests
test_first : (a b : Bool) → (a && b) ≡ true → a ≡ true
test_first true b both = refl
test_first false b both = both

live_slot : (keys : Table) (g k : ℕ) → live_of keys g k ≡ true → slot_at g k < 128
unfolding live_of
live_slot keys g k live = ltb-true (slot_at g k) 128 (test_first (ltb (slot_at g k) 128)
    (contains_of (keys_at keys (slab_row g)) k) live)

-- what holds where no step begins, and of a step that begins, holds of the ready list
module _ (t : Table) (q : ℕ) (P : Table → Begun → Type 0)
    (none : (a : At) (stepped : Bool) → BetweenSteps a → P t (starting.begun_with a q stepped))
    (begins : (actors : Table) (c : Cursor) → slot_on c < 128 → P (starting.begin_step t actors c (slot_on c) q).links
    (starting.begin_step t actors c (slot_on c) q).begun) where
  abbrev Holds : Stepping → Type 0
  Holds s = P s.links s.begun

  key_rule : (keys actors : Table) (c : Cursor) (stepped : Bool)
      → Holds (starting.ready_key (readying t keys actors q stepped) c)
  unfolding starting.ready_key
  key_rule keys actors c stepped =
      pick_rule Holds (live_of keys c.group c.key)
      (λ live. pick_rule Holds (starting.rests_of (actor_at actors (slot_on c)) (len_of t (mailbox_of (slot_on c))))
      (λ e. none (ready_after c) stepped (omega arith))
      (λ e. begins (starting.unscheduled actors (slot_on c)) c (live_slot keys c.group c.key live)))
      (λ e. none (ready_after c) stepped (omega arith))

  front_rule : (keys actors : Table) (stepped : Bool) (g clock pops : ℕ) (k : Option ℕ)
      → P (starting.ready_front (readying t keys actors q stepped) g clock pops k).links
      (starting.ready_front (readying t keys actors q stepped) g clock pops k).begun
  front_rule keys actors stepped g clock pops (Some k) = key_rule (starting.pop_ready keys g) actors
      (starting.cursor_at g k clock (pops - 1)) stepped
  front_rule keys actors stepped g clock pops None = none _ stepped (omega arith)

  pub ready_rule : (keys actors : Table) (stepped : Bool) (g clock pops : ℕ)
      → P (ready_of (readying t keys actors q stepped) g clock pops).links
      (ready_of (readying t keys actors q stepped) g clock pops).begun
  unfolding ready_of
  ready_rule keys actors stepped g clock pops =
      pick_rule (λ (s : Readied). P s.links s.begun) (eqb pops 0) (λ e. none _ stepped (omega arith))
      (λ e. front_rule keys actors stepped g clock pops (front_of (keys_at keys (ready_row g))))

begin_by_keeps : (t rows actors : Table) (c : Cursor) (slot q : ℕ) → Sound t rows q → slot < 128 → (m : Mode)
    → Keeps t rows (starting.begin_by (mailed t q) actors c slot m).links rows
    (starting.begin_by (mailed t q) actors c slot m).begun.queued
unfolding starting.begin_eval
begin_by_keeps t rows actors c slot q sound slot_is mode.Fixed = same_keeps t rows q sound
begin_by_keeps t rows actors c slot q sound slot_is mode.Eval = eval_start_keeps t rows actors q slot sound slot_is

begin_keeps : (t rows actors : Table) (c : Cursor) (slot q : ℕ) → Sound t rows q → slot < 128
    → Keeps t rows (starting.begin_step t actors c slot q).links rows (starting.begin_step t actors c slot q).begun.queued
unfolding starting.begin_step
begin_keeps t rows actors c slot q sound slot_is =
    begin_by_keeps t rows (put_actor actors slot (began_step (actor_at actors slot))) c slot q sound slot_is
    (actor_at actors slot).mode

pub ready_keeps : (t rows keys actors : Table) (q : ℕ) (b : Bool) (g clock pops : ℕ) → Sound t rows q
    → Keeps t rows (ready_of (readying t keys actors q b) g clock pops).links rows
    (ready_of (readying t keys actors q b) g clock pops).begun.queued
ready_keeps t rows keys actors q b g clock pops sound =
    ready_rule t q (λ (r : Table) (s : Begun). Keeps t rows r rows s.queued)
    (λ a stepped between. same_keeps t rows q sound)
    (λ l c slot_is. begin_keeps t rows l c (slot_on c) q sound slot_is) keys actors b g clock pops

module _ (t : Table) (c : Cursor) (slot_is : slot_on c < 128) where
  -- a step of a fixed actor begins at Run
  fixed_ok : (actors : Table) (slot : ℕ) → PointOk (starting.begin_fixed actors c slot).at t
  unfolding starting.begin_fixed fixed_start
  fixed_ok actors slot = pick_rule (λ (a : FixedAsk). AskOk (asks.Fixed c a) t) (actor_at actors slot).started
      (λ e. (slot_is, omega arith)) (λ e. (slot_is, omega arith))

  pub eval_ok : (n : EvalNext) → PointOk (eval_after c n) t
  eval_ok (eval.Asks a) = slot_is
  eval_ok (eval.Ended p) = omega arith

begin_by_ok : (t actors : Table) (c : Cursor) (slot q : ℕ) → slot_on c < 128 → (m : Mode)
    → PointOk (starting.begin_by (mailed t q) actors c slot m).begun.at
    (starting.begin_by (mailed t q) actors c slot m).links
unfolding starting.begin_eval
begin_by_ok t actors c slot q slot_is mode.Fixed = fixed_ok t c slot_is actors slot
begin_by_ok t actors c slot q slot_is mode.Eval = eval_ok (eval_start t actors slot q).links c slot_is
    (eval_start t actors slot q).step.next

begin_ok : (t actors : Table) (c : Cursor) (slot q : ℕ) → slot_on c < 128
    → PointOk (starting.begin_step t actors c slot q).begun.at (starting.begin_step t actors c slot q).links
unfolding starting.begin_step
begin_ok t actors c slot q slot_is = begin_by_ok t (put_actor actors slot (began_step (actor_at actors slot))) c slot q
    slot_is (actor_at actors slot).mode

pub ready_ok : (t keys actors : Table) (q : ℕ) (b : Bool) (g clock pops : ℕ)
    → PointOk (ready_of (readying t keys actors q b) g clock pops).begun.at
    (ready_of (readying t keys actors q b) g clock pops).links
ready_ok t keys actors q b g clock pops =
    ready_rule t q (λ (r : Table) (s : Begun). PointOk s.at r) (λ a stepped between. between_ok a t between)
    (λ l c slot_is. begin_ok t l c (slot_on c) q slot_is)
    keys actors b g clock pops

-- ---- a step ends

pub step_end_ok : (t : Table) (c : Cursor) (e : End) → PointOk (step_end c e) t
step_end_ok t c (end.Fixed s) = omega arith
step_end_ok t c (end.Eval p) = omega arith

leftover_keeps : (t rows : Table) (slot : ℕ) (consumed : Bool) (q : ℕ) → Sound t rows q
    → Keeps t rows (settling.leftover_of t rows slot consumed q).links rows
    (settling.leftover_of t rows slot consumed q).queued
unfolding settling.leftover_of
leftover_keeps t rows slot true q sound = empty_mailbox t rows q sound slot PENDING not_mailbox_pending
leftover_keeps t rows slot false q sound = over_mailbox t rows q sound slot (len_of t (mailbox_of slot))

release_keeps : (t rows keys actors : Table) (c : Cursor) (q : ℕ) → Sound t rows q
    → Keeps t rows (settling.release_of rows (turn_tables t keys actors q) c).links rows
    (settling.release_of rows (turn_tables t keys actors q) c
    ).queued
unfolding settling.release_of
release_keeps t rows keys actors c q sound = leftover_keeps t rows (slot_on c) (actor_at actors (slot_on c)).consumed q
    sound

pub settle_keeps : (t rows keys actors : Table) (c : Cursor) (s : Step) (q : ℕ) → Sound t rows q
    → Keeps t rows (settle_of rows (turn_tables t keys actors q) c s).links rows
    (settle_of rows (turn_tables t keys actors q) c s).settled.queued
unfolding settle_of
settle_keeps t rows keys actors c step.Done q sound = release_keeps t rows keys actors c q sound
settle_keeps t rows keys actors c (step.Parked p) q sound = same_keeps t rows q sound
settle_keeps t rows keys actors c step.Failed q sound = release_keeps t rows keys actors c q sound

pub settle_ok : (r t rows keys actors : Table) (c : Cursor) (s : Step) (q : ℕ)
    → PointOk (settle_of rows (turn_tables t keys actors q) c s).settled.at r
unfolding settle_of
settle_ok r t rows keys actors c step.Done q = omega arith
settle_ok r t rows keys actors c (step.Parked p) q = omega arith
settle_ok r t rows keys actors c step.Failed q = omega arith

-- ---- a message crashed

-- past the last slot there is no hand
pub no_hand : (slot : ℕ) → (slot < 128 → ⊥) → LISTS ≤ hand_of slot
unfolding hand_of
no_hand slot none = rw (le-ltb slot 128 (omega arith)) (omega arith)

abbrev DyingKeeps : Table → Table → ℕ → Dying → Type 0
DyingKeeps t rows q d = Keeps t rows d.links d.rows q

module _ (groups t rows : Table) (g q : ℕ) (sound : Sound t rows q) where
  -- one attempt more, up to the largest number, is no fewer
  more_tried : (a n : ℕ) → n < 2 ^ 64 → n ≤ a → n ≤ capped (a + 1)
  more_tried a n small most = omega arith

  entry_keeps : (from e dead : ℕ) → NotMailbox from
      → DyingKeeps t rows q (crashing.crashed_entry groups (dying t rows dead) g from e)
  unfolding crashing.crashed_entry
  entry_keeps from e dead not-mailbox =
      let again = move_keeps t rows q sound from PENDING not-mailbox not_mailbox_pending in
      pick_rule (DyingKeeps t rows q) (ltb (message_at rows e).attempts (group_at groups g).retry)
      (λ b. then_keeps again (row_keeps (move_first t from PENDING) rows q again.sound e (tried_of (message_at rows e))
      refl (more_tried (message_at rows e).attempts)))
      (λ b. over_keeps t rows q sound from not-mailbox)

  found_keeps : (from dead : ℕ) → NotMailbox from → (f : Option ℕ)
      → DyingKeeps t rows q (crashing.crashed_found groups (dying t rows dead) g from f)
  found_keeps from dead not-mailbox (Some e) = entry_keeps from e dead not-mailbox
  found_keeps from dead not-mailbox None = same_keeps t rows q sound

  first_keeps : (from dead : ℕ) → NotMailbox from
      → DyingKeeps t rows q (crashing.handle_crash groups (dying t rows dead) g from)
  unfolding crashing.handle_crash
  first_keeps from dead not-mailbox = found_keeps from dead not-mailbox (first_of t from)

  -- where there is no such list nothing crashed
  past_keeps : (from dead : ℕ) → LISTS ≤ from
      → DyingKeeps t rows q (crashing.handle_crash groups (dying t rows dead) g from)
  unfolding crashing.handle_crash
  past_keeps from dead past = rw (eq-eqb (len_of t from) 0 (len_past t from (omega (arith, sound.good.sized))))
      (same_keeps t rows q sound)

  held_keeps : (slot dead : ℕ) → DyingKeeps t rows q (crashing.handle_crash groups (dying t rows dead) g (hand_of slot))
  held_keeps slot dead = go (dec_lt slot 128)
    where
      go : Dec (slot < 128) → DyingKeeps t rows q (crashing.handle_crash groups (dying t rows dead) g (hand_of slot))
      go (yes p) = first_keeps (hand_of slot) dead (not_mailbox_held slot p)
      go (no p) = past_keeps (hand_of slot) dead (no_hand slot p)

pub crash_keeps : (groups t rows : Table) (c : Cursor) (l : Losses) (q : ℕ) → Sound t rows q
    → Keeps t rows (crash_of groups t rows c l).links (crash_of groups t rows c l).rows q
unfolding crash_of
crash_keeps groups t rows c l q sound = first_keeps groups t rows c.group q sound HAND l.dead not_mailbox_hand

-- ---- Trap, and Trapped of each actor

trapped_at_between : (c : Cursor) (k : Option ℕ) → BetweenSteps (crashing.trapped_at c k)
trapped_at_between c (Some k) = omega arith
trapped_at_between c None = omega arith

trapped_next_between : (keys : Table) (c : Cursor) (from : ℕ) → BetweenSteps (crashing.trapped_next keys c from)
unfolding crashing.trapped_next
trapped_next_between keys c from = trapped_at_between c (next_key (keys_at keys (slab_row c.group)) (16 - from) from)

trap_between : (keys : Table) (c : Cursor) (y : Option Bool) → BetweenSteps (crashing.trap_by keys c y).at
trap_between keys c (Some true) = trapped_next_between (set keys TRAPPED blank_row) c 0
trap_between keys c (Some false) = omega arith
trap_between keys c None = omega arith

pub trap_reply_between : (keys : Table) (c : Cursor) (r : Reply) → BetweenSteps (trap_reply keys c r).at
unfolding trap_reply
trap_reply_between keys c r = trap_between keys c (yes_in r)

trapped_between : (keys : Table) (c : Cursor) (k : ℕ) (y : Option Bool) → BetweenSteps (crashing.trapped_by keys c k y).at
trapped_between keys c k (Some true) = trapped_next_between (push_key keys TRAPPED k) c (crashing.next_asked k)
trapped_between keys c k (Some false) = trapped_next_between keys c (crashing.next_asked k)
trapped_between keys c k None = omega arith

pub trapped_reply_between : (keys : Table) (c : Cursor) (k : ℕ) (r : Reply)
    → BetweenSteps (trapped_reply keys c k r).at
unfolding trapped_reply
trapped_reply_between keys c k r = trapped_between keys c k (yes_in r)

-- ---- those that were trapped are retired

abbrev CrashingKeeps : Table → Table → Crashing → Type 0
CrashingKeeps t rows s = Keeps t rows s.links s.rows s.crashed.queued

module _ (groups t rows keys : Table) (c : Cursor) (left q : ℕ) (l : Losses) where
  crash_trapped_key_keeps : (names : Table) (k n : ℕ) → Sound t rows q
      → CrashingKeeps t rows (crashing.crash_trapped_key groups (retiring t rows names q l) c k n)
  unfolding crashing.crash_trapped_key
  crash_trapped_key_keeps names k n sound =
      let back = empty_mailbox t rows q sound (slot_at c.group k) PENDING not_mailbox_pending in
      then_keeps back (held_keeps groups (crashing.mail_back t (slot_at c.group k)) rows c.group _ back.sound
      (slot_at c.group k) l.dead)

  crash_trapped_front_keeps : Sound t rows q → (k : Option ℕ)
      → CrashingKeeps t rows (crashing.crash_trapped_front groups (retiring t rows keys q l) c left k)
  crash_trapped_front_keeps sound (Some k) =
      crash_trapped_key_keeps (set keys TRAPPED (pop_front (keys_at keys TRAPPED))) k (left - 1)
      sound
  crash_trapped_front_keeps sound None = same_keeps t rows q sound

  pub crash_trapped_keeps : Sound t rows q
      → Keeps t rows (crash_trapped groups (retiring t rows keys q l) c left).links
      (crash_trapped groups (retiring t rows keys q l) c left).rows
      (crash_trapped groups (retiring t rows keys q l) c left).crashed.queued
  unfolding crash_trapped
  crash_trapped_keeps sound =
      pick_rule (CrashingKeeps t rows) (eqb left 0) (λ e. same_keeps t rows q sound)
      (λ e. crash_trapped_front_keeps sound
      (front_of (keys_at keys TRAPPED)))

  crash_trapped_front_between : (k : Option ℕ)
      → BetweenSteps (crashing.crash_trapped_front groups (retiring t rows keys q l) c left k).crashed.at
  unfolding crashing.crash_trapped_key
  crash_trapped_front_between (Some k) = omega arith
  crash_trapped_front_between None = omega arith

  pub crash_trapped_between : BetweenSteps (crash_trapped groups (retiring t rows keys q l) c left).crashed.at
  unfolding crash_trapped
  crash_trapped_between = pick_rule (λ (s : Crashing). BetweenSteps s.crashed.at) (eqb left 0) (λ e. omega arith)
      (λ e. crash_trapped_front_between (front_of (keys_at keys TRAPPED)))
