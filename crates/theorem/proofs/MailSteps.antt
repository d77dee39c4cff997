-- At every point of a turn, every reply and every mark at most one mailbox changes, by one of the operations of
-- crates/theorem. Assumes nothing.
use Rattle.std.specs.Prelude.{Option, Some, None, Bool, true, false}
use Rattle.message_log.specs.declared.LogId.{LogId}
use mathlib.Core.Path.{◌≡◌, refl}
use mathlib.Core.Bool.{Bool, true, false}
use Prim.Native.Nat.{ℕ, ◌-◌, ◌≤◌, ◌<◌}
use native.Mathlib.Omega.{arith}
use native.Mathlib.Decide.{dec_lt}
use lib.Dec.{eqb, ltb}
use lib.ListN.{set}
use Rattle.lists.specs.Links.{LISTS, FREE, Table, len_of, first_of, move_first, move_all, mailbox_of, hand_of}
use Rattle.lists.specs.Links.{INBOX, PENDING, BATCH, OVER, HAND}
use Rattle.lists.specs.Family.{Good}
use Rattle.lists.specs.KeyLists.{keys_at, front_of, pop_front}
use Rattle.lists.proofs.Moves.{move_first_lem}
use Rattle.actor.specs.declared.question.Status.{Status}
use Rattle.actor.specs.declared.question.Status.TheVariants as status
use Rattle.actor.specs.declared.question.Reply.{Reply}
use Rattle.actor.specs.declared.state.Mode.{Mode}
use Rattle.actor.specs.declared.state.Mode.TheVariants as mode
use Rattle.actor.specs.Questions.{yes_in, count_in, ran_in}
use Rattle.actor.specs.Messages.{message_at}
use Rattle.actor.specs.Actors.{actor_at, put_actor, began_step, has_run}
use Rattle.actor.specs.Entry as entry
use Rattle.actor.specs.Entry.{Messages, Arrival}
use Rattle.steps.specs.declared.step.Step.{Step}
use Rattle.steps.specs.declared.step.Step.TheVariants as step
use Rattle.steps.specs.declared.fixed.FixedAsk.{FixedAsk}
use Rattle.steps.specs.declared.fixed.FixedAsk.TheVariants as fixed
use Rattle.steps.specs.Steps.{over_first, take_mail}
use Rattle.steps.specs.StepFixed.{FixedBoth, FixedLinks, step_fixed}
use Rattle.steps.specs.StepFixed as one
use Rattle.steps.specs.StepEval.{EvalStarted}
use Rattle.steps.specs.StepEval as two
use Rattle.points.specs.declared.at.Ask.TheVariants as asks
use Rattle.points.specs.declared.at.Point.TheVariants as point
use Rattle.points.specs.declared.at.Cursor.{Cursor}
use Rattle.group.specs.Settings.{group_at}
use Rattle.group.specs.Roster.{TRAPPED, slot_at, over_all}
use Rattle.route.specs.Intake.{Linked, batch_of, intake_of}
use Rattle.route.specs.Batch as to
use Rattle.route.specs.Batch.{RoutedTables}
use Rattle.tick.specs.declared.crash.Losses.{Losses}
use Rattle.tick.specs.Ready.{Begun}
use Rattle.tick.specs.Ready as starting
use Rattle.tick.specs.Ready.{ready_of}
use Rattle.tick.specs.Settle as settling
use Rattle.tick.specs.Settle.{settle_of}
use Rattle.tick.specs.Crash as crashing
use Rattle.tick.specs.Crash.{Dying, Crashing, crash_of, crash_trapped}
use Rattle.turn.specs.State.{State, with_links}
use Rattle.turn.specs.Go.{go_of}
use Rattle.turn.specs.Step as turn
use Rattle.turn.specs.Step.{mark_first}
use Rattle.turn.specs.Resume.{limit_of, resume_of}
use Rattle.theorem.specs.Mailboxes.{mail_list}
use Rattle.theorem.specs.Operations.{slot_number}
use Rattle.theorem.proofs.MailMoves.{put_at_end_lem, put_at_front_lem, empty_out_lem}
use Rattle.theorem.proofs.Unread as emptied
use Rattle.theorem.proofs.Operations.{takes, retires}
use Rattle.theorem.proofs.Through.{Aside, aside_not_mailbox, aside_mailbox, Through, same_through, then_through}
use Rattle.theorem.proofs.Through.{first_rule}
use Rattle.theorem.proofs.Through.{first_through, all_through, over_through, over_all_through, not_mailbox_move}
use Rattle.theorem.proofs.Through.{not_mailbox_all}
use Rattle.theorem.proofs.Through.{not_mailbox_over}
use Rattle.theorem.proofs.PlaceMoves.{not_mailbox_inbox, not_mailbox_pending, not_mailbox_batch}
use Rattle.theorem.proofs.PlaceMoves.{not_mailbox_hand, not_mailbox_held}
use Rattle.theorem.proofs.Steps.{pick_rule, held_to_hand, hand_to_held, eval_through}
use Rattle.theorem.specs.MailSteps.{MailSame, MailStep, unchanged, delivered, pushed_back, took, sent_back}
use Rattle.theorem.specs.MailSteps.{unread, retired, EveryPoint, EveryReply, EveryMark, EveryArrival}
use Rattle.theorem.proofs.Living.{Slot, slot_is}
use Rattle.theorem.proofs.Routing.{intake_rule, Routes, route_rule, reply_rule}
use Rattle.theorem.proofs.Ticking.{ready_rule, no_hand}
use Rattle.group.specs.Roster.{slot_on, turn_tables, mailed}
use Rattle.tick.specs.Ready.{readying}
use Rattle.tick.specs.Crash.{retiring, dying}
use Rattle.steps.specs.Steps.{step_tables}

-- ---- no mailbox changes

-- the first message of a list below the mailboxes goes to another one
low_move : (t : Table) → Good t → (from to : ℕ) → from < 6 → to < 6 → MailSame t (move_first t from to)
low_move t good from to f g =
    first_rule t good from to (MailSame t) (λ slot low. refl)
    (λ pair slot low. (move_first_lem pair).others (mail_list slot) (λ e. omega arith) (λ e. omega arith))

module _ (groups rows t : Table) (good : Good t) where
  nothing : MailStep groups rows t t
  nothing = unchanged (λ slot low. refl)

  -- messages went to or from a slot that there is not
  aside_step : (r : Table) (slot : ℕ) → 128 ≤ slot → Through t rows r slot → MailStep groups rows t r
  aside_step r slot past went = unchanged (λ s low. went.others s low (λ e. omega arith))

  -- messages went between lists that are no mailboxes
  elsewhere : {r : Table} → Through t rows r 128 → MailStep groups rows t r
  elsewhere {r = r} went = aside_step r 128 (omega arith) went

-- ---- a mailbox, whatever the slot: where there is no such mailbox nothing moves

-- what holds where there is such a mailbox, and where there is none, holds
slot_rule : (slot : ℕ) (P : Type 0) → (slot < 128 → P) → (128 ≤ slot → P) → P
slot_rule slot P there none = go (dec_lt slot 128)
  where
    go : Dec (slot < 128) → P
    go (yes p) = there p
    go (no p) = none (omega arith)

module _ (groups t rows : Table) (good : Good t) (slot : ℕ) where
  -- the first message of the batch is put at its end
  delivery : MailStep groups rows t (move_first t BATCH (mailbox_of slot))
  delivery =
      slot_rule slot _ (λ low. delivered slot low (put_at_end_lem slot low t good BATCH (omega arith)))
      (λ past. aside_step groups rows t good _ slot past (first_through t rows good BATCH slot
      (aside_not_mailbox slot BATCH not_mailbox_batch) (mailbox_of slot) (aside_mailbox slot)))

  -- all of it goes to the end of pending
  sending_back : MailStep groups rows t (move_all t (mailbox_of slot) PENDING)
  sending_back =
      slot_rule slot _ (λ low. sent_back slot low (empty_out_lem slot low t good PENDING (omega arith)))
      (λ past. aside_step groups rows t good _ slot past (all_through t rows good (mailbox_of slot) slot
      (aside_mailbox slot) PENDING (aside_not_mailbox slot PENDING not_mailbox_pending)))

  -- all of it is over
  dropping : MailStep groups rows t (over_all t rows (mailbox_of slot) (len_of t (mailbox_of slot)))
  dropping =
      slot_rule slot _ (λ low. unread slot low (emptied.unread slot low t rows good))
      (λ past. aside_step groups rows t good _ slot past (over_all_through (len_of t (mailbox_of slot)) t rows good
      (mailbox_of slot) slot (aside_mailbox slot)))

-- ---- a step of a fixed actor: after Drain mail is taken, and after Push it is put back where the answer is no

module _ (groups t rows l : Table) (slot : ℕ) (good : Good t) (low : slot < 128) where
  -- the first message of the mailbox is taken into the step's hand
  taken : (q : ℕ) → MailStep groups rows t (take_mail t l slot q).links
  taken q = took slot low (takes t l slot q good low)

  held_over : MailStep groups rows t (over_first t rows (hand_of slot))
  held_over = elsewhere groups rows t good (not_mailbox_over t rows good (hand_of slot) (not_mailbox_held slot low))

  failed_fixed : MailStep groups rows t (one.fixed_failed t slot).links
  unfolding one.fixed_failed
  failed_fixed = elsewhere groups rows t good (held_to_hand t rows slot good low)

  ran_fixed : (s : Status) → MailStep groups rows t (one.fixed_ran t rows slot s).links
  unfolding one.fixed_ran
  ran_fixed status.Done = held_over
  ran_fixed status.Exit = held_over
  ran_fixed status.Preempted = nothing groups rows t good
  ran_fixed status.Event = held_over
  ran_fixed status.HostCall = nothing groups rows t good
  ran_fixed status.Error = failed_fixed
  ran_fixed status.Broke = failed_fixed

  dispatched_fixed : (n : ℕ) → MailStep groups rows t (one.fixed_dispatched t slot n).links
  unfolding one.fixed_dispatched
  dispatched_fixed n =
      pick_rule (λ (f : FixedLinks). MailStep groups rows t f.links) (ltb 0 n) (λ e. nothing groups rows t good)
      (λ e. failed_fixed)

  by_run : (start : Bool) (r : Option Status) → MailStep groups rows t (one.run_by t rows slot start r).links
  by_run start (Some s) = ran_fixed s
  by_run start None = nothing groups rows t good

  by_drain : (q : ℕ) (r : Option ℕ) → MailStep groups rows t (one.drain_by t l slot q r).links
  unfolding one.fixed_drained
  by_drain q (Some n) =
      pick_rule (λ (s : FixedBoth). MailStep groups rows t s.links) (ltb 0 n) (λ e. nothing groups rows t good)
      (λ e. taken q)
  by_drain q None = nothing groups rows t good

  by_push : (q : ℕ) (r : Option Bool) → MailStep groups rows t (one.push_by t l slot q r).links
  unfolding one.fixed_pushed
  by_push q (Some true) = elsewhere groups rows t good (hand_to_held t rows slot good low)
  by_push q (Some false) = pushed_back slot low (put_at_front_lem slot low t good HAND (omega arith))
  by_push q None = nothing groups rows t good

  by_dispatch : (r : Option ℕ) → MailStep groups rows t (one.dispatch_by t slot r).links
  by_dispatch (Some n) = dispatched_fixed n
  by_dispatch None = nothing groups rows t good

  fixed_step : (q : ℕ) (a : FixedAsk) (r : Reply)
      → MailStep groups rows t (step_fixed (step_tables t rows l) slot q a r).links
  unfolding one.step_fixed one.run_reply one.drain_reply one.push_reply one.dispatch_reply
  fixed_step q (fixed.Run start) r = by_run start (ran_in r)
  fixed_step q fixed.Drain r = by_drain q (count_in r)
  fixed_step q fixed.Push r = by_push q (yes_in r)
  fixed_step q fixed.Dispatch r = by_dispatch (count_in r)

-- ---- taking in and routing

intake_step : (groups t rows : Table) (q backlog left : ℕ) → Good t
    → MailStep groups rows t (intake_of t q backlog left).links
unfolding batch_of
intake_step groups t rows q backlog left good =
    intake_rule t q backlog left (λ (s : Linked). MailStep groups rows t s.links)
    (elsewhere groups rows t good (not_mailbox_all t rows good PENDING not_mailbox_pending BATCH not_mailbox_batch))
    (elsewhere groups rows t good (not_mailbox_move t rows good INBOX not_mailbox_inbox PENDING not_mailbox_pending))

abbrev SentStep : Table → Table → Table → RoutedTables → Type 0
SentStep groups rows t s = MailStep groups rows t s.links

-- only a delivery changes a mailbox
route_ways : (groups t rows : Table) (q left : ℕ) → Good t → Routes t rows q left (SentStep groups rows t)
unfolding to.undeliverable to.deliver to.deliver_to
route_ways groups t rows q left good = record {
  over = λ keys actors. elsewhere groups rows t good (not_mailbox_over t rows good BATCH not_mailbox_batch);
  sent = λ keys actors g k. delivery groups t rows good (slot_at g k);
  asks = λ keys actors g. nothing groups rows t good;
  done = λ keys actors. nothing groups rows t good;
}

-- ---- a step begins

-- that of an eval actor without a run takes mail
begin_by_step : (groups rows t actors : Table) (c : Cursor) (slot q : ℕ) → Good t → slot < 128 → (m : Mode)
    → MailStep groups rows t (starting.begin_by (mailed t q) actors c slot m).links
unfolding starting.begin_eval two.eval_start
begin_by_step groups rows t actors c slot q good low mode.Fixed = nothing groups rows t good
begin_by_step groups rows t actors c slot q good low mode.Eval =
    pick_rule (λ (s : EvalStarted). MailStep groups rows t s.links) (has_run (actor_at actors slot).run)
    (λ e. nothing groups rows t good)
    (λ e. taken groups t rows actors slot good low q)

begin_step_lem : (groups rows t actors : Table) (c : Cursor) (slot q : ℕ) → Good t → slot < 128
    → MailStep groups rows t (starting.begin_step t actors c slot q).links
unfolding starting.begin_step
begin_step_lem groups rows t actors c slot q good low =
    begin_by_step groups rows t (put_actor actors slot (began_step (actor_at actors slot))) c slot
    q good low (actor_at actors slot).mode

ready_step : (groups rows t keys actors : Table) (q : ℕ) (b : Bool) (g clock pops : ℕ) → Good t
    → MailStep groups rows t (ready_of (readying t keys actors q b) g clock pops).links
ready_step groups rows t keys actors q b g clock pops good =
    ready_rule t q (λ (r : Table) (s : Begun). MailStep groups rows t r)
    (λ a stepped between. nothing groups rows t good)
    (λ l c low. begin_step_lem groups rows t l c (slot_on c) q good low) keys actors b g clock pops

-- ---- a step ends

-- the mailbox of an actor that ended or raised goes back to pending, or is over
leftover_step : (groups t rows : Table) (slot : ℕ) (consumed : Bool) (q : ℕ) → Good t
    → MailStep groups rows t (settling.leftover_of t rows slot consumed q).links
unfolding settling.leftover_of
leftover_step groups t rows slot true q good = sending_back groups t rows good slot
leftover_step groups t rows slot false q good = dropping groups t rows good slot

settle_step : (groups t rows keys actors : Table) (c : Cursor) (s : Step) (q : ℕ) → Good t
    → MailStep groups rows t (settle_of rows (turn_tables t keys actors q) c s).links
unfolding settle_of settling.release_of
settle_step groups t rows keys actors c step.Done q good =
    leftover_step groups t rows (slot_on c) (actor_at actors (slot_on c)).consumed
    q good
settle_step groups t rows keys actors c (step.Parked p) q good = nothing groups rows t good
settle_step groups t rows keys actors c step.Failed q good = leftover_step groups t rows (slot_on c)
    (actor_at actors (slot_on c)).consumed q good

-- ---- a message crashed

-- it is tried again, and then pending, or over
module _ (groups t rows : Table) (g slot : ℕ) (good : Good t) (from dead : ℕ) (f : Aside slot from) where
  entry_through : (e : ℕ) → Through t rows (crashing.crashed_entry groups (dying t rows dead) g from e).links slot
  unfolding crashing.crashed_entry
  entry_through e =
      pick_rule (λ (d : Dying). Through t rows d.links slot)
      (ltb (message_at rows e).attempts (group_at groups g).retry)
      (λ b. first_through t rows good from slot f PENDING (aside_not_mailbox slot PENDING not_mailbox_pending))
      (λ b. over_through t rows good from slot f)

  found_through : (e : Option ℕ) → Through t rows (crashing.crashed_found groups (dying t rows dead) g from e).links slot
  found_through (Some e) = entry_through e
  found_through None = same_through t rows slot good

  crashed_through : Through t rows (crashing.handle_crash groups (dying t rows dead) g from).links slot
  unfolding crashing.handle_crash
  crashed_through = found_through (first_of t from)

crash_step : (groups t rows : Table) (c : Cursor) (l : Losses) → Good t
    → MailStep groups rows t (crash_of groups t rows c l).links
unfolding crash_of
crash_step groups t rows c l good =
    elsewhere groups rows t good
    (crashed_through groups t rows c.group 128 good HAND l.dead (aside_not_mailbox 128 HAND
    not_mailbox_hand))

-- ---- those that were trapped are retired

-- past the last slot there is no hand
aside_hand : (slot : ℕ) → 128 ≤ slot → Aside slot (hand_of slot)
aside_hand slot past =
    let none : LISTS ≤ hand_of slot = no_hand slot (λ low. omega arith) in
    record { place = omega arith; no_mail = λ s s-is other e. omega arith }

module _ (groups t rows : Table) (c : Cursor) (q : ℕ) (l : Losses) (good : Good t) where
  -- where there is no such slot nothing moves
  past_step : (keys : Table) (k n : ℕ) → 128 ≤ slot_at c.group k
      → MailStep groups rows t (crashing.crash_trapped_key groups (retiring t rows keys q l) c k n).links
  unfolding crashing.crash_trapped_key
  past_step keys k n past =
      let slot = slot_at c.group k in
      let back = all_through t rows good (mailbox_of slot) slot (aside_mailbox slot) PENDING
      (aside_not_mailbox slot PENDING
      not_mailbox_pending) in
      aside_step groups rows t good _ slot past
      (then_through back (crashed_through groups (crashing.mail_back t slot) rows
      c.group slot back.good (hand_of slot) l.dead (aside_hand slot past)))

  crash_trapped_key_step : (keys : Table) (k n : ℕ)
      → MailStep groups rows t (crashing.crash_trapped_key groups (retiring t rows keys q l) c k n).links
  crash_trapped_key_step keys k n = slot_rule (slot_at c.group k) _ (λ low. there (slot_is c.group k low))
      (past_step keys k n)
    where
      there : Slot c.group k
          → MailStep groups rows t (crashing.crash_trapped_key groups (retiring t rows keys q l) c k n).links
      there s = retired c.group (slot_number c.group k) (omega (arith, s.group, s.key))
          (retires groups t rows keys c k n q l good s.group s.key)

  crash_trapped_front_step : (keys : Table) (left : ℕ) (k : Option ℕ)
      → MailStep groups rows t (crashing.crash_trapped_front groups (retiring t rows keys q l) c left k).links
  crash_trapped_front_step keys left (Some k) =
      crash_trapped_key_step (set keys TRAPPED (pop_front (keys_at keys TRAPPED))) k
      (left - 1)
  crash_trapped_front_step keys left None = nothing groups rows t good

  crash_trapped_step : (keys : Table) (left : ℕ)
      → MailStep groups rows t (crash_trapped groups (retiring t rows keys q l) c left).links
  unfolding crash_trapped
  crash_trapped_step keys left =
      pick_rule (λ (s : Crashing). MailStep groups rows t s.links) (eqb left 0) (λ e. nothing groups rows t good)
      (λ e. crash_trapped_front_step keys left (front_of (keys_at keys TRAPPED)))

-- ---- every point

-- no message moves
stays : (s : State) → MailStep s.groups s.rows s.links s.links
stays s = unchanged (λ slot low. refl)

pub every_point : EveryPoint
unfolding go_of
every_point s (point.Seed g) good = stays s
every_point s (point.Intake left) good =
    intake_step s.groups s.links s.rows s.pool.turn.counts.queued s.pool.limits.backlog left good
every_point s (point.Route left) good =
    route_rule s.links s.rows s.pool.turn.counts.queued left (SentStep s.groups s.rows s.links)
    (route_ways s.groups s.links s.rows s.pool.turn.counts.queued left good)
    s.groups s.pool.limits.groups s.store s.keys s.actors
every_point s (point.Wake g clock) good = stays s
every_point s (point.WakeNext g clock left) good = stays s
every_point s (point.Ready g clock pops) good =
    ready_step s.groups s.rows s.links s.keys s.actors s.pool.turn.counts.queued
    s.pool.turn.counts.stepped g clock pops good
every_point s (point.StepEnd c e) good = stays s
every_point s (point.Settle c step) good =
    settle_step s.groups s.links s.rows s.keys s.actors c step s.pool.turn.counts.queued good
every_point s (point.Crash c) good =
    crash_step s.groups s.links s.rows c s.pool.turn.counts.losses good
every_point s (point.AskTrap c) good = stays s
every_point s (point.CrashTrapped c left) good =
    crash_trapped_step s.groups s.links s.rows c s.pool.turn.counts.queued
    s.pool.turn.counts.losses
    good s.keys left

-- ---- every reply

pub every_reply : EveryReply
unfolding resume_of
every_reply s (asks.SeedBoot g) r good ok = stays s
every_reply s (asks.RouteBoot g left) r good ok =
    reply_rule s.links s.rows s.pool.turn.counts.queued left (SentStep s.groups s.rows s.links)
    (route_ways s.groups s.links s.rows s.pool.turn.counts.queued left good)
    s.keys s.actors g r
every_reply s asks.TickClock r good ok = stays s
every_reply s (asks.WakePoll g k clock left) r good ok = stays s
every_reply s (asks.Fixed c a) r good (low, full) =
    fixed_step s.groups s.links s.rows s.actors (slot_at c.group c.key) good low
    s.pool.turn.counts.queued a r
every_reply s (asks.Eval c a) r good low =
    elsewhere s.groups s.rows s.links good
    (eval_through s.links s.rows s.actors (slot_at c.group c.key) good low (limit_of s c) a r)
every_reply s (asks.Sends c step) r good ok = stays s
every_reply s (asks.Trap c) r good ok = stays s
every_reply s (asks.Trapped c k) r good ok = stays s

-- ---- every mark, and every message that comes

-- the mark itself changes only the log
logged_links : (s : State) (l : Option LogId) → (turn.mark_logged s l).links ≡ s.links
unfolding turn.mark_logged
logged_links s (Some id) = refl
logged_links s None = refl

mark_found_lem : (s : State) → Good s.links → (e : Option ℕ) → MailSame s.links (turn.mark_entry s e).links
mark_found_lem s good (Some e) =
    rw (logged_links (with_links s (move_first s.links OVER FREE)) (message_at s.rows e).id)
    (low_move s.links good OVER FREE (omega arith) (omega arith))
mark_found_lem s good None = λ slot low. refl

pub every_mark : EveryMark
unfolding mark_first
every_mark s good = mark_found_lem s good (first_of s.links OVER)

kept_found : (m : Messages) (a : Arrival) (to : ℕ) → Good m.links → to < 6 → (e : Option ℕ)
    → MailSame m.links (entry.keep_found m a to e).links
unfolding entry.keep_at
kept_found m a to good low (Some e) = low_move m.links good FREE to (omega arith) low
kept_found m a to good low None = λ slot s-is. refl

pub every_arrival : EveryArrival
unfolding entry.keep_of
every_arrival m a to good low = kept_found m a to good low (first_of m.links FREE)
