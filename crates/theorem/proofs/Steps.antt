-- A step of an actor keeps every message in its place, or moves it to another one. Assumes nothing.
use Rattle.std.specs.Prelude.{Option, Some, None, Bool, true, false}
use Rattle.actor.specs.declared.message.CallerId.{CallerId}
use mathlib.Core.Path.{◌≡◌, refl}
use mathlib.Core.Bool.{Bool, true, false}
use Prim.Native.Nat.{ℕ, ◌-◌, ◌<◌}
use native.Mathlib.Omega.{arith}
use native.Mathlib.Decide.{ℕ_discrete}
use borrow.Author.Tests.{eq-eqb, ne_eqb}
use lib.Dec.{eqb, ltb, leb}
use Rattle.lists.specs.Links.{pick, Table, len_of, first_of, move_first, mailbox_of, hand_of, HAND}
use Rattle.lists.specs.Family.{Good}
use Rattle.actor.specs.declared.question.Status.{Status}
use Rattle.actor.specs.declared.question.Status.TheVariants as status
use Rattle.actor.specs.declared.question.Outcome.{Outcome}
use Rattle.actor.specs.declared.question.Outcome.TheVariants as outcome
use Rattle.actor.specs.declared.question.Reply.{Reply}
use Rattle.actor.specs.Questions.{yes_in, clock_in, count_in, ran_in, is_told}
use Rattle.actor.specs.Actors.{actor_at, has_run, deadline_of}
use Rattle.steps.specs.declared.fixed.FixedAsk.{FixedAsk}
use Rattle.steps.specs.declared.fixed.FixedAsk.TheVariants as fixed
use Rattle.steps.specs.declared.eval.EvalAsk.{EvalAsk}
use Rattle.steps.specs.declared.eval.EvalAsk.TheVariants as eval
use Rattle.steps.specs.declared.eval.Limit.{Limit}
use Rattle.steps.specs.Steps.{caller_first, over_first, idled_at, MailTaken, take_mail}
use Rattle.steps.specs.StepFixed.{FixedBoth, step_fixed}
use Rattle.steps.specs.StepFixed as one
use Rattle.steps.specs.StepEval.{EvalStarted, EvalBoth, eval_start, step_eval}
use Rattle.steps.specs.StepEval as two
use Rattle.theorem.specs.Places.{Sound, Keeps, HandFull, NextFull}
use Rattle.theorem.proofs.Through.{Through, same_through, then_through, through_not_mailbox, not_mailbox_move}
use Rattle.theorem.proofs.Through.{not_mailbox_over}
use Rattle.theorem.proofs.PlaceMoves.{not_mailbox_hand, not_mailbox_held, same_keeps, over_keeps, take_keeps}
use Rattle.theorem.proofs.PlaceMoves.{take_fills}
use Rattle.theorem.proofs.PlaceMoves.{back_keeps}
use Rattle.steps.specs.Steps.{step_tables}

-- what a transition of a fixed actor keeps
pub record FixedKeeps (t rows : Table) (s : FixedBoth) : Type 0 where
  pub keeps : Keeps t rows s.links rows s.step.queued
  pub full : NextFull s.step.next s.links

-- a transition of an eval actor: no mailbox changes
abbrev EvalThrough : Table → Table → EvalBoth → Type 0
EvalThrough t rows s = Through t rows s.links 128

-- what holds of both branches holds of the choice
pub pick_rule : {A : Type 0} (P : A → Type 0) (b : Bool) {x y : A} → (b ≡ true → P x) → (b ≡ false → P y)
    → P (pick b x y)
pick_rule P true f g = f refl
pick_rule P false f g = g refl

-- what holds with mail and without holds of the mail that is taken
mail_rule : (t l : Table) (slot q : ℕ) (P : MailTaken → Type 0)
    → P (record { links = t; actors = idled_at l slot; mail = record { taken = false; queued = q } })
    → (0 < len_of t (mailbox_of slot) → P (record {
      links = move_first t (mailbox_of slot) HAND;
      actors = l;
      mail =
          record { taken = true; queued = q - 1 };
    })) → P (take_mail t l slot q)
unfolding take_mail
mail_rule t l slot q P none some = go (ℕ_discrete (len_of t (mailbox_of slot)) 0)
  where
    go : Dec (len_of t (mailbox_of slot) ≡ 0) → P (take_mail t l slot q)
    go (yes p) = rw (eq-eqb (len_of t (mailbox_of slot)) 0 p) none
    go (no p) = rw (ne_eqb (len_of t (mailbox_of slot)) 0 p) (some (omega arith))

-- between the hand of an actor and that of the step
module _ (t rows : Table) (slot : ℕ) (good : Good t) (low : slot < 128) where
  pub held_to_hand : Through t rows (move_first t (hand_of slot) HAND) 128
  held_to_hand = not_mailbox_move t rows good (hand_of slot) (not_mailbox_held slot low) HAND not_mailbox_hand

  pub hand_to_held : Through t rows (move_first t HAND (hand_of slot)) 128
  hand_to_held = not_mailbox_move t rows good HAND not_mailbox_hand (hand_of slot) (not_mailbox_held slot low)

-- ---- a reply to an eval actor: no mailbox changes

module _ (t rows l : Table) (slot : ℕ) (good : Good t) where
  -- the message of the step's hand is over; its caller, where there is one, is told first
  over_eval : EvalThrough t rows (two.eval_over (step_tables t rows l) slot)
  unfolding two.eval_over
  over_eval =
      let over = not_mailbox_over t rows good HAND not_mailbox_hand in
      pick_rule (EvalThrough t rows) (eqb (len_of (over_first t rows HAND) (mailbox_of slot)) 0) (λ e. over) (λ e. over)

  tell_eval : (o : Outcome) → EvalThrough t rows (two.eval_tell (step_tables t rows l) slot o)
  unfolding two.eval_tell
  tell_eval o = go (caller_first rows (first_of t HAND))
    where
      go : (c : Option CallerId) → EvalThrough t rows (two.eval_told (step_tables t rows l) slot o c)
      go (Some id) = same_through t rows 128 good
      go None = over_eval

module _ (t rows l : Table) (slot : ℕ) (good : Good t) (low : slot < 128) where
  -- a reply that does not fit, and one that only leads on, moves nothing
  quiet : Through t rows t 128
  quiet = same_through t rows 128 good

  -- the run ends
  finish_eval : (o : Outcome) → EvalThrough t rows (two.eval_finish (step_tables t rows l) slot o)
  unfolding two.eval_finish
  finish_eval o =
      let held = held_to_hand t rows slot good low in
      then_through held (tell_eval (move_first t (hand_of slot) HAND) rows _ slot held.good o)

  clocked_eval : (c : ℕ) → EvalThrough t rows (two.eval_clocked (step_tables t rows l) slot c)
  unfolding two.eval_clocked
  clocked_eval c = pick_rule (EvalThrough t rows) (leb (deadline_of (actor_at l slot).run) c)
      (λ e. finish_eval outcome.Late) (λ e. quiet)

  ran_eval : (s : Status) → EvalThrough t rows (two.eval_ran (step_tables t rows l) slot s)
  unfolding two.eval_ran
  ran_eval status.Done = finish_eval outcome.Ran
  ran_eval status.Exit = finish_eval outcome.Ran
  ran_eval status.Preempted = quiet
  ran_eval status.Event = finish_eval outcome.StuckReceive
  ran_eval status.HostCall = quiet
  ran_eval status.Error = finish_eval outcome.Raised
  ran_eval status.Broke = finish_eval outcome.Broke

  dispatched_eval : (n : ℕ) → EvalThrough t rows (two.eval_dispatched (step_tables t rows l) slot n)
  unfolding two.eval_dispatched
  dispatched_eval n = pick_rule (EvalThrough t rows) (ltb 0 n) (λ e. quiet) (λ e. finish_eval outcome.StuckHostCall)

  by_clock : (r : Option ℕ) → EvalThrough t rows (two.eval_clock_by (step_tables t rows l) slot r)
  by_clock (Some ns) = clocked_eval ns
  by_clock None = quiet

  by_boot : (r : Option Bool) → EvalThrough t rows (two.boot_by (step_tables t rows l) slot r)
  unfolding two.eval_booted
  by_boot (Some true) = quiet
  by_boot (Some false) = tell_eval t rows l slot good outcome.Unbooted
  by_boot None = quiet

  by_start : (limit : Limit) (r : Option ℕ) → EvalThrough t rows (two.start_by t l slot limit r)
  unfolding two.eval_started
  by_start limit (Some ns) = hand_to_held t rows slot good low
  by_start limit None = quiet

  by_ran : (start : Bool) (r : Option Status) → EvalThrough t rows (two.eval_run_by (step_tables t rows l) slot start r)
  by_ran start (Some s) = ran_eval s
  by_ran start None = quiet

  by_dispatched : (r : Option ℕ) → EvalThrough t rows (two.eval_dispatch_by (step_tables t rows l) slot r)
  by_dispatched (Some n) = dispatched_eval n
  by_dispatched None = quiet

  pub eval_through : (limit : Limit) (a : EvalAsk) (r : Reply)
      → EvalThrough t rows (step_eval (step_tables t rows l) slot limit a r)
  unfolding two.step_eval two.eval_clock_reply two.boot_reply two.start_reply two.eval_run_reply two.eval_dispatch_reply
      two.tell_reply
  eval_through limit eval.Clock r = by_clock (clock_in r)
  eval_through limit eval.Boot r = by_boot (yes_in r)
  eval_through limit eval.StartClock r = by_start limit (clock_in r)
  eval_through limit (eval.Run start) r = by_ran start (ran_in r)
  eval_through limit eval.Dispatch r = by_dispatched (count_in r)
  eval_through limit (eval.Tell o) r = pick_rule (EvalThrough t rows) (is_told r) (λ e. over_eval t rows l slot good)
      (λ e. quiet)

-- ---- what a step keeps

module _ (t rows l : Table) (q slot : ℕ) (sound : Sound t rows q) (slot_is : slot < 128) where
  same : Keeps t rows t rows q
  same = same_keeps t rows q sound

  -- where no mailbox changes
  quiet_keeps : {r : Table} → Through t rows r 128 → Keeps t rows r rows q
  quiet_keeps {r = r} went = through_not_mailbox t rows r q 128 sound went (omega arith)

  held_over : Keeps t rows (over_first t rows (hand_of slot)) rows q
  held_over = over_keeps t rows q sound (hand_of slot) (not_mailbox_held slot slot_is)

  -- ---- a fixed actor

  failed_keeps : FixedKeeps t rows (one.kept_fixed l q (one.fixed_failed t slot))
  unfolding one.fixed_failed
  failed_keeps = record { keeps = quiet_keeps (held_to_hand t rows slot sound.good slot_is); full = omega arith }

  ran_keeps : (s : Status) → FixedKeeps t rows (one.kept_fixed l q (one.fixed_ran t rows slot s))
  unfolding one.fixed_ran
  ran_keeps status.Done = record { keeps = held_over; full = omega arith }
  ran_keeps status.Exit = record { keeps = held_over; full = omega arith }
  ran_keeps status.Preempted = record { keeps = same; full = omega arith }
  ran_keeps status.Event = record { keeps = held_over; full = omega arith }
  ran_keeps status.HostCall = record { keeps = same; full = omega arith }
  ran_keeps status.Error = failed_keeps
  ran_keeps status.Broke = failed_keeps

  drained_keeps : (n : ℕ) → FixedKeeps t rows (one.fixed_drained t l slot q n)
  unfolding one.fixed_drained
  drained_keeps n =
      pick_rule (FixedKeeps t rows) (ltb 0 n) (λ e. record { keeps = same; full = omega arith })
      (λ e. mail_rule t l slot q (λ (m : MailTaken). FixedKeeps t rows (one.fixed_mail m))
      (record { keeps = same; full = omega arith })
      (λ some. record {
        keeps = take_keeps t rows q sound slot slot_is some;
        full = take_fills t rows q sound slot
            slot_is some;
      }))

  pushed_keeps : 0 < len_of t HAND → (b : Bool) → FixedKeeps t rows (one.fixed_pushed t l slot q b)
  unfolding one.fixed_pushed
  pushed_keeps some true =
      record { keeps = quiet_keeps (hand_to_held t rows slot sound.good slot_is); full = omega arith }
  pushed_keeps some false = record { keeps = back_keeps t rows q sound slot slot_is some; full = omega arith }

  dispatched_keeps : (n : ℕ) → FixedKeeps t rows (one.kept_fixed l q (one.fixed_dispatched t slot n))
  unfolding one.fixed_dispatched
  dispatched_keeps n =
      pick_rule (λ (f : one.FixedLinks). FixedKeeps t rows (one.kept_fixed l q f)) (ltb 0 n)
      (λ e. record { keeps = same; full = omega arith }) (λ e. failed_keeps)

  by_run : (start : Bool) (r : Option Status) → FixedKeeps t rows (one.kept_fixed l q (one.run_by t rows slot start r))
  by_run start (Some s) = ran_keeps s
  by_run start None = record { keeps = same; full = omega arith }

  by_drain : (r : Option ℕ) → FixedKeeps t rows (one.drain_by t l slot q r)
  by_drain (Some n) = drained_keeps n
  by_drain None = record { keeps = same; full = omega arith }

  by_push : 0 < len_of t HAND → (r : Option Bool) → FixedKeeps t rows (one.push_by t l slot q r)
  by_push some (Some true) = pushed_keeps some true
  by_push some (Some false) = pushed_keeps some false
  by_push some None = record { keeps = same; full = some }

  by_dispatch : (r : Option ℕ) → FixedKeeps t rows (one.kept_fixed l q (one.dispatch_by t slot r))
  by_dispatch (Some n) = dispatched_keeps n
  by_dispatch None = record { keeps = same; full = omega arith }

  pub fixed_keeps : (a : FixedAsk) → HandFull a t → (r : Reply)
      → FixedKeeps t rows (step_fixed (step_tables t rows l) slot q a r)
  unfolding one.step_fixed one.run_reply one.drain_reply one.push_reply one.dispatch_reply
  fixed_keeps (fixed.Run start) full r = by_run start (ran_in r)
  fixed_keeps fixed.Drain full r = by_drain (count_in r)
  fixed_keeps fixed.Push full r = by_push full (yes_in r)
  fixed_keeps fixed.Dispatch full r = by_dispatch (count_in r)

  -- ---- an eval actor: queued changes only where mail is taken, as a step begins

  pub eval_start_keeps : Keeps t rows (eval_start t l slot q).links rows (eval_start t l slot q).step.queued
  unfolding two.eval_start
  eval_start_keeps =
      pick_rule (λ (s : EvalStarted). Keeps t rows s.links rows s.step.queued) (has_run (actor_at l slot).run)
      (λ e. same)
      (λ e. mail_rule t l slot q (λ (m : MailTaken). Keeps t rows m.links rows m.mail.queued) same
      (λ some. take_keeps t rows q sound slot slot_is some))

  pub eval_keeps : (limit : Limit) (a : EvalAsk) (r : Reply)
      → Keeps t rows (step_eval (step_tables t rows l) slot limit a r).links
      rows q
  eval_keeps limit a r = quiet_keeps (eval_through t rows l slot sound.good slot_is limit a r)
