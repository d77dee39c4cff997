-- A step keeps every message in exactly one place: the family of lists stays well formed, lists of other actors do not
-- change, and `queued` changes as the mailbox's length does. Assumes nothing.
use Rattle.std.specs.Prelude.{Option, Some, None, Bool, true, false}
use Rattle.message_log.specs.declared.LogId.{LogId}
use Rattle.actor.specs.declared.message.CallerId.{CallerId}
use mathlib.Core.Path.{◌≡◌, refl, sym, ap, ◌∙◌}
use mathlib.Core.Bool.{Bool, true, false}
use mathlib.Core.Logic.{◌≢◌}
use Prim.Native.Nat.{ℕ, ◌+◌, ◌*◌, ◌-◌, ◌≤◌, ◌<◌}
use native.Mathlib.Omega.{arith}
use native.Mathlib.Decide.{ℕ_discrete}
use borrow.Author.Tests.{eq-eqb, ne_eqb, lt-ltb}
use lib.Dec.{eqb, ltb, leb}
use lib.ListN.{length, take, length-append, length-drop}
use lib.Seq.{length-take-le}
use Rattle.lists.specs.Links.{pick, LISTS, Table, len_of, capped, first_of, move_first, move_first_to_front, mailbox_of}
use Rattle.lists.specs.Links.{hand_of, FREE, OVER, HAND}
use Rattle.lists.specs.Family.{view, Good, Pair, Moved, MovedToFront}
use Rattle.lists.proofs.Family.{length_view}
use Rattle.lists.proofs.Moves.{move_first_lem, move_first_to_front_lem}
use Rattle.actor.specs.declared.question.Status.{Status}
use Rattle.actor.specs.declared.question.Status.TheVariants as status
use Rattle.actor.specs.declared.question.Outcome.{Outcome}
use Rattle.actor.specs.declared.question.Outcome.TheVariants as outcome
use Rattle.actor.specs.declared.question.Reply.{Reply}
use Rattle.steps.specs.declared.fixed.FixedAsk.{FixedAsk}
use Rattle.steps.specs.declared.fixed.FixedAsk.TheVariants as fixed
use Rattle.steps.specs.declared.fixed.FixedNext.{FixedNext}
use Rattle.steps.specs.declared.fixed.FixedNext.TheVariants as next
use Rattle.steps.specs.declared.eval.EvalAsk.{EvalAsk}
use Rattle.steps.specs.declared.eval.EvalAsk.TheVariants as eval
use Rattle.steps.specs.declared.eval.Limit.{Limit}
use Rattle.actor.specs.Questions.{yes_in, clock_in, count_in, ran_in, is_told}
use Rattle.actor.specs.Messages.{message_at}
use Rattle.actor.specs.Actors.{actor_at, has_run, deadline_of}
use Rattle.steps.specs.Steps.{place_logged, place_over, caller_first, over_first, idled_at}
use Rattle.steps.specs.Steps.{MailTaken, take_mail}
use Rattle.steps.specs.StepFixed as one
use Rattle.steps.specs.StepEval as two
use Rattle.steps.proofs.Times.{capped_fits}
use Rattle.steps.specs.Steps.{step_tables}

-- ---- choices

pick_rule : {A : Type 0} (P : A → Type 0) (b : Bool) {x y : A} → (b ≡ true → P x) → (b ≡ false → P y) → P (pick b x y)
pick_rule P true f g = f refl
pick_rule P false f g = g refl

module _ (slot : ℕ) (slot_is : slot < 128) where
  -- ---- the lists that a step of this actor may touch

  mailbox_is : mailbox_of slot ≡ 6 + 2 * slot
  unfolding mailbox_of
  mailbox_is = rw (lt-ltb slot 128 slot_is)

  hand_is : hand_of slot ≡ 7 + 2 * slot
  unfolding hand_of
  hand_is = rw (lt-ltb slot 128 slot_is)

  -- a list that it may not
  pub record Outside (k : ℕ) : Type 0 where
    pub not_free : k ≢ FREE
    pub not_over : k ≢ OVER
    pub not_hand : k ≢ HAND
    pub not_held : k ≢ hand_of slot
    pub not_mail : k ≢ mailbox_of slot

  -- from the links t and q queued to the links r and p queued
  pub record Kept (t r : Table) (q p : ℕ) : Type 0 where
    pub good : Good r
    pub mail : p + len_of t (mailbox_of slot) ≡ q + len_of r (mailbox_of slot)
    pub others : (k : ℕ) → Outside k → view r k ≡ view t k

  same_kept : (t : Table) (q : ℕ) → Good t → Kept t t q q
  same_kept t q good = record { good = good; mail = refl; others = λ k out. refl }

  -- one after the other
  then_kept : {t r s : Table} {q p o : ℕ} → Kept t r q p → Kept r s p o → Kept t s q o
  then_kept {t} {r} {s} {q} {p} {o} first second =
      record {
        good = second.good;
        mail = omega (arith, first.mail, second.mail);
        others = λ k out. second.others k
            out ∙ first.others k out;
      }

  len_same : (t r : Table) (k : ℕ) → view r k ≡ view t k → len_of r k ≡ len_of t k
  len_same t r k same = sym (length_view r k) ∙ (ap length same ∙ length_view t k)

  -- a place of a step: the free entries, what is over, the step's hand, the actor's hand
  pub record Own (k : ℕ) : Type 0 where
    pub is : k < LISTS
    pub inside : (j : ℕ) → Outside j → j ≢ k
    pub no_mail : mailbox_of slot ≢ k

  own_free : Own FREE
  own_free = record { is = omega arith; inside = λ j out. out.not_free; no_mail = λ e. omega (arith, mailbox_is) }

  own_over : Own OVER
  own_over = record { is = omega arith; inside = λ j out. out.not_over; no_mail = λ e. omega (arith, mailbox_is) }

  own_hand : Own HAND
  own_hand = record { is = omega arith; inside = λ j out. out.not_hand; no_mail = λ e. omega (arith, mailbox_is) }

  own_held : Own (hand_of slot)
  own_held = record {
    is = omega (arith, hand_is);
    inside = λ j out. out.not_held;
    no_mail =
        λ e. omega (arith, mailbox_is, hand_is);
  }

  -- a message goes from one such place to another
  move_kept : (t : Table) (q from to : ℕ) → Good t → Own from → Own to → from ≢ to → Kept t (move_first t from to) q q
  move_kept t q from to good f g apart =
      let moved : Moved t from to 1 (move_first t from to) = move_first_lem (record {
        good = good;
        from_is = f.is;
        to_is =
            g.is;
        apart = apart;
      }) in
      record {
        good = moved.good;
        mail = omega (
          arith,
          len_same t (move_first t from to) (mailbox_of slot) (moved.others (mailbox_of slot)
              f.no_mail g.no_mail),
        );
        others = λ k out. moved.others k (f.inside k out) (g.inside k out);
      }

  -- a message is over
  place_rule : (P : ℕ → Type 0) → P OVER → P FREE → (rows : Table) (f : Option ℕ) → P (place_over rows f)
  unfolding place_over
  place_rule P o f rows (Some e) = go (message_at rows e).id
    where
      go : (l : Option LogId) → P (place_logged l)
      go (Some id) = o
      go None = f
  place_rule P o f rows None = f

  over_kept : (t rows : Table) (q from : ℕ) → Good t → Own from → from ≢ OVER → from ≢ FREE
      → Kept t (over_first t rows from) q q
  unfolding over_first
  over_kept t rows q from good own a b =
      place_rule (λ (to : ℕ). Kept t (move_first t from to) q q) (move_kept t q from OVER good own own_over a)
      (move_kept t q from FREE good own own_free b) rows (first_of t from)

  held_not_hand : hand_of slot ≢ HAND
  held_not_hand e = omega (arith, hand_is)

  -- mail is taken, or there is none; after it there is a message in the step's hand
  module _ (t l : Table) (q : ℕ) (good : Good t) (enough : len_of t (mailbox_of slot) ≤ q) where
    mail_pair : Pair t (mailbox_of slot) HAND
    mail_pair = record {
      good = good;
      from_is = omega (arith, mailbox_is);
      to_is = omega arith;
      apart =
          λ e. omega (arith, mailbox_is);
    }

    took : Moved t (mailbox_of slot) HAND 1 (move_first t (mailbox_of slot) HAND)
    took = move_first_lem mail_pair

    module _ (some : 0 < len_of t (mailbox_of slot)) where
      abbrev r : Table
      r = move_first t (mailbox_of slot) HAND

      mail_less : len_of r (mailbox_of slot) + 1 ≡ len_of t (mailbox_of slot)
      mail_less =
          omega (
            arith,
            length_view r (mailbox_of slot),
            length_view t (mailbox_of slot),
            ap length took.left,
            length-drop 1 (view t (mailbox_of slot)),
          )

      hand_more : 0 < len_of r HAND
      hand_more =
          omega (
            arith,
            length_view r HAND,
            ap length took.joined,
            length-append (view t HAND) (take 1 (view t (mailbox_of slot))),
            length-take-le 1 (view t (mailbox_of slot)) (omega (arith, length_view t (mailbox_of slot))),
          )

      took_kept : Kept t r q (q - 1)
      took_kept =
          record {
            good = took.good;
            mail = omega (arith, mail_less, enough);
            others = λ k out. took.others k
                out.not_mail out.not_hand;
          }

    -- what holds of the two cases holds of the mail that is taken
    mail_rule : (P : MailTaken → Type 0)
        → P (record { links = t; actors = idled_at l slot; mail = record { taken = false; queued = q } })
        → (0 < len_of t (mailbox_of slot) → P (record {
          links = move_first t (mailbox_of slot) HAND;
          actors = l;
          mail =
              record { taken = true; queued = q - 1 };
        })) → P (take_mail t l slot q)
    unfolding take_mail
    mail_rule P none some = go (ℕ_discrete (len_of t (mailbox_of slot)) 0)
      where
        go : Dec (len_of t (mailbox_of slot) ≡ 0) → P (take_mail t l slot q)
        go (yes p) = rw (eq-eqb (len_of t (mailbox_of slot)) 0 p) none
        go (no p) = rw (ne_eqb (len_of t (mailbox_of slot)) 0 p) (some (omega arith))

  -- ---- step_fixed

  -- while Push is open its message is in the step's hand
  abbrev Holds : FixedAsk → Table → Type 0
  Holds (fixed.Run start) t = 0 ≤ 0
  Holds fixed.Drain t = 0 ≤ 0
  Holds fixed.Push t = 0 < len_of t HAND
  Holds fixed.Dispatch t = 0 ≤ 0

  abbrev NextHolds : FixedNext → Table → Type 0
  NextHolds (next.Asks a) t = Holds a t
  NextHolds (next.Ended e) t = 0 ≤ 0

  -- what a transition of a fixed actor keeps, from q queued
  pub record FixedKept (t : Table) (q : ℕ) (s : one.FixedBoth) : Type 0 where
    pub kept : Kept t s.links q s.step.queued
    pub holds : NextHolds s.step.next s.links

  failed_kept : (t l : Table) (q : ℕ) → Good t → FixedKept t q (one.kept_fixed l q (one.fixed_failed t slot))
  unfolding one.fixed_failed
  failed_kept t l q good = record {
    kept = move_kept t q (hand_of slot) HAND good own_held own_hand held_not_hand;
    holds = omega arith;
  }

  held_over_kept : (t rows : Table) (q : ℕ) → Good t → Kept t (over_first t rows (hand_of slot)) q q
  held_over_kept t rows q good = over_kept t rows q (hand_of slot) good own_held (λ e. omega (arith, hand_is))
      (λ e. omega (arith, hand_is))

  ran_kept : (t rows l : Table) (q : ℕ) → Good t → (s : Status)
      → FixedKept t q (one.kept_fixed l q (one.fixed_ran t rows slot s))
  unfolding one.fixed_ran
  ran_kept t rows l q good status.Done = record { kept = held_over_kept t rows q good; holds = omega arith }
  ran_kept t rows l q good status.Exit = record { kept = held_over_kept t rows q good; holds = omega arith }
  ran_kept t rows l q good status.Preempted = record { kept = same_kept t q good; holds = omega arith }
  ran_kept t rows l q good status.Event = record { kept = held_over_kept t rows q good; holds = omega arith }
  ran_kept t rows l q good status.HostCall = record { kept = same_kept t q good; holds = omega arith }
  ran_kept t rows l q good status.Error = failed_kept t l q good
  ran_kept t rows l q good status.Broke = failed_kept t l q good

  drained_kept : (t l : Table) (q n : ℕ) → Good t → len_of t (mailbox_of slot) ≤ q
      → FixedKept t q (one.fixed_drained t l slot q n)
  unfolding one.fixed_drained
  drained_kept t l q n good enough =
      pick_rule (FixedKept t q) (ltb 0 n) (λ e. record { kept = same_kept t q good; holds = omega arith })
      (λ e. mail_rule t l q good enough (λ (m : MailTaken). FixedKept t q (one.fixed_mail m))
      (record { kept = same_kept t q good; holds = omega arith })
      (λ some. record { kept = took_kept t l q good enough some; holds = hand_more t l q good enough some }))

  -- Push no: the message of the step's hand is the first of the mailbox again
  module _ (t : Table) (q : ℕ) (good : Good t) (some : 0 < len_of t HAND) (few : q ≤ 256) where
    back : MovedToFront t HAND (mailbox_of slot) 1 (move_first_to_front t HAND (mailbox_of slot))
    back = move_first_to_front_lem (record {
      good = good;
      from_is = omega arith;
      to_is = omega (arith, mailbox_is);
      apart =
          λ e. omega (arith, mailbox_is);
    })

    mail_more : len_of (move_first_to_front t HAND (mailbox_of slot)) (mailbox_of slot) ≡ len_of t (mailbox_of slot) + 1
    mail_more =
        omega (
          arith,
          length_view (move_first_to_front t HAND (mailbox_of slot)) (mailbox_of slot),
          length_view t (mailbox_of slot),
          ap length back.joined,
          length-append (take 1 (view t HAND)) (view t (mailbox_of slot)),
          length-take-le 1 (view t HAND) (omega (arith, length_view t HAND)),
        )

    back_kept : Kept t (move_first_to_front t HAND (mailbox_of slot)) q (capped (q + 1))
    back_kept =
        record {
          good = back.good;
          mail = rw (capped_fits (q + 1) (omega arith)) (omega (arith, mail_more));
          others = λ k out. back.others k out.not_hand out.not_mail;
        }

  pushed_kept : (t l : Table) (q : ℕ) → Good t → 0 < len_of t HAND → q ≤ 256 → (b : Bool)
      → FixedKept t q (one.fixed_pushed t l slot q b)
  unfolding one.fixed_pushed
  pushed_kept t l q good some few true = record {
    kept = move_kept t q HAND (hand_of slot) good own_hand own_held
        (λ e. held_not_hand (sym e));
    holds = omega arith;
  }
  pushed_kept t l q good some few false = record { kept = back_kept t q good some few; holds = omega arith }

  dispatched_kept : (t l : Table) (q n : ℕ) → Good t → FixedKept t q (one.kept_fixed l q (one.fixed_dispatched t slot n))
  unfolding one.fixed_dispatched
  dispatched_kept t l q n good =
      pick_rule (λ (f : one.FixedLinks). FixedKept t q (one.kept_fixed l q f)) (ltb 0 n)
      (λ e. record { kept = same_kept t q good; holds = omega arith }) (λ e. failed_kept t l q good)

  -- every transition of a fixed actor: no message is lost or doubled, other actors' lists are as they were, and queued
  -- changes as the mailbox does
  module _ (t rows l : Table) (q : ℕ) (good : Good t) (enough : len_of t (mailbox_of slot) ≤ q) (few : q ≤ 256) where
    by_run : (start : Bool) (r : Option Status) → FixedKept t q (one.kept_fixed l q (one.run_by t rows slot start r))
    by_run start (Some s) = ran_kept t rows l q good s
    by_run start None = record { kept = same_kept t q good; holds = omega arith }

    by_drain : (r : Option ℕ) → FixedKept t q (one.drain_by t l slot q r)
    by_drain (Some n) = drained_kept t l q n good enough
    by_drain None = record { kept = same_kept t q good; holds = omega arith }

    by_push : 0 < len_of t HAND → (r : Option Bool) → FixedKept t q (one.push_by t l slot q r)
    by_push some (Some true) = pushed_kept t l q good some few true
    by_push some (Some false) = pushed_kept t l q good some few false
    by_push some None = record { kept = same_kept t q good; holds = some }

    by_dispatch : (r : Option ℕ) → FixedKept t q (one.kept_fixed l q (one.dispatch_by t slot r))
    by_dispatch (Some n) = dispatched_kept t l q n good
    by_dispatch None = record { kept = same_kept t q good; holds = omega arith }

    pub step_fixed_kept : (a : FixedAsk) → Holds a t → (r : Reply)
        → FixedKept t q (one.step_fixed (step_tables t rows l) slot q a r)
    unfolding one.step_fixed one.run_reply one.drain_reply one.push_reply one.dispatch_reply
    step_fixed_kept (fixed.Run start) holds r = by_run start (ran_in r)
    step_fixed_kept fixed.Drain holds r = by_drain (count_in r)
    step_fixed_kept fixed.Push holds r = by_push holds (yes_in r)
    step_fixed_kept fixed.Dispatch holds r = by_dispatch (count_in r)

  -- ---- step_eval: queued changes only where mail is taken, as a step begins

  pub eval_start_kept : (t l : Table) (q : ℕ) → Good t → len_of t (mailbox_of slot) ≤ q
      → Kept t (two.eval_start t l slot q).links q (two.eval_start t l slot q).step.queued
  unfolding two.eval_start
  eval_start_kept t l q good enough =
      pick_rule (λ (s : two.EvalStarted). Kept t s.links q s.step.queued) (has_run (actor_at l slot).run)
      (λ e. same_kept t q good)
      (λ e. mail_rule t l q good enough (λ (m : MailTaken). Kept t m.links q m.mail.queued) (same_kept t q good)
      (λ some. took_kept t l q good enough some))

  -- what a transition of an eval actor keeps
  abbrev EvalKept : Table → ℕ → two.EvalBoth → Type 0
  EvalKept t q s = Kept t s.links q q

  over_eval_kept : (t rows l : Table) (q : ℕ) → Good t → EvalKept t q (two.eval_over (step_tables t rows l) slot)
  unfolding two.eval_over
  over_eval_kept t rows l q good =
      let over = over_kept t rows q HAND good own_hand (λ e. omega arith) (λ e. omega arith) in
      pick_rule (EvalKept t q) (eqb (len_of (over_first t rows HAND) (mailbox_of slot)) 0) (λ e. over) (λ e. over)

  tell_kept : (t rows l : Table) (q : ℕ) → Good t → (o : Outcome)
      → EvalKept t q (two.eval_tell (step_tables t rows l) slot o)
  unfolding two.eval_tell
  tell_kept t rows l q good o = go (caller_first rows (first_of t HAND))
    where
      go : (c : Option CallerId) → EvalKept t q (two.eval_told (step_tables t rows l) slot o c)
      go (Some id) = same_kept t q good
      go None = over_eval_kept t rows l q good

  finish_kept : (t rows l : Table) (q : ℕ) → Good t → (o : Outcome)
      → EvalKept t q (two.eval_finish (step_tables t rows l) slot o)
  unfolding two.eval_finish
  finish_kept t rows l q good o =
      let moved = move_kept t q (hand_of slot) HAND good own_held own_hand held_not_hand in
      then_kept moved (tell_kept (move_first t (hand_of slot) HAND) rows _ q moved.good o)

  clocked_kept : (t rows l : Table) (q c : ℕ) → Good t → EvalKept t q (two.eval_clocked (step_tables t rows l) slot c)
  unfolding two.eval_clocked
  clocked_kept t rows l q c good =
      pick_rule (EvalKept t q) (leb (deadline_of (actor_at l slot).run) c) (λ e. finish_kept t rows l q good
      outcome.Late) (λ e. same_kept t q good)

  booted_kept : (t rows l : Table) (q : ℕ) → Good t → (b : Bool)
      → EvalKept t q (two.eval_booted (step_tables t rows l) slot b)
  unfolding two.eval_booted
  booted_kept t rows l q good true = same_kept t q good
  booted_kept t rows l q good false = tell_kept t rows l q good outcome.Unbooted

  started_kept : (t l : Table) (q : ℕ) → Good t → (limit : Limit) (c : ℕ)
      → EvalKept t q (two.eval_started t l slot limit c)
  unfolding two.eval_started
  started_kept t l q good limit c = move_kept t q HAND (hand_of slot) good own_hand own_held
      (λ e. held_not_hand (sym e))

  ran_eval_kept : (t rows l : Table) (q : ℕ) → Good t → (s : Status)
      → EvalKept t q (two.eval_ran (step_tables t rows l) slot s)
  unfolding two.eval_ran
  ran_eval_kept t rows l q good status.Done = finish_kept t rows l q good outcome.Ran
  ran_eval_kept t rows l q good status.Exit = finish_kept t rows l q good outcome.Ran
  ran_eval_kept t rows l q good status.Preempted = same_kept t q good
  ran_eval_kept t rows l q good status.Event = finish_kept t rows l q good outcome.StuckReceive
  ran_eval_kept t rows l q good status.HostCall = same_kept t q good
  ran_eval_kept t rows l q good status.Error = finish_kept t rows l q good outcome.Raised
  ran_eval_kept t rows l q good status.Broke = finish_kept t rows l q good outcome.Broke

  dispatched_eval_kept : (t rows l : Table) (q n : ℕ) → Good t
      → EvalKept t q (two.eval_dispatched (step_tables t rows l) slot n)
  unfolding two.eval_dispatched
  dispatched_eval_kept t rows l q n good =
      pick_rule (EvalKept t q) (ltb 0 n) (λ e. same_kept t q good) (λ e. finish_kept t rows l q good
      outcome.StuckHostCall)

  module _ (t rows l : Table) (q : ℕ) (good : Good t) (limit : Limit) where
    by_clock : (r : Option ℕ) → EvalKept t q (two.eval_clock_by (step_tables t rows l) slot r)
    by_clock (Some ns) = clocked_kept t rows l q ns good
    by_clock None = same_kept t q good

    by_boot : (r : Option Bool) → EvalKept t q (two.boot_by (step_tables t rows l) slot r)
    by_boot (Some true) = booted_kept t rows l q good true
    by_boot (Some false) = booted_kept t rows l q good false
    by_boot None = same_kept t q good

    by_start : (r : Option ℕ) → EvalKept t q (two.start_by t l slot limit r)
    by_start (Some ns) = started_kept t l q good limit ns
    by_start None = same_kept t q good

    by_run_eval : (start : Bool) (r : Option Status) → EvalKept t q (two.eval_run_by (step_tables t rows l) slot start r)
    by_run_eval start (Some s) = ran_eval_kept t rows l q good s
    by_run_eval start None = same_kept t q good

    by_dispatch_eval : (r : Option ℕ) → EvalKept t q (two.eval_dispatch_by (step_tables t rows l) slot r)
    by_dispatch_eval (Some n) = dispatched_eval_kept t rows l q n good
    by_dispatch_eval None = same_kept t q good

    -- every transition of an eval actor
    pub step_eval_kept : (a : EvalAsk) (r : Reply) → EvalKept t q (two.step_eval (step_tables t rows l) slot limit a r)
    unfolding two.step_eval two.eval_clock_reply two.boot_reply two.start_reply two.eval_run_reply two.eval_dispatch_reply
        two.tell_reply
    step_eval_kept eval.Clock r = by_clock (clock_in r)
    step_eval_kept eval.Boot r = by_boot (yes_in r)
    step_eval_kept eval.StartClock r = by_start (clock_in r)
    step_eval_kept (eval.Run start) r = by_run_eval start (ran_in r)
    step_eval_kept eval.Dispatch r = by_dispatch_eval (count_in r)
    step_eval_kept (eval.Tell o) r = pick_rule (EvalKept t q) (is_told r) (λ e. over_eval_kept t rows l q good)
        (λ e. same_kept t q good)
