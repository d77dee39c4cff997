-- One step of a fixed actor, cut at its questions: what each reply leads to.
use Rattle.std.specs.Prelude.{Bool, true, false, ℕ, ◌+◌, ltb, Option, Some, None}
use Rattle.actor.specs.declared.question.Question.{Question}
use Rattle.lists.specs.Links.{pick, Table, capped, first_of, move_first, move_first_to_front, mailbox_of, hand_of, HAND}
use Rattle.actor.specs.declared.question.Status.{Status}
use Rattle.actor.specs.declared.question.Status.TheVariants as status
use Rattle.actor.specs.declared.question.Who.{Who}
use Rattle.actor.specs.declared.question.Question.TheVariants as question
use Rattle.actor.specs.declared.question.Reply.{Reply}
use Rattle.steps.specs.declared.step.Parked.TheVariants as parked
use Rattle.steps.specs.declared.step.Step.TheVariants as end
use Rattle.steps.specs.declared.fixed.FixedAsk.{FixedAsk}
use Rattle.steps.specs.declared.fixed.FixedAsk.TheVariants as ask
use Rattle.steps.specs.declared.fixed.FixedNext.{FixedNext}
use Rattle.steps.specs.declared.fixed.FixedNext.TheVariants as next
use Rattle.steps.specs.declared.fixed.FixedWords.{FixedWords}
use Rattle.steps.specs.declared.step.Stepped.{Stepped}
use Rattle.actor.specs.Questions.{yes_in, count_in, ran_in}
use Rattle.actor.specs.Actors.{actor_at, put_actor, started_as, consumed_as}
use Rattle.steps.specs.Words.{fixed_next_of}
use Rattle.steps.specs.Steps.{StepTables, over_first, idled_at, MailTaken, take_mail}

-- what comes next, and the new queued
pub record FixedStep : Type 0 where
  pub next : FixedNext
  pub queued : ℕ

-- what a transition changes
pub record FixedActors : Type 0 where
  pub actors : Table
  pub ask : FixedAsk

-- what a reply to Run or Dispatch changes, and what comes next; actors and queued are as they were
pub record FixedLinks : Type 0 where
  pub links : Table
  pub next : FixedNext

-- what any reply in a fixed step changes, what comes next, and the new queued
pub record FixedBoth : Type 0 where
  pub links : Table
  pub actors : Table
  pub step : FixedStep

-- a step begins: the program is started the first time, and else resumed
unfoldable pub fixed_start : Table → ℕ → FixedActors
fixed_start l slot =
    record {
      actors = put_actor l slot (started_as (actor_at l slot));
      ask = pick (actor_at l slot).started (ask.Run false) (ask.Run true);
    }

-- it raised, its interpreter broke, or it is stuck in a host call: the message that it was at goes to the step's hand
unfoldable pub fixed_failed : Table → ℕ → FixedLinks
fixed_failed t slot = record { links = move_first t (hand_of slot) HAND; next = next.Ended end.Failed }

-- its message is over: at its end, and back in receive()
abbrev pub fixed_over : Table → Table → ℕ → FixedNext → FixedLinks
fixed_over t rows slot n = record { links = over_first t rows (hand_of slot); next = n }

-- Run
unfoldable pub fixed_ran : Table → Table → ℕ → Status → FixedLinks
fixed_ran t rows slot status.Done = fixed_over t rows slot (next.Ended end.Done)
fixed_ran t rows slot status.Exit = fixed_over t rows slot (next.Ended end.Done)
fixed_ran t rows slot status.Preempted = record { links = t; next = next.Ended (end.Parked parked.Yield) }
fixed_ran t rows slot status.Event = fixed_over t rows slot (next.Asks ask.Drain)
fixed_ran t rows slot status.HostCall = record { links = t; next = next.Asks ask.Dispatch }
fixed_ran t rows slot status.Error = fixed_failed t slot
fixed_ran t rows slot status.Broke = fixed_failed t slot

-- with mail Push is asked, else the actor waits
abbrev pub fixed_mail : MailTaken → FixedBoth
fixed_mail m =
    record {
      links = m.links;
      actors = m.actors;
      step =
          record {
            next = pick m.mail.taken (next.Asks ask.Push) (next.Ended (end.Parked parked.Waiting));
            queued = m.mail.queued;
          };
    }

-- Drain: an event that came mid-step goes before the mailbox
unfoldable pub fixed_drained : Table → Table → ℕ → ℕ → ℕ → FixedBoth
fixed_drained t l slot queued n =
    pick (ltb 0 n)
    (record { links = t; actors = l; step = record { next = next.Asks (ask.Run false); queued = queued } })
    (fixed_mail (take_mail t l slot queued))

-- Push yes: the message is in the actor's hands, which is marked to have taken one; no: it is back at the mailbox's
-- front, and the actor waits
unfoldable pub fixed_pushed : Table → Table → ℕ → ℕ → Bool → FixedBoth
fixed_pushed t l slot queued true =
    record {
      links = move_first t HAND (hand_of slot);
      actors = put_actor l slot (consumed_as (actor_at l slot));
      step = record { next = next.Asks (ask.Run false); queued = queued };
    }
fixed_pushed t l slot queued false =
    record {
      links = move_first_to_front t HAND (mailbox_of slot);
      actors = idled_at l slot;
      step = record { next = next.Ended (end.Parked parked.Waiting); queued = capped (queued + 1) };
    }

-- Dispatch: it waits for its host calls, with no deadline; with none in flight it is stuck
unfoldable pub fixed_dispatched : Table → ℕ → ℕ → FixedLinks
fixed_dispatched t slot n =
    pick (ltb 0 n)
    (record { links = t; next = next.Ended (end.Parked (parked.Blocked None)) })
    (fixed_failed t slot)

-- ---- from a question and its reply to the next; a reply that does not fit changes nothing

-- a status ends the step, or leads to Drain or Dispatch; any other reply leaves the same Run open
abbrev pub run_by : Table → Table → ℕ → Bool → Option Status → FixedLinks
run_by t rows slot start (Some s) = fixed_ran t rows slot s
run_by t rows slot start None = record { links = t; next = next.Asks (ask.Run start) }

-- a count above 0 leads to Run, and 0 to Push or, without mail, to waiting; any other reply leaves Drain open
abbrev pub drain_by : Table → Table → ℕ → ℕ → Option ℕ → FixedBoth
drain_by t l slot queued (Some n) = fixed_drained t l slot queued n
drain_by t l slot queued None =
    record { links = t; actors = l; step = record { next = next.Asks ask.Drain; queued = queued } }

-- after yes the actor has the message and is resumed, after no the mailbox has it again and the step ends waiting; any
-- other reply leaves Push open
abbrev pub push_by : Table → Table → ℕ → ℕ → Option Bool → FixedBoth
push_by t l slot queued (Some taken) = fixed_pushed t l slot queued taken
push_by t l slot queued None =
    record { links = t; actors = l; step = record { next = next.Asks ask.Push; queued = queued } }

-- a count above 0 ends the step blocked, with no deadline, and 0 failed; any other reply leaves Dispatch open
abbrev pub dispatch_by : Table → ℕ → Option ℕ → FixedLinks
dispatch_by t slot (Some n) = fixed_dispatched t slot n
dispatch_by t slot None = record { links = t; next = next.Asks ask.Dispatch }

-- what a reply to Run of a fixed actor leads to, be it to start or resume; only a status changes anything
unfoldable pub run_reply : Table → Table → ℕ → Bool → Reply → FixedLinks
run_reply t rows slot start r = run_by t rows slot start (ran_in r)

-- what a reply to Drain leads to; only a count changes anything
unfoldable pub drain_reply : Table → Table → ℕ → ℕ → Reply → FixedBoth
drain_reply t l slot queued r = drain_by t l slot queued (count_in r)

-- what a reply to Push leads to; only yes and no change anything
unfoldable pub push_reply : Table → Table → ℕ → ℕ → Reply → FixedBoth
push_reply t l slot queued r = push_by t l slot queued (yes_in r)

-- what a reply to Dispatch of a fixed actor leads to; only a count changes anything
unfoldable pub dispatch_reply : Table → ℕ → Reply → FixedLinks
dispatch_reply t slot r = dispatch_by t slot (count_in r)

-- where the actors and queued are as they were
abbrev pub kept_fixed : Table → ℕ → FixedLinks → FixedBoth
kept_fixed l queued f = record { links = f.links; actors = l; step = record { next = f.next; queued = queued } }

-- from the open question of a fixed step, and a reply to it, to the next question or the step's end
unfoldable pub step_fixed : StepTables → ℕ → ℕ → FixedAsk → Reply → FixedBoth
step_fixed x slot queued (ask.Run start) r =
    kept_fixed x.actors queued (run_reply x.links x.rows slot start r)
step_fixed x slot queued ask.Drain r = drain_reply x.links x.actors slot queued r
step_fixed x slot queued ask.Push r = push_reply x.links x.actors slot queued r
step_fixed x slot queued ask.Dispatch r = kept_fixed x.actors queued (dispatch_reply x.links slot r)

-- ---- the question that is open, as it is shown; Run of a fixed actor shows no message

-- the open question of a fixed step as the host sees it; Push shows the first message in the step's hand
unfoldable pub fixed_asks : Table → Who → FixedAsk → Option Question
fixed_asks t who (ask.Run start) = Some (question.Run who start None)
fixed_asks t who ask.Drain = Some (question.Drain who)
fixed_asks t who ask.Push = Some (question.Push who (first_of t HAND))
fixed_asks t who ask.Dispatch = Some (question.Dispatch who)

-- ---- a step as code hands it on

-- what comes next, by its words, and the new queued
abbrev pub fixed_step_of : Stepped FixedWords → FixedStep
fixed_step_of w = record { next = fixed_next_of w.next; queued = w.queued }
