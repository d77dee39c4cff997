-- One step of an eval actor, cut at its questions: what each reply leads to.
use Rattle.std.specs.Prelude.{◌≡◌, Bool, true, false, ℕ, ◌+◌, ◌*◌, ◌/◌, eqb, ltb, leb, Option, Some, None}
use Rattle.actor.specs.declared.question.Question.{Question}
use Rattle.actor.specs.declared.message.CallerId.{CallerId}
use Rattle.lists.specs.Links.{pick, Table, capped, len_of, first_of, move_first, mailbox_of, hand_of, HAND}
use Rattle.actor.specs.declared.question.Status.{Status}
use Rattle.actor.specs.declared.question.Status.TheVariants as status
use Rattle.actor.specs.declared.question.Outcome.{Outcome}
use Rattle.actor.specs.declared.question.Outcome.TheVariants as outcome
use Rattle.actor.specs.declared.question.Who.{Who}
use Rattle.actor.specs.declared.question.Question.TheVariants as question
use Rattle.actor.specs.declared.question.Reply.{Reply}
use Rattle.steps.specs.declared.step.Parked.TheVariants as parked
use Rattle.steps.specs.declared.eval.EvalAsk.{EvalAsk}
use Rattle.steps.specs.declared.eval.EvalAsk.TheVariants as ask
use Rattle.steps.specs.declared.eval.EvalNext.{EvalNext}
use Rattle.steps.specs.declared.eval.EvalNext.TheVariants as next
use Rattle.steps.specs.declared.eval.EvalWords.{EvalWords}
use Rattle.steps.specs.declared.step.Stepped.{Stepped}
use Rattle.steps.specs.declared.eval.Limit.{Limit}
use Rattle.steps.specs.declared.eval.Tables.{Tables}
use Rattle.actor.specs.Questions.{yes_in, clock_in, count_in, ran_in, is_told, slot_of}
use Rattle.actor.specs.Actors.{actor_at, put_actor, running_to, has_run, deadline_of}
use Rattle.steps.specs.Words.{eval_next_of}
use Rattle.steps.specs.Steps.{StepTables, step_tables, caller_first, over_first, idled_at, MailTaken, take_mail}

-- what comes next, and the new queued
pub record EvalStep : Type 0 where
  pub next : EvalNext
  pub queued : ℕ

-- what a transition changes
pub record EvalStarted : Type 0 where
  pub links : Table
  pub actors : Table
  pub step : EvalStep

-- what a reply in an eval step changes, and what comes next; queued is as it was
pub record EvalBoth : Type 0 where
  pub links : Table
  pub actors : Table
  pub next : EvalNext

-- the clock, and the timeout in whole ticks of it, up to the largest number; a timeout past a day gives no time
unfoldable pub deadline_from : ℕ → Limit → ℕ
deadline_from c limit =
    pick (ltb 86400 limit.timeout) c (capped (c + limit.timeout * 1000000000 / limit.tick * limit.tick))

-- with mail Boot is asked, else the actor waits
abbrev pub eval_mail : MailTaken → EvalStarted
eval_mail m =
    record {
      links = m.links;
      actors = m.actors;
      step =
          record {
            next = pick m.mail.taken (next.Asks ask.Boot) (next.Ended parked.Waiting);
            queued = m.mail.queued;
          };
    }

-- a step begins: a run that waited asks the clock, else the next message is booted
unfoldable pub eval_start : Table → Table → ℕ → ℕ → EvalStarted
eval_start t l slot queued =
    pick (has_run (actor_at l slot).run)
    (record { links = t; actors = l; step = record { next = next.Asks ask.Clock; queued = queued } })
    (eval_mail (take_mail t l slot queued))

-- the step ends: without mail waiting, and the actor is idle; with mail by yield, so that a later step starts the next
abbrev pub next_run : Table → Table → ℕ → EvalBoth
next_run t l slot =
    pick (eqb (len_of t (mailbox_of slot)) 0)
    (record { links = t; actors = idled_at l slot; next = next.Ended parked.Waiting })
    (record { links = t; actors = l; next = next.Ended parked.Yield })

-- the message in the step's hand is over, and the step ends: waiting and idle without mail, with mail yield
unfoldable pub eval_over : StepTables → ℕ → EvalBoth
eval_over x slot = next_run (over_first x.links x.rows HAND) x.actors slot

-- the caller, where there is one, is told
abbrev pub eval_told : StepTables → ℕ → Outcome → Option CallerId → EvalBoth
eval_told x slot o (Some id) = record { links = x.links; actors = x.actors; next = next.Asks (ask.Tell o) }
eval_told x slot o None = eval_over x slot

-- with an outcome, its message in the step's hand: Tell is asked, or with nobody waiting the message is over at once
unfoldable pub eval_tell : StepTables → ℕ → Outcome → EvalBoth
eval_tell x slot o = eval_told x slot o (caller_first x.rows (first_of x.links HAND))

-- the run ends: its message goes to the step's hand
unfoldable pub eval_finish : StepTables → ℕ → Outcome → EvalBoth
eval_finish x slot o =
    eval_tell
    (step_tables (move_first x.links (hand_of slot) HAND) x.rows
    (put_actor x.actors slot (running_to (actor_at x.actors slot) None)))
    slot o

-- Clock of a run that waited: at its deadline it ends, whatever it waited on; before, it is resumed
unfoldable pub eval_clocked : StepTables → ℕ → ℕ → EvalBoth
eval_clocked x slot c =
    pick (leb (deadline_of (actor_at x.actors slot).run) c)
    (eval_finish x slot outcome.Late)
    (record { links = x.links; actors = x.actors; next = next.Asks (ask.Run false) })

-- Boot
unfoldable pub eval_booted : StepTables → ℕ → Bool → EvalBoth
eval_booted x slot true = record { links = x.links; actors = x.actors; next = next.Asks ask.StartClock }
eval_booted x slot false = eval_tell x slot outcome.Unbooted

-- Clock of a start: the run has its deadline, and its message is in the actor's hands
unfoldable pub eval_started : Table → Table → ℕ → Limit → ℕ → EvalBoth
eval_started t l slot limit c =
    record {
      links = move_first t HAND (hand_of slot);
      actors = put_actor l slot (running_to (actor_at l slot) (Some (deadline_from c limit)));
      next = next.Asks (ask.Run true);
    }

-- Run
unfoldable pub eval_ran : StepTables → ℕ → Status → EvalBoth
eval_ran x slot status.Done = eval_finish x slot outcome.Ran
eval_ran x slot status.Exit = eval_finish x slot outcome.Ran
eval_ran x slot status.Preempted = record { links = x.links; actors = x.actors; next = next.Ended parked.Yield }
eval_ran x slot status.Event = eval_finish x slot outcome.StuckReceive
eval_ran x slot status.HostCall = record { links = x.links; actors = x.actors; next = next.Asks ask.Dispatch }
eval_ran x slot status.Error = eval_finish x slot outcome.Raised
eval_ran x slot status.Broke = eval_finish x slot outcome.Broke

-- Dispatch: it waits for its host calls until its deadline; with none in flight it is stuck
unfoldable pub eval_dispatched : StepTables → ℕ → ℕ → EvalBoth
eval_dispatched x slot n =
    pick (ltb 0 n)
    (record {
      links = x.links;
      actors = x.actors;
      next =
          next.Ended (parked.Blocked (Some (deadline_of (actor_at x.actors slot).run)));
    })
    (eval_finish x slot outcome.StuckHostCall)

-- ---- from a question and its reply to the next; a reply that does not fit changes nothing

-- the question stays open
abbrev pub still : Table → Table → EvalAsk → EvalBoth
still t l a = record { links = t; actors = l; next = next.Asks a }

-- a clock ends the run, late, or lets it resume; any other reply leaves Clock open
abbrev pub eval_clock_by : StepTables → ℕ → Option ℕ → EvalBoth
eval_clock_by x slot (Some ns) = eval_clocked x slot ns
eval_clock_by x slot None = still x.links x.actors ask.Clock

-- after yes Clock of the start is asked, after no the outcome is unbooted; any other reply leaves Boot open
abbrev pub boot_by : StepTables → ℕ → Option Bool → EvalBoth
boot_by x slot (Some booted) = eval_booted x slot booted
boot_by x slot None = still x.links x.actors ask.Boot

-- with a clock the run begins; any other reply leaves Clock of the start open
abbrev pub start_by : Table → Table → ℕ → Limit → Option ℕ → EvalBoth
start_by t l slot limit (Some ns) = eval_started t l slot limit ns
start_by t l slot limit None = still t l ask.StartClock

-- a status ends the run, ends the step with yield, or leads to Dispatch; any other reply leaves the same Run open
abbrev pub eval_run_by : StepTables → ℕ → Bool → Option Status → EvalBoth
eval_run_by x slot start (Some s) = eval_ran x slot s
eval_run_by x slot start None = still x.links x.actors (ask.Run start)

-- a count above 0 ends the step, blocked until the run's deadline, and 0 ends the run, stuck in a host call; any other
-- reply leaves Dispatch open
abbrev pub eval_dispatch_by : StepTables → ℕ → Option ℕ → EvalBoth
eval_dispatch_by x slot (Some n) = eval_dispatched x slot n
eval_dispatch_by x slot None = still x.links x.actors ask.Dispatch

-- what a reply to Clock of a run under way leads to; only a clock changes anything
unfoldable pub eval_clock_reply : StepTables → ℕ → Reply → EvalBoth
eval_clock_reply x slot r = eval_clock_by x slot (clock_in r)

-- what a reply to Boot of a message leads to; only yes and no change anything
unfoldable pub boot_reply : StepTables → ℕ → Reply → EvalBoth
boot_reply x slot r = boot_by x slot (yes_in r)

-- what a reply to Clock at the start of a run leads to; only a clock changes anything
unfoldable pub start_reply : Table → Table → ℕ → Limit → Reply → EvalBoth
start_reply t l slot limit r = start_by t l slot limit (clock_in r)

-- what a reply to Run of an eval actor leads to, be it to start or resume; only a status changes anything
unfoldable pub eval_run_reply : StepTables → ℕ → Bool → Reply → EvalBoth
eval_run_reply x slot start r = eval_run_by x slot start (ran_in r)

-- what a reply to Dispatch of an eval actor leads to; only a count changes anything
unfoldable pub eval_dispatch_reply : StepTables → ℕ → Reply → EvalBoth
eval_dispatch_reply x slot r = eval_dispatch_by x slot (count_in r)

-- a message is over once its caller was told
unfoldable pub tell_reply : StepTables → ℕ → Outcome → Reply → EvalBoth
tell_reply x slot o r = pick (is_told r) (eval_over x slot) (still x.links x.actors (ask.Tell o))

-- from the open question of an eval step, and a reply to it, to the next question or the step's end
unfoldable pub step_eval : StepTables → ℕ → Limit → EvalAsk → Reply → EvalBoth
step_eval x slot limit ask.Clock r = eval_clock_reply x slot r
step_eval x slot limit ask.Boot r = boot_reply x slot r
step_eval x slot limit ask.StartClock r = start_reply x.links x.actors slot limit r
step_eval x slot limit (ask.Run start) r = eval_run_reply x slot start r
step_eval x slot limit ask.Dispatch r = eval_dispatch_reply x slot r
step_eval x slot limit (ask.Tell o) r = tell_reply x slot o r

-- ---- the question that is open, as it is shown; Run shows the message of a start, which is the program

-- the message that Run shows: at a start the first one in the actor's hand, at a resume none
unfoldable pub eval_shown : Table → Who → Bool → Option ℕ
eval_shown t who true = first_of t (hand_of (slot_of who))
eval_shown t who false = None

-- Tell, of the caller and with the outcome; with nobody waiting nothing is open
abbrev pub ask_tell : Option CallerId → Outcome → Option Question
ask_tell (Some id) o = Some (question.Tell id o)
ask_tell None o = None

-- the open question of an eval step as the host sees it: Clock looks the same for a start and a run under way, and Tell
-- is asked of the caller of the message in the step's hand
unfoldable pub eval_asks : Table → Table → Who → EvalAsk → Option Question
eval_asks t rows who ask.Clock = Some question.Clock
eval_asks t rows who ask.Boot = Some (question.Boot who.group)
eval_asks t rows who ask.StartClock = Some question.Clock
eval_asks t rows who (ask.Run start) = Some (question.Run who start (eval_shown t who start))
eval_asks t rows who ask.Dispatch = Some (question.Dispatch who)
eval_asks t rows who (ask.Tell o) = ask_tell (caller_first rows (first_of t HAND)) o

-- ---- a step as code hands it on

-- what comes next, by its words, and the new queued
abbrev pub eval_step_of : Stepped EvalWords → EvalStep
eval_step_of w = record { next = eval_next_of w.next; queued = w.queued }

-- the tables that a reply is carried out on
abbrev pub eval_tables : Tables → StepTables
eval_tables t = step_tables t.links.now t.rows.now t.actors.now

-- what it left in them, and what comes next, by its words
abbrev pub stepped_in : Tables → EvalWords → EvalBoth
stepped_in t w = record { links = t.links.now; actors = t.actors.now; next = eval_next_of w }

-- these are the same lists and actors, with the values that they have now
abbrev pub EvalKept : Tables → Tables → Type 0
EvalKept t u = (u.links.ghost_name ≡ t.links.ghost_name) × (u.actors.ghost_name ≡ t.actors.ghost_name)
