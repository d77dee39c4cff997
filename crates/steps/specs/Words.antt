-- What the words of a step mean. Code hands on where a step stands, and how it ended, as words without payloads; each
-- means a value of the enums, of which all else speaks.
use Rattle.std.specs.Prelude.{true, false, ℕ, eqb, Option, Some, None}
use Rattle.lists.specs.Links.{pick}
use Rattle.actor.specs.declared.question.Outcome.{Outcome}
use Rattle.steps.specs.declared.step.Parked.{Parked}
use Rattle.steps.specs.declared.step.Parked.TheVariants as parked
use Rattle.steps.specs.declared.step.Step.{Step}
use Rattle.steps.specs.declared.step.Step.TheVariants as step
use Rattle.steps.specs.declared.step.StepEnd.{StepEnd}
use Rattle.steps.specs.declared.step.StepEnd.TheVariants as ends
use Rattle.steps.specs.declared.step.StepWords.{StepWords}
use Rattle.steps.specs.declared.fixed.FixedAsk.{FixedAsk}
use Rattle.steps.specs.declared.fixed.FixedAsk.TheVariants as fixed
use Rattle.steps.specs.declared.fixed.FixedKind.{FixedKind}
use Rattle.steps.specs.declared.fixed.FixedKind.TheVariants as fixes
use Rattle.steps.specs.declared.fixed.FixedNext.{FixedNext}
use Rattle.steps.specs.declared.fixed.FixedNext.TheVariants as fixedNext
use Rattle.steps.specs.declared.fixed.FixedWords.{FixedWords}
use Rattle.steps.specs.declared.eval.EvalAsk.{EvalAsk}
use Rattle.steps.specs.declared.eval.EvalAsk.TheVariants as eval
use Rattle.steps.specs.declared.eval.EvalKind.{EvalKind}
use Rattle.steps.specs.declared.eval.EvalKind.TheVariants as evals
use Rattle.steps.specs.declared.eval.EvalNext.{EvalNext}
use Rattle.steps.specs.declared.eval.EvalNext.TheVariants as evalNext
use Rattle.steps.specs.declared.eval.EvalWords.{EvalWords}

-- ---- a step's end: done, failed, or else the actor goes on

-- the end that a number says: 0 done, 1 failed, 2 waiting, 3 and 4 blocked with no deadline and until one; any other
-- number is yield, the thread handed on
unfoldable pub step_end_of : ℕ → StepEnd
step_end_of n =
    pick (eqb n 0) ends.Done
    (pick (eqb n 1) ends.Failed
    (pick (eqb n 2) ends.Waiting (pick (eqb n 3) ends.Forever (pick (eqb n 4) ends.Until ends.Yield))))

-- how the actor goes on after this end; only blocked until a deadline takes the number, which is the deadline; done
-- and failed are yield here
abbrev pub parked_by : StepEnd → ℕ → Parked
parked_by ends.Done until = parked.Yield
parked_by ends.Failed until = parked.Yield
parked_by ends.Waiting until = parked.Waiting
parked_by ends.Forever until = parked.Blocked None
parked_by ends.Until until = parked.Blocked (Some until)
parked_by ends.Yield until = parked.Yield

-- the end of a step after which the actor goes on, as of every eval step; done and failed are yield here
unfoldable pub parked_of : StepWords → Parked
parked_of w = parked_by (step_end_of w.end) w.until

-- the end of a step; how the actor goes on is taken only where it does
abbrev pub step_by : StepEnd → Parked → Step
step_by ends.Done p = step.Done
step_by ends.Failed p = step.Failed
step_by ends.Waiting p = step.Parked p
step_by ends.Forever p = step.Parked p
step_by ends.Until p = step.Parked p
step_by ends.Yield p = step.Parked p

-- how a step ended, by its words: done, failed, or how the actor goes on
unfoldable pub step_of : StepWords → Step
step_of w = step_by (step_end_of w.end) (parked_of w)

-- ---- a fixed actor's step: the question that is open, and what a reply leads to

-- the question of a kind; start and resume are both Run
abbrev pub fixed_ask_of : FixedKind → FixedAsk
fixed_ask_of fixes.Start = fixed.Run true
fixed_ask_of fixes.Resume = fixed.Run false
fixed_ask_of fixes.Drain = fixed.Drain
fixed_ask_of fixes.Push = fixed.Push
fixed_ask_of fixes.Dispatch = fixed.Dispatch

-- the kind of question that a number says; any but 1 to 4 is Dispatch
unfoldable pub fixed_kind_of : ℕ → FixedKind
fixed_kind_of n =
    pick (eqb n 1) fixes.Start
    (pick (eqb n 2) fixes.Resume (pick (eqb n 3) fixes.Drain (pick (eqb n 4) fixes.Push fixes.Dispatch)))

-- the question that is open; with none the step ended, as the words of its end say
abbrev pub fixed_next_by : Option FixedKind → Step → FixedNext
fixed_next_by (Some k) end = fixedNext.Asks (fixed_ask_of k)
fixed_next_by None end = fixedNext.Ended end

-- the question that is asked; with none the step ended, as the words of its end say
unfoldable pub fixed_next_of : FixedWords → FixedNext
fixed_next_of w = fixed_next_by w.ask (step_of w.step)

-- ---- an eval actor's step; only Tell has an outcome

-- the question of a kind; start and resume are both Run, and Tell alone takes the outcome
abbrev pub eval_ask_of : EvalKind → Outcome → EvalAsk
eval_ask_of evals.Clock o = eval.Clock
eval_ask_of evals.Boot o = eval.Boot
eval_ask_of evals.StartClock o = eval.StartClock
eval_ask_of evals.Start o = eval.Run true
eval_ask_of evals.Resume o = eval.Run false
eval_ask_of evals.Dispatch o = eval.Dispatch
eval_ask_of evals.Tell o = eval.Tell o

-- the kind of question that a number says; any but 1 to 6 is Tell
unfoldable pub eval_kind_of : ℕ → EvalKind
eval_kind_of n =
    pick (eqb n 1) evals.Clock
    (pick (eqb n 2) evals.Boot
    (pick (eqb n 3) evals.StartClock
    (pick (eqb n 4) evals.Start (pick (eqb n 5) evals.Resume (pick (eqb n 6) evals.Dispatch evals.Tell)))))

-- the question of a kind, with its outcome; with none the step ended, and the actor goes on
abbrev pub eval_next_by : Option EvalKind → Outcome → Parked → EvalNext
eval_next_by (Some k) o end = evalNext.Asks (eval_ask_of k o)
eval_next_by None o end = evalNext.Ended end

-- the question that is asked, Tell with its outcome; with none the step ended, and the words of its end say how the
-- actor goes on
unfoldable pub eval_next_of : EvalWords → EvalNext
eval_next_of w = eval_next_by w.ask w.outcome (parked_of w.step)
