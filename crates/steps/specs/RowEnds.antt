-- The starred row ends (docs/RULES.md, Row ends), as one list. Row end 8: tick_ns 300,000,000, timeout 1, clock 100:
-- the deadline is 900,000,100; at it the run ends, one earlier it is resumed. Each test is a truth value that the
-- definitions compute; proofs/Times.antt proves all of them as one conjunction.
use Rattle.std.specs.Prelude.{Bool, true, false, List, [], ◌∷◌, ◌++◌, ℕ, eqb, Some, None}
use Rattle.message_log.specs.RowEnds as Log
use Rattle.lists.specs.Links.{pick, LISTS, Table, move_first, start_from, FREE, HAND}
use Rattle.actor.specs.declared.question.Outcome.{Outcome}
use Rattle.actor.specs.declared.question.Outcome.TheVariants as outcome
use Rattle.actor.specs.declared.question.Reply.TheVariants as reply
use Rattle.actor.specs.declared.state.Mode.TheVariants as mode
use Rattle.steps.specs.declared.eval.EvalAsk.{EvalAsk}
use Rattle.steps.specs.declared.eval.EvalAsk.TheVariants as ask
use Rattle.steps.specs.declared.eval.EvalNext.{EvalNext}
use Rattle.steps.specs.declared.eval.EvalNext.TheVariants as next
use Rattle.steps.specs.declared.eval.Limit.{Limit}
use Rattle.actor.specs.Messages.{message_cells}
use Rattle.actor.specs.Actors.{actor_onto, actor_at, new_actor, deadline_of}
use Rattle.steps.specs.StepEval.{EvalBoth, step_eval}
use Rattle.steps.specs.Steps.{step_tables}

-- the caller is told that the run was late
abbrev pub is_late : Outcome → Bool
is_late outcome.Ran = false
is_late outcome.Unbooted = false
is_late outcome.Broke = false
is_late outcome.Raised = false
is_late outcome.Late = true
is_late outcome.StuckHostCall = false
is_late outcome.StuckReceive = false

-- the question is Tell, with the outcome late
abbrev pub asks_late : EvalAsk → Bool
asks_late ask.Clock = false
asks_late ask.Boot = false
asks_late ask.StartClock = false
asks_late (ask.Run start) = false
asks_late ask.Dispatch = false
asks_late (ask.Tell o) = is_late o

-- the step goes on with Tell, and the outcome is late
abbrev pub tells_late : EvalNext → Bool
tells_late (next.Asks a) = asks_late a
tells_late (next.Ended p) = false

-- the run is resumed
abbrev pub asks_resume : EvalAsk → Bool
asks_resume ask.Clock = false
asks_resume ask.Boot = false
asks_resume ask.StartClock = false
asks_resume (ask.Run start) = pick start false true
asks_resume ask.Dispatch = false
asks_resume (ask.Tell o) = false

-- the step goes on with Run, and the run is resumed
abbrev pub resumes : EvalNext → Bool
resumes (next.Asks a) = asks_resume a
resumes (next.Ended p) = false

abbrev limit : Limit
limit = record { timeout = 1; tick = 300000000 }

-- one message, of caller 7, in the step's hand of an eval actor
abbrev links : Table
links = move_first (start_from 0 LISTS) FREE HAND

abbrev rows : Table
rows =
    message_cells
    (record {
      attempts = 0;
      name_len = 0;
      body_len = 0;
      caller = Some (record { 0 = 7 });
      id =
          None;
    })
    ∷ []

abbrev actors : Table
actors = actor_onto [] (new_actor mode.Eval) ∷ []

-- its run is started at clock 100, and later the clock is asked again
unfoldable pub begun : EvalBoth
begun = step_eval (step_tables links rows actors) 0 limit ask.StartClock (reply.Clock 100)

-- what Clock of that run, answered c, leads to
unfoldable pub asked : ℕ → EvalNext
asked c = (step_eval (step_tables begun.links rows begun.actors) 0 limit ask.Clock (reply.Clock c)).next

-- row end 8: the deadline is 900,000,100; with this clock the caller is told late, with one less the run is resumed
unfoldable pub deadlines : List Bool
deadlines =
    eqb (deadline_of (actor_at begun.actors 0).run) 900000100
    ∷ tells_late (asked 900000100)
    ∷ resumes (asked 900000099)
    ∷ []

-- all starred row ends: the log's, 1 to 7, and this one
unfoldable pub starred : List Bool
starred = Log.row_ends ++ deadlines
