-- What is open: the order that waits, else the turn's question; after a failed order nothing.
use Rattle.std.specs.Prelude.{ℕ, Option, Some, None}
use Rattle.actor.specs.declared.question.Question.{Question}
use Rattle.lists.specs.Links.{Table}
use Rattle.actor.specs.declared.question.Question.TheVariants as question
use Rattle.actor.specs.Questions.{kind_wanted}
use Rattle.steps.specs.StepFixed.{fixed_asks}
use Rattle.steps.specs.StepEval.{eval_asks}
use Rattle.points.specs.declared.at.At.{At}
use Rattle.points.specs.declared.at.At.TheVariants as at
use Rattle.points.specs.declared.at.Ask.{Ask}
use Rattle.points.specs.declared.at.Ask.TheVariants as asks
use Rattle.points.specs.At.{who_of}
use Rattle.turn.specs.declared.state.Disk.{Disk}
use Rattle.turn.specs.declared.state.Disk.TheVariants as disk
use Rattle.turn.specs.State.{State}

-- the question of an open place of the turn; some name a message, which the lists and rows tell
unfoldable pub asked_by : Ask → Table → Table → Option Question
asked_by (asks.SeedBoot g) t rows = Some (question.Boot g)
asked_by (asks.RouteBoot g left) t rows = Some (question.Boot g)
asked_by asks.TickClock t rows = Some question.Clock
asked_by (asks.WakePoll g k clock left) t rows = Some (question.Poll (who_of g k))
asked_by (asks.Fixed c a) t rows = fixed_asks t (who_of c.group c.key) a
asked_by (asks.Eval c a) t rows = eval_asks t rows (who_of c.group c.key) a
asked_by (asks.Sends c s) t rows = Some (question.Sends (who_of c.group c.key))
asked_by (asks.Trap c) t rows = Some (question.Trap c.group)
asked_by (asks.Trapped c k) t rows = Some (question.Trapped (who_of c.group k))

-- what runs, and a turn that is over, ask nothing
abbrev pub asked_at : At → Table → Table → Option Question
asked_at at.Rest t rows = None
asked_at (at.Asks a) t rows = asked_by a t rows
asked_at (at.Runs p) t rows = None

-- with a free disk the turn's question, if any, is open; an order that waits is, as Store; after a failed one nothing
unfoldable pub asked_in : Disk → At → Table → Table → Option Question
asked_in disk.Free a t rows = asked_at a t rows
asked_in (disk.Waits o w) a t rows = Some (question.Store o)
asked_in disk.Failed a t rows = None

-- the kind of reply that is wanted (actor, specs/Questions); 8 where nothing is open, which is the kind of no reply
unfoldable pub wanted_by : Option Question → ℕ
wanted_by (Some q) = kind_wanted q
wanted_by None = 8

-- what is open in a state: the order that waits, else the turn's question; after a failed order nothing
abbrev pub open_in : State → Option Question
open_in s = asked_in s.pool.turn.disk s.pool.turn.at s.links s.rows
