-- What a call answers, and what it leaves; the numbers of refusals.
use Rattle.std.specs.Prelude.{ℕ, Option, Result, Ok, Err}
use Rattle.actor.specs.declared.question.Question.{Question}
use Rattle.lists.specs.Links.{Table}
use Rattle.message_log.specs.declared.Refusal as of-log
use Rattle.message_log.specs.declared.Refusal.TheVariants as logged
use Rattle.actor.specs.Entry.{Messages, Arrival, keep_of}
use Rattle.turn.specs.State.{Pool, State, with_store, with_links, with_rows}
use Rattle.turn.specs.Asks.{asked_in, open_in}
use Rattle.answers.specs.declared.answer.Refusal.{Refusal}
use Rattle.answers.specs.declared.answer.Refusal.TheVariants as refusal
use Rattle.answers.specs.declared.answer.Answer.{Answer}
use Rattle.answers.specs.declared.answer.Answer.TheVariants as answer
use Rattle.answers.specs.declared.answer.Accepted.{Accepted}
use Rattle.answers.specs.declared.answer.Accepted.TheVariants as accepted

-- the number of each refusal (docs/RULES.md, 8)
abbrev pub number_of : Refusal → ℕ
number_of refusal.Setting = 1
number_of refusal.Sizes = 2
number_of refusal.LastId = 3
number_of refusal.TooMuch = 4
number_of refusal.TooLong = 5
number_of refusal.InboxFull = 6
number_of refusal.Closed = 7
number_of refusal.TooMany = 8
number_of refusal.NoId = 9
number_of refusal.NoRoom = 10
number_of refusal.OrderWaits = 11
number_of refusal.NoFit = 12
number_of refusal.InTurn = 13
number_of refusal.StoreFailed = 14
number_of refusal.NotLoaded = 17

-- a refusal of the log, as the pool's own
abbrev pub log_refusal : of-log.Refusal → Refusal
log_refusal logged.Sizes = refusal.Sizes
log_refusal logged.LastId = refusal.LastId
log_refusal logged.TooMuch = refusal.TooMuch
log_refusal logged.TooLong = refusal.TooLong
log_refusal logged.Full = refusal.TooMany
log_refusal logged.NoId = refusal.NoId
log_refusal logged.NoRoom = refusal.NoRoom

-- the state after a call, and its answer
pub record Did : Type 0 where
  pub state : State
  pub answer : Answer

-- refused: the state is as it was
abbrev pub refused : State → Refusal → Did
refused s r = record { state = s; answer = answer.Refused r }

-- accepted: the order that waits, else the turn's question, is open now
unfoldable pub shown : State → Did
shown s = record { state = s; answer = answer.Open (open_in s) }

-- the body store, the lists of messages and their rows, into which a message that comes is put
abbrev pub messages_in : State → Messages
messages_in s = record { store = s.store; links = s.links; rows = s.rows }

-- the body store, the lists of messages and their rows are these; all else is as it was
abbrev pub with_messages : State → Messages → State
with_messages s m = with_rows (with_links (with_store s m.store) m.links) m.rows

-- a message that comes takes the first free entry, at the end of list `to`; with none free nothing changes
abbrev pub kept : State → Arrival → ℕ → State
kept s a to = with_messages s (keep_of (messages_in s) a to)

-- ---- what a call answers: what is open is told by the pool, the lists and the rows

-- what is open: Store while an order waits, nothing after a failed one, else the turn's question, if it is at one
abbrev pub open_by : Pool → Table → Table → Option Question
open_by p t rows = asked_in p.turn.disk p.turn.at t rows

-- the answer of a call that went so, with this pool, these lists and these rows: refused; what is open now; or the
-- turn's end, with busy and waiters
abbrev pub answer_of : Result Accepted Refusal → Pool → Table → Table → Answer
answer_of (Err r) p t rows = answer.Refused r
answer_of (Ok accepted.Open) p t rows = answer.Open (open_by p t rows)
answer_of (Ok (accepted.Ended busy waiters)) p t rows = answer.Ended busy waiters
