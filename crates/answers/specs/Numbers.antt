-- An answer in numbers: which answer it is, its values, and the message that it shows, if any; for every case of the
-- pool's answer. It is the table of answers in docs/PROTOCOL.md.
use Rattle.std.specs.Prelude.{◌≡◌, Bool, true, false, ℕ, Option, Some, None}
use Rattle.message_log.specs.declared.Order.{Order}
use Rattle.message_log.specs.declared.Order.TheVariants.{Append, Replace, Flush}
use Rattle.actor.specs.declared.question.Who.{Who}
use Rattle.actor.specs.declared.question.Outcome.{Outcome}
use Rattle.actor.specs.declared.question.Outcome.TheVariants as outcome
use Rattle.actor.specs.declared.question.Question.{Question}
use Rattle.actor.specs.declared.question.Question.TheVariants as ask
use Rattle.answers.specs.declared.answer.Answer.{Answer}
use Rattle.answers.specs.declared.answer.Answer.TheVariants as answer
use Rattle.answers.specs.declared.numbers.AnswerNumbers.{AnswerNumbers}
use Rattle.answers.specs.Answers.{number_of}

-- yes is 1, no is 0
abbrev pub flag_number : Bool → ℕ
flag_number true = 1
flag_number false = 0

-- two values, and no message
abbrev pub plain_numbers : ℕ → ℕ → ℕ → AnswerNumbers
plain_numbers kind a b = record { kind = kind; a = a; b = b; c = 0; message = None }

-- what a caller is told
abbrev pub outcome_number : Outcome → ℕ
outcome_number outcome.Ran = 0
outcome_number outcome.Unbooted = 1
outcome_number outcome.Broke = 2
outcome_number outcome.Raised = 3
outcome_number outcome.Late = 4
outcome_number outcome.StuckHostCall = 5
outcome_number outcome.StuckReceive = 6

-- an order to the disk: append bytes a to b, replace the file by the first n, flush
abbrev pub order_numbers : Order → AnswerNumbers
order_numbers (Append a b) = plain_numbers 3 a b
order_numbers (Replace n) = plain_numbers 4 n 0
order_numbers Flush = plain_numbers 5 0 0

-- a question to an actor: its group and its key
abbrev pub actor_numbers : ℕ → Who → AnswerNumbers
actor_numbers kind who = plain_numbers kind who.group who.key

-- a question: Run says too whether it is a start; Run and Push show a message
abbrev pub question_numbers : Question → AnswerNumbers
question_numbers (ask.Boot g) = plain_numbers 6 g 0
question_numbers ask.Clock = plain_numbers 7 0 0
question_numbers (ask.Poll who) = actor_numbers 8 who
question_numbers (ask.Drain who) = actor_numbers 9 who
question_numbers (ask.Dispatch who) = actor_numbers 10 who
question_numbers (ask.Run who start message) =
    record { kind = 11; a = who.group; b = who.key; c = flag_number start; message = message }
question_numbers (ask.Push who message) =
    record { kind = 12; a = who.group; b = who.key; c = 0; message = message }
question_numbers (ask.Sends who) = actor_numbers 13 who
question_numbers (ask.Trap g) = plain_numbers 14 g 0
question_numbers (ask.Trapped who) = actor_numbers 15 who
question_numbers (ask.Tell caller outcome) = plain_numbers 16 caller.0 (outcome_number outcome)
question_numbers (ask.Store order) = order_numbers order

-- what is open after an accepted call: a question, or nothing
abbrev pub asked_numbers : Option Question → AnswerNumbers
asked_numbers (Some q) = question_numbers q
asked_numbers None = plain_numbers 0 0 0

-- an answer: refused, with the refusal's number; a turn that ended, busy or not, with waiters or not; what is open now
abbrev pub numbers_of : Answer → AnswerNumbers
numbers_of (answer.Refused r) = plain_numbers 1 (number_of r) 0
numbers_of (answer.Ended busy waiters) = plain_numbers 2 (flag_number busy) (flag_number waiters)
numbers_of (answer.Open a) = asked_numbers a

-- numbers say an answer: they are its numbers, and no other answer's
pub record AnswerSays (a : Answer) (n : AnswerNumbers) : Type 0 where
  pub says : n ≡ numbers_of a
  pub alone : (b : Answer) → n ≡ numbers_of b → b ≡ a
