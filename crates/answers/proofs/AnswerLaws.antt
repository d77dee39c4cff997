-- A refusal of the log has the same number in the pool; and an answer can be read back from its numbers, so that these
-- say it and no other. Assumes nothing.
use Rattle.std.specs.Prelude.{Some, None}
use mathlib.Core.Path.{◌≡◌, refl, sym, ap, ◌∙◌}
use mathlib.Core.Bool.{Bool, true, false}
use Prim.Native.Nat.{ℕ}
use lib.Dec.{eqb}
use Rattle.lists.specs.Links.{pick}
use Rattle.message_log.specs.Log as log
use Rattle.message_log.specs.declared.Refusal as of-log
use Rattle.message_log.specs.declared.Refusal.TheVariants as logged
use Rattle.message_log.specs.declared.Order.TheVariants as order
use Rattle.actor.specs.declared.question.Who.{Who}
use Rattle.actor.specs.declared.question.Outcome.{Outcome}
use Rattle.actor.specs.declared.question.Outcome.TheVariants as outcome
use Rattle.actor.specs.declared.question.Question.{Question}
use Rattle.actor.specs.declared.question.Question.TheVariants as ask
use Rattle.answers.specs.declared.answer.Refusal.{Refusal}
use Rattle.answers.specs.declared.answer.Refusal.TheVariants as refusal
use Rattle.answers.specs.declared.answer.Answer.{Answer}
use Rattle.answers.specs.declared.answer.Answer.TheVariants as answer
use Rattle.answers.specs.declared.numbers.AnswerNumbers.{AnswerNumbers}
use Rattle.answers.specs.Answers.{number_of, log_refusal}
use Rattle.answers.specs.Numbers.{flag_number, outcome_number, numbers_of, AnswerSays}

-- ---- refusals

-- the log's number of a refusal and the pool's are the same
pub log_number : (r : of-log.Refusal) → number_of (log_refusal r) ≡ log.log_number_of r
log_number logged.Sizes = refl
log_number logged.LastId = refl
log_number logged.TooMuch = refl
log_number logged.TooLong = refl
log_number logged.Full = refl
log_number logged.NoId = refl
log_number logged.NoRoom = refl

-- ---- the answer that numbers say

-- the first case whose number it is
abbrev case : {A : Type 0} → ℕ → ℕ → A → A → A
case n k x others = pick (eqb n k) x others

refusal_from : ℕ → Refusal
refusal_from n =
    case n 1 refusal.Setting
    (case n 2 refusal.Sizes
    (case n 3 refusal.LastId
    (case n 4 refusal.TooMuch
    (case n 5 refusal.TooLong
    (case n 6 refusal.InboxFull
    (case n 7 refusal.Closed
    (case n 8 refusal.TooMany
    (case n 9 refusal.NoId
    (case n 10 refusal.NoRoom
    (case n 11 refusal.OrderWaits
    (case n 12 refusal.NoFit
    (case n 13 refusal.InTurn (case n 14 refusal.StoreFailed refusal.NotLoaded)))))))))))))

refusal_back : (r : Refusal) → refusal_from (number_of r) ≡ r
unfolding refusal_from
refusal_back refusal.Setting = refl
refusal_back refusal.Sizes = refl
refusal_back refusal.LastId = refl
refusal_back refusal.TooMuch = refl
refusal_back refusal.TooLong = refl
refusal_back refusal.InboxFull = refl
refusal_back refusal.Closed = refl
refusal_back refusal.TooMany = refl
refusal_back refusal.NoId = refl
refusal_back refusal.NoRoom = refl
refusal_back refusal.OrderWaits = refl
refusal_back refusal.NoFit = refl
refusal_back refusal.InTurn = refl
refusal_back refusal.StoreFailed = refl
refusal_back refusal.NotLoaded = refl

flag_from : ℕ → Bool
flag_from n = pick (eqb n 1) true false

flag_back : (b : Bool) → flag_from (flag_number b) ≡ b
unfolding flag_from
flag_back true = refl
flag_back false = refl

outcome_from : ℕ → Outcome
outcome_from n =
    case n 0 outcome.Ran
    (case n 1 outcome.Unbooted
    (case n 2 outcome.Broke
    (case n 3 outcome.Raised (case n 4 outcome.Late (case n 5 outcome.StuckHostCall outcome.StuckReceive)))))

outcome_back : (o : Outcome) → outcome_from (outcome_number o) ≡ o
unfolding outcome_from
outcome_back outcome.Ran = refl
outcome_back outcome.Unbooted = refl
outcome_back outcome.Broke = refl
outcome_back outcome.Raised = refl
outcome_back outcome.Late = refl
outcome_back outcome.StuckHostCall = refl
outcome_back outcome.StuckReceive = refl

abbrev who_from : AnswerNumbers → Who
who_from n = record { group = n.a; key = n.b }

-- from kind 3 on an answer is a question
question_from : AnswerNumbers → Question
question_from n =
    case n.kind 3 (ask.Store (order.Append n.a n.b))
    (case n.kind 4 (ask.Store (order.Replace n.a))
    (case n.kind 5 (ask.Store order.Flush)
    (case n.kind 6 (ask.Boot n.a)
    (case n.kind 7 ask.Clock
    (case n.kind 8 (ask.Poll (who_from n))
    (case n.kind 9 (ask.Drain (who_from n))
    (case n.kind 10 (ask.Dispatch (who_from n))
    (case n.kind 11 (ask.Run (who_from n) (flag_from n.c) n.message)
    (case n.kind 12 (ask.Push (who_from n) n.message)
    (case n.kind 13 (ask.Sends (who_from n))
    (case n.kind 14 (ask.Trap n.a)
    (case n.kind 15 (ask.Trapped (who_from n)) (ask.Tell (record { 0 = n.a }) (outcome_from n.b))))))))))))))

question_back : (q : Question) → question_from (numbers_of (answer.Open (Some q))) ≡ q
unfolding question_from
question_back (ask.Boot g) = refl
question_back ask.Clock = refl
question_back (ask.Poll who) = refl
question_back (ask.Drain who) = refl
question_back (ask.Dispatch who) = refl
question_back (ask.Run who start message) = ap (λ s. ask.Run who s message) (flag_back start)
question_back (ask.Push who message) = refl
question_back (ask.Sends who) = refl
question_back (ask.Trap g) = refl
question_back (ask.Trapped who) = refl
question_back (ask.Tell caller outcome) = ap (ask.Tell caller) (outcome_back outcome)
question_back (ask.Store (order.Append a b)) = refl
question_back (ask.Store (order.Replace n)) = refl
question_back (ask.Store order.Flush) = refl

answer_from : AnswerNumbers → Answer
answer_from n =
    case n.kind 0 (answer.Open None)
    (case n.kind 1 (answer.Refused (refusal_from n.a))
    (case n.kind 2 (answer.Ended (flag_from n.a) (flag_from n.b)) (answer.Open (Some (question_from n)))))

-- a question's kind is none of the first three
open_from : (q : Question)
    → answer_from (numbers_of (answer.Open (Some q)))
    ≡ answer.Open (Some (question_from (numbers_of (answer.Open (Some q)))))
unfolding answer_from
open_from (ask.Boot g) = refl
open_from ask.Clock = refl
open_from (ask.Poll who) = refl
open_from (ask.Drain who) = refl
open_from (ask.Dispatch who) = refl
open_from (ask.Run who start message) = refl
open_from (ask.Push who message) = refl
open_from (ask.Sends who) = refl
open_from (ask.Trap g) = refl
open_from (ask.Trapped who) = refl
open_from (ask.Tell caller outcome) = refl
open_from (ask.Store (order.Append a b)) = refl
open_from (ask.Store (order.Replace n)) = refl
open_from (ask.Store order.Flush) = refl

answer_back : (a : Answer) → answer_from (numbers_of a) ≡ a
unfolding answer_from
answer_back (answer.Refused r) = ap answer.Refused (refusal_back r)
answer_back (answer.Ended busy waiters) = rw (flag_back busy, flag_back waiters)
answer_back (answer.Open None) = refl
answer_back (answer.Open (Some q)) =
    open_from q ∙ ap (λ x. answer.Open (Some x)) (question_back q)

-- the numbers of an answer say it, and no other answer
pub answer_says : (a : Answer) → AnswerSays a (numbers_of a)
answer_says a = record {
  says = refl;
  alone = λ b same. sym (answer_back b) ∙ (ap answer_from (sym same) ∙ answer_back a);
}
