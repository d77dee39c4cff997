-- What both steps do: mail is taken, a message is over, an actor is idle.
use Rattle.std.specs.Prelude.{true, false, ℕ, ◌-◌, eqb, Option, Some, None}
use Rattle.message_log.specs.declared.LogId.{LogId}
use Rattle.actor.specs.declared.message.CallerId.{CallerId}
use Rattle.lists.specs.Links.{pick, Table, len_of, first_of, move_first, mailbox_of, FREE, OVER, HAND}
use Rattle.steps.specs.declared.step.Mail.{Mail}
use Rattle.actor.specs.Messages.{message_at}
use Rattle.actor.specs.Actors.{actor_at, put_actor, idled_as}

-- what a step works on: lists of messages, their rows, and actors
pub record StepTables : Type 0 where
  pub links : Table
  pub rows : Table
  pub actors : Table

-- these lists, rows and actors together, as a step works on them
abbrev pub step_tables : Table → Table → Table → StepTables
step_tables t rows l = record { links = t; rows = rows; actors = l }

-- a logged message that is over waits for its mark; any other is done, and its entry free
abbrev pub place_logged : Option LogId → ℕ
place_logged (Some id) = OVER
place_logged None = FREE

-- the list for a message that is over, by the row of its entry; the free one where there is no message
unfoldable pub place_over : Table → Option ℕ → ℕ
place_over rows (Some e) = place_logged (message_at rows e).id
place_over rows None = FREE

-- who waits for the outcome of a message, by the row of its entry; nobody where there is no message
unfoldable pub caller_first : Table → Option ℕ → Option CallerId
caller_first rows (Some e) = (message_at rows e).caller
caller_first rows None = None

-- the first message of a list is over
unfoldable pub over_first : Table → Table → ℕ → Table
over_first t rows from = move_first t from (place_over rows (first_of t from))

-- the actor of a slot becomes idle; a slot past the table changes nothing
unfoldable pub idled_at : Table → ℕ → Table
idled_at actors slot = put_actor actors slot (idled_as (actor_at actors slot))

-- what taking mail changes, whether there was any, and the new queued
pub record MailTaken : Type 0 where
  pub links : Table
  pub actors : Table
  pub mail : Mail

-- the first message of the mailbox goes to the step's hand, and queued is one less; where there is none the actor is
-- idle
unfoldable pub take_mail : Table → Table → ℕ → ℕ → MailTaken
take_mail t actors slot queued =
    pick (eqb (len_of t (mailbox_of slot)) 0)
    (record { links = t; actors = idled_at actors slot; mail = record { taken = false; queued = queued } })
    (record {
      links = move_first t (mailbox_of slot) HAND;
      actors = actors;
      mail = record { taken = true; queued = queued - 1 };
    })
