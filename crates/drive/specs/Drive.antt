-- What the numbers of a driven call mean, and what it shows: the state after the call, and its answer in numbers.
use Rattle.std.specs.Prelude.{List, ℕ, eqb, get_or, Option, Some, None}
use Rattle.actor.specs.declared.message.CallerId.{CallerId}
use Rattle.lists.specs.Links.{pick, ENTRIES}
use Rattle.actor.specs.declared.question.Reply.{Reply}
use Rattle.actor.specs.declared.question.Reply.TheVariants as reply
use Rattle.actor.specs.declared.question.Status.{Status}
use Rattle.actor.specs.declared.question.Status.TheVariants as status
use Rattle.settings.specs.declared.ranges.Settings.{Settings}
use Rattle.turn.specs.State.{State}
use Rattle.answers.specs.declared.answer.Answer.{Answer}
use Rattle.answers.specs.declared.numbers.AnswerNumbers.{AnswerNumbers}
use Rattle.answers.specs.Answers.{Did}
use Rattle.answers.specs.Numbers.{numbers_of}
use Rattle.drive.specs.declared.Shown.{Shown}

-- ---- what is given

-- five numbers: max_actors, inbox, backlog, compact_at and tick_ns, in this order; one that is missing is 0
abbrev pub settings_in : List ℕ → Settings
settings_in s = record {
  max_actors = get_or s 0 0;
  inbox = get_or s 1 0;
  backlog = get_or s 2 0;
  compact_at = get_or s 3 0;
  tick = get_or s 4 0;
}

-- 0 nobody, any other number a caller
unfoldable pub driven_caller : ℕ → ℕ → Option CallerId
driven_caller who id = pick (eqb who 0) None (Some (record { 0 = id }))

-- the numbers of docs/PROTOCOL.md; one that stands for nothing there is the last of them
unfoldable pub driven_status : ℕ → Status
driven_status v =
    pick (eqb v 0) status.Done
    (pick (eqb v 1) status.Exit
    (pick (eqb v 2) status.Preempted
    (pick (eqb v 3) status.Event (pick (eqb v 4) status.HostCall (pick (eqb v 5) status.Error status.Broke)))))

-- the same; 5, a message, has texts, and is none here
unfoldable pub driven_reply : ℕ → ℕ → Reply
driven_reply k v =
    pick (eqb k 0) reply.No
    (pick (eqb k 1) reply.Yes
    (pick (eqb k 2) (reply.Clock v)
    (pick (eqb k 3) (reply.Count v)
    (pick (eqb k 4) (reply.Ran (driven_status v))
    (pick (eqb k 6) reply.End (pick (eqb k 7) reply.Told (pick (eqb k 8) reply.Stored reply.Failed)))))))

-- ---- what is shown

-- the entry of the message that an answer shows, or 256
abbrev pub entry_number : Option ℕ → ℕ
entry_number None = ENTRIES
entry_number (Some e) = e

-- of an answer in numbers: its kind and values as they are, and the entry of the message that it shows, or 256
abbrev pub shown_as : AnswerNumbers → Shown
shown_as n = record { kind = n.kind; a = n.a; b = n.b; c = n.c; entry = entry_number n.message }

-- an answer as the host is shown it: kind and values in numbers, and the entry of its message, or 256
abbrev pub shown_by : Answer → Shown
shown_by a = shown_as (numbers_of a)

-- the state after a call, and what is shown of it
pub record Driven : Type 0 where
  pub state : State
  pub shown : Shown

-- the state that a call left, and its answer in numbers
abbrev pub driven : Did → Driven
driven d = record { state = d.state; shown = shown_by d.answer }
