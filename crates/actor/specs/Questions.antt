-- Questions, replies, and which reply fits which question.
use Rattle.std.specs.Prelude.{Bool, true, false, ℕ, ◌+◌, ◌*◌, eqb, leb, Option, Some, None}
use Rattle.actor.specs.declared.question.Status.{Status}
use Rattle.lists.specs.Links.{pick, SLOTS, GROUPS, KEYS}
use Rattle.actor.specs.declared.question.Who.{Who}
use Rattle.actor.specs.declared.question.Outcome.{Outcome}
use Rattle.actor.specs.declared.question.Outcome.TheVariants as outcome
use Rattle.actor.specs.declared.question.Question.{Question}
use Rattle.actor.specs.declared.question.Question.TheVariants as ask
use Rattle.actor.specs.declared.question.Reply.{Reply}
use Rattle.actor.specs.declared.question.Reply.TheVariants as reply

-- the slot of an actor among the lists, 16 for each of 8 groups; 128, which is no slot, of a group or key past these
unfoldable pub slot_of : Who → ℕ
slot_of who = pick (leb GROUPS who.group) SLOTS (pick (leb KEYS who.key) SLOTS (KEYS * who.group + who.key))

-- a reply read as yes or no; every other reply is neither
abbrev pub yes_in : Reply → Option Bool
yes_in reply.Yes = Some true
yes_in reply.No = Some false
yes_in _ = None

-- a reply read as a clock: its nanoseconds, of any size; every other reply is no clock
abbrev pub clock_in : Reply → Option ℕ
clock_in (reply.Clock ns) = Some ns
clock_in _ = None

-- a reply read as a count: its number; every other reply is no count
abbrev pub count_in : Reply → Option ℕ
count_in (reply.Count n) = Some n
count_in _ = None

-- a reply read as the status of a run; every other reply is no status
abbrev pub ran_in : Reply → Option Status
ran_in (reply.Ran s) = Some s
ran_in _ = None

-- whether a reply is that a caller was told
abbrev pub is_told : Reply → Bool
is_told reply.Told = true
is_told _ = false

-- yes or no 1, a clock up to 2^63 - 1 2, a count 3, a status 4, a message or the end 5, told 6, stored or failed 7
abbrev pub kind_of : Reply → ℕ
kind_of reply.Yes = 1
kind_of reply.No = 1
kind_of (reply.Clock ns) = pick (leb ns 9223372036854775807) 2 0
kind_of (reply.Count n) = 3
kind_of (reply.Ran s) = 4
kind_of reply.Message = 5
kind_of reply.End = 5
kind_of reply.Told = 6
kind_of reply.Stored = 7
kind_of reply.Failed = 7

-- the kind of reply that a question wants, numbered as in `kind_of`; none wants kind 0, a clock from 2^63 on
abbrev pub kind_wanted : Question → ℕ
kind_wanted (ask.Boot g) = 1
kind_wanted ask.Clock = 2
kind_wanted (ask.Poll w) = 3
kind_wanted (ask.Drain w) = 3
kind_wanted (ask.Dispatch w) = 3
kind_wanted (ask.Run w s m) = 4
kind_wanted (ask.Push w m) = 1
kind_wanted (ask.Sends w) = 5
kind_wanted (ask.Trap g) = 1
kind_wanted (ask.Trapped w) = 1
kind_wanted (ask.Tell c o) = 6
kind_wanted (ask.Store o) = 7

-- whether a reply fits a question: it is of the kind that the question wants
unfoldable pub fits_of : Question → Reply → Bool
fits_of q r = eqb (kind_wanted q) (kind_of r)

-- the outcome of a number, which is that with Tell in docs/PROTOCOL.md; any from 6 on is stuck in receive
unfoldable pub outcome_of : ℕ → Outcome
outcome_of n =
    pick (eqb n 0) outcome.Ran
    (pick (eqb n 1) outcome.Unbooted
    (pick (eqb n 2) outcome.Broke
    (pick (eqb n 3) outcome.Raised
    (pick (eqb n 4) outcome.Late
    (pick (eqb n 5) outcome.StuckHostCall outcome.StuckReceive)))))
