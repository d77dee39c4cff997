-- What each part of a turn, and each message that comes, does to the mailboxes (specs/Mailboxes, Operations): nothing,
-- or one of the operations on one of them. After an opening nothing else changes a mailbox, or the order in it.
use Rattle.std.specs.Prelude.{◌≡◌, ℕ, ◌<◌}
use Rattle.lists.specs.Links.{Table, PENDING, BATCH, HAND, SLOTS}
use Rattle.lists.specs.Family.{Good}
use Rattle.actor.specs.declared.question.Reply.{Reply}
use Rattle.actor.specs.Entry.{Messages, Arrival, keep_of}
use Rattle.points.specs.declared.at.Ask.{Ask}
use Rattle.points.specs.declared.at.Point.{Point}
use Rattle.turn.specs.State.{State}
use Rattle.turn.specs.Go.{go_of}
use Rattle.turn.specs.Step.{mark_first}
use Rattle.turn.specs.Resume.{resume_of}
use Rattle.theorem.specs.Mailboxes.{mailbox, put_at_end, put_at_front, take_first, empty_out, Operated, Unread}
use Rattle.theorem.specs.Operations.{Retired}
use Rattle.theorem.specs.Keeping.{AskOk}

-- no mailbox changed
abbrev pub MailSame : Table → Table → Type 0
MailSame t r = (slot : ℕ) → slot < SLOTS → mailbox r slot ≡ mailbox t slot

-- from the links t to the links r: which operation was done, on which mailbox
pub data MailStep (groups rows t r : Table) : Type 0 where
  unchanged : MailSame t r → MailStep groups rows t r
  delivered : (slot : ℕ) → slot < SLOTS → Operated put_at_end slot BATCH t r → MailStep groups rows t r
  pushed_back : (slot : ℕ) → slot < SLOTS → Operated put_at_front slot HAND t r → MailStep groups rows t r
  took : (slot : ℕ) → slot < SLOTS → Operated take_first slot HAND t r → MailStep groups rows t r
  sent_back : (slot : ℕ) → slot < SLOTS → Operated empty_out slot PENDING t r → MailStep groups rows t r
  unread : (slot : ℕ) → slot < SLOTS → Unread rows slot t r → MailStep groups rows t r
  retired : (g slot : ℕ) → slot < SLOTS → Retired groups rows g slot t r → MailStep groups rows t r

-- every point of a turn does one of these
abbrev pub EveryPoint : Type 0
EveryPoint =
    (s : State) (p : Point) → Good s.links → MailStep s.groups s.rows s.links (go_of s p).links

-- so does every reply to a question
abbrev pub EveryReply : Type 0
EveryReply =
    (s : State) (a : Ask) (r : Reply) → Good s.links → AskOk a s.links
    → MailStep s.groups s.rows s.links (resume_of s a r).links

-- a mark changes none
abbrev pub EveryMark : Type 0
EveryMark = (s : State) → Good s.links → MailSame s.links (mark_first s).links

-- a message that is admitted or sent, and so kept in the inbox or in pending, changes none
abbrev pub EveryArrival : Type 0
EveryArrival =
    (m : Messages) (a : Arrival) (to : ℕ) → Good m.links → to < 6 → MailSame m.links (keep_of m a to).links
