-- A script's bytes (docs/PROTOCOL.md): a header with settings and lent lengths, the groups, the file, then calls. A
-- script that is cut short, or has a number that stands for nothing, is malformed.
use Rattle.std.specs.Prelude.{List, [], ◌∷◌, ℕ, zero, suc, ◌+◌, ◌-◌, ◌*◌, ◌≤◌, ◌<◌, eqb, ltb, length, Option, Some, None}
use Rattle.wire.specs.declared.script.CallAt.{CallAt}
use Rattle.wire.specs.declared.script.Kind.{Kind}
use Rattle.lists.specs.Links.{pick, Table}
use Rattle.actor.specs.declared.question.Reply.{Reply}
use Rattle.actor.specs.declared.question.Reply.TheVariants as reply
use Rattle.actor.specs.declared.question.Status.TheVariants as status
use Rattle.wire.specs.Number.{number_at, numbers_at}
use Rattle.wire.specs.declared.script.Header.{Header}
use Rattle.wire.specs.declared.script.Kind.TheVariants as kind

-- ---- the header: 11 numbers

-- where the file begins: behind the header and the groups, 37 numbers each
unfoldable pub file_at : ℕ → ℕ
file_at groups = 88 + 296 * groups

-- what the header says, number by number; the number of groups is given, and the file begins behind so many
abbrev pub fields_of : List ℕ → ℕ → Header
fields_of s groups = record {
  show = number_at s 8;
  long = number_at s 16;
  stored = number_at s 24;
  n = number_at s 32;
  file = file_at groups;
  settings = record {
    max_actors = number_at s 40;
    inbox = number_at s 48;
    backlog = number_at s 56;
    compact_at = number_at s 64;
    tick = number_at s 72;
  };
  groups = groups;
}

-- version 1, show 0 to 3, at most 16 groups, and the groups and the file lie in the script
unfoldable pub header_of : List ℕ → Option Header
header_of s =
    pick (ltb (length s) 88) None
    (pick (eqb (number_at s 0) 1)
    (pick (ltb 3 (number_at s 8)) None
    (pick (ltb 16 (number_at s 80)) None
    (pick (ltb (length s) (file_at (number_at s 80))) None
    (pick (ltb (length s - file_at (number_at s 80)) (number_at s 32)) None
    (Some (fields_of s (number_at s 80)))))))
    None)

-- the groups and the file lie in the script
abbrev pub HasFile : List ℕ → Option Header → Type 0
HasFile s None = Unit
HasFile s (Some h) = (h.groups ≤ 16) × (h.file + h.n ≤ length s)

-- the rows of so many groups, from p on, over those of a table
unfoldable pub groups_into : ℕ → List ℕ → ℕ → Table → Table
groups_into zero s p given = given
groups_into (suc k) s p [] = []
groups_into (suc k) s p (old ∷ olds) = numbers_at 37 s p ∷ groups_into k s (p + 296) olds

-- ---- a call: 5 numbers (which, kind, value, and the lengths of name and body), then the name, then the body

-- 0 nobody, 1 a caller
unfoldable pub caller_in : ℕ → ℕ → Option Kind
caller_in k v = pick (eqb k 0) (Some (kind.Admit None))
    (pick (eqb k 1) (Some (kind.Admit (Some (record { 0 = v })))) None)

-- a kind of call that is known: this reply
abbrev pub replied_by : Reply → Option Kind
replied_by r = Some (kind.Reply r)

-- the value of a reply ran: 0 done, 1 exit, 2 preempted, 3 event, 4 host call, 5 error, 6 broke; any other is unknown
unfoldable pub status_in : ℕ → Option Kind
status_in v =
    pick (eqb v 0) (replied_by (reply.Ran status.Done))
    (pick (eqb v 1) (replied_by (reply.Ran status.Exit))
    (pick (eqb v 2) (replied_by (reply.Ran status.Preempted))
    (pick (eqb v 3) (replied_by (reply.Ran status.Event))
    (pick (eqb v 4) (replied_by (reply.Ran status.HostCall))
    (pick (eqb v 5) (replied_by (reply.Ran status.Error)) (pick (eqb v 6) (replied_by (reply.Ran status.Broke))
    None))))))

-- 0 no, 1 yes, 2 clock, 3 count, 4 ran, 5 message, 6 end, 7 told, 8 stored, 9 failed
unfoldable pub reply_in : ℕ → ℕ → Option Kind
reply_in k v =
    pick (eqb k 0) (replied_by reply.No)
    (pick (eqb k 1) (replied_by reply.Yes)
    (pick (eqb k 2) (replied_by (reply.Clock v))
    (pick (eqb k 3) (replied_by (reply.Count v))
    (pick (eqb k 4) (status_in v)
    (pick (eqb k 5) (replied_by reply.Message)
    (pick (eqb k 6) (replied_by reply.End)
    (pick (eqb k 7) (replied_by reply.Told)
    (pick (eqb k 8) (replied_by reply.Stored) (pick (eqb k 9) (replied_by reply.Failed) None)))))))))

-- 1 admit, 2 turn, 3 reply, 4 sync, 5 close
unfoldable pub kind_in : ℕ → ℕ → ℕ → Option Kind
kind_in tag k v =
    pick (eqb tag 1) (caller_in k v)
    (pick (eqb tag 2) (Some kind.Turn)
    (pick (eqb tag 3) (reply_in k v) (pick (eqb tag 4) (Some kind.Sync)
    (pick (eqb tag 5) (Some kind.Close) None))))

-- a call of a known kind, whose name begins at `name`, its body at `body`, and ends at `end`
abbrev pub read_as : ℕ → ℕ → ℕ → Option Kind → Option CallAt
read_as name body end None = None
read_as name body end (Some k) = Some (record { kind = k; name = name; body = body; end = end })

-- the call that begins at p
unfoldable pub call_at : List ℕ → ℕ → Option CallAt
call_at s p =
    pick (ltb (length s - p) 40) None
    (pick (ltb (length s - (p + 40)) (number_at s (p + 24))) None
    (pick (ltb (length s - (p + 40 + number_at s (p + 24))) (number_at s (p + 32))) None
    (read_as (p + 40) (p + 40 + number_at s (p + 24)) (p + 40 + number_at s (p + 24) + number_at s (p + 32))
    (kind_in (number_at s p) (number_at s (p + 8)) (number_at s (p + 16))))))

-- a call that was read lies behind p, in the script
abbrev pub InScript : List ℕ → ℕ → Option CallAt → Type 0
InScript s p None = Unit
InScript s p (Some c) = (p < c.end) × (c.name ≤ c.body) × (c.body ≤ c.end) × (c.end ≤ length s)
