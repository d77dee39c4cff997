-- THE THEOREM OF THE WHOLE RAIL, from top to bottom: a call; what an answer shows; the world, with the disk and the
-- moments; a list of calls; an accepted opening; what holds after every list; and what holds of every call of it.
-- The world goes by the calls, their arguments and the answers that the host gets. Of the pool's insides it looks at
-- the six places; what holds is said of these, of queued, and of the keys that are given out.
-- The calls are defined in crates/pool/specs, disk and moments in crates/message_log/specs/Recovery
-- (docs/RULES.md, 3), the places in specs/Places (docs/RULES.md, 7). The theorem is `whole_rail`, in
-- proofs/Rail.antt; proofs/WrongPools.antt has pools that it rules out.
use Rattle.std.specs.Prelude.{◌≡◌, Bool, true, false, ◌⊎◌, ℕ, ◌+◌, ◌*◌, ◌<◌, ◌≤◌, eqb, ltb, length, drop, Option, Some, None}
use Rattle.actor.specs.declared.message.CallerId.{CallerId}
use mathlib.Core.List.{List, [], ◌∷◌, ◌++◌, Memᴰ}
use Rattle.group.specs.Roster.{ROWS}
use Rattle.text.specs.Format.{ATTEMPTS, Message, untried}
use Rattle.message_log.specs.Opening.{Opening, opened, refused, opening, retried, Rising, RECORDS, STORE}
use Rattle.message_log.specs.declared.LogId.{LogId}
use Rattle.message_log.specs.Log.{Wal}
use Rattle.message_log.specs.declared.Order.{Order}
use Rattle.message_log.specs.declared.Order.TheVariants.{Replace, Flush}
use Rattle.message_log.specs.Recovery as disk
use Rattle.lists.specs.Links.{pick, Table, LISTS, ENTRIES, INBOX, PENDING, HAND, SLOTS, GROUPS, KEYS}
use Rattle.lists.specs.Family.{count, view}
use Rattle.actor.specs.Messages.{logged_number, message_at}
use Rattle.actor.specs.declared.question.Reply.{Reply}
use Rattle.actor.specs.declared.question.Question.{Question}
use Rattle.actor.specs.declared.question.Question.TheVariants as ask
use Rattle.theorem.specs.Places.{stands, mail_total}
use Rattle.theorem.specs.Mailboxes.{Chained}
use Rattle.theorem.specs.Living.{given}
use Rattle.theorem.specs.Handing.{handed, ids_of, AllTried}
use Rattle.actor.specs.Entry.{store_entry}
use Rattle.turn.specs.State.{State, wal_of}
use Rattle.answers.specs.declared.answer.Refusal.TheVariants.{NotLoaded}
use Rattle.answers.specs.declared.answer.Answer.{Answer}
use Rattle.answers.specs.declared.answer.Answer.TheVariants as answer
use Rattle.answers.specs.Answers.{Did}
use Rattle.answers.specs.Refusals.{Lent, file_in}
use Rattle.pool.specs.Stored.{StoredIn}
use Rattle.pool.specs.Stored as stored
use Rattle.pool.specs.Open.{open_of}
use Rattle.pool.specs.Admit.{admit_of}
use Rattle.pool.specs.Loaded.{Routes, LoadedAt}
use Rattle.pool.specs.Calls.{turn_of, stored_in, reply_of, sync_of, close_of}

-- ---- a call

-- the five calls that may follow an opening, with what each is given
pub data Call : Type 0 where
  -- a group's name, a body, and who waits for the outcome, if anybody
  admit : List ℕ → List ℕ → Option CallerId → Call
  turn : Call
  -- with the name and body of a message that was sent
  reply : Reply → List ℕ → List ℕ → Call
  sync : Call
  close : Call

-- what a call does: the definitions that the code equals
unfoldable pub call_of : State → Call → Did
call_of s (admit name body who) = admit_of s name body who
call_of s turn = turn_of s
call_of s (reply r name body) = reply_of s r name body
call_of s sync = sync_of s
call_of s close = close_of s

-- ---- what an answer shows

-- a call with this answer was not refused
abbrev pub accepted : Answer → Bool
accepted (answer.Refused r) = false
accepted (answer.Open a) = true
accepted (answer.Ended busy waiters) = true

-- the order that an answer shows to the host, if any
pub data Shown : Type 0 where
  nothing : Shown
  shows : Order → Shown

-- the order that a question shows: that of Store; no other question has one
abbrev pub order_asked : Question → Shown
order_asked (ask.Boot g) = nothing
order_asked ask.Clock = nothing
order_asked (ask.Poll who) = nothing
order_asked (ask.Drain who) = nothing
order_asked (ask.Dispatch who) = nothing
order_asked (ask.Run who start message) = nothing
order_asked (ask.Push who message) = nothing
order_asked (ask.Sends who) = nothing
order_asked (ask.Trap g) = nothing
order_asked (ask.Trapped who) = nothing
order_asked (ask.Tell to outcome) = nothing
order_asked (ask.Store o) = shows o

-- the order in what is open: that of the open question; where nothing is open, none
abbrev pub order_open : Option Question → Shown
order_open (Some q) = order_asked q
order_open None = nothing

-- the order that an answer shows: the one that is open; a refusal and a turn's end show none
abbrev pub order_shown : Answer → Shown
order_shown (answer.Refused r) = nothing
order_shown (answer.Open a) = order_open a
order_shown (answer.Ended busy waiters) = nothing

-- how many orders that is
abbrev pub orders_in : Shown → ℕ
orders_in nothing = 0
orders_in (shows o) = 1

-- ---- the world

-- journal: the disk, the moments, the messages logged and not done now, and the moment of the last confirmed flush or
-- replace (crates/message_log/specs/Recovery). The log is carried along in it, as there; nothing here is decided by it.
-- next: the next id, by the file at the opening, and one more with each record's order.
-- logged: the ids logged or handed back; done: the ids marked; both as orders went out.
pub record World : Type 0 where
  pub state : State
  pub journal : disk.LogWorld
  pub next : ℕ
  pub logged : List ℕ
  pub done : List ℕ

-- a message stands in one of the six places, by its log id
abbrev pub is_placed : State → Message → Bool
is_placed s m = ltb 0 (stands m.id s.links s.rows)

-- of these messages, those that stand in a place ..
unfoldable pub in_places : State → List Message → List Message
in_places s [] = []
in_places s (m ∷ ms) = pick (is_placed s m) (m ∷ in_places s ms) (in_places s ms)

-- .. and those that stand in none
unfoldable pub out_of_places : State → List Message → List Message
out_of_places s [] = []
out_of_places s (m ∷ ms) = pick (is_placed s m) (out_of_places s ms) (m ∷ out_of_places s ms)

-- what an order is for: the record of a message with this name and body; a mark or a retry; or none of these
pub data Purpose : Type 0 where
  of_record : List ℕ → List ℕ → Purpose
  of_turn : Purpose
  of_neither : Purpose

-- by the call that it came with: an admission for which no caller waits logs its message; what a turn or a reply
-- orders is a mark or a retry; no other call logs, marks or retries
abbrev pub purpose_of : Call → Purpose
purpose_of (admit name body None) = of_record name body
purpose_of (admit name body (Some who)) = of_neither
purpose_of turn = of_turn
purpose_of (reply r name body) = of_turn
purpose_of sync = of_neither
purpose_of close = of_neither

-- the last of some entries
unfoldable pub last_in : List ℕ → Option ℕ
last_in [] = None
last_in (e ∷ []) = Some e
last_in (e ∷ f ∷ es) = last_in (f ∷ es)

-- the messages with the attempts of an entry's row, where the entry's id is one of theirs
abbrev pub tried_as : State → Option ℕ → List Message → List Message
tried_as s (Some e) now = retried (logged_number (message_at s.rows e).id) (message_at s.rows e).attempts now
tried_as s None now = now

-- a retry sets the attempts of the message that came to pending's end with it, to those that its row has now
abbrev pub retried_last : State → List Message → List Message
retried_last s now = tried_as s (last_in (view s.links PENDING)) now

-- the order of a turn or a reply was a retry, if every message that was logged and not done stands in a place still;
-- else a mark, and those that stand in none are taken off
abbrev pub turn_effect : State → List Message → List Message
turn_effect s now = pick (eqb (length (out_of_places s now)) 0) (retried_last s now) (in_places s now)

-- What an order does to the messages logged and not done. A record adds its message, with the name and body given, the
-- next id and no attempts. A mark takes off the message that left the place "over" with it. That message may have come
-- to "over" in this very call, so the list "over" from before does not tell; but it stood in some place before, as
-- every message that is not done, and stands in none after. So a mark takes off what stands in none of the six places
-- after the call: exactly one message (`OrdersFit`, below). A retry takes off none, and sets the attempts of the
-- message that it brought to the end of pending. Any other order changes nothing.
abbrev pub effect : ℕ → State → Purpose → List Message → List Message
effect next s (of_record name body) now = now ++ (untried next name body ∷ [])
effect next s of_turn now = turn_effect s now
effect next s of_neither now = now

-- the next id, after an order: one more after a record; after any other order the same
abbrev pub next_by : Purpose → ℕ → ℕ
next_by (of_record name body) next = next + 1
next_by of_turn next = next
next_by of_neither next = next

-- the ids logged or handed back, after an order: a record adds the next id; any other order adds none
abbrev pub logged_by : ℕ → Purpose → List ℕ → List ℕ
logged_by next (of_record name body) ids = ids ++ (next ∷ [])
logged_by next of_turn ids = ids
logged_by next of_neither ids = ids

-- the ids done, after an order: one of a turn or a reply adds those of the messages that were logged and not done, and
-- stand in none of the six places now, which after a retry are none; any other order adds none
abbrev pub done_by : State → List Message → Purpose → List ℕ → List ℕ
done_by s now (of_record name body) ids = ids
done_by s now of_turn ids = ids ++ ids_of (out_of_places s now)
done_by s now of_neither ids = ids

-- an order goes out: one more moment; its bytes are read from the log as the call left it
abbrev pub ordered_for : World → State → disk.LogWorld → Order → Purpose → World
ordered_for w s j o for = record {
  state = s;
  journal = disk.issue j (wal_of s) (effect w.next s for j.now) (disk.sent s.bytes o);
  next = next_by for w.next;
  logged = logged_by w.next for w.logged;
  done = done_by s j.now for w.done;
}

-- the log as an accepted call left it
abbrev pub moved : disk.LogWorld → Wal → disk.LogWorld
moved j wal = record { wal = wal; disk = j.disk; moments = j.moments; now = j.now; firm = j.firm }

-- no order goes out: the state and the log are as the call left them, and neither a moment nor an id is added
abbrev pub unordered : World → State → disk.LogWorld → World
unordered w s j = record {
  state = s;
  journal = moved j (wal_of s);
  next = w.next;
  logged = w.logged;
  done = w.done;
}

-- the order that a call's answer shows, if any
abbrev pub ordered : Call → World → State → disk.LogWorld → Shown → World
ordered c w s j nothing = unordered w s j
ordered c w s j (shows o) = ordered_for w s j o (purpose_of c)

-- the order that waits is answered: stored, or failed; any other call leaves it
abbrev pub order_answered : disk.LogWorld → disk.Sent → StoredIn → disk.LogWorld
order_answered j s stored.Stored = disk.stored_order j s
order_answered j s stored.Failed = disk.failed_order j s
order_answered j s stored.Other = j

-- by the disk's status: an order that waits is answered so; with none waiting, or after a failed one, nothing changes
abbrev pub answered_by : disk.LogWorld → disk.Status → StoredIn → disk.LogWorld
answered_by j disk.settled r = j
answered_by j (disk.waits s) r = order_answered j s r
answered_by j (disk.lost s) r = j

-- by the call: a reply may be the answer to the order that waits; any other call is none
abbrev pub answered : disk.LogWorld → Call → disk.LogWorld
answered j (admit name body who) = j
answered j turn = j
answered j (reply r name body) = answered_by j j.disk.status (stored_in r)
answered j sync = j
answered j close = j

-- a refused call adds nothing; an accepted one answers the order that waited, and may send out another
abbrev pub world_after : World → Call → State → Answer → World
world_after w c s (answer.Refused r) = unordered w s w.journal
world_after w c s (answer.Open a) = ordered c w s (answered w.journal c) (order_open a)
world_after w c s (answer.Ended busy waiters) = unordered w s (answered w.journal c)

-- the world after a call that left this state and gave this answer
abbrev pub step_did : World → Call → Did → World
step_did w c d = world_after w c d.state d.answer

-- the world after a call, which is made on the state that the call before left
unfoldable pub step : World → Call → World
step w c = step_did w c (call_of w.state c)

-- the world after the calls of a list, made one after the other
unfoldable pub run : World → List Call → World
run w [] = w
run w (c ∷ cs) = run (step w c) cs

-- ---- an accepted opening

-- an opening that is accepted
abbrev pub Accepts : Lent → Type 0
Accepts l = accepted (open_of l).answer ≡ true

-- the messages that a file leaves
abbrev pub left_by : Opening → List Message
left_by (opened r) = r.left
left_by (refused r) = []

-- the messages that the file of these bytes leaves; none where it is refused (3, 4)
abbrev pub left_of : List ℕ → List Message
left_of file = left_by (opening file)

-- 1 + the largest record id seen, else 0
abbrev pub next_from : Opening → ℕ
next_from (opened r) = r.next
next_from (refused r) = 0

-- the order that the opening's answer shows is out
abbrev pub start_status : List ℕ → Shown → disk.Status
start_status bytes nothing = disk.settled
start_status bytes (shows o) = disk.waits (disk.sent bytes o)

-- the world at the start: the file given counts as confirmed, the order that the answer shows is out, and the messages
-- left are handed back
abbrev pub begin : Did → List ℕ → World
begin d file = record {
  state = d.state;
  journal = record {
    wal = wal_of d.state;
    disk = record { sure = file; since = []; status = start_status d.state.bytes (order_shown d.answer) };
    moments = left_of file ∷ [];
    now = left_of file;
    firm = 0;
  };
  next = next_from (opening file);
  logged = ids_of (left_of file);
  done = [];
}

-- a list of calls after an opening
abbrev pub after : Lent → List Call → World
after l calls = run (begin (open_of l) (file_in l)) calls

-- ---- what holds after every list

-- an id is done and stands in no place, or not done and stands in exactly one of the six
abbrev pub Placed : World → ℕ → Type 0
Placed w x =
    ((0 < count x w.done) × (stands x w.state.links w.state.rows ≡ 0))
    ⊎ ((count x w.done ≡ 0) × (stands x w.state.links w.state.rows ≡ 1))

-- the messages in the mailbox and in the hand of the actor of key k in group g, slot 16 × g + k
abbrev pub mailbox_at : Table → ℕ → ℕ → List ℕ
mailbox_at t g k = view t (6 + 2 * (KEYS * g + k))

-- the messages in the hand of the actor of key k in group g
abbrev pub hand_at : Table → ℕ → ℕ → List ℕ
hand_at t g k = view t (7 + 2 * (KEYS * g + k))

-- whoever has a message, in the mailbox or in the hand, lives: the key is given out in the group's slab; and a hand
-- holds at most one message
abbrev pub Living : Table → Table → ℕ → ℕ → Type 0
Living t keys g k =
    (0 < length (mailbox_at t g k) + length (hand_at t g k) → given keys g k ≡ true) × (length (hand_at t g k) ≤ 1)

-- what an opening hands back: the messages in pending, in order, each with log id, group, body and attempts
abbrev pub handed_back : State → List Message
handed_back s = handed s.store s.links s.rows

-- an opening after this one, of this file: the same settings, a lent log of the same length that begins with the file,
-- and any store and tables of the right sizes
pub record NextOpening (l next : Lent) (file : List ℕ) : Type 0 where
  pub settings : next.settings ≡ l.settings
  pub groups_given : next.groups_given ≡ l.groups_given
  pub bytes : length next.bytes ≡ length l.bytes
  pub size : next.size ≡ length file
  pub begins : file_in next ≡ file
  pub store : length next.store ≡ STORE
  pub records : length next.records ≡ RECORDS
  pub groups : length next.groups ≡ GROUPS
  pub links : length next.links ≡ LISTS
  pub rows : length next.rows ≡ ENTRIES
  pub keys : length next.keys ≡ ROWS
  pub actors : length next.actors ≡ SLOTS

-- every next opening of a file is accepted, and hands back the messages of one of these moments, with the attempts that
-- each had then
pub record Reopens (l : Lent) (file : List ℕ) (moments : List (List Message)) : Type 0 where
  -- the file fits into the lent log
  pub fits : length file ≤ length l.bytes
  pub found : List Message
  -- their ids rise, each above the one before
  pub rises : (high : ℕ) × Rising 0 found high
  pub among : Memᴰ found moments
  pub accepts : (next : Lent) → NextOpening l next file → Accepts next
  pub back : (next : Lent) → NextOpening l next file → handed_back (open_of next).state ≡ found

-- what holds of a world: each id logged or handed back is done or in one place, any other in none; queued is right;
-- only the living hold messages, a hand at most one; any file that a cut leaves gives a moment not before the firm one
pub record Holds (l : Lent) (w : World) : Type 0 where
  -- each message logged or handed back is in its place, and no other id stands anywhere
  pub placed : (x : ℕ) → 0 < count x w.logged → Placed w x
  pub others : (x : ℕ) → count x w.logged ≡ 0 → stands x w.state.links w.state.rows ≡ 0
  -- queued is the sum of the mailbox lengths
  pub queued : w.state.pool.turn.counts.queued ≡ mail_total w.state.links
  -- nobody who is not there holds a message, in any of the 8 groups of 16 keys; the step's hand holds at most one
  pub living : (g k : ℕ) → g < GROUPS → k < KEYS → Living w.state.links w.state.keys g k
  pub hand : length (view w.state.links HAND) ≤ 1
  -- the attempts that the log has of a message are never more than those that the pool has
  pub tried : AllTried w.state.links w.state.rows w.journal.now
  -- wherever the power fails, whichever file the write rule allows: a moment up to the cut, and no earlier than the
  -- last confirmed flush or replace
  pub safe : (file : List ℕ) → disk.Possible w.journal.disk file
      → Reopens l file (drop w.journal.firm w.journal.moments)

-- THE STATEMENT: every opening that is accepted, every list of calls
abbrev pub WholeRail : Type 0
WholeRail = (l : Lent) → Accepts l → (calls : List Call) → Holds l (after l calls)

-- Every mailbox is a chain through the message table, without a circle, and no message is in two
-- (crates/theorem/specs/Mailboxes): every opening that is accepted, every list of calls
abbrev pub MailboxesChained : Type 0
MailboxesChained = (l : Lent) → Accepts l → (calls : List Call) → Chained (after l calls).state.links

-- ---- what holds of every call of every list

-- any opening that is accepted, any calls before, any call
abbrev pub EveryCall : (World → Call → Type 0) → Type 0
EveryCall P = (l : Lent) → Accepts l → (before : List Call) (c : Call) → P (after l before) c

-- the log's bytes at and after the new size are those from before
abbrev pub KeepsTail : ℕ → List ℕ → List ℕ → Type 0
KeepsTail size before now = drop size now ≡ drop size before

-- after a call the log's bytes at and after the size that it leaves are those from before it
abbrev pub CallKeepsTail : World → Call → Type 0
CallKeepsTail w c =
    KeepsTail (call_of w.state c).state.pool.turn.counters.size w.state.bytes
    (call_of w.state c).state.bytes

-- how long a disk's file is
abbrev pub length_on : disk.Disk → ℕ
length_on d = length d.sure + length d.since

-- the log's size is the length of the file once the order that waits is stored; what a failed one left nobody knows
abbrev pub SizeIs : ℕ → disk.Disk → disk.Status → Type 0
SizeIs size d disk.settled = size ≡ length_on d
SizeIs size d (disk.waits s) = size ≡ length_on (disk.confirm s d)
SizeIs size d (disk.lost s) = 0 ≤ 0

-- in every call, rewriting or not, refused or not, and in the opening
pub record TailsKept : Type 0 where
  pub sizes : (l : Lent) → Accepts l → (calls : List Call)
      → SizeIs (after l calls).state.pool.turn.counters.size (after l calls).journal.disk
      (after l calls).journal.disk.status
  pub openings : (l : Lent) → Accepts l
      → KeepsTail (open_of l).state.pool.turn.counters.size l.bytes (open_of l).state.bytes
  pub calls : EveryCall CallKeepsTail

-- a refused call leaves pool, log, store and every table as they were
abbrev pub CallRefusedSame : World → Call → Type 0
CallRefusedSame w c = accepted (call_of w.state c).answer ≡ false → (call_of w.state c).state ≡ w.state

-- an opening that leaves all that it was lent as it was
abbrev pub Untouched : Lent → State → Type 0
Untouched l s =
    s
    ≡ record {
      pool = s.pool;
      bytes = l.bytes;
      records = l.records;
      store = l.store;
      groups = l.groups;
      links = l.links;
      rows = l.rows;
      keys = l.keys;
      actors = l.actors;
    }

-- a refused opening leaves all that it was lent as it was, and a refused call of any list the whole state
pub record RefusedSame : Type 0 where
  pub openings : (l : Lent) → accepted (open_of l).answer ≡ false → Untouched l (open_of l).state
  pub calls : EveryCall CallRefusedSame

-- the last message of pending is logged and not done, and its row says attempts that a retry line can say
pub record LastTried (s : State) (now : List Message) : Type 0 where
  pub entry : ℕ
  pub last : last_in (view s.links PENDING) ≡ Some entry
  pub id : LogId
  pub own : (message_at s.rows entry).id ≡ Some id
  pub among : 0 < count id.0 (ids_of now)
  pub told : 0 < (message_at s.rows entry).attempts
  pub most : (message_at s.rows entry).attempts ≤ ATTEMPTS

-- what a turn or a reply orders: it takes off exactly as many messages as it has orders, one or none, so that each such
-- order marks one message, and without an order none is gone; or its order is a retry, of the last message of pending,
-- and none is gone
abbrev pub TurnFits : State → List Message → Shown → Type 0
TurnFits s now o =
    (length (out_of_places s now) ≡ orders_in o)
    ⊎ ((orders_in o ≡ 1) × (length (out_of_places s now) ≡ 0) × LastTried s now)

-- What an accepted call orders. An admission for which no caller waits has an order: it is logged. One with a caller,
-- and a close, have none. A turn or a reply has a mark, a retry or nothing. A sync has a flush or nothing.
abbrev pub OrderFits : World → Call → State → Shown → Type 0
OrderFits w (admit name body None) s o = orders_in o ≡ 1
OrderFits w (admit name body (Some who)) s o = orders_in o ≡ 0
OrderFits w turn s o = TurnFits s w.journal.now o
OrderFits w (reply r name body) s o = TurnFits s w.journal.now o
OrderFits w sync s o = (o ≡ nothing) ⊎ (o ≡ shows Flush)
OrderFits w close s o = orders_in o ≡ 0

-- what an accepted call orders fits it so; of a refused one nothing is said
abbrev pub CallOrderFits : World → Call → Type 0
CallOrderFits w c =
    accepted (call_of w.state c).answer ≡ true
    → OrderFits w c (call_of w.state c).state (order_shown (call_of w.state c).answer)

-- and an accepted opening replaces the file
pub record OrdersFit : Type 0 where
  pub openings : (l : Lent) → Accepts l → (size : ℕ) × (order_shown (open_of l).answer ≡ shows (Replace size))
  pub calls : EveryCall CallOrderFits

-- Whom an admission is for. Accepted, its message comes to the inbox's end, and its program is loaded: the group that
-- routing finds for it, in the state that the call leaves, may have an actor (docs/RULES.md, 6).
pub record ComesLoaded (s s' : State) : Type 0 where
  pub entry : ℕ
  pub last : view s'.links INBOX ≡ view s.links INBOX ++ (entry ∷ [])
  pub loaded : LoadedAt s'.groups s'.pool.limits.groups s'.store s'.rows entry

-- an admission of this name and body, for this caller or nobody, comes so if it is accepted
abbrev pub AcceptsLoaded : State → List ℕ → List ℕ → Option CallerId → Type 0
AcceptsLoaded s name body who =
    accepted (call_of s (admit name body who)).answer ≡ true → ComesLoaded s (call_of s (admit name body who)).state

-- Refused with 17, it is for no such program: in whatever entry it were written, routing would find no group for it
-- that may have an actor.
abbrev pub RefusesUnloaded : State → List ℕ → List ℕ → Option CallerId → Type 0
RefusesUnloaded s name body who =
    (call_of s (admit name body who)).answer ≡ answer.Refused NotLoaded
    → (e : ℕ) → e < ENTRIES
    → Routes s.groups s.pool.limits.groups (store_entry s.store e name body) e (length name) → ⊥

-- both hold of every admission after every list of calls, whatever its name, its body and who waits
pub record AdmitsLoaded : Type 0 where
  pub comes : (l : Lent) → Accepts l → (before : List Call) (name body : List ℕ) (who : Option CallerId)
      → AcceptsLoaded (after l before).state name body who
  pub refused : (l : Lent) → Accepts l → (before : List Call) (name body : List ℕ) (who : Option CallerId)
      → RefusesUnloaded (after l before).state name body who
