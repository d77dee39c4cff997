-- What may be on the disk after a power cut, the moments of a list of calls, and what the next opening may then find
-- (docs/RULES.md, 3).
use Rattle.std.specs.Prelude.{◌≡◌, ◌⊎◌, ℕ, ◌-◌, ◌≤◌, length, take, drop, Option, Some, None, Result, Ok, Err}
use Rattle.message_log.specs.declared.Refusal.{Refusal}
use mathlib.Core.List.{List, [], ◌∷◌, ◌++◌, Memᴰ}
use Rattle.text.specs.Format.{Message}
use Rattle.text.specs.Bytes.{part}
use Rattle.message_log.specs.declared.Order.{Order}
use Rattle.message_log.specs.declared.Order.TheVariants.{Append, Replace, Flush}
use Rattle.message_log.specs.Log.{AnsweredDue}
use Rattle.message_log.specs.Opening.{Read, remove, retried, RECORDS, STORE}
use Rattle.message_log.specs.Log.{Wal, DidAppend, DidMark, new_message, append_of, mark_of, retry_of, sync_log}
use Rattle.message_log.specs.Opened.{Opened, opened_log_by, open_log}

-- the calls: log a message, mark an id done, write an id's attempts, sync
pub data LogCall : Type 0 where
  append : List ℕ → List ℕ → LogCall
  mark : ℕ → LogCall
  retry : ℕ → ℕ → LogCall
  sync : LogCall

-- the order of an answer, and the order that is due, if any
abbrev pub order_of_answer : Result Order Refusal → Option Order
order_of_answer (Ok o) = Some o
order_of_answer (Err r) = None

-- the order that a mark, a retry or a sync has due; none where nothing is due
abbrev pub ordered_due : Option Order → Option Order
ordered_due (Some o) = Some o
ordered_due None = None

-- the log after a call, and its order, if any
pub record Called : Type 0 where
  pub wal : Wal
  pub order : Option Order

-- the log after an append, and its order; none where it was refused
abbrev pub by_append : DidAppend → Called
by_append d = record { wal = d.wal; order = order_of_answer d.answer }

-- the log after a mark or a retry, and its order; none where nothing is due
abbrev pub by_mark : DidMark → Called
by_mark d = record { wal = d.wal; order = ordered_due d.due }

-- the log after a sync: bytes and table as they were, the counters those that it answered; and the order due, if any
abbrev pub by_sync : Wal → AnsweredDue → Called
by_sync w s =
    record { wal = record { bytes = w.bytes; table = w.table; counters = s.counters }; order = ordered_due s.due }

-- what a call makes of the log, whatever its arguments
unfoldable pub did_call : ℕ → Wal → LogCall → Called
did_call compactAt w (append name body) = by_append (append_of w name body)
did_call compactAt w (mark id) = by_mark (mark_of compactAt w id)
did_call compactAt w (retry id n) = by_mark (retry_of w id n)
did_call compactAt w sync = by_sync w (sync_log w.counters)

-- an order with its bytes, taken from the log as it stands when the order goes out
pub data Sent : Type 0 where
  appending : List ℕ → Sent
  replacing : List ℕ → Sent
  flushing : Sent

-- what an order sends: an append bytes a to b of the log, a replace its first n bytes, a flush none
unfoldable pub sent : List ℕ → Order → Sent
sent bytes (Append a b) = appending (part bytes a b)
sent bytes (Replace n) = replacing (take n bytes)
sent bytes Flush = flushing

-- every order is confirmed; or the last one waits for its answer; or it failed
pub data Status : Type 0 where
  settled : Status
  waits : Sent → Status
  lost : Sent → Status

-- sure: all bytes up to the last confirmed flush or replace. since: the bytes that confirmed orders appended since.
pub record Disk : Type 0 where
  pub sure : List ℕ
  pub since : List ℕ
  pub status : Status

-- all of `sure`, then any prefix of `since`
abbrev pub Cut : List ℕ → List ℕ → List ℕ → Type 0
Cut sure since file = (k : ℕ) × (file ≡ sure ++ take k since)

-- Write rule: the files that a cut may leave while an order is not confirmed (an order that failed did what an
-- unconfirmed one may) ..
abbrev pub Unconfirmed : Sent → List ℕ → List ℕ → List ℕ → Type 0
Unconfirmed (appending new) sure since file = Cut sure (since ++ new) file
Unconfirmed (replacing new) sure since file = Cut sure since file ⊎ (file ≡ new)
Unconfirmed flushing sure since file = Cut sure since file

-- .. and the files that a cut may leave
abbrev pub PossibleIn : Status → List ℕ → List ℕ → List ℕ → Type 0
PossibleIn settled sure since file = Cut sure since file
PossibleIn (waits s) sure since file = Unconfirmed s sure since file
PossibleIn (lost s) sure since file = Unconfirmed s sure since file

-- the files that a cut may leave on a disk, by its status and by what is sure and what came since
abbrev pub Possible : Disk → List ℕ → Type 0
Possible disk file = PossibleIn disk.status disk.sure disk.since file

-- an order confirmed
unfoldable pub confirm : Sent → Disk → Disk
confirm (appending new) disk = record { sure = disk.sure; since = disk.since ++ new; status = settled }
confirm (replacing new) disk = record { sure = new; since = []; status = settled }
confirm flushing disk = record { sure = disk.sure ++ disk.since; since = []; status = settled }

-- the place of the moment at which the last confirmed flush or replace stands: `last` if this order is one, else
-- `old`
unfoldable pub firm_moment : Sent → ℕ → ℕ → ℕ
firm_moment (appending bytes) old last = old
firm_moment (replacing bytes) old last = last
firm_moment flushing old last = last

-- Moments: the messages logged and not done, with the attempts last written, at the opening and after each order that
-- went out since. now: those of the last moment.
-- firm: the place in `moments` of the last confirmed flush or replace; without one, of the opening.
pub record LogWorld : Type 0 where
  pub wal : Wal
  pub disk : Disk
  pub moments : List (List Message)
  pub now : List Message
  pub firm : ℕ

-- what a call whose order goes out does to the messages logged and not done: a new record adds its message, with the
-- name and body given and the next id;
-- a mark takes its message off; a retry sets the attempts of its message; any other order changes nothing
unfoldable pub call_effect : Wal → LogCall → List Message → List Message
call_effect w (append name body) now = now ++ (new_message w name body ∷ [])
call_effect w (mark id) now = remove id now
call_effect w (retry id n) now = retried id n now
call_effect w sync now = now

-- an order goes out: one more moment
unfoldable pub issue : LogWorld → Wal → List Message → Sent → LogWorld
issue w wal now s = record {
  wal = wal;
  disk = record { sure = w.disk.sure; since = w.disk.since; status = waits s };
  moments = w.moments ++ (now ∷ []);
  now = now;
  firm = w.firm;
}

-- with an order: it goes out, with bytes of the log after the call, and its moment has the call's effect;
-- without one only the log changes, to what the call left
abbrev pub issued : LogWorld → LogCall → Wal → Option Order → LogWorld
issued w c wal (Some o) = issue w wal (call_effect w.wal c w.now) (sent wal.bytes o)
issued w c wal None = record { wal = wal; disk = w.disk; moments = w.moments; now = w.now; firm = w.firm }

-- a call made: the log is what it left, and if it has an order, that goes out and makes a moment
unfoldable pub called : LogWorld → LogCall → Called → LogWorld
called w c did = issued w c did.wal did.order

-- the order is answered: stored, or failed
unfoldable pub stored_order : LogWorld → Sent → LogWorld
stored_order w s = record {
  wal = w.wal;
  disk = confirm s w.disk;
  moments = w.moments;
  now = w.now;
  firm = firm_moment s w.firm (length w.moments - 1);
}

-- the order failed: a cut may leave what it might while the order waited; log, moments and firm are as they were
unfoldable pub failed_order : LogWorld → Sent → LogWorld
failed_order w s = record {
  wal = w.wal;
  disk = record { sure = w.disk.sure; since = w.disk.since; status = lost s };
  moments = w.moments;
  now = w.now;
  firm = w.firm;
}

-- a call, or the disk's answer to the order that waits
pub data Event : Type 0 where
  call : LogCall → Event
  stored : Event
  failed : Event

-- a call is turned away while an order waits and after one failed; an answer, where no order waits
unfoldable pub step_log : ℕ → Status → LogWorld → Event → LogWorld
step_log compactAt settled w (call c) = called w c (did_call compactAt w.wal c)
step_log compactAt settled w stored = w
step_log compactAt settled w failed = w
step_log compactAt (waits s) w (call c) = w
step_log compactAt (waits s) w stored = stored_order w s
step_log compactAt (waits s) w failed = failed_order w s
step_log compactAt (lost s) w e = w

-- calls and answers of the disk one after the other, each on what the one before left
unfoldable pub run_log : ℕ → LogWorld → List Event → LogWorld
run_log compactAt w [] = w
run_log compactAt w (e ∷ es) = run_log compactAt (step_log compactAt w.disk.status w e) es

-- the log as an opening left it: the bytes, the table of open records and the counters
abbrev pub opened_wal : Opened → Wal
opened_wal o = record { bytes = o.log; table = o.table; counters = o.step.counters }

-- the disk after an opening: its replace waits, not yet answered; where it was refused nothing does
abbrev pub status_of : List ℕ → Result Order Refusal → Status
status_of bytes (Ok o) = waits (sent bytes o)
status_of bytes (Err r) = settled

-- where a list of calls begins, after the opening of a file which left these messages: the file given counts as
-- confirmed, the opening's replace is not yet answered, and the messages left are the first moment, the firm one
unfoldable pub begin_log : Opened → List ℕ → List Message → LogWorld
begin_log o file left = record {
  wal = opened_wal o;
  disk = record { sure = file; since = []; status = status_of o.log o.step.answer };
  moments = left ∷ [];
  now = left;
  firm = 0;
}

-- the next opening of a file, in any lent log of this length that begins with it and with any store and tables of the
-- right sizes, is accepted,
-- and the messages left, handed back in rising id order, are those of one of the moments, with their attempts then
pub record Recovers (long : ℕ) (file : List ℕ) (moments : List (List Message)) : Type 0 where
  pub short : length file ≤ long
  pub found : Read
  pub among : Memᴰ found.left moments
  pub accepted : (log store : List ℕ) (table left : List (List ℕ)) → length log ≡ long → take (length file) log ≡ file
      → length store ≡ STORE → length table ≡ RECORDS → length left ≡ RECORDS
      → open_log log (length file) store table left ≡ opened_log_by log store table left found

-- whatever file a cut may leave, the next opening finds a moment no earlier than the last confirmed flush or replace
abbrev pub Recoverable : ℕ → LogWorld → Type 0
Recoverable long w = (file : List ℕ) → Possible w.disk file → Recovers long file (drop w.firm w.moments)

-- the bytes at and after the size that a step reaches have their value from before it ..
abbrev pub TailKept : Wal → Wal → Type 0
TailKept before after = drop after.counters.size after.bytes ≡ drop after.counters.size before.bytes

-- .. and so in every step of a run
abbrev pub TailKeptThrough : ℕ → LogWorld → List Event → Type 0
TailKeptThrough compactAt w [] = Unit {0}
TailKeptThrough compactAt w (e ∷ es) =
    TailKept w.wal (step_log compactAt w.disk.status w e).wal
    × TailKeptThrough compactAt (step_log compactAt w.disk.status w e) es
