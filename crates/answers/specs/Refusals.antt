-- THE TABLE OF REFUSALS (docs/RULES.md, 8). For each call its lines, in the order of precedence: the first line that
-- holds refuses the call, and then nothing has changed; where none holds, the call has its effect. That each call is
-- refused with r exactly where its table says r is `by_the_table`, in crates/theorem/proofs/Refusals.
use Rattle.std.specs.Prelude.{◌≡◌, Bool, true, false, not, ◌&&◌, ◌||◌, List, [], ◌∷◌, ◌++◌, ℕ, ◌+◌, ◌-◌, ◌^◌, eqb, ltb, leb, length, take, Option, Some, None, Result, Err, Ok}
use Rattle.actor.specs.declared.question.Question.{Question}
use Rattle.actor.specs.declared.message.CallerId.{CallerId}
use Rattle.text.specs.Format.{record_line}
use Rattle.message_log.specs.Opening.{read_file, all_fit, RECORDS, NAME, BODY}
use Rattle.message_log.specs.Opened.{sized}
use Rattle.message_log.specs.Log.{new_message}
use Rattle.lists.specs.Links.{pick, Table, FREE, len_of, INBOX, LISTS, ENTRIES, SLOTS, GROUPS}
use Rattle.actor.specs.declared.question.Reply.{Reply}
use Rattle.actor.specs.declared.question.Reply.TheVariants as reply
use Rattle.actor.specs.Questions.{fits_of}
use Rattle.points.specs.declared.at.At.{At}
use Rattle.points.specs.declared.at.At.TheVariants as at
use Rattle.group.specs.Settings.{loaded_in}
use Rattle.group.specs.Roster.{ROWS}
use Rattle.settings.specs.declared.ranges.Settings.{Settings}
use Rattle.settings.specs.Ranges.{settings_fit}
use Rattle.turn.specs.declared.state.Disk.{Disk}
use Rattle.turn.specs.declared.state.Disk.TheVariants as disk
use Rattle.turn.specs.State.{Pool, State, wal_of}
use Rattle.turn.specs.Asks.{open_in}
use Rattle.answers.specs.declared.answer.Refusal.{Refusal}
use Rattle.answers.specs.declared.answer.Refusal.TheVariants as refusal
use Rattle.answers.specs.declared.answer.Answer.TheVariants as answer
use Rattle.answers.specs.Answers.{Did, refused}

-- ---- a table

-- a line: where this holds, the call is refused with that
pub record RefusalLine : Type 0 where
  pub holds : Bool
  pub refusal : Refusal

-- the line that refuses with r where b is so
abbrev pub when : Bool → Refusal → RefusalLine
when b r = record { holds = b; refusal = r }

-- the first line that holds
unfoldable pub judged : List RefusalLine → Result Unit Refusal
judged [] = (Ok tt)
judged (l ∷ ls) = pick l.holds (Err l.refusal) (judged ls)

-- a call by its table: refused, or with its effect
abbrev pub by_table : State → Result Unit Refusal → Did → Did
by_table s (Err r) effect = refused s r
by_table s (Ok tt) effect = effect

-- ---- what the lines ask

-- an order failed
abbrev pub is_failed : Disk → Bool
is_failed disk.Free = false
is_failed (disk.Waits o w) = false
is_failed disk.Failed = true

-- an order waits
abbrev pub is_waiting : Disk → Bool
is_waiting disk.Free = false
is_waiting (disk.Waits o w) = true
is_waiting disk.Failed = false

-- a turn is under way
abbrev pub in_turn : At → Bool
in_turn at.Rest = false
in_turn (at.Asks a) = true
in_turn (at.Runs p) = true

-- a name over 32 bytes, or a body over 128
abbrev pub too_long : List ℕ → List ℕ → Bool
too_long name body = ltb NAME (length name) || ltb BODY (length body)

-- the inbox holds its limit
abbrev pub inbox_full : State → Bool
inbox_full s = leb s.pool.limits.inbox (len_of s.links INBOX)

-- 256 messages live
abbrev pub no_entry_free : Table → Bool
no_entry_free t = eqb (len_of t FREE) 0

-- nobody waits for the outcome: the message is logged
abbrev pub is_logged : Option CallerId → Bool
is_logged (Some who) = false
is_logged None = true

-- every row of the table of open records is taken; in a pool that an opening made, a free entry means a free row
abbrev pub no_row_free : State → Bool
no_row_free s = not (ltb s.pool.turn.counters.count (length s.records))

-- no id below 2 ^ 64 - 1 is left
abbrev pub no_id_left : State → Bool
no_id_left s = not (ltb s.pool.turn.counters.next (2 ^ 64 - 1))

-- the open records and this one are more than the log's L bytes
abbrev pub no_room_left : State → List ℕ → List ℕ → Bool
no_room_left s name body =
    not (leb (s.pool.turn.counters.live + length (record_line (new_message (wal_of s) name body)))
    (length s.bytes))

-- the reply answers what is open
abbrev pub fits_in : Option Question → Reply → Bool
fits_in (Some q) r = fits_of q r
fits_in None r = false

-- a message that was sent
abbrev pub is_message : Reply → Bool
is_message reply.Yes = false
is_message reply.No = false
is_message (reply.Clock ns) = false
is_message (reply.Count n) = false
is_message (reply.Ran s) = false
is_message reply.Message = true
is_message reply.End = false
is_message reply.Told = false
is_message reply.Stored = false
is_message reply.Failed = false

-- ---- opening

-- what an opening is given: the settings, with a row for each of their groups; the lent log, of which the first `size`
-- bytes are the file; the lent body store and tables
pub record Lent : Type 0 where
  pub settings : Settings
  pub groups_given : Table
  pub bytes : List ℕ
  pub size : ℕ
  pub store : List ℕ
  pub records : Table
  pub groups : Table
  pub links : Table
  pub rows : Table
  pub keys : Table
  pub actors : Table

-- the file that is given to an opening: the lent log's first `size` bytes, or all of them where it has fewer
abbrev pub file_in : Lent → List ℕ
file_in l = take l.size l.bytes

-- the lent tables: 8 groups, 262 lists, 256 messages, 34 lists of keys, 128 actors
unfoldable pub tables_sized : ℕ → ℕ → ℕ → ℕ → ℕ → Bool
tables_sized groups links rows keys actors =
    eqb groups GROUPS && eqb links LISTS && eqb rows ENTRIES && eqb keys ROWS && eqb actors SLOTS

-- the lent tables of groups, lists of messages, their rows, keys and actors have their sizes
abbrev pub tables_fit : Lent → Bool
tables_fit l =
    tables_sized (length l.groups) (length l.links) (length l.rows) (length l.keys) (length l.actors)

-- the lent log, with the file in it, the body store and the table of open records
abbrev pub log_sized : Lent → Bool
log_sized l = sized (length l.bytes) l.size (length l.store) (length l.records) RECORDS

-- the lines that need nothing of the file ..
unfoldable pub open_refusals_first : Lent → List RefusalLine
open_refusals_first l =
    when (not (settings_fit l.settings l.groups_given)) refusal.Setting
    ∷ when (not (tables_fit l)) refusal.Sizes
    ∷ []

-- .. and those of the log: a record has the last id, so that there is no next one; more than 256 messages are left,
-- or one is too long
unfoldable pub open_refusals_logged : Lent → List RefusalLine
open_refusals_logged l =
    when (not (log_sized l)) refusal.Sizes
    ∷ when (not (ltb (read_file (file_in l)).next (2 ^ 64))) refusal.LastId
    ∷ when (not (leb (length (read_file (file_in l)).left) RECORDS && all_fit (read_file (file_in l)).left))
    refusal.TooMuch
    ∷ []

-- the table of an opening: 1; 2, of the pool's tables; 2, of what the log is lent; 3; 4
abbrev pub open_refusals : Lent → List RefusalLine
open_refusals l = open_refusals_first l ++ open_refusals_logged l

-- ---- admit

-- the lines that need nothing of the log ..
unfoldable pub admit_refusals_first : State → List ℕ → List ℕ → List RefusalLine
admit_refusals_first s name body =
    when (is_failed s.pool.turn.disk) refusal.StoreFailed
    ∷ when (is_waiting s.pool.turn.disk) refusal.OrderWaits
    ∷ when (too_long name body) refusal.TooLong
    ∷ when (not (loaded_in s.groups name s.pool.limits.groups)) refusal.NotLoaded
    ∷ when (inbox_full s) refusal.InboxFull
    ∷ when s.pool.closed refusal.Closed
    ∷ when (no_entry_free s.links) refusal.TooMany
    ∷ []

-- .. and those of a message that is logged
unfoldable pub admit_refusals_logged : State → List ℕ → List ℕ → Option CallerId → List RefusalLine
admit_refusals_logged s name body who =
    when (is_logged who && no_row_free s) refusal.TooMany
    ∷ when (is_logged who && no_id_left s) refusal.NoId
    ∷ when (is_logged who && no_room_left s name body) refusal.NoRoom
    ∷ []

-- the table of an admit: 14, 11, 5, 17, 6, 7, 8; if nobody waits also 8 (no row for an open record is free), 9, 10
abbrev pub admit_refusals : State → List ℕ → List ℕ → Option CallerId → List RefusalLine
admit_refusals s name body who = admit_refusals_first s name body ++ admit_refusals_logged s name body who

-- ---- turn, reply, sync, close

-- the table of a turn: 14 after a failed order, 11 while an order waits, 13 while a turn is under way
unfoldable pub turn_refusals : Pool → List RefusalLine
turn_refusals p =
    when (is_failed p.turn.disk) refusal.StoreFailed
    ∷ when (is_waiting p.turn.disk) refusal.OrderWaits
    ∷ when (in_turn p.turn.at) refusal.InTurn
    ∷ []

-- of a message that was sent, if one was, with this name and body
abbrev pub sent_refusals : Bool → Table → List ℕ → List ℕ → List RefusalLine
sent_refusals message t name body =
    when (message && too_long name body) refusal.TooLong ∷ when (message && no_entry_free t) refusal.TooMany ∷ []

-- the table of a reply: 14 after a failed order, 12 where it does not fit what is open; of a message sent also 5, 8
unfoldable pub reply_refusals : State → Reply → List ℕ → List ℕ → List RefusalLine
reply_refusals s r name body =
    when (is_failed s.pool.turn.disk) refusal.StoreFailed
    ∷ when (not (fits_in (open_in s) r)) refusal.NoFit
    ∷ sent_refusals (is_message r) s.links name body

-- the table of a sync: 14 after a failed order, 11 while an order waits
unfoldable pub sync_refusals : Pool → List RefusalLine
sync_refusals p =
    when (is_failed p.turn.disk) refusal.StoreFailed
    ∷ when (is_waiting p.turn.disk) refusal.OrderWaits
    ∷ []

-- as sync
abbrev pub close_refusals : Pool → List RefusalLine
close_refusals p = sync_refusals p

-- ---- what holds of each call

-- a call with this table, from this state: it is refused with r, and leaves the state as it was, exactly where the
-- table says r
pub record JudgedBy (table : Result Unit Refusal) (before : State) (did : Did) : Type 0 where
  pub refuses : (r : Refusal) → table ≡ Err r → did ≡ refused before r
  pub only : (r : Refusal) → did.answer ≡ answer.Refused r → table ≡ Err r
