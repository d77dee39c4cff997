-- The log's state, and what each call makes of it (docs/RULES.md, 2). Every definition is total: on any bytes, any
-- table and any counters.
use Rattle.std.specs.Prelude.{Bool, true, false, ◌&&◌, List, [], ◌∷◌, ◌++◌, ◌≡◌, ℕ, zero, suc, ◌+◌, ◌-◌, ◌*◌, ◌/◌, ◌^◌, ◌≤◌, ◌<◌, max, eqb, leb, ltb, length, take, get_or, set, Option, Some, None, Result, Ok, Err}
use Rattle.message_log.specs.declared.Order.{Order}
use Rattle.text.specs.Format.{Message, ATTEMPTS, untried, record_line, done_line, retry_line, attempts_line}
use Rattle.text.specs.Bytes.{write, part}
use Rattle.message_log.specs.declared.Counters.{Counters}
use Rattle.message_log.specs.declared.Order.TheVariants.{Append, Replace, Flush}
use Rattle.message_log.specs.declared.Refusal.{Refusal}
use Rattle.message_log.specs.declared.Refusal.TheVariants.{Sizes, LastId, TooMuch, TooLong, Full, NoId, NoRoom}
use Rattle.message_log.specs.Opening.{fits}

-- the number of each refusal (docs/RULES.md, 8; a full table: 256 messages are logged and live)
abbrev pub log_number_of : Refusal → ℕ
log_number_of Sizes = 2
log_number_of LastId = 3
log_number_of TooMuch = 4
log_number_of TooLong = 5
log_number_of Full = 8
log_number_of NoId = 9
log_number_of NoRoom = 10

-- a row of the table of open records: the id, where its record begins in the log, the record's length, and the
-- attempts last written or read
abbrev pub row : ℕ → ℕ → ℕ → ℕ → List ℕ
row id at len tried = id ∷ at ∷ len ∷ tried ∷ []

-- the id of a row; 0 where the row has no cell
abbrev pub row_id : List ℕ → ℕ
row_id r = get_or r 0 0

-- where the record of a row begins in the log; 0 where the row has no second cell
abbrev pub row_at : List ℕ → ℕ
row_at r = get_or r 1 0

-- the length of a row's record; 0 where the row has no third cell
abbrev pub row_len : List ℕ → ℕ
row_len r = get_or r 2 0

-- the attempts of a row; 0 where the row has no fourth cell
abbrev pub row_tried : List ℕ → ℕ
row_tried r = get_or r 3 0

-- the retry line of a row: none while its attempts are 0
abbrev pub row_tries : List ℕ → List ℕ
row_tries r = attempts_line (row_id r) (row_tried r)

-- how long a row's record and its retry line are together
abbrev pub row_span : List ℕ → ℕ
row_span r = row_len r + length (row_tries r)

-- bytes: the lent log, whose length is L; its first `size` bytes are the file. table: the lent table; its first
-- `count` rows are the open records.
pub record Wal : Type 0 where
  pub bytes : List ℕ
  pub table : List (List ℕ)
  pub counters : Counters

-- the state of a log: its lent bytes, its lent table and its counters
abbrev pub state : List ℕ → List (List ℕ) → Counters → Wal
state bytes table counters = record { bytes = bytes; table = table; counters = counters }

-- the rows of the open records: the first `count` of the table, or all where it has fewer
abbrev pub open_rows : Wal → List (List ℕ)
open_rows w = take w.counters.count w.table

-- the log after an append, and the answer
pub record DidAppend : Type 0 where
  pub wal : Wal
  pub answer : Result Order Refusal

-- the log after a mark or a retry, and the order that is due
pub record DidMark : Type 0 where
  pub wal : Wal
  pub due : Option Order

-- the counters after a sync, and the order that is due
pub record AnsweredDue : Type 0 where
  pub counters : Counters
  pub due : Option Order

-- a refused append: the log is as it was, and the answer is the refusal
abbrev pub turned_away : Wal → Refusal → DidAppend
turned_away w r = record { wal = w; answer = Err r }

-- the counters of a file that has n bytes more
abbrev pub grown : Counters → ℕ → Counters
grown c n = record { next = c.next; live = c.live; size = c.size + n; dirty = c.dirty; count = c.count }

-- a text written from the log's first free byte on
unfoldable pub extended : Wal → List ℕ → Wal
extended w text = record {
  bytes = write w.bytes w.counters.size text;
  table = w.table;
  counters = grown w.counters (length text);
}

-- The rows stand one behind the other in a log of this length, from `start` on; and written anew one behind the other
-- from `to` on, each with its retry line, they end inside it. So stand the rows of every log that was opened
-- (`Stands`); of others nothing is rewritten.
unfoldable pub rewritable : ℕ → ℕ → ℕ → List (List ℕ) → Bool
rewritable long start to [] = leb to long
rewritable long start to (r ∷ rs) =
    leb start (row_at r) && leb (row_at r + row_len r) long && rewritable long (row_at r + row_len r) (to + row_span r) rs

-- what the rows stand for, in their order: each record as its bytes say, and directly behind it its retry line ..
unfoldable pub rows_image : List ℕ → List (List ℕ) → List ℕ
rows_image bytes [] = []
rows_image bytes (r ∷ rs) = (part bytes (row_at r) (row_at r + row_len r) ++ row_tries r) ++ rows_image bytes rs

-- .. and the rows, with the places that their records then have, from `to` on
unfoldable pub rows_placed : ℕ → List (List ℕ) → List (List ℕ)
rows_placed to [] = []
rows_placed to (r ∷ rs) = row (row_id r) to (row_len r) (row_tried r) ∷ rows_placed (to + row_span r) rs

-- bytes and rows after a rewrite
pub record Rewritten : Type 0 where
  pub bytes : List ℕ
  pub table : List (List ℕ)

-- the log's first bytes are what its rows stand for, and the rows say where; the bytes behind keep their value
unfoldable pub rewrite : List ℕ → List (List ℕ) → List (List ℕ) → Rewritten
rewrite bytes table rows = elim (rewritable (length bytes) 0 0 rows) [
  | true ↦ record { bytes = write bytes 0 (rows_image bytes rows); table = write table 0 (rows_placed 0 rows) }
  | false ↦ record { bytes = bytes; table = table }
]

-- the log rewritten to its open records in their order, with their retry lines: its size is then the length of these
unfoldable pub compacted : Wal → Wal
compacted w = record {
  bytes = (rewrite w.bytes w.table (open_rows w)).bytes;
  table = (rewrite w.bytes w.table (open_rows w)).table;
  counters = record {
    next = w.counters.next;
    live = w.counters.live;
    size = w.counters.live;
    dirty = w.counters.dirty;
    count = w.counters.count;
  };
}

-- one message more: its row behind the others, for the record that begins at the first free byte, with no attempts;
-- the next id rises by 1
unfoldable pub with_record : Wal → Message → Wal
with_record w m = record {
  bytes = w.bytes;
  table = set w.table w.counters.count (row m.id w.counters.size (length (record_line m)) 0);
  counters = record {
    next = w.counters.next + 1;
    live = w.counters.live + length (record_line m);
    size = w.counters.size;
    dirty = true;
    count = w.counters.count + 1;
  };
}

-- a message logged: its row and the counters, and its record written behind the file, whose size grows by it
abbrev pub logged : Wal → Message → Wal
logged w m = extended (with_record w m) (record_line m)

-- the message that is to be logged has the next id, and no attempts
abbrev pub new_message : Wal → List ℕ → List ℕ → Message
new_message w name body = untried w.counters.next name body

-- turned away: the name or the body is too long, the table is full, no id is left, or the open records and this one
-- would not fit
unfoldable pub append_refusal : Wal → Message → Option Refusal
append_refusal w m = elim (fits m) [
  | false ↦ Some TooLong
  | true ↦
      elim (ltb w.counters.count (length w.table)) [
        | false ↦ Some Full
        | true ↦
            elim (ltb w.counters.next (2 ^ 64 - 1)) [
              | false ↦ Some NoId
              | true ↦
                  elim (leb (w.counters.live + length (record_line m)) (length w.bytes)) [
                    | false ↦ Some NoRoom
                    | true ↦ None
                  ]
            ]
      ]
]

-- the record behind the others; where it has no room there, done records are dropped first, and all goes out as one
-- replace
unfoldable pub appended : Wal → Message → DidAppend
appended w m = elim (leb (w.counters.size + length (record_line m)) (length w.bytes)) [
  | true ↦ record {
    wal = logged w m;
    answer = Ok (Append w.counters.size (w.counters.size + length (record_line m)));
  }
  | false ↦ record {
    wal = logged (compacted w) m;
    answer = Ok (Replace (w.counters.live + length (record_line m)));
  }
]

-- with no refusal the message is logged, else it is turned away with this one
abbrev pub append_judged : Wal → Message → Option Refusal → DidAppend
append_judged w m None = appended w m
append_judged w m (Some r) = turned_away w r

-- Append: a message is logged under the next id, or turned away
unfoldable pub append_of : Wal → List ℕ → List ℕ → DidAppend
append_of w name body = append_judged w (new_message w name body) (append_refusal w (new_message w name body))

-- there is an id, a row and room for a message, whose record is `len` bytes long (not 8, 9 or 10)
pub record CanAppend (w : Wal) (m : Message) (len : ℕ) : Type 0 where
  pub len_is : len ≡ length (record_line m)
  pub id : w.counters.next < 2 ^ 64 - 1
  pub few : w.counters.count < length w.table
  pub live : w.counters.live + len ≤ length w.bytes

-- the place of the first row of an id, of rows that begin at place i
unfoldable pub find_row : ℕ → ℕ → List (List ℕ) → Option ℕ
find_row i id [] = None
find_row i id (r ∷ rs) = elim (eqb (row_id r) id) [ true ↦ Some i | false ↦ find_row (suc i) id rs ]

-- the place in the middle of those from lo on and below hi
abbrev pub middle : ℕ → ℕ → ℕ
middle lo hi = lo + (hi - lo) / 2

-- the place of an id's row, from place lo on and below place hi, searched by halving in at most n turns: the row in
-- the middle has the id, or the search goes on behind it if its id is smaller, and before it if not
unfoldable pub halved : ℕ → ℕ → List (List ℕ) → ℕ → ℕ → Option ℕ
halved zero id rs lo hi = None
halved (suc n) id rs lo hi = elim (ltb lo hi) [
  | false ↦ None
  | true ↦
      elim (eqb (row_id (get_or rs (middle lo hi) [])) id) [
        | true ↦ Some (middle lo hi)
        | false ↦
            elim (ltb (row_id (get_or rs (middle lo hi) [])) id) [
              | true ↦ halved n id rs (middle lo hi + 1) hi
              | false ↦ halved n id rs lo (middle lo hi)
            ]
      ]
]

-- the place of an id's row, searched by halving. Of rows in rising id order it is what `find_row` finds (`search_finds`
-- in proofs/SearchLaws); of other rows it may miss one.
unfoldable pub search_row : ℕ → List (List ℕ) → Option ℕ
search_row id rs = halved (length rs) id rs 0 (length rs)

-- one open record less: its row is taken out, and live falls by its record and its retry line
unfoldable pub without_row : Wal → ℕ → Wal
without_row w i = record {
  bytes = w.bytes;
  table = write w.table i (part w.table (i + 1) w.counters.count);
  counters = record {
    next = w.counters.next;
    live = w.counters.live - row_span (get_or w.table i []);
    size = w.counters.size;
    dirty = w.counters.dirty;
    count = w.counters.count - 1;
  };
}

-- the done line is appended while it fits and the log does not reach the limit
unfoldable pub keeps : ℕ → ℕ → ℕ → ℕ → Bool
keeps compactAt long live to = leb to long && ltb to (max compactAt (2 * live))

-- the size that the log would have with the done line of an id
abbrev pub with_done : Wal → ℕ → ℕ
with_done w id = w.counters.size + length (done_line id)

-- a line written behind the file, and the append of it ordered
abbrev pub line_behind : Wal → List ℕ → DidMark
line_behind w line = record {
  wal = extended w line;
  due = Some (Append w.counters.size (w.counters.size + length line));
}

-- the log rewritten to its open records and their retry lines, and a replace by these, which are live, ordered
abbrev pub all_anew : Wal → DidMark
all_anew w = record { wal = compacted w; due = Some (Replace w.counters.live) }

-- the row of the id is out already: its done line goes behind the file, as long as `keeps` allows it; else the log is
-- rewritten to the records still open
unfoldable pub marked_done : ℕ → Wal → ℕ → DidMark
marked_done compactAt w id = elim (keeps compactAt (length w.bytes) w.counters.live (with_done w id)) [
  | true ↦ line_behind w (done_line id)
  | false ↦ all_anew w
]

-- a log on which nothing is due
abbrev pub nothing_due : Wal → DidMark
nothing_due w = record { wal = w; due = None }

-- by the place of its row: an id without one changes nothing, and no order is due; else the row is taken out, and
-- the id is done
abbrev pub mark_found : ℕ → Wal → ℕ → Option ℕ → DidMark
mark_found compactAt w id None = nothing_due w
mark_found compactAt w id (Some i) = marked_done compactAt (without_row w i) id

-- Mark: an id that is not open does nothing; else its message is done
unfoldable pub mark_of : ℕ → Wal → ℕ → DidMark
mark_of compactAt w id = mark_found compactAt w id (search_row id (open_rows w))

-- an open id was tried n times: its row says so, and in live the new retry line takes the place of the old one
unfoldable pub with_tried : Wal → ℕ → ℕ → ℕ → Wal
with_tried w id i n = record {
  bytes = w.bytes;
  table = set w.table i (row id (row_at (get_or w.table i [])) (row_len (get_or w.table i [])) n);
  counters = record {
    next = w.counters.next;
    live = w.counters.live - length (row_tries (get_or w.table i [])) + length (retry_line id n);
    size = w.counters.size;
    dirty = w.counters.dirty;
    count = w.counters.count;
  };
}

-- the row says n already: the retry line goes behind the file, if it fits there; else the log is rewritten with it
unfoldable pub retry_written : Wal → ℕ → ℕ → DidMark
retry_written w id n = elim (leb (w.counters.size + length (retry_line id n)) (length w.bytes)) [
  | true ↦ line_behind w (retry_line id n)
  | false ↦ all_anew w
]

-- an open id's retry, its row at place i: written, if the open records and the retry lines then fit into the log;
-- else nothing is written, and the log keeps the number that it had. (In a log that was opened live is at most size, so
-- that a line that fits behind the file is always written: `RetryAsAsked`.)
unfoldable pub retried_at : Wal → ℕ → ℕ → ℕ → DidMark
retried_at w id n i = elim (leb (with_tried w id i n).counters.live (length w.bytes)) [
  | true ↦ retry_written (with_tried w id i n) id n
  | false ↦ nothing_due w
]

-- by the place of its row: an id without one changes nothing, and no order is due
abbrev pub retry_found : Wal → ℕ → ℕ → Option ℕ → DidMark
retry_found w id n None = nothing_due w
retry_found w id n (Some i) = retried_at w id n i

-- a retry line may say 1 to 255
unfoldable pub counts_tries : ℕ → Bool
counts_tries n = ltb 0 n && leb n ATTEMPTS

-- Retry: the attempts of a message are written; for an id that is not open, and of a number that no line says, nothing
-- is done. It never makes a flush due.
unfoldable pub retry_of : Wal → ℕ → ℕ → DidMark
retry_of w id n = elim (counts_tries n) [
  | true ↦ retry_found w id n (search_row id (open_rows w))
  | false ↦ nothing_due w
]

-- Sync: a flush is ordered only where a record was appended since the last one
unfoldable pub sync_log : Counters → AnsweredDue
sync_log c = elim c.dirty [
  | true ↦ record {
    counters = record { next = c.next; live = c.live; size = c.size; dirty = false; count = c.count };
    due = Some Flush;
  }
  | false ↦ record { counters = c; due = None }
]
