-- Retry lines by example: files that have them, as one list, and calls that write them, as another; and the rule of
-- writing in the order in which its tests are asked for.
use Rattle.std.specs.Prelude.{◌≡◌, Bool, true, false, ◌&&◌, List, [], ◌∷◌, ◌++◌, map, ℕ, ◌+◌, ◌-◌, ◌≤◌, eqb, leb, length, drop, replicate, Option, Some, None}
use Rattle.text.specs.Format.{TAB, Message, line, retry_line}
use Rattle.text.specs.Bytes.{part}
use Rattle.message_log.specs.declared.Order.{Order}
use Rattle.message_log.specs.declared.Order.TheVariants.{Append, Replace, Flush}
use Rattle.message_log.specs.Opening.{Opening, refused, opened, opening}
use Rattle.message_log.specs.Log.{Wal, DidMark, nothing_due, line_behind, all_anew, with_tried, retried_at}
use Rattle.message_log.specs.Opened.{opened_log_by}
use Rattle.message_log.specs.Recovery.{LogCall, mark, retry, did_call, opened_wal}
use Rattle.message_log.specs.RowEnds.{same_bytes, leaves, row_name, empty_log, wal_after, two, respelled, last_id}

-- ---- the rule, test by test

-- the retry of an open id, its row at place i: its line is appended, if it fits behind the file; else the log is
-- rewritten with it, if all then fits; else nothing is written
unfoldable pub retry_asked : Wal → ℕ → ℕ → ℕ → DidMark
retry_asked w id n i = elim (leb (w.counters.size + length (retry_line id n)) (length w.bytes)) [
  | true ↦ line_behind (with_tried w id i n) (retry_line id n)
  | false ↦
      elim (leb (with_tried w id i n).counters.live (length w.bytes)) [
        | true ↦ all_anew (with_tried w id i n)
        | false ↦ nothing_due w
      ]
]

-- where live is at most size, as in every log that was opened, a retry is written by these tests
abbrev pub RetryAsAsked : Type 0
RetryAsAsked = (w : Wal) (id n i : ℕ) → w.counters.live ≤ w.counters.size
    → retried_at w id n i ≡ retry_asked w id n i

-- ---- files

-- the attempts of the messages that an opening leaves are these; none where it is refused
unfoldable pub tried_left : Opening → List ℕ → Bool
tried_left (refused r) tried = false
tried_left (opened r) tried = same_bytes (map (λ (m : Message). m.attempts) r.left) tried

-- a file leaves these ids, with these attempts, this next id and this new log
abbrev pub opens_to : List ℕ → List ℕ → List ℕ → ℕ → List ℕ → Bool
opens_to file ids tried next new = leaves (opening file) ids next new && tried_left (opening file) tried

-- a line of two fields
unfoldable pub pair_line : List ℕ → List ℕ → List ℕ
pair_line a b = line (a ++ TAB ∷ b)

-- the record of an id of one digit, with the name `row` and a body of one byte
abbrev pub row_record : ℕ → ℕ → List ℕ
row_record digit byte = respelled (digit ∷ []) row_name (byte ∷ [])

-- Files with retry lines: the last one wins, also a smaller one or 0; one before its record, for an id that is not
-- open, above 255, in another spelling or torn is skipped; a later record starts at 0; and a line alone counts neither
-- for the next id nor for the last one.
unfoldable pub retry_files : List Bool
retry_files =
    opens_to (row_record 48 120 ++ row_record 49 121 ++ pair_line (48 ∷ []) (49 ∷ []) ++ pair_line (48 ∷ []) (51 ∷ []))
    (0 ∷ 1 ∷ []) (3 ∷ 0 ∷ []) 2 (row_record 48 120 ++ pair_line (48 ∷ []) (51 ∷ []) ++ row_record 49 121) ∷
    eqb (length (row_record 48 120 ++ pair_line (48 ∷ []) (51 ∷ []) ++ row_record 49 121)) 20 ∷
    opens_to (pair_line (53 ∷ []) (49 ∷ []) ++ row_record 53 120) (5 ∷ []) (0 ∷ []) 6 (row_record 53 120) ∷
    opens_to (row_record 53 120 ++ pair_line (53 ∷ []) (50 ∷ []) ++ row_record 53 121) (5 ∷ []) (0 ∷ []) 6
    (row_record 53 121) ∷
    opens_to (row_record 53 120 ++ pair_line (53 ∷ []) (50 ∷ []) ++ pair_line (53 ∷ []) (48 ∷ [])) (5 ∷ []) (0 ∷ []) 6
    (row_record 53 120) ∷
    opens_to (row_record 53 120 ++ pair_line (53 ∷ []) (48 ∷ 50 ∷ [])) (5 ∷ []) (0 ∷ []) 6 (row_record 53 120) ∷
    opens_to (row_record 53 120 ++ pair_line (53 ∷ []) (50 ∷ []) ++ pair_line (53 ∷ []) (50 ∷ 53 ∷ 54 ∷ [])) (5 ∷ [])
    (2 ∷ []) 6 (row_record 53 120 ++ pair_line (53 ∷ []) (50 ∷ [])) ∷
    opens_to (row_record 53 120 ++ pair_line (53 ∷ []) (50 ∷ 53 ∷ 53 ∷ [])) (5 ∷ []) (255 ∷ []) 6
    (row_record 53 120 ++ pair_line (53 ∷ []) (50 ∷ 53 ∷ 53 ∷ [])) ∷
    opens_to (row_record 53 120 ++ pair_line (53 ∷ []) (51 ∷ []) ++ pair_line (53 ∷ []) (49 ∷ [])) (5 ∷ []) (1 ∷ []) 6
    (row_record 53 120 ++ pair_line (53 ∷ []) (49 ∷ [])) ∷
    opens_to (row_record 53 120 ++ 53 ∷ 9 ∷ 49 ∷ []) (5 ∷ []) (0 ∷ []) 6 (row_record 53 120) ∷
    opens_to (pair_line (57 ∷ []) (49 ∷ [])) [] [] 0 [] ∷
    opens_to (pair_line last_id (49 ∷ [])) [] [] 0 [] ∷
    []

-- ---- calls

-- the order of a call is this append, this replace, or none
abbrev pub is_append : Option Order → ℕ → ℕ → Bool
is_append (Some (Append a b)) from to = eqb a from && eqb b to
is_append (Some (Replace n)) from to = false
is_append (Some Flush) from to = false
is_append None from to = false

-- the order is a replace by the first n bytes
abbrev pub is_replace : Option Order → ℕ → Bool
is_replace (Some (Append a b)) n = false
is_replace (Some (Replace k)) n = eqb k n
is_replace (Some Flush) n = false
is_replace None n = false

-- there is no order
abbrev pub is_none : Option Order → Bool
is_none (Some o) = false
is_none None = true

-- the log's size and live are these
abbrev pub sizes : Wal → ℕ → ℕ → Bool
sizes w size live = eqb w.counters.size size && eqb w.counters.live live

-- a call made on the log that calls left: the log then, and the order
abbrev pub last_order : ℕ → Wal → LogCall → Option Order
last_order compactAt w c = (did_call compactAt w c).order

-- the log that a call leaves
abbrev pub last_wal : ℕ → Wal → LogCall → Wal
last_wal compactAt w c = (did_call compactAt w c).wal

-- a log of l bytes after two records of 8 bytes and these calls
abbrev pub after_two : ℕ → ℕ → List LogCall → Wal
after_two l compactAt calls = wal_after compactAt (empty_log l 0) (two ++ calls)

-- the log of l bytes that the opening of a file leaves; with none where it is refused
abbrev pub wal_opened : ℕ → List ℕ → Opening → Wal
wal_opened l file (refused r) = empty_log l 0
wal_opened l file (opened r) =
    opened_wal (opened_log_by (file ++ replicate (l - length file) 0) [] (replicate 256 []) (replicate 256 []) r)

-- id 1 with the name `row`, a body of n bytes `y`, and 9 attempts, opened in a log of 16 bytes
abbrev pub nine_times : ℕ → Wal
nine_times n =
    wal_opened 16 (respelled (49 ∷ []) row_name (replicate n 121) ++ pair_line (49 ∷ []) (57 ∷ []))
    (opening (respelled (49 ∷ []) row_name (replicate n 121) ++ pair_line (49 ∷ []) (57 ∷ [])))

-- the bytes from a place on are those of another log
abbrev pub same_from : ℕ → Wal → Wal → Bool
same_from at v w = same_bytes (drop at v.bytes) (drop at w.bytes)

-- Calls that write retry lines: appended; taken off by a mark, which then tests as it is asked; not written for lack of
-- room, and written once there is room; rewritten with the new line in place of the old one, the bytes behind as they
-- were; a rewrite that makes the file longer; and numbers that no line says.
unfoldable pub retry_calls : List Bool
retry_calls =
    is_append (last_order 20 (after_two 64 20 []) (retry 1 1)) 16 20 ∷
    sizes (after_two 64 20 (retry 1 1 ∷ [])) 20 20 ∷
    is_append (last_order 20 (after_two 64 20 (retry 1 1 ∷ [])) (mark 0)) 20 22 ∷
    sizes (after_two 64 20 (retry 1 1 ∷ mark 0 ∷ [])) 22 12 ∷
    is_replace (last_order 20 (after_two 64 20 (retry 1 1 ∷ mark 0 ∷ [])) (mark 1)) 0 ∷
    is_none (last_order 64 (after_two 16 64 []) (retry 0 1)) ∷
    is_replace (last_order 64 (after_two 16 64 (retry 0 1 ∷ [])) (mark 1)) 8 ∷
    is_append (last_order 64 (after_two 16 64 (retry 0 1 ∷ mark 1 ∷ [])) (retry 0 2)) 8 12 ∷
    same_bytes (part (after_two 16 64 (retry 0 1 ∷ mark 1 ∷ retry 0 2 ∷ [])).bytes 8 12) (pair_line (48 ∷ []) (50 ∷ [])) ∷
    sizes (after_two 24 64 (mark 0 ∷ retry 1 1 ∷ [])) 22 12 ∷
    is_replace (last_order 64 (after_two 24 64 (mark 0 ∷ retry 1 1 ∷ [])) (retry 1 2)) 12 ∷
    same_bytes (part (after_two 24 64 (mark 0 ∷ retry 1 1 ∷ retry 1 2 ∷ [])).bytes 0 12)
    (row_record 49 121 ++ pair_line (49 ∷ []) (50 ∷ [])) ∷
    same_from 12 (after_two 24 64 (mark 0 ∷ retry 1 1 ∷ retry 1 2 ∷ [])) (after_two 24 64 (mark 0 ∷ retry 1 1 ∷ [])) ∷
    is_append (last_order 64 (after_two 26 64 []) (retry 0 1)) 16 20 ∷
    is_append (last_order 64 (after_two 26 64 (retry 0 1 ∷ [])) (retry 0 2)) 20 24 ∷
    is_replace (last_order 64 (after_two 26 64 (retry 0 1 ∷ retry 0 2 ∷ [])) (retry 0 3)) 20 ∷
    same_bytes (part (after_two 26 64 (retry 0 1 ∷ retry 0 2 ∷ retry 0 3 ∷ [])).bytes 0 20)
    (row_record 48 120 ++ pair_line (48 ∷ []) (51 ∷ []) ++ row_record 49 121) ∷
    same_from 20 (after_two 26 64 (retry 0 1 ∷ retry 0 2 ∷ retry 0 3 ∷ []))
    (after_two 26 64 (retry 0 1 ∷ retry 0 2 ∷ [])) ∷
    sizes (nine_times 3) 14 14 ∷
    is_replace (last_order 64 (nine_times 3) (retry 1 10)) 15 ∷
    sizes (last_wal 64 (nine_times 3) (retry 1 10)) 15 15 ∷
    same_bytes (part (last_wal 64 (nine_times 3) (retry 1 10)).bytes 0 15)
    (respelled (49 ∷ []) row_name (121 ∷ 121 ∷ 121 ∷ []) ++ pair_line (49 ∷ []) (49 ∷ 48 ∷ [])) ∷
    is_none (last_order 64 (nine_times 5) (retry 1 10)) ∷
    sizes (last_wal 64 (nine_times 5) (retry 1 10)) 16 16 ∷
    is_none (last_order 64 (after_two 64 64 []) (retry 2 1)) ∷
    is_none (last_order 64 (after_two 64 64 []) (retry 0 0)) ∷
    is_none (last_order 64 (after_two 64 64 []) (retry 0 256)) ∷
    []
