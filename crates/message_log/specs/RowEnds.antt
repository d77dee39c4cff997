-- The row ends 1 to 7 that are marked to be proved, as one list; the examples of the refusals that belong to the log,
-- as another; and files that have ids in other spellings, as a third.
use Rattle.std.specs.Prelude.{Bool, true, false, ◌&&◌, List, [], ◌∷◌, ◌++◌, ℕ, zero, suc, eqb, length, replicate, Result, Ok, Err}
use Rattle.message_log.specs.declared.Refusal.{Refusal}
use Rattle.message_log.specs.declared.Order.{Order}
use Rattle.text.specs.Format.{TAB, Message, untried, record_line, line, unescape}
use Rattle.message_log.specs.Opening.{Opening, refused, opened, opening, image}
use Rattle.message_log.specs.Log.{Wal, log_number_of, append_of}
use Rattle.message_log.specs.Recovery.{LogCall, append, mark, did_call}

-- two texts (or lists of ids) are the same: equally long, and equal at every place
unfoldable pub same_bytes : List ℕ → List ℕ → Bool
same_bytes [] [] = true
same_bytes [] (b ∷ bs) = false
same_bytes (a ∷ more) [] = false
same_bytes (a ∷ more) (b ∷ bs) = eqb a b && same_bytes more bs

-- the ids of messages, in their order
unfoldable pub ids : List Message → List ℕ
ids [] = []
ids (m ∷ ms) = m.id ∷ ids ms

-- opening leaves these ids, this next id and this new log
unfoldable pub leaves : Opening → List ℕ → ℕ → List ℕ → Bool
leaves (refused r) is next new = false
leaves (opened r) is next new = same_bytes (ids r.left) is && eqb r.next next && same_bytes (image r.left) new

-- the opening was refused, and with this number
unfoldable pub refused_by : Opening → ℕ → Bool
refused_by (refused r) n = eqb (log_number_of r) n
refused_by (opened r) n = false

-- the append was refused, and with this number
unfoldable pub turned_away_by : Result Order Refusal → ℕ → Bool
turned_away_by (Ok o) n = false
turned_away_by (Err r) n = eqb (log_number_of r) n

-- a message with this id, name and body, not tried yet
unfoldable pub message : ℕ → List ℕ → List ℕ → Message
message id name body = untried id name body

-- the name `row`
unfoldable pub row_name : List ℕ
row_name = 114 ∷ 111 ∷ 119 ∷ []

-- a log of l bytes with no message, and the log after calls
unfoldable pub empty_log : ℕ → ℕ → Wal
empty_log l next = record {
  bytes = replicate l 0;
  table = replicate 256 [];
  counters = record { next = next; live = 0; size = 0; dirty = false; count = 0 };
}

-- the log after calls, one after the other; what they order plays no part
unfoldable pub wal_after : ℕ → Wal → List LogCall → Wal
wal_after compactAt w [] = w
wal_after compactAt w (c ∷ cs) = wal_after compactAt (did_call compactAt w c).wal cs

-- the size of the file after calls, made on a log of l bytes that had no message and the next id 0
unfoldable pub size_after : ℕ → ℕ → List LogCall → ℕ
size_after l compactAt calls = (wal_after compactAt (empty_log l 0) calls).counters.size

-- two records of 8 bytes, ids 0 and 1
unfoldable pub two : List LogCall
two = append row_name (120 ∷ []) ∷ append row_name (121 ∷ []) ∷ []

-- n records one behind the other, with rising ids from `first` on, and with name and body empty
unfoldable pub records : ℕ → ℕ → List ℕ
records zero first = []
records (suc n) first = record_line (message first [] []) ++ records n (suc first)

-- 3 row x, 1 row y, and 3 done; the same with 12 for 3 and a torn 1 at the end
unfoldable pub done_three : List ℕ
done_three = 51 ∷ 9 ∷ 114 ∷ 111 ∷ 119 ∷ 9 ∷ 120 ∷ 10 ∷ 49 ∷ 9 ∷ 114 ∷ 111 ∷ 119 ∷ 9 ∷ 121 ∷ 10 ∷ 51 ∷ 10 ∷ []

-- 12 row x, 1 row y, and a 1 without its LF, which is torn and no line
unfoldable pub torn_one : List ℕ
torn_one = 49 ∷ 50 ∷ 9 ∷ 114 ∷ 111 ∷ 119 ∷ 9 ∷ 120 ∷ 10 ∷ 49 ∷ 9 ∷ 114 ∷ 111 ∷ 119 ∷ 9 ∷ 121 ∷ 10 ∷ 49 ∷ []

-- the row ends 1 to 7 (docs/RULES.md, 9): of each example whether the definitions give its result
unfoldable pub row_ends : List Bool
row_ends =
    -- 1
    same_bytes (record_line (message 7 row_name (97 ∷ 9 ∷ 98 ∷ [])))
    (55 ∷ 9 ∷ 114 ∷ 111 ∷ 119 ∷ 9 ∷ 97 ∷ 92 ∷ 116 ∷ 98 ∷ 10 ∷ []) ∷
    eqb (length (record_line (message 7 row_name (97 ∷ 9 ∷ 98 ∷ [])))) 11 ∷
    same_bytes (record_line (message 0 [] [])) (48 ∷ 9 ∷ 9 ∷ 10 ∷ []) ∷
    -- 2
    same_bytes (unescape (97 ∷ 92 ∷ [])) (97 ∷ []) ∷
    same_bytes (unescape (92 ∷ 113 ∷ [])) (113 ∷ []) ∷
    same_bytes (unescape (92 ∷ 92 ∷ 116 ∷ [])) (92 ∷ 116 ∷ []) ∷
    -- 3
    leaves (opening done_three) (1 ∷ []) 4 (49 ∷ 9 ∷ 114 ∷ 111 ∷ 119 ∷ 9 ∷ 121 ∷ 10 ∷ []) ∷
    -- 4
    leaves (opening torn_one) (1 ∷ 12 ∷ []) 13
    (49 ∷ 9 ∷ 114 ∷ 111 ∷ 119 ∷ 9 ∷ 121 ∷ 10 ∷ 49 ∷ 50 ∷ 9 ∷ 114 ∷ 111 ∷ 119 ∷ 9 ∷ 120 ∷ 10 ∷ []) ∷
    -- 5
    leaves (opening (43 ∷ 53 ∷ 9 ∷ 114 ∷ 111 ∷ 119 ∷ 9 ∷ 120 ∷ 10 ∷ [])) [] 0 [] ∷
    leaves (opening (53 ∷ 9 ∷ 114 ∷ 111 ∷ 119 ∷ 10 ∷ [])) [] 0 [] ∷
    -- 6
    eqb (size_after 64 20 (two ++ (mark 0 ∷ []))) 18 ∷
    eqb (size_after 64 20 (two ++ (mark 0 ∷ mark 1 ∷ []))) 0 ∷
    eqb (size_after 64 21 (two ++ (mark 0 ∷ mark 1 ∷ []))) 20 ∷
    -- 7
    eqb (size_after 16 64 (two ++ (mark 0 ∷ []))) 8 ∷
    []

-- a log with no room for anything: every refusal of an append from 8 on holds
unfoldable pub full_log : Wal
full_log = record {
  bytes = [];
  table = [];
  counters = record { next = 18446744073709551615; live = 0; size = 0; dirty = false; count = 0 };
}

-- 3: the last id; 4: 257 records; 5: a name of 33 bytes, a body of 129, and that before 8; 8: no free row; 9: opened
-- on the last id but one;
-- 10: the third record of 8 bytes in 16
unfoldable pub refusals : List Bool
refusals =
    refused_by (opening (record_line (message 18446744073709551615 (97 ∷ []) (98 ∷ [])))) 3 ∷
    refused_by (opening (records 257 0)) 4 ∷
    turned_away_by (append_of (empty_log 64 0) (replicate 33 97) []).answer 5 ∷
    turned_away_by (append_of (empty_log 64 0) [] (replicate 129 97)).answer 5 ∷
    turned_away_by (append_of full_log (replicate 33 97) []).answer 5 ∷
    turned_away_by (append_of full_log [] []).answer 8 ∷
    turned_away_by (append_of (empty_log 64 18446744073709551615) [] []).answer 9 ∷
    turned_away_by (append_of (wal_after 64 (empty_log 16 0) two) row_name (122 ∷ [])).answer 10 ∷
    []

-- a record's line with its id in some spelling
unfoldable pub respelled : List ℕ → List ℕ → List ℕ → List ℕ
respelled id name body = line (id ++ TAB ∷ name ++ TAB ∷ body)

-- 5 as an id, behind a zero, and behind a plus sign
unfoldable pub five : List ℕ
five = 53 ∷ []

-- 05: 5 with a leading zero, which is no id
unfoldable pub zero_five : List ℕ
zero_five = 48 ∷ 53 ∷ []

-- +5: 5 with a plus sign, which is no id
unfoldable pub plus_five : List ℕ
plus_five = 43 ∷ 53 ∷ []

-- the last id, 2 ^ 64 - 1
unfoldable pub last_id : List ℕ
last_id =
    49 ∷ 56 ∷ 52 ∷ 52 ∷ 54 ∷ 55 ∷ 52 ∷ 52 ∷ 48 ∷ 55 ∷ 51 ∷ 55 ∷ 48 ∷ 57 ∷ 53 ∷ 53 ∷ 49 ∷ 54 ∷ 49 ∷ 53 ∷ []

-- A line whose id is spelled otherwise is as good as absent: 05 neither sets 5 nor removes it, +5 does not set it
-- again, 00 does not remove 0, 00 sets nothing, and the last id behind a 0 is no 3. 0 and 10 are ids.
unfoldable pub spellings : List Bool
spellings =
    leaves (opening (respelled zero_five row_name (120 ∷ []) ++ respelled five row_name (121 ∷ []) ++ line zero_five))
    (5 ∷ []) 6 (respelled five row_name (121 ∷ [])) ∷
    leaves (opening (respelled five row_name (120 ∷ []) ++ respelled plus_five row_name (121 ∷ [])))
    (5 ∷ []) 6 (respelled five row_name (120 ∷ [])) ∷
    leaves (opening (respelled (48 ∷ []) [] [] ++ line (48 ∷ 48 ∷ []))) (0 ∷ []) 1 (respelled (48 ∷ []) [] []) ∷
    leaves (opening (respelled (48 ∷ 48 ∷ []) [] [])) [] 0 [] ∷
    leaves (opening (respelled (48 ∷ []) [] [] ++ line (48 ∷ []))) [] 1 [] ∷
    leaves (opening (respelled (49 ∷ 48 ∷ []) [] [])) (10 ∷ []) 11 (respelled (49 ∷ 48 ∷ []) [] []) ∷
    leaves (opening (respelled (48 ∷ last_id) (97 ∷ []) (98 ∷ []))) [] 0 [] ∷
    refused_by (opening (respelled last_id (97 ∷ []) (98 ∷ []))) 3 ∷
    []

-- every example of a list holds
unfoldable pub all_true : List Bool → Bool
all_true [] = true
all_true (b ∷ bs) = b && all_true bs
