-- Reading a file with a table of rows (id, where its line begins, attempts): what the parts of the reader answer. Rows
-- beyond the table's room are let go from the largest id on, and read in a later pass.
use Rattle.std.specs.Prelude.{◌≡◌, Bool, true, false, ◌&&◌, List, [], ◌∷◌, ◌++◌, map, ℕ, suc, ◌+◌, ◌-◌, ◌*◌, ◌^◌, ◌≤◌}
use Rattle.std.specs.Prelude.{◌<◌, max, eqb, leb, ltb, length, take, drop, get_or, Option, Some, None, Result, Ok}
use Rattle.std.specs.Prelude.{Err}
use Rattle.text.specs.Format.{Message}
use Rattle.text.specs.Line.{Line, put, done, retry, other, name_of, body_of, line_at}
use Rattle.text.specs.Bytes.{write}
use Rattle.message_log.specs.declared.opening.Lengths.{Lengths}
use Rattle.message_log.specs.declared.opening.Pass.{Pass}
use Rattle.message_log.specs.declared.opening.Kept.{Kept}
use Rattle.message_log.specs.declared.Refusal.{Refusal}
use Rattle.message_log.specs.declared.Refusal.TheVariants.{Sizes, LastId as NoNext, TooMuch, TooLong, Full, NoId}
use Rattle.message_log.specs.declared.Refusal.TheVariants.{NoRoom}
use Rattle.message_log.specs.Opening.{read_file, all_fit, Rising, refused, opened, opening, image, RECORDS, NAME, BODY}
use Rattle.message_log.specs.Opening.{ENTRY}
use Rattle.message_log.specs.Log.{row, row_id, row_at, row_len, row_tried}
use Rattle.message_log.specs.Opened.{rows_from}

-- the message of a row: its id and its attempts, with the name and body of the line where it begins
abbrev pub row_message : List ℕ → List ℕ → Message
row_message file r = record {
  id = row_id r;
  name = name_of (line_at file (row_at r));
  body = body_of (line_at file (row_at r));
  attempts = row_tried r;
}

-- the messages of rows, in their order
abbrev pub row_messages : List ℕ → List (List ℕ) → List Message
row_messages file rs = map (row_message file) rs

-- the rows' ids rise from `low`, and stay below `high`
abbrev pub RowsRise : ℕ → List (List ℕ) → ℕ → Type 0
RowsRise low [] high = low ≤ high
RowsRise low (r ∷ rs) high = (low ≤ row_id r) × RowsRise (suc (row_id r)) rs high

-- a row set, the later one winning; and the rows of an id taken out
unfoldable pub insert_row : List ℕ → List (List ℕ) → List (List ℕ)
insert_row e [] = e ∷ []
insert_row e (x ∷ xs) = elim (ltb (row_id e) (row_id x)) [
  | true ↦ e ∷ x ∷ xs
  | false ↦
      elim (eqb (row_id e) (row_id x)) [ true ↦ e ∷ xs | false ↦ x ∷ insert_row e xs ]
]

-- the rows without those of an id; the others stay in their order
unfoldable pub remove_row : ℕ → List (List ℕ) → List (List ℕ)
remove_row id [] = []
remove_row id (x ∷ xs) = elim (eqb (row_id x) id) [ true ↦ remove_row id xs | false ↦ x ∷ remove_row id xs ]

-- the rows with these attempts in those of an id
unfoldable pub retry_row : ℕ → ℕ → List (List ℕ) → List (List ℕ)
retry_row id n [] = []
retry_row id n (x ∷ xs) = elim (eqb (row_id x) id) [
  | true ↦ row (row_id x) (row_at x) (row_len x) n ∷ retry_row id n xs
  | false ↦ x ∷ retry_row id n xs
]

-- the first place whose id is not below
pub record PlaceOf (these : List (List ℕ)) (id place : ℕ) : Type 0 where
  pub within : place ≤ length these
  pub stays : (e : List ℕ) → row_id e ≡ id → insert_row e these ≡ take place these ++ insert_row e (drop place these)
  pub there : place < length these → id ≤ row_id (get_or these place [])

-- the row at a place has this id
unfoldable pub holds : List (List ℕ) → ℕ → ℕ → Bool
holds these i id = ltb i (length these) && eqb (row_id (get_or these i [])) id

-- what a record does to the rows and to hi
pub data Took (lo hi : ℕ) (these : List (List ℕ)) (e : List ℕ) (hi' : ℕ) (these' : List (List ℕ)) : Type 0 where
  beneath : row_id e < lo → hi' ≡ hi → these' ≡ these → Took lo hi these e hi' these'
  beyond : hi ≤ row_id e → hi' ≡ hi → these' ≡ these → Took lo hi these e hi' these'
  set_in : lo ≤ row_id e → row_id e < hi → hi' ≡ hi → these' ≡ insert_row e these → Took lo hi these e hi' these'
  evicted : lo ≤ row_id e → row_id e < hi → (y : List ℕ) → insert_row e these ≡ these' ++ (y ∷ []) → hi' ≡ row_id y
      → 0 < length these' → Took lo hi these e hi' these'

-- the rows of a pass
abbrev pub pass_rows : Pass → List (List ℕ) → List (List ℕ)
pass_rows p table = take p.count table

-- what a line that begins at a place does to a pass; over: a record has the last id, so that there is no next one
abbrev pub TookNext : ℕ → Pass → List (List ℕ) → Line → ℕ → Pass → List (List ℕ) → Type 0
TookNext lo p table (put m) at q table' =
    Took lo p.hi (pass_rows p table) (row m.id at 0 0) q.hi (pass_rows q table')
    × (q.next ≡ max p.next (suc m.id)) × (m.id < 2 ^ 64 - 1)
TookNext lo p table (done id) at q table' =
    (pass_rows q table' ≡ remove_row id (pass_rows p table)) × (q.hi ≡ p.hi) × (q.next ≡ p.next)
TookNext lo p table (retry id n) at q table' =
    (pass_rows q table' ≡ retry_row id n (pass_rows p table)) × (q.hi ≡ p.hi) × (q.next ≡ p.next)
TookNext lo p table other at q table' =
    (pass_rows q table' ≡ pass_rows p table) × (q.hi ≡ p.hi) × (q.next ≡ p.next)

-- the line is a record whose id is 2 ^ 64 - 1 or more, so that there is no next id; no other line is one
abbrev pub LastId : Line → Type 0
LastId (put m) = 2 ^ 64 - 1 ≤ m.id
LastId (done id) = ⊥
LastId (retry id n) = ⊥
LastId other = ⊥

-- what a line did to a pass: it goes on, changed as above, with no more rows than the table has; or it is over, and the
-- line is a record with the last id
abbrev pub TookLine : ℕ → Pass → List (List ℕ) → Line → ℕ → Option Pass → List (List ℕ) → Type 0
TookLine lo p table l at (Some q) table' = (q.count ≤ length table') × TookNext lo p table l at q table'
TookLine lo p table l at None table' = LastId l

-- the messages left by ids: below lo, the rows, and from hi on
pub record Window (file : List ℕ) (lo hi : ℕ) (these : List (List ℕ)) : Type 0 where
  pub below : List Message
  pub above : List Message
  pub are : (read_file file).left ≡ below ++ (row_messages file these ++ above)
  pub low : Rising 0 below lo
  pub mid : Rising lo (row_messages file these) hi
  pub high : Rising hi above (2 ^ 64)
  pub wide : lo < hi

-- one pass over a file: the rows of the messages left from lo on and below hi, and the next id
pub record Passed (file : List ℕ) (lo : ℕ) (p : Pass) (table : List (List ℕ)) : Type 0 where
  pub room : p.count ≤ length table
  pub next : p.next ≡ (read_file file).next
  pub window : Window file lo p.hi (pass_rows p table)

-- one whole pass over the file, with the rows from lo on and the next id; or over, since that would be 2 ^ 64 or more
abbrev pub Scanned : List ℕ → ℕ → Option Pass → List (List ℕ) → Type 0
Scanned file lo (Some p) table = Passed file lo p table
Scanned file lo None table = 2 ^ 64 ≤ (read_file file).next

-- the first rows are those of all messages left, at most 256, and the next id
pub record AllRows (file : List ℕ) (kept : Kept) (table : List (List ℕ)) : Type 0 where
  pub few : kept.count ≤ RECORDS
  pub next_is : kept.next ≡ (read_file file).next
  pub left_are : (read_file file).left ≡ row_messages file (take kept.count table)

-- by the answer: the rows of all messages left; or the next id would be 2 ^ 64 or more; or it is below, and more than
-- 256 messages are left. No other refusal is given.
abbrev pub LeftIn : List ℕ → Result Kept Refusal → List (List ℕ) → Type 0
LeftIn file (Ok kept) table = AllRows file kept table
LeftIn file (Err NoNext) table = 2 ^ 64 ≤ (read_file file).next
LeftIn file (Err TooMuch) table = ((read_file file).next < 2 ^ 64) × (RECORDS < length (read_file file).left)
LeftIn file (Err Sizes) table = ⊥
LeftIn file (Err TooLong) table = ⊥
LeftIn file (Err Full) table = ⊥
LeftIn file (Err NoId) table = ⊥
LeftIn file (Err NoRoom) table = ⊥

-- what is decided before anything is written
pub record Accepted (file : List ℕ) (kept : Kept) (table : List (List ℕ)) : Type 0 where
  pub rows : AllRows file kept table
  pub fit : all_fit (read_file file).left ≡ true
  pub opens : opening file ≡ opened (read_file file)

-- `opening` decides the same on the file: refused by the same refusal; or accepted, with the rows of all messages left
abbrev pub Decided : List ℕ → Result Kept Refusal → List (List ℕ) → Type 0
Decided file (Ok kept) table = Accepted file kept table
Decided file (Err r) table = opening file ≡ refused r

-- whether the name and the body of a line are within the limits
unfoldable pub fit_line : Line → Bool
fit_line l = leb (length (name_of l)) NAME && leb (length (body_of l)) BODY

-- what was handed back of messages left, by entries: within the limits ..
unfoldable pub fit_left : List (List ℕ) → Bool
fit_left [] = true
fit_left (x ∷ xs) = (leb (get_or x 1 0) NAME && leb (get_or x 2 0) BODY) && fit_left xs

-- .. and the messages that the entries of the store from i on hold
unfoldable pub from_store : ℕ → List (List ℕ) → List ℕ → List Message
from_store i [] store = []
from_store i (x ∷ xs) store =
    record {
      id = get_or x 0 0;
      name = take (get_or x 1 0) (drop (ENTRY * i) store);
      body = take (get_or x 2 0) (drop (ENTRY * i + NAME) store);
      attempts = get_or x 3 0;
    } ∷ from_store (suc i) xs store

-- what the log, the records' table and the answer are after the messages were written from the first byte on
pub record Imaged : Type 0 where
  pub log : List ℕ
  pub table : List (List ℕ)
  pub size : ℕ

-- the messages' records and retry lines written over the log from its first byte on, their rows over the table's first
-- ones, and the length of these lines
abbrev pub imaged : List ℕ → List (List ℕ) → List Message → Imaged
imaged log table ms =
    record { log = write log 0 (image ms); table = write table 0 (rows_from 0 ms); size = length (image ms) }

-- the lengths of a name and a body
abbrev pub lengths_of : List ℕ → List ℕ → Lengths
lengths_of name body = record { name = length name; body = length body }
