-- What the call that opens a log makes of the lent log, body store and tables.
use Rattle.std.specs.Prelude.{Bool, true, false, ◌&&◌, List, [], ◌∷◌, map, ℕ, suc, ◌+◌, ◌*◌, eqb, leb, length, take, Ok, Err}
use Rattle.text.specs.Format.{Message, record_line, message_lines}
use Rattle.text.specs.Bytes.{write}
use Rattle.message_log.specs.declared.Counters.{Counters}
use Rattle.message_log.specs.declared.Order.TheVariants.{Replace}
use Rattle.message_log.specs.declared.Refusal.{Refusal}
use Rattle.message_log.specs.declared.Refusal.TheVariants.{Sizes}
use Rattle.message_log.specs.declared.Answered.{Answered}
use Rattle.message_log.specs.Opening.{Read, Opening, refused, opened, opening, image, RECORDS, NAME, ENTRY, STORE}
use Rattle.message_log.specs.Log.{row}

-- the log, the body store, the table of open records and the table of messages left, after the call; and its answer
pub record Opened : Type 0 where
  pub log : List ℕ
  pub store : List ℕ
  pub table : List (List ℕ)
  pub left : List (List ℕ)
  pub step : Answered

-- the lent sizes: a log of 16 to 65,536 bytes with the file in it, a store of 256 entries of 160 bytes, tables of 256
-- rows
unfoldable pub sized : ℕ → ℕ → ℕ → ℕ → ℕ → Bool
sized log n store table left =
    leb 16 log && leb log 65536 && leb n log && eqb store STORE && eqb table RECORDS && eqb left RECORDS

-- a message in an entry of the store: the name at 160 times the entry, the body 32 bytes on; messages in the entries
-- from i on
unfoldable pub stored_at : ℕ → Message → List ℕ → List ℕ
stored_at i m store = write (write store (ENTRY * i) m.name) (ENTRY * i + NAME) m.body

-- messages put into the store in their order, an entry each, from entry i on; all other bytes keep their value
unfoldable pub stored : ℕ → List Message → List ℕ → List ℕ
stored i [] store = store
stored i (m ∷ ms) store = stored (suc i) ms (stored_at i m store)

-- what is handed back of a message left, in the row of its entry: the id, the lengths of name and body, and the
-- attempts
abbrev pub left_row : Message → List ℕ
left_row m = m.id ∷ length m.name ∷ length m.body ∷ m.attempts ∷ []

-- the rows of records that stand one behind the other from `at` on, each with its retry line behind it
unfoldable pub rows_from : ℕ → List Message → List (List ℕ)
rows_from at [] = []
rows_from at (m ∷ ms) =
    row m.id at (length (record_line m)) m.attempts ∷ rows_from (at + length (message_lines m)) ms

-- the counters where no log was opened: all 0, and dirty is no
abbrev pub no_counters : Counters
no_counters = record { next = 0; live = 0; size = 0; dirty = false; count = 0 }

-- turned away: nothing has changed
abbrev pub closed_by : List ℕ → List ℕ → List (List ℕ) → List (List ℕ) → Refusal → Opened
closed_by log store table left r = record {
  log = log;
  store = store;
  table = table;
  left = left;
  step = record { counters = no_counters; answer = Err r };
}

-- accepted: the messages left stand in the store in id order, the log is written anew from them, and the order is a
-- replace
abbrev pub opened_log_by : List ℕ → List ℕ → List (List ℕ) → List (List ℕ) → Read → Opened
opened_log_by log store table left r = record {
  log = write log 0 (image r.left);
  store = stored 0 r.left store;
  table = write table 0 (rows_from 0 r.left);
  left = write left 0 (map left_row r.left);
  step = record {
    counters = record {
      next = r.next;
      live = length (image r.left);
      size = length (image r.left);
      dirty = false;
      count = length r.left;
    };
    answer = Ok (Replace (length (image r.left)));
  };
}

-- a file that is refused changes nothing; one that is accepted leaves its messages in the store and in a new log
abbrev pub open_judged : List ℕ → List ℕ → List (List ℕ) → List (List ℕ) → Opening → Opened
open_judged log store table left (refused r) = closed_by log store table left r
open_judged log store table left (opened r) = opened_log_by log store table left r

-- Opening: the file is the first n bytes of the log
unfoldable pub open_log : List ℕ → ℕ → List ℕ → List (List ℕ) → List (List ℕ) → Opened
open_log log n store table left = elim (sized (length log) n (length store) (length table) (length left)) [
  | false ↦ closed_by log store table left Sizes
  | true ↦ open_judged log store table left (opening (take n log))
]
