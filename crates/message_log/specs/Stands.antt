-- The table is what the bytes say: when the log's state stands for the messages logged and not done.
use Rattle.std.specs.Prelude.{◌≡◌, true, ◌&&◌, List, [], ◌∷◌, ℕ, ◌+◌, ◌^◌, ◌≤◌, ◌<◌, leb, length}
use Rattle.text.specs.Format.{Message, ATTEMPTS, record_line}
use Rattle.text.specs.Bytes.{part}
use Rattle.message_log.specs.Opening.{all_fit, Rising, image, RECORDS}
use Rattle.message_log.specs.Log.{row, row_at, Wal, open_rows}
use Rattle.message_log.specs.Recovery.{LogWorld}

-- few enough and short enough
abbrev pub Small : List Message → Type 0
Small ms = (leb (length ms) RECORDS && all_fit ms) ≡ true

-- every message's attempts can be written in a retry line
abbrev pub Tries : List Message → Type 0
Tries [] = Unit
Tries (m ∷ ms) = (m.attempts ≤ ATTEMPTS) × Tries ms

-- the rows say where the messages' records stand, in their order, from `start` on and up to `size`, and how often each
-- was tried
abbrev pub Tabled : List ℕ → ℕ → List Message → List (List ℕ) → ℕ → Type 0
Tabled bytes start [] [] size = start ≤ size
Tabled bytes start [] (r ∷ rs) size = ⊥
Tabled bytes start (m ∷ ms) [] size = ⊥
Tabled bytes start (m ∷ ms) (r ∷ rs) size =
    (r ≡ row m.id (row_at r) (length (record_line m)) m.attempts) × (start ≤ row_at r)
    × (part bytes (row_at r) (row_at r + length (record_line m)) ≡ record_line m)
    × Tabled bytes (row_at r + length (record_line m)) ms rs size

-- the state stands for these messages
pub record Stands (w : Wal) (ms : List Message) : Type 0 where
  pub rising : Rising 0 ms w.counters.next
  pub small : Small ms
  pub tries : Tries ms
  pub top : w.counters.next < 2 ^ 64
  pub room : w.counters.size ≤ length w.bytes
  pub live : w.counters.live ≡ length (image ms)
  pub fits : w.counters.live ≤ w.counters.size
  pub count : w.counters.count ≡ length ms
  pub rows : length w.table ≡ RECORDS
  pub tabled : Tabled w.bytes 0 ms (open_rows w) w.counters.size

-- what holds after every list of calls: the state stands for the messages of the last moment, in a log of its first
-- length, and the open records' length is at most the file's
pub record Standing (long : ℕ) (w : LogWorld) : Type 0 where
  pub stands : Stands w.wal w.now
  pub bytes : length w.wal.bytes ≡ long
  pub live : w.wal.counters.live ≤ w.wal.counters.size
