-- An opening hands back the messages left. Assumes nothing.
use mathlib.Core.Path.{◌≡◌, refl, ap, ◌∙◌}
use mathlib.Core.Bool.{true}
use mathlib.Core.List.{List, [], ◌∷◌, ◌++◌, map}
use Prim.Native.Nat.{ℕ, suc, ◌+◌, ◌-◌, ◌*◌, ◌≤◌}
use native.Mathlib.Omega.{arith}
use lib.ListN.{length, replicate, drop}
use Rattle.text.specs.Format.{Message}
use Rattle.text.specs.Bytes.{write}
use Rattle.message_log.specs.Opened.{stored, left_row}
use Rattle.message_log.specs.Opening.{all_fit}
use Rattle.message_log.specs.Scan.{from_store}
use Rattle.message_log.proofs.StoreLaws.{read_back}
use Rattle.lists.specs.Links.{Table, start_from}
use Rattle.lists.specs.Family.{count, up_from}
use Rattle.theorem.specs.Places.{id_count}
use Rattle.theorem.specs.Handing.{message_in, ids_of, put_messages, Hands}
use Rattle.theorem.proofs.Tried.{left_tried}
use Rattle.theorem.proofs.Filling.{Stand, Left, filled_none, put_left_lem, filled_sound, filled_stands}

-- ---- of messages that stand in the rows from i on

-- their ids are those of the messages
ids_stand : (ms : List Message) (rows : Table) (i x : ℕ) → Stand rows i ms
    → id_count x rows (up_from i (length ms)) ≡ count x (ids_of ms)
unfolding id_count up_from count
ids_stand [] rows i x stand = refl
ids_stand (m ∷ ms) rows i x (here, later) = rw (here, ids_stand ms rows (suc i) x later)

-- with their bytes they are what the entries of the store hold
entries_stand : (ms : List Message) (store : List ℕ) (rows : Table) (i : ℕ) → Stand rows i ms
    → map (message_in store rows) (up_from i (length ms)) ≡ from_store i (map left_row ms) store
unfolding up_from from_store
entries_stand [] store rows i stand = refl
entries_stand (m ∷ ms) store rows i (here, later) =
    let name : 160 * i + length m.name - 160 * i ≡ length m.name = omega arith in
    let body : 160 * i + 32 + length m.body - (160 * i + 32) ≡ length m.body = omega arith in
    rw (here, name, body, entries_stand ms store rows (suc i) later)

-- ---- the messages left

abbrev no_rows : Table
no_rows = replicate 256 (0 ∷ 0 ∷ 0 ∷ 0 ∷ [])

-- written from the first row on, the messages' rows stand in front
all_left : (ms : List Message)
    → drop 0 (write no_rows 0 (map left_row ms)) ≡ map left_row ms ++ drop (0 + length (map left_row ms)) no_rows
unfolding write
all_left ms = refl

-- all of them are put, and stand in their rows
pub put_all : (rows : Table) (ms : List Message) → length rows ≡ 256 → length ms ≤ 256
    → Left rows 0 (length ms) ms (put_messages rows ms)
put_all rows ms sized few =
    put_left_lem ms (start_from 0 262) rows (write no_rows 0 (map left_row ms)) 0 (length ms)
    (drop (0 + length (map left_row ms)) no_rows) (filled_none rows sized) (omega arith) few (all_left ms)

-- an opening hands back the messages left
pub hands : (rows : Table) (store : List ℕ) (ms : List Message) → length rows ≡ 256 → length store ≡ 40960
    → length ms ≤ 256 → all_fit ms ≡ true → Hands rows store ms
hands rows store ms sized long few fit =
    record {
      sound = filled_sound links rows' (length ms) put.filled;
      same = λ x. filled_stands links rows' (length ms) put.filled x ∙ ids_stand ms rows' 0 x put.stand;
      tried = left_tried put.filled ms 0 (omega arith) put.stand;
      back =
          ap (map (message_in store' rows')) put.filled.pending
          ∙ (entries_stand ms store' rows' 0 put.stand ∙ read_back ms 0 store fit (omega arith));
    }
  where
    links : Table
    links = (put_messages rows ms).links

    rows' : Table
    rows' = (put_messages rows ms).rows

    store' : List ℕ
    store' = stored 0 ms store

    put : Left rows 0 (length ms) ms (put_messages rows ms)
    put = put_all rows ms sized few
