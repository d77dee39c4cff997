-- What an opening hands back: the messages in pending, with log id, group, body and attempts; and what holds of the
-- lists and rows then.
use Rattle.std.specs.Prelude.{◌≡◌, List, [], ◌∷◌, map, ℕ, ◌+◌, ◌*◌, ◌≤◌, length, replicate, Some}
use Rattle.text.specs.Format.{Message}
use Rattle.text.specs.Bytes.{write, part}
use Rattle.message_log.specs.Opened.{stored, left_row}
use Rattle.message_log.specs.Opening.{RECORDS, NAME, ENTRY}
use Rattle.lists.specs.Links.{Table, start_from, LISTS, FREE, PENDING}
use Rattle.lists.specs.Family.{count, view}
use Rattle.actor.specs.Messages.{logged_number, message_at}
use Rattle.theorem.specs.Places.{stands, Sound}
use Rattle.settings.specs.Tables.{LeftPlaced, put_left}

-- the message of an entry: its log id, its group's name and its body, and its attempts
abbrev pub message_in : List ℕ → Table → ℕ → Message
message_in store rows e = record {
  id = logged_number (message_at rows e).id;
  name = part store (ENTRY * e) (ENTRY * e + (message_at rows e).name_len);
  body = part store (ENTRY * e + NAME) (ENTRY * e + NAME + (message_at rows e).body_len);
  attempts = (message_at rows e).attempts;
}

-- the messages in pending, in order
abbrev pub handed : List ℕ → Table → Table → List Message
handed store t rows = map (message_in store rows) (view t PENDING)

-- the ids of these messages, in their order
abbrev pub ids_of : List Message → List ℕ
ids_of ms = map (λ (m : Message). m.id) ms

-- a message that the log has open stands in the pool, at an entry that is not free, and the attempts that the log has
-- of it are no more than those of its row. (It stands in exactly one place, so that the entry is its own.)
pub record TriedAs (t rows : Table) (m : Message) : Type 0 where
  pub entry : ℕ
  pub busy : count entry (view t FREE) ≡ 0
  pub own : (message_at rows entry).id ≡ Some (record { 0 = m.id })
  pub most : m.attempts ≤ (message_at rows entry).attempts

-- so it is with each of these messages
abbrev pub AllTried : Table → Table → List Message → Type 0
AllTried t rows [] = Unit
AllTried t rows (m ∷ ms) = TriedAs t rows m × AllTried t rows ms

-- the messages left, put into lists that are all free and into these rows
abbrev pub put_messages : Table → List Message → LeftPlaced
put_messages rows ms =
    put_left (start_from 0 LISTS) rows (write (replicate RECORDS (0 ∷ 0 ∷ 0 ∷ 0 ∷ [])) 0 (map left_row ms)) 0 (length ms)

-- what holds then: nothing is queued, each id stands as often as among the messages left, each message with its
-- attempts, and these are handed back
pub record Hands (rows : Table) (store : List ℕ) (ms : List Message) : Type 0 where
  pub sound : Sound (put_messages rows ms).links (put_messages rows ms).rows 0
  pub same : (x : ℕ) → stands x (put_messages rows ms).links (put_messages rows ms).rows ≡ count x (ids_of ms)
  pub tried : AllTried (put_messages rows ms).links (put_messages rows ms).rows ms
  pub back : handed (stored 0 ms store) (put_messages rows ms).links (put_messages rows ms).rows ≡ ms
