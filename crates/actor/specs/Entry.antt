-- A message put into a free entry of the body store: 160 bytes each, the name in the first 32, the body in the 128
-- after it. The other entries' bytes, and its own past the given name and body, do not change.
use Rattle.std.specs.Prelude.{List, ℕ, ◌+◌, ◌*◌, ltb, leb, length, Option, Some, None}
use Rattle.message_log.specs.declared.LogId.{LogId}
use Rattle.actor.specs.declared.message.CallerId.{CallerId}
use Rattle.message_log.specs.Opening.{NAME, ENTRY}
use Rattle.text.specs.Bytes.{write}
use Rattle.lists.specs.Links.{pick, Table, FREE, first_of, move_first, ENTRIES}
use Rattle.actor.specs.declared.message.Message.{Message}
use Rattle.actor.specs.Messages.{put_message}

-- the messages: the body store, the lists that they stand in, and their rows
pub record Messages : Type 0 where
  pub store : List ℕ
  pub links : Table
  pub rows : Table

-- a message that comes: its group's name, its body, who waits for its outcome, and the id that it is logged under
pub record Arrival : Type 0 where
  pub name : List ℕ
  pub body : List ℕ
  pub caller : Option CallerId
  pub id : Option LogId

-- written over what stands there, where it fits
unfoldable pub put_bytes : List ℕ → ℕ → List ℕ → List ℕ
put_bytes store at bytes = pick (leb (at + length bytes) (length store)) (write store at bytes) store

-- the name is written from the first byte of entry e on, the body from its byte 32 on, each only where it ends inside
-- the store; past the last entry nothing is written
unfoldable pub store_entry : List ℕ → ℕ → List ℕ → List ℕ → List ℕ
store_entry store e name body =
    pick (ltb e ENTRIES) (put_bytes (put_bytes store (ENTRY * e) name) (ENTRY * e + NAME) body) store

-- a new message: attempts 0, the two lengths, who waits for its outcome, and the id that it is logged under
abbrev pub new_row : ℕ → ℕ → Option CallerId → Option LogId → Message
new_row name body caller id = record { attempts = 0; name_len = name; body_len = body; caller = caller; id = id }

-- a message that comes gets its bytes and its row in entry e, and the first free entry, which e is to be, goes to the
-- end of list `to`
unfoldable pub keep_at : Messages → ℕ → Arrival → ℕ → Messages
keep_at m e a to =
    record {
      store = store_entry m.store e a.name a.body;
      links = move_first m.links FREE to;
      rows = put_message m.rows e (new_row (length a.name) (length a.body) a.caller a.id);
    }

-- by the first free entry: the message is kept there; with none free nothing changes
abbrev pub keep_found : Messages → Arrival → ℕ → Option ℕ → Messages
keep_found m a to (Some e) = keep_at m e a to
keep_found m a to None = m

-- the first free entry is taken, and goes to the end of a list; with none free nothing changes
unfoldable pub keep_of : Messages → Arrival → ℕ → Messages
keep_of m a to = keep_found m a to (first_of m.links FREE)
