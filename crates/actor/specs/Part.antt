-- The message in question as a part of the body store: where its name and its body begin and end. An entry has 160
-- bytes, the name in the first 32, the body in the 128 behind them (docs/RULES.md, 1).
use Rattle.std.specs.Prelude.{◌≡◌, Bool, ◌&&◌, List, ℕ, ◌+◌, ◌*◌, ◌≤◌, ltb, leb, Option, Some, None}
use Rattle.message_log.specs.Opening.{NAME, BODY, ENTRY, STORE}
use Rattle.text.specs.Bytes.{part}
use Rattle.lists.specs.Links.{pick, Table, ENTRIES}
use Rattle.actor.specs.declared.message.Message.{Message}
use Rattle.actor.specs.Messages.{message_at}
use Rattle.actor.specs.declared.part.Span.{Span}
use Rattle.actor.specs.declared.part.Part.{Part}

-- n bytes from `from` on
abbrev pub span_of : ℕ → ℕ → Span
span_of from n = record { from = from; to = from + n }

-- the bytes of a span
abbrev pub bytes_in : List ℕ → Span → List ℕ
bytes_in bytes s = part bytes s.from s.to

-- no message: name and body are empty
abbrev pub no_part : Part
no_part = record { name = span_of 0 0; body = span_of 0 0 }

-- the name and the body of an entry, as long as its row says
abbrev pub row_part : Message → ℕ → Part
row_part m e = record { name = span_of (ENTRY * e) m.name_len; body = span_of (ENTRY * e + NAME) m.body_len }

-- there is such an entry, and its name and body are not longer than a message's
abbrev pub in_limits : Message → ℕ → Bool
in_limits m e = ltb e ENTRIES && leb m.name_len NAME && leb m.body_len BODY

-- the part of an entry; none past the last entry, or where a length is over its limit
unfoldable pub part_at : Table → ℕ → Part
part_at rows e = pick (in_limits (message_at rows e) e) (row_part (message_at rows e) e) no_part

-- the part of the message in question, if there is one
abbrev pub part_of : Table → Option ℕ → Part
part_of rows (Some e) = part_at rows e
part_of rows None = no_part

-- a part that a host may read: name and body begin at most where they end, and end inside the body store
pub record Inside (p : Part) : Type 0 where
  pub name_forward : p.name.from ≤ p.name.to
  pub name_stored : p.name.to ≤ STORE
  pub body_forward : p.body.from ≤ p.body.to
  pub body_stored : p.body.to ≤ STORE

-- the message in question, read from the body store, is this name and this body
pub record Shows (store : List ℕ) (rows : Table) (m : Option ℕ) (name body : List ℕ) : Type 0 where
  pub name_is : bytes_in store (part_of rows m).name ≡ name
  pub body_is : bytes_in store (part_of rows m).body ≡ body
