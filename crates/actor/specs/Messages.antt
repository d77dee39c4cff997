-- A message's row as cells, and the table of rows.
use Rattle.std.specs.Prelude.{List, [], ◌∷◌, ℕ, ◌+◌, eqb, get_or, set, Option, Some, None}
use Rattle.message_log.specs.declared.LogId.{LogId}
use Rattle.actor.specs.declared.message.CallerId.{CallerId}
use Rattle.lists.specs.Links.{pick, capped}
use Rattle.actor.specs.declared.message.Message.{Message}

-- who waits for the outcome, read from its two cells: nobody if the tag is 0, else the caller of this number
abbrev pub caller_of : ℕ → ℕ → Option CallerId
caller_of tag number = pick (eqb tag 0) None (Some (record { 0 = number }))

-- whether a caller waits, as a cell: 1 for a caller, 0 for nobody
abbrev pub caller_tag : Option CallerId → ℕ
caller_tag (Some id) = 1
caller_tag None = 0

-- the caller id as a cell: 0 for nobody
abbrev pub caller_number : Option CallerId → ℕ
caller_number (Some id) = id.0
caller_number None = 0

-- the log id, read from its two cells: none if the tag is 0, else this number
abbrev pub logged_of : ℕ → ℕ → Option LogId
logged_of tag number = pick (eqb tag 0) None (Some (record { 0 = number }))

-- whether a message has a log id, as a cell: 1 with one, 0 with none
abbrev pub logged_tag : Option LogId → ℕ
logged_tag (Some id) = 1
logged_tag None = 0

-- the log id as a cell: 0 for none
abbrev pub logged_number : Option LogId → ℕ
logged_number (Some id) = id.0
logged_number None = 0

-- what a message's row of seven cells says of it; a missing cell is 0
abbrev pub message_of : List ℕ → Message
message_of c =
    record {
      attempts = get_or c 0 0;
      name_len = get_or c 1 0;
      body_len = get_or c 2 0;
      caller = caller_of (get_or c 3 0) (get_or c 4 0);
      id = logged_of (get_or c 5 0) (get_or c 6 0);
    }

-- a message as seven cells: attempts, the lengths of name and body, tag and number of its caller id and of its log id
abbrev pub message_cells : Message → List ℕ
message_cells m =
    m.attempts ∷ m.name_len ∷ m.body_len ∷ caller_tag m.caller ∷ caller_number m.caller
    ∷ logged_tag m.id ∷
    logged_number m.id ∷ []

-- the message of entry e, by row e; past the table's end an empty one, attempts 0, not logged, and nobody waits for it
unfoldable pub message_at : List (List ℕ) → ℕ → Message
message_at rows e = message_of (get_or rows e [])

-- the message is stored as row e; past the table's end nothing is
unfoldable pub put_message : List (List ℕ) → ℕ → Message → List (List ℕ)
put_message rows e m = set rows e (message_cells m)

-- one attempt more, up to the largest number
abbrev pub tried_of : Message → Message
tried_of m = record m { attempts = capped (m.attempts + 1) }
