-- An entry of the output: the answer and the counters; the message that the answer shows; and, as far as they are
-- asked for, the log, the tables and the store.
use Rattle.std.specs.Prelude.{List, [], ◌∷◌, ℕ, ltb, length, take, Option, Some, None}
use Rattle.lists.specs.Links.{pick, Table}
use Rattle.actor.specs.declared.part.Part.{Part}
use Rattle.actor.specs.Part.{bytes_in, part_of}
use Rattle.turn.specs.State.{Pool, State}
use Rattle.answers.specs.declared.numbers.AnswerNumbers.{AnswerNumbers}
use Rattle.answers.specs.Answers.{Did}
use Rattle.answers.specs.Numbers.{flag_number, numbers_of}
use Rattle.wire.specs.Number.{numbers}
use Rattle.wire.specs.Output.{Output, output, output_rows, output_keys}

-- the answer; next, live, size, dirty and the number of open records; queued, dead and crashes
abbrev pub entry_numbers : AnswerNumbers → Pool → List ℕ
entry_numbers s p =
    s.kind ∷ s.a ∷ s.b ∷ s.c
    ∷ p.turn.counters.next ∷ p.turn.counters.live ∷ p.turn.counters.size
    ∷ flag_number p.turn.counters.dirty
    ∷ p.turn.counters.count
    ∷ p.turn.counts.queued ∷ p.turn.counts.losses.dead ∷ p.turn.counts.losses.crashes ∷ []

-- two texts, with a 1 and their lengths before them
abbrev pub output_texts : Output → List ℕ → List ℕ → Output
output_texts d name body = output (output (output d (numbers (1 ∷ length name ∷ length body ∷ []))) name) body

-- a part of the body store
abbrev pub output_part : Output → Part → List ℕ → Output
output_part d p store = output_texts d (bytes_in store p.name) (bytes_in store p.body)

-- 0: no message is shown; 1: its lengths, its name and its body
unfoldable pub output_message : Output → Option ℕ → Table → List ℕ → Output
output_message d None rows store = output d (numbers (0 ∷ []))
output_message d (Some e) rows store = output_part d (part_of rows (Some e)) store

-- from show 1 on: the file
unfoldable pub output_log : ℕ → Output → List ℕ → ℕ → Output
output_log show d bytes size = pick (ltb show 1) d (output d (take size bytes))

-- the tables that can be shown: open records, groups, links, messages, lists of keys, actors
pub record ShownTables : Type 0 where
  pub records : Table
  pub groups : Table
  pub links : Table
  pub rows : Table
  pub keys : Table
  pub actors : Table

-- from show 2 on: the tables, in this order
unfoldable pub output_tables : ℕ → Output → ShownTables → Output
output_tables show d x =
    pick (ltb show 2) d
    (output_rows
    (output_keys
    (output_rows (output_rows (output_rows (output_rows d x.records) x.groups) x.links) x.rows)
    x.keys)
    x.actors)

-- the six tables of a state: open records, groups, links, messages, lists of keys, actors
abbrev pub shown_tables : State → ShownTables
shown_tables s = record {
  records = s.records;
  groups = s.groups;
  links = s.links;
  rows = s.rows;
  keys = s.keys;
  actors = s.actors;
}

-- from show 3 on: the body store
unfoldable pub output_store : ℕ → Output → List ℕ → Output
output_store show d store = pick (ltb show 3) d (output d store)

-- what is asked for of log, tables and store
abbrev pub output_state : ℕ → Output → State → Output
output_state show d s =
    output_store show
    (output_tables show (output_log show d s.bytes s.pool.turn.counters.size) (shown_tables s))
    s.store

-- the answer's numbers with the counters, the message that it shows, and what is asked for
abbrev pub output_answer : ℕ → Output → AnswerNumbers → State → Output
output_answer show d n s =
    output_state show
    (output_message (output d (numbers (entry_numbers n s.pool))) n.message s.rows s.store)
    s

-- the entry of a call
unfoldable pub output_entry : ℕ → Output → Did → Output
output_entry show d did = output_answer show d (numbers_of did.answer) did.state
