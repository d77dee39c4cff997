-- What `replay` makes of a script, the lent log and store, and the output: the script's calls decoded, the pool's own
-- definitions run over them one after the other, each with what the one before left (`call_of`,
-- crates/theorem/specs/Rail), and an entry written for each.
use Rattle.std.specs.Prelude.{List, [], ◌∷◌, ℕ, zero, suc, ◌+◌, ◌-◌, eqb, ltb, length, take, replicate, Option, Some, None}
use Rattle.message_log.specs.Opening.{RECORDS}
use Rattle.group.specs.Roster.{ROWS}
use Rattle.text.specs.Bytes.{part}
use Rattle.lists.specs.Links.{pick, Table, LISTS, ENTRIES, SLOTS, GROUPS}
use Rattle.wire.specs.Number.{numbers}
use Rattle.wire.specs.Output.{Output, output_with, output}
use Rattle.wire.specs.Script.{header_of, groups_into, call_at}
use Rattle.wire.specs.declared.script.Header.{Header}
use Rattle.wire.specs.declared.script.Kind.{Kind}
use Rattle.wire.specs.declared.script.Kind.TheVariants as kind
use Rattle.wire.specs.declared.script.CallAt.{CallAt}
use Rattle.turn.specs.State.{State}
use Rattle.answers.specs.Answers.{Did}
use Rattle.answers.specs.Refusals.{Lent}
use Rattle.pool.specs.Open.{open_of}
use Rattle.theorem.specs.Rail.{Call, admit, turn, reply, sync, close, call_of, accepted}
use Rattle.turn.specs.Words.{pool_of}
use Rattle.replay.specs.declared.play.Tables.{Tables}
use Rattle.replay.specs.Entry.{output_entry}

-- ---- calls

-- the call of a kind: an admit and a reply have the name and the body, turn, sync and close ignore them
abbrev pub decoded_as : Kind → List ℕ → List ℕ → Call
decoded_as (kind.Admit who) name body = admit name body who
decoded_as kind.Turn name body = turn
decoded_as (kind.Reply r) name body = reply r name body
decoded_as kind.Sync name body = sync
decoded_as kind.Close name body = close

-- a call, with its texts
abbrev pub decoded : List ℕ → CallAt → Call
decoded s c = decoded_as c.kind (part s c.name c.body) (part s c.body c.end)

-- the calls up to the script's end, or up to where it is malformed
pub data Calls : Type 0 where
  ended : Calls
  malformed : Calls
  next : Call → Calls → Calls

-- where a call ends, and the next one may begin; 0 of a malformed one
abbrev pub call_end : Option CallAt → ℕ
call_end None = 0
call_end (Some c) = c.end

-- a call that could be read, and then the rest; a malformed one ends the calls, and the rest is not looked at
abbrev pub follows : List ℕ → Option CallAt → Calls → Calls
follows s None rest = malformed
follows s (Some c) rest = next (decoded s c) rest

-- the calls from p on: at most so many, which is enough where it is at least the number of bytes from p on
unfoldable pub calls_at : ℕ → List ℕ → ℕ → Calls
calls_at zero s p = ended
calls_at (suc most) s p = pick (ltb p (length s)) (follows s (call_at s p) (calls_at most s (call_end (call_at s p)))) ended

-- ---- the state

-- the pool's cells and the tables, with this log and this body store, are a state of the pool
abbrev pub lent_state : Tables → List ℕ → List ℕ → State
lent_state t log store = record {
  pool = pool_of t.pool;
  bytes = log;
  records = t.records;
  store = store;
  groups = t.groups;
  links = t.links;
  rows = t.rows;
  keys = t.keys;
  actors = t.actors;
}

-- ---- a list of calls

-- log and store after a script, and the output
pub record Played : Type 0 where
  pub bytes : List ℕ
  pub store : List ℕ
  pub output : Output

-- what a script has left: this log, this store and this output
abbrev pub played : List ℕ → List ℕ → Output → Played
played bytes store d = record { bytes = bytes; store = store; output = d }

-- nothing more is run: log and store are those of the state, and the output is as far as it got
abbrev pub stopped : State → Output → Played
stopped s d = played s.bytes s.store d

-- the number that is returned, where none stands yet
unfoldable pub coded : Output → ℕ → Output
coded d n = pick (eqb d.code 0) (output_with d.out d.at n) d

-- each call is made and its entry written, while the output has room; 1: the script is malformed from here on
unfoldable pub play : ℕ → State → Output → Calls → Played
play show s d ended = stopped s d
play show s d malformed = stopped s (coded d 1)
play show s d (next c cs) =
    pick (eqb d.code 0) (play show (call_of s c).state (output_entry show d (call_of s c)) cs) (stopped s d)

-- ---- a script

-- what is lent to the pool beside log and store is blank
unfoldable pub blank : ℕ → ℕ → Table
blank rows cells = replicate rows (replicate cells 0)

-- the groups' settings
abbrev pub given_in : List ℕ → ℕ → Table
given_in s groups = take groups (groups_into groups s 88 (blank 16 37))

-- the file is the log's first n bytes, if it fits
unfoldable pub placed : List ℕ → ℕ → ℕ → List ℕ → List ℕ
placed s from n bytes = (output (output_with bytes 0 0) (part s from (from + n))).out

-- what the opening is given
abbrev pub lent_by : List ℕ → Header → List ℕ → List ℕ → Lent
lent_by s h bytes store = record {
  settings = h.settings;
  groups_given = given_in s h.groups;
  bytes = placed s h.file h.n bytes;
  size = h.n;
  store = store;
  records = blank RECORDS 4;
  groups = blank GROUPS 37;
  links = blank LISTS 4;
  rows = blank ENTRIES 7;
  keys = blank ROWS 65;
  actors = blank SLOTS 12;
}

-- the opening's entry; then, if it was accepted, the calls
unfoldable pub play_opened : ℕ → List ℕ → ℕ → Did → Output → Played
play_opened show s start did d =
    pick (accepted did.answer)
    (play show did.state (output_entry show d did) (calls_at (length s) s start))
    (stopped did.state (output_entry show d did))

-- a script with a header and lengths that are right: the opening on what it gives, then, if accepted, its calls
abbrev pub play_from : List ℕ → Header → List ℕ → List ℕ → Output → Played
play_from s h bytes store d =
    play_opened h.show s (h.file + h.n) (open_of (lent_by s h bytes store)) d

-- 1: the header is malformed; 3: the lent log or store has another length than the script says
abbrev pub play_headed : List ℕ → Option Header → List ℕ → List ℕ → Output → Played
play_headed s None bytes store d = played bytes store (coded d 1)
play_headed s (Some h) bytes store d =
    pick (eqb (length bytes) h.long)
    (pick (eqb (length store) h.stored) (play_from s h bytes store d) (played bytes store (coded d 3)))
    (played bytes store (coded d 3))

-- a whole script, run where its header is right and log and store have the lengths that it says
unfoldable pub play_script : List ℕ → List ℕ → List ℕ → Output → Played
play_script s bytes store d = play_headed s (header_of s) bytes store d

-- ---- the exported function

-- log, store and output after it, and the number returned
pub record Replayed : Type 0 where
  pub bytes : List ℕ
  pub store : List ℕ
  pub out : List ℕ
  pub code : ℕ

-- log, store and output as they are left, with the number returned
abbrev pub replayed : List ℕ → List ℕ → List ℕ → ℕ → Replayed
replayed bytes store out code = record { bytes = bytes; store = store; out = out; code = code }

-- the first 8 bytes count those behind them
abbrev pub counted : Played → Replayed
counted p =
    replayed p.bytes p.store
    (output (output_with p.output.out 0 0) (numbers ((p.output.at - 8) ∷ []))).out
    p.output.code

-- 2, and nothing is touched, where not even the count has room
unfoldable pub replay_of : List ℕ → List ℕ → List ℕ → List ℕ → Replayed
replay_of s bytes store out =
    pick (ltb (length out) 8) (replayed bytes store out 2) (counted (play_script s bytes store (output_with out 8 0)))
