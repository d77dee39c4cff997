-- Opening a log (docs/RULES.md, 2): the messages left by a file, the next id, and the two refusals that a file can
-- cause.
use Rattle.std.specs.Prelude.{Bool, true, false, ◌&&◌, List, [], ◌∷◌, ◌++◌, ℕ, suc, ◌^◌, ◌≤◌, max, eqb, leb, ltb, length}
use Rattle.text.specs.Format.{Message, lines, message_lines}
use Rattle.text.specs.Line.{Line, put, done, retry, other, read_line}
use Rattle.message_log.specs.declared.Refusal.{Refusal}
use Rattle.message_log.specs.declared.Refusal.TheVariants.{LastId, TooMuch}

-- the most messages that a log may leave: the rows of its tables
abbrev pub RECORDS : ℕ
RECORDS = 256

-- the most bytes of a name, and of a body
abbrev pub NAME : ℕ
NAME = 32

-- the most bytes of a body
abbrev pub BODY : ℕ
BODY = 128

-- the bytes of an entry of the body store, a name and a body; the bytes of the store
abbrev pub ENTRY : ℕ
ENTRY = 160

-- the bytes of the body store: 256 entries of 160
abbrev pub STORE : ℕ
STORE = 40960

-- the messages left so far, in rising id order: a record sets its id, the later one winning ..
unfoldable pub insert : Message → List Message → List Message
insert m [] = m ∷ []
insert m (x ∷ xs) = elim (ltb m.id x.id) [
  | true ↦ m ∷ x ∷ xs
  | false ↦
      elim (eqb m.id x.id) [ true ↦ m ∷ xs | false ↦ x ∷ insert m xs ]
]

-- .. a done line removes its id ..
unfoldable pub remove : ℕ → List Message → List Message
remove id [] = []
remove id (x ∷ xs) = elim (eqb x.id id) [ true ↦ remove id xs | false ↦ x ∷ remove id xs ]

-- a message with these attempts
abbrev pub tried_times : Message → ℕ → Message
tried_times m n = record { id = m.id; name = m.name; body = m.body; attempts = n }

-- .. and a retry line sets the attempts of its id, the later one winning; an id that is not open changes nothing
unfoldable pub retried : ℕ → ℕ → List Message → List Message
retried id n [] = []
retried id n (x ∷ xs) = elim (eqb x.id id) [
  | true ↦ tried_times x n ∷ retried id n xs
  | false ↦ x ∷ retried id n xs
]

-- ids rise from `low`, and stay below `high`
abbrev pub Rising : ℕ → List Message → ℕ → Type 0
Rising low [] high = low ≤ high
Rising low (m ∷ ms) high = (low ≤ m.id) × Rising (suc m.id) ms high

-- what has been read: the messages left, and the next id, which is 1 + the largest record id seen, else 0
pub record Read : Type 0 where
  pub left : List Message
  pub next : ℕ

-- a record sets its id, and raises next to 1 + the id where it is lower; a done line removes its id, a retry line sets
-- its attempts, and both leave next; any other line changes nothing
unfoldable pub take_in : Read → Line → Read
take_in r (put m) = record { left = insert m r.left; next = max r.next (suc m.id) }
take_in r (done id) = record { left = remove id r.left; next = r.next }
take_in r (retry id n) = record { left = retried id n r.left; next = r.next }
take_in r other = r

-- lines taken in one after the other, in their order, on top of what has been read
unfoldable pub read_lines : Read → List (List ℕ) → Read
read_lines r [] = r
read_lines r (text ∷ texts) = read_lines (take_in r (read_line text)) texts

-- before the first line: no message is left, and the next id is 0
abbrev pub nothing_read : Read
nothing_read = record { left = []; next = 0 }

-- a file is read by its whole lines
unfoldable pub read_file : List ℕ → Read
read_file file = read_lines nothing_read (lines file)

-- a message within the limits: a name of at most 32 bytes, a body of at most 128
unfoldable pub fits : Message → Bool
fits m = leb (length m.name) NAME && leb (length m.body) BODY

-- every message is within the limits
unfoldable pub all_fit : List Message → Bool
all_fit [] = true
all_fit (m ∷ ms) = fits m && all_fit ms

-- what is decided on a file: refused, and why; or accepted, with the messages left and the next id
pub data Opening : Type 0 where
  refused : Refusal → Opening
  opened : Read → Opening

-- refused where a record has the id 2 ^ 64 - 1 (so that there is no next id), then where more than 256 messages are
-- left or one is too long
unfoldable pub judge : Read → Opening
judge r = elim (ltb r.next (2 ^ 64)) [
  | false ↦ refused LastId
  | true ↦
      elim (leb (length r.left) RECORDS && all_fit r.left) [ false ↦ refused TooMuch | true ↦ opened r ]
]

-- the decision on a file, once all its whole lines were read
unfoldable pub opening : List ℕ → Opening
opening file = judge (read_file file)

-- the messages in their order, of each its record and directly behind it its retry line, if its attempts are not 0:
-- what the log is rewritten to
unfoldable pub image : List Message → List ℕ
image [] = []
image (m ∷ ms) = message_lines m ++ image ms
