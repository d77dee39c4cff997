-- What a log's text is (docs/RULES.md, 2): escaped fields, decimal ids, records, done lines, lines and fields. A byte
-- is a number, a text a list of bytes.
use Rattle.std.specs.Prelude.{◌≡◌, Bool, true, false, List, [], ◌∷◌, ◌++◌, ℕ, zero, suc, ◌+◌, ◌-◌, ◌*◌, ◌/◌, ◌%◌, ◌^◌, ◌<◌, eqb, leb, ltb, Option, Some, None}

-- the bytes of the format, once for reader and writer
abbrev pub TAB : ℕ
TAB = 9

-- the byte that ends a line
abbrev pub LF : ℕ
LF = 10

-- the digit 0; the digits 1 to 9 are the nine bytes after it
abbrev pub DIGIT0 : ℕ
DIGIT0 = 48

-- the byte that an escape begins with
abbrev pub BACKSLASH : ℕ
BACKSLASH = 92

-- the byte that stands for LF after a backslash
abbrev pub LETTER_n : ℕ
LETTER_n = 110

-- the byte that stands for TAB after a backslash
abbrev pub LETTER_t : ℕ
LETTER_t = 116

-- Escape: a backslash, TAB or LF becomes a backslash and one more byte (backslash, t, n); any other byte stays
unfoldable pub escape_byte : ℕ → List ℕ
escape_byte b = elim (eqb b BACKSLASH) [
  | true ↦ BACKSLASH ∷ BACKSLASH ∷ []
  | false ↦
      elim (eqb b TAB) [
        | true ↦ BACKSLASH ∷ LETTER_t ∷ []
        | false ↦
            elim (eqb b LF) [ true ↦ BACKSLASH ∷ LETTER_n ∷ [] | false ↦ b ∷ [] ]
      ]
]

-- a text escaped byte by byte, as a name or body is written
unfoldable pub escape : List ℕ → List ℕ
escape [] = []
escape (b ∷ bs) = escape_byte b ++ escape bs

-- the byte that stands after a backslash: t is TAB, n is LF, any other byte is itself (so a backslash is a backslash)
unfoldable pub escaped : ℕ → ℕ
escaped b = elim (eqb b LETTER_t) [ true ↦ TAB | false ↦ elim (eqb b LETTER_n) [ true ↦ LF | false ↦ b ] ]

-- Unescape: plain text and the byte after a backslash take turns; a lone last backslash is dropped
unfoldable mutual
  pub unescape : List ℕ → List ℕ
  unescape [] = []
  unescape (b ∷ bs) = elim (eqb b BACKSLASH) [ true ↦ unescape_next bs | false ↦ b ∷ unescape bs ]

  pub unescape_next : List ℕ → List ℕ
  unescape_next [] = []
  unescape_next (b ∷ bs) = escaped b ∷ unescape bs

-- n in decimal, without leading zeros, by at most `places` digits
unfoldable pub digits : ℕ → ℕ → List ℕ
digits zero n = []
digits (suc places) n = elim (ltb n 10) [
  | true ↦ (DIGIT0 + n) ∷ []
  | false ↦ digits places (n / 10) ++ ((DIGIT0 + n % 10) ∷ [])
]

-- an id (below 2 ^ 64, so 20 places do) in decimal
unfoldable pub print_id : ℕ → List ℕ
print_id n = digits 20 n

-- the number that decimal digits say after those that said `high`; none if a byte is no digit
unfoldable pub decimal : ℕ → List ℕ → Option ℕ
decimal high [] = Some high
decimal high (b ∷ bs) = elim (leb DIGIT0 b) [
  | false ↦ None
  | true ↦
      elim (ltb b (DIGIT0 + 10)) [ false ↦ None | true ↦ decimal (high * 10 + (b - DIGIT0)) bs ]
]

-- only a number below 2 ^ 64 stays; all else is none
unfoldable pub below64 : Option ℕ → Option ℕ
below64 None = None
below64 (Some n) = elim (ltb n (2 ^ 64)) [ true ↦ Some n | false ↦ None ]

-- one digit or more, of a value up to 2 ^ 64 - 1
unfoldable pub read_digits : List ℕ → Option ℕ
read_digits [] = None
read_digits (b ∷ bs) = below64 (decimal 0 (b ∷ bs))

-- a leading zero: a 0 before another byte
abbrev pub leading_zero : List ℕ → Bool
leading_zero [] = false
leading_zero (b ∷ []) = false
leading_zero (b ∷ c ∷ bs) = eqb b DIGIT0

-- Reading an id: one digit or more, of a value up to 2 ^ 64 - 1, without a leading zero. So `0` is an id; `00`, `05`
-- and `+5` are none
unfoldable pub read_id : List ℕ → Option ℕ
read_id text = elim (leading_zero text) [ true ↦ None | false ↦ read_digits text ]

-- One spelling for an id (proved of every text and number): what is read as n is exactly what n is printed as, and n
-- is below 2 ^ 64; this text says n in digits and has no leading zero
pub record OneSpelling (text : List ℕ) (n : ℕ) : Type 0 where
  pub printed : read_id text ≡ Some n → text ≡ print_id n
  pub below : read_id text ≡ Some n → n < 2 ^ 64
  pub read : text ≡ print_id n → n < 2 ^ 64 → read_id text ≡ Some n
  pub says : read_id text ≡ Some n → decimal 0 text ≡ Some n
  pub plain : read_id text ≡ Some n → leading_zero text ≡ false

-- the most attempts that a retry line may say
abbrev pub ATTEMPTS : ℕ
ATTEMPTS = 255

-- a message as the log has it (docs/RULES.md, 1): its id, group name and body, and its attempts, which are 0 until a
-- retry line says another number
pub record Message : Type 0 where
  pub id : ℕ
  pub name : List ℕ
  pub body : List ℕ
  pub attempts : ℕ

-- a message whose record was just read or written: its attempts are 0
abbrev pub untried : ℕ → List ℕ → List ℕ → Message
untried id name body = record { id = id; name = name; body = body; attempts = 0 }

-- Record: id, TAB, name, TAB, body, the last two escaped; LF ends it
unfoldable pub record_text : Message → List ℕ
record_text m = print_id m.id ++ TAB ∷ escape m.name ++ TAB ∷ escape m.body

-- a text made a line: with LF at its end
unfoldable pub line : List ℕ → List ℕ
line text = text ++ (LF ∷ [])

-- the record of a message as a whole line
unfoldable pub record_line : Message → List ℕ
record_line m = line (record_text m)

-- Done line: the id alone; LF ends it
unfoldable pub done_line : ℕ → List ℕ
done_line id = line (print_id id)

-- Retry: the id, TAB, the attempts, spelled as an id is ..
unfoldable pub retry_text : ℕ → ℕ → List ℕ
retry_text id n = print_id id ++ TAB ∷ print_id n

-- .. and LF ends it: the line that a retry writes
unfoldable pub retry_line : ℕ → ℕ → List ℕ
retry_line id n = line (retry_text id n)

-- the retry line that goes with a message's record when the log is written anew: none while its attempts are 0
unfoldable pub attempts_line : ℕ → ℕ → List ℕ
attempts_line id n = elim (eqb n 0) [ true ↦ [] | false ↦ retry_line id n ]

-- what the log has of an open message when it is written anew: its record, and directly behind it its retry line
unfoldable pub message_lines : Message → List ℕ
message_lines m = record_line m ++ attempts_line m.id m.attempts

-- a byte goes to the front of the first piece
unfoldable pub join_head : ℕ → List (List ℕ) → List (List ℕ)
join_head b [] = (b ∷ []) ∷ []
join_head b (p ∷ ps) = (b ∷ p) ∷ ps

-- the pieces of a text between its separators, one more than there are separators; an empty text is one empty piece
unfoldable pub split : ℕ → List ℕ → List (List ℕ)
split sep [] = [] ∷ []
split sep (b ∷ bs) = elim (eqb b sep) [ true ↦ [] ∷ split sep bs | false ↦ join_head b (split sep bs) ]

-- the pieces without the last one; where there are none, none
unfoldable pub all_but_last : List (List ℕ) → List (List ℕ)
all_but_last [] = []
all_but_last (p ∷ []) = []
all_but_last (p ∷ q ∷ ps) = p ∷ all_but_last (q ∷ ps)

-- the whole lines of a file: what follows the last LF is torn, and no line
unfoldable pub lines : List ℕ → List (List ℕ)
lines file = all_but_last (split LF file)

-- the fields of a line: what stands between its TABs
unfoldable pub fields : List ℕ → List (List ℕ)
fields text = split TAB text
