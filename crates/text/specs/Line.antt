-- What a line of the log says (docs/RULES.md, 2).
use Rattle.std.specs.Prelude.{◌≡◌, true, false, List, [], ◌∷◌, ℕ, ◌^◌, ◌≤◌, ◌<◌, leb, drop, Option, Some, None}
use Rattle.text.specs.Format.{Message, ATTEMPTS, untried, unescape, print_id, read_id, fields, lines}

-- a record, a done id, the attempts of an id, or nothing that opening takes in
pub data Line : Type 0 where
  put : Message → Line
  done : ℕ → Line
  retry : ℕ → ℕ → Line
  other : Line

-- a line of three fields: with an id a record, its name and body unescaped, which no retry followed yet; else nothing
-- that opening takes in
unfoldable pub put_of : Option ℕ → List ℕ → List ℕ → Line
put_of None name body = other
put_of (Some id) name body = put (untried id (unescape name) (unescape body))

-- a line of one field: with an id it says that the id is done; else nothing that opening takes in
unfoldable pub done_of : Option ℕ → Line
done_of None = other
done_of (Some id) = done id

-- a line of two fields: with an id and a number up to 255 that is spelled as one it says the id's attempts; else
-- nothing that opening takes in
unfoldable pub attempts_of : Option ℕ → Option ℕ → Line
attempts_of None attempts = other
attempts_of (Some id) None = other
attempts_of (Some id) (Some n) = elim (leb n ATTEMPTS) [ true ↦ retry id n | false ↦ other ]

-- one field with an id says that the id is done, two with an id and a number the attempts of the id, three with an id
-- are a record; all else says nothing
unfoldable pub read_fields : List (List ℕ) → Line
read_fields [] = other
read_fields (a ∷ []) = done_of (read_id a)
read_fields (a ∷ b ∷ []) = attempts_of (read_id a) (read_id b)
read_fields (a ∷ b ∷ c ∷ []) = put_of (read_id a) b c
read_fields (a ∷ b ∷ c ∷ d ∷ rest) = other

-- what a line, given without its LF, says
unfoldable pub read_line : List ℕ → Line
read_line text = read_fields (fields text)

-- the fields of a record: its id as it is printed, and its name and body in any escape; no retry followed it yet
pub record FieldsOf (m : Message) (fs : List (List ℕ)) : Type 0 where
  pub name : List ℕ
  pub body : List ℕ
  pub three : fs ≡ print_id m.id ∷ name ∷ body ∷ []
  pub below : m.id < 2 ^ 64
  pub named : m.name ≡ unescape name
  pub says : m.body ≡ unescape body
  pub fresh : m.attempts ≡ 0

-- the fields of a retry line: the id and the attempts, as they are printed
pub record RetryFields (id n : ℕ) (fs : List (List ℕ)) : Type 0 where
  pub two : fs ≡ print_id id ∷ print_id n ∷ []
  pub below : id < 2 ^ 64
  pub few : n ≤ ATTEMPTS

-- One spelling in every line (proved of every text): a line says that n is done exactly where it has one field, which
-- is what n is printed as; it says the attempts n of an id exactly where its two fields are what these are printed as
-- and n is at most 255; and it is a record of m exactly where its three fields are those of m; ids are below 2 ^ 64
pub record LineSpelled (text : List ℕ) : Type 0 where
  pub is_done : (n : ℕ) → read_line text ≡ done n → (fields text ≡ print_id n ∷ []) × (n < 2 ^ 64)
  pub done_is : (n : ℕ) → fields text ≡ print_id n ∷ [] → n < 2 ^ 64 → read_line text ≡ done n
  pub is_retry : (id n : ℕ) → read_line text ≡ retry id n → RetryFields id n (fields text)
  pub retry_is : (id n : ℕ) → RetryFields id n (fields text) → read_line text ≡ retry id n
  pub is_record : (m : Message) → read_line text ≡ put m → FieldsOf m (fields text)
  pub record_is : (m : Message) → FieldsOf m (fields text) → read_line text ≡ put m

-- the name and the body that a line has
abbrev pub name_of : Line → List ℕ
name_of (put m) = m.name
name_of (done id) = []
name_of (retry id n) = []
name_of other = []

-- the body of a record; empty for any other line
abbrev pub body_of : Line → List ℕ
body_of (put m) = m.body
body_of (done id) = []
body_of (retry id n) = []
body_of other = []

-- the name and the body as they stand in a record's line, still escaped; nothing in any other line
abbrev pub of_record : Option ℕ → List ℕ → List ℕ
of_record None field = []
of_record (Some id) field = field

-- the name by a line's fields: the second of exactly three, where the first is an id; else empty
unfoldable pub name_in : List (List ℕ) → List ℕ
name_in [] = []
name_in (a ∷ []) = []
name_in (a ∷ b ∷ []) = []
name_in (a ∷ b ∷ c ∷ []) = of_record (read_id a) b
name_in (a ∷ b ∷ c ∷ d ∷ rest) = []

-- the body by a line's fields: the third of exactly three, where the first is an id; else empty
unfoldable pub body_in : List (List ℕ) → List ℕ
body_in [] = []
body_in (a ∷ []) = []
body_in (a ∷ b ∷ []) = []
body_in (a ∷ b ∷ c ∷ []) = of_record (read_id a) c
body_in (a ∷ b ∷ c ∷ d ∷ rest) = []

-- the name as it stands in a record's line, still escaped; empty for any other line
unfoldable pub name_field : List ℕ → List ℕ
name_field text = name_in (fields text)

-- the body as it stands in a record's line, still escaped; empty for any other line
unfoldable pub body_field : List ℕ → List ℕ
body_field text = body_in (fields text)

-- the first of some texts
abbrev pub first_text : List (List ℕ) → List ℕ
first_text [] = []
first_text (l ∷ ls) = l

-- the first field of a line is the spelling of no id
abbrev pub Unspelled : List ℕ → Type 0
Unspelled text = (n : ℕ) → n < 2 ^ 64 → first_text (fields text) ≡ print_id n → ⊥

-- what the whole line that begins at a place says; nothing where there is none
unfoldable pub line_at : List ℕ → ℕ → Line
line_at file at = read_line (first_text (lines (drop at file)))
