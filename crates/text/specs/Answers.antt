-- What the answers of the functions say, in the terms of the definitions.
use Rattle.std.specs.Prelude.{◌≡◌, true, false, List, [], ◌∷◌, ℕ, ◌+◌, ◌-◌, ◌≤◌, ◌<◌, leb, length, take, drop, get_or, Option, Some, None}
use Rattle.text.specs.Bytes.{write, part, Free}
use Rattle.text.specs.Format.{LF, ATTEMPTS, read_id, lines, fields}
use Rattle.text.specs.declared.line.LineKind.{LineKind}
use Rattle.text.specs.declared.line.LineKind.TheVariants.{Put, Done, Retry, Other}

-- a length, where it is within a limit
unfoldable pub length_within : ℕ → ℕ → Option ℕ
length_within n most = elim (leb n most) [ true ↦ Some n | false ↦ None ]

-- a slice after a text was to be put at its front, and the answer
pub record Filled : Type 0 where
  pub bytes : List ℕ
  pub answer : Option ℕ

-- a text that fits is put at the front of a slice; one that does not changes nothing
unfoldable pub filled : List ℕ → List ℕ → Filled
filled old text = elim (leb (length text) (length old)) [
  | true ↦ record { bytes = write old 0 text; answer = Some (length text) }
  | false ↦ record { bytes = old; answer = None }
]

-- the first place of a separator, else the text's length
pub record First (text : List ℕ) (sep place : ℕ) : Type 0 where
  pub within : place ≤ length text
  pub before : Free sep (take place text)
  pub there : place < length text → get_or text place 0 ≡ sep

-- the same from a place on
pub record FirstFrom (text : List ℕ) (start sep place : ℕ) : Type 0 where
  pub low : start ≤ place
  pub within : place ≤ length text
  pub first : First (drop start text) sep (place - start)

-- a line of one field: with an id it says that the id is done, else nothing
abbrev pub done_kind : Option ℕ → LineKind
done_kind (Some id) = Done id
done_kind None = Other

-- a line of two fields: with an id and a number up to 255 it says the attempts of the id, else nothing
abbrev pub retry_kind : Option ℕ → Option ℕ → LineKind
retry_kind (Some id) (Some n) = elim (leb n ATTEMPTS) [ true ↦ Retry id n | false ↦ Other ]
retry_kind (Some id) None = Other
retry_kind None n = Other

-- a line of three fields: with an id it is a record whose name stands from a to b and body from c to d, else nothing
abbrev pub put_kind : Option ℕ → ℕ → ℕ → ℕ → ℕ → LineKind
put_kind (Some id) a b c d = Put id a b c d
put_kind None a b c d = Other

-- the kind of a line by its fields: a record has its id and the places of name and body, each from after its TAB to
-- before the next or the line's end
unfoldable pub line_kind_in : List (List ℕ) → LineKind
line_kind_in [] = Other
line_kind_in (a ∷ []) = done_kind (read_id a)
line_kind_in (a ∷ b ∷ []) = retry_kind (read_id a) (read_id b)
line_kind_in (a ∷ b ∷ c ∷ []) =
    let name = length a + 1 in
    let body = name + length b + 1 in
    put_kind (read_id a) name (name + length b) body (body + length c)
line_kind_in (a ∷ b ∷ c ∷ d ∷ rest) = Other

-- what a line, given without its LF, says; of a record, with the places of its name and body in the line
unfoldable pub line_kind : List ℕ → LineKind
line_kind text = line_kind_in (fields text)

-- the next whole line from `at` on ends at `end`; there is none where that is the file's length
pub record LineEnd (file : List ℕ) (at end : ℕ) : Type 0 where
  pub within : end ≤ length file
  pub low : end < length file → at ≤ end
  pub whole : end < length file → lines (drop at file) ≡ part file at end ∷ lines (drop (end + 1) file)
  pub feed : end < length file → get_or file end 0 ≡ LF
  pub torn : length file ≤ end → lines (drop at file) ≡ []
