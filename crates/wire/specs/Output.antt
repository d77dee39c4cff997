-- The output: texts one behind the other, each whole, while the lent slice has room.
use Rattle.std.specs.Prelude.{List, [], ◌∷◌, ℕ, ◌+◌, eqb, leb, length}
use Rattle.text.specs.Bytes.{write}
use Rattle.lists.specs.Links.{pick, Table}
use Rattle.wire.specs.Number.{numbers}

-- the output, how far it is written, and the number that is returned: 0 so far
pub record Output : Type 0 where
  pub out : List ℕ
  pub at : ℕ
  pub code : ℕ

-- an output of these bytes that is written up to `at`, with this number to be returned
abbrev pub output_with : List ℕ → ℕ → ℕ → Output
output_with out at code = record { out = out; at = at; code = code }

-- a text goes out whole behind what stands; 2: it has no room, and nothing goes out any more
unfoldable pub output : Output → List ℕ → Output
output d text =
    pick (eqb d.code 0)
    (pick (leb (d.at + length text) (length d.out))
    (output_with (write d.out d.at text) (d.at + length text) 0)
    (output_with d.out d.at 2))
    d

-- rows of numbers, and rows of bytes
unfoldable pub output_rows : Output → Table → Output
output_rows d [] = d
output_rows d (row ∷ rows) = output_rows (output d (numbers row)) rows

-- the rows of a table whose cells are bytes, in their order: each goes out as one whole text, while there is room
unfoldable pub output_keys : Output → Table → Output
output_keys d [] = d
output_keys d (row ∷ rows) = output_keys (output d row) rows
