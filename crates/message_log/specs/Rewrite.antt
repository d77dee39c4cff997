-- The two halves of a rewrite in place: the records are packed one behind the other, then spread so that each retry
-- line has its place behind its record.
use Rattle.std.specs.Prelude.{true, false, List, [], ◌∷◌, ◌++◌, ℕ, ◌+◌, ◌≤◌, leb, Option, Some, None}
use Rattle.text.specs.Bytes.{part}
use Rattle.message_log.specs.Log.{row, row_id, row_at, row_len, row_tried, row_span, rewritable}

-- where n bytes behind `size` bytes end, where they fit into a log of this length
unfoldable pub end_behind : ℕ → ℕ → ℕ → Option ℕ
end_behind size n long = elim (leb (size + n) long) [ true ↦ Some (size + n) | false ↦ None ]

-- how long the rows' records and retry lines are together
unfoldable pub rows_span : List (List ℕ) → ℕ
rows_span [] = 0
rows_span (r ∷ rs) = row_span r + rows_span rs

-- the length of what a rewrite writes, where the rows can be rewritten in a log of this length
unfoldable pub image_len : ℕ → List (List ℕ) → Option ℕ
image_len long rs = elim (rewritable long 0 0 rs) [ true ↦ Some (rows_span rs) | false ↦ None ]

-- the rows stand one behind the other in a log of this length, from `start` on
abbrev pub Packable : ℕ → ℕ → List (List ℕ) → Type 0
Packable long start [] = Unit
Packable long start (r ∷ rs) =
    (start ≤ row_at r) × (row_at r + row_len r ≤ long) × Packable long (row_at r + row_len r) rs

-- the records alone, one behind the other ..
unfoldable pub packed : List ℕ → List (List ℕ) → List ℕ
packed bytes [] = []
packed bytes (r ∷ rs) = part bytes (row_at r) (row_at r + row_len r) ++ packed bytes rs

-- .. and the rows with the places that the records then have, from `to` on
unfoldable pub rows_packed : ℕ → List (List ℕ) → List (List ℕ)
rows_packed to [] = []
rows_packed to (r ∷ rs) = row (row_id r) to (row_len r) (row_tried r) ∷ rows_packed (to + row_len r) rs

-- no record stands higher than where it is to go, from `to` on
abbrev pub NoHigher : ℕ → List (List ℕ) → Type 0
NoHigher to [] = Unit
NoHigher to (r ∷ rs) = (row_at r ≤ to) × NoHigher (to + row_span r) rs
