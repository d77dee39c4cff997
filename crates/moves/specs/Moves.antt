-- Moves inside a lent slice: n bytes put in another place in steps of eight and of one, and how
-- many steps of each that takes.
use Rattle.std.specs.Prelude.{true, false, ◌&&◌, ◌≡◌, List, ℕ, zero, suc, ◌+◌, ◌*◌, ◌/◌, ◌%◌, ◌≤◌, leb, length}
use Rattle.text.specs.Bytes.{write, part}
use Rattle.moves.specs.declared.Steps.{Steps}

-- n bytes moved at once: those from `from` on are read, and then written from `to` on; all else keeps its value
abbrev pub moved_at_once : List ℕ → ℕ → ℕ → ℕ → List ℕ
moved_at_once bytes from n to = write bytes to (part bytes from (from + n))

-- k steps of so many bytes each, the first bytes first
unfoldable pub steps_down : ℕ → ℕ → List ℕ → ℕ → ℕ → List ℕ
steps_down width zero bytes from to = bytes
steps_down width (suc k) bytes from to =
    steps_down width k (moved_at_once bytes from width to) (from + width) (to + width)

-- k steps of so many bytes each, the last bytes first
unfoldable pub steps_up : ℕ → ℕ → List ℕ → ℕ → ℕ → List ℕ
steps_up width zero bytes from to = bytes
steps_up width (suc k) bytes from to =
    steps_up width k (moved_at_once bytes (from + width * k) width (to + width * k)) from to

-- how many steps a move of n bytes takes: whole eights, and single ones for the rest
abbrev pub steps_of : ℕ → Steps
steps_of n = record { eights = n / 8; singles = n % 8 }

-- no step at all
abbrev pub no_steps : Steps
no_steps = record { eights = 0; singles = 0 }

-- n bytes moved down: the eights, then the rest singly
abbrev pub words_down : List ℕ → ℕ → ℕ → ℕ → List ℕ
words_down bytes from n to =
    steps_down 1 (n % 8) (steps_down 8 (n / 8) bytes from to) (from + 8 * (n / 8)) (to + 8 * (n / 8))

-- n bytes moved up: the eights, which are the last bytes, then the rest singly
abbrev pub words_up : List ℕ → ℕ → ℕ → ℕ → List ℕ
words_up bytes from n to = steps_up 1 (n % 8) (steps_up 8 (n / 8) bytes (from + n % 8) (to + n % 8)) from to

-- the bytes after a move, and the steps that it took
pub record DidMove : Type 0 where
  pub bytes : List ℕ
  pub steps : Steps

-- nothing is moved
abbrev pub not_moved : List ℕ → DidMove
not_moved bytes = record { bytes = bytes; steps = no_steps }

-- n bytes moved down to `to`, where this is no higher than they stand and they lie inside the slice; else nothing
unfoldable pub move_down : List ℕ → ℕ → ℕ → ℕ → DidMove
move_down bytes from n to = elim (leb to from && leb (from + n) (length bytes)) [
  | true ↦ record { bytes = words_down bytes from n to; steps = steps_of n }
  | false ↦ not_moved bytes
]

-- n bytes moved up to `to`, where this is no lower than they stand and they then lie inside the slice; else nothing
unfoldable pub move_up : List ℕ → ℕ → ℕ → ℕ → DidMove
move_up bytes from n to = elim (leb from to && leb (to + n) (length bytes)) [
  | true ↦ record { bytes = words_up bytes from n to; steps = steps_of n }
  | false ↦ not_moved bytes
]

-- k steps of eight leave what 8 × k single ones leave, down and up
pub record EightsAreSingles : Type 0 where
  pub down : (bytes : List ℕ) (from k to : ℕ) → to ≤ from → from + 8 * k ≤ length bytes
      → steps_down 8 k bytes from to ≡ steps_down 1 (8 * k) bytes from to
  pub up : (bytes : List ℕ) (from k to : ℕ) → from ≤ to → to + 8 * k ≤ length bytes
      → steps_up 8 k bytes from to ≡ steps_up 1 (8 * k) bytes from to

-- a move of n bytes leaves what n single steps leave, and what moving them at once leaves
pub record AsSingly (words singly at_once : List ℕ) : Type 0 where
  pub single_steps : words ≡ singly
  pub all_at_once : words ≡ at_once

-- so it is with every move down ..
abbrev pub DownAsSingly : Type 0
DownAsSingly = (bytes : List ℕ) (from n to : ℕ) → to ≤ from → from + n ≤ length bytes
    → AsSingly (words_down bytes from n to) (steps_down 1 n bytes from to) (moved_at_once bytes from n to)

-- .. and with every move up
abbrev pub UpAsSingly : Type 0
UpAsSingly = (bytes : List ℕ) (from n to : ℕ) → from ≤ to → to + n ≤ length bytes
    → AsSingly (words_up bytes from n to) (steps_up 1 n bytes from to) (moved_at_once bytes from n to)
