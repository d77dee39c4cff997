-- What a line reader hands back, over the lines of a log (text's Format).
use Rattle.std.specs.Prelude.{List, [], ◌∷◌, ℕ, ◌+◌, length, drop, Some, None}
use Rattle.text.specs.Format.{lines}
use Rattle.text.specs.declared.lines.NextLine.{NextLine}

-- the first of the lines that begin at a place, and the place past its LF; the same place where there is none
abbrev pub first_line : List (List ℕ) → ℕ → NextLine
first_line [] at = record { line = None; at = at }
first_line (l ∷ ls) at = record { line = Some (at, at + length l); at = at + length l + 1 }

-- the next whole line from a place on, and the place past its LF; with none, or a torn one alone, the place stays
unfoldable pub next_at : List ℕ → ℕ → NextLine
next_at log at = first_line (lines (drop at log)) at
