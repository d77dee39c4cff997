-- A line that is skipped is as if absent (docs/RULES.md, 2).
use Rattle.std.specs.Prelude.{◌≡◌, List, ◌∷◌, ◌++◌, ℕ}
use Rattle.text.specs.Format.{lines}
use Rattle.text.specs.Line.{Unspelled}
use Rattle.message_log.specs.Opening.{opening}

-- a file with one more line, whose first field is the spelling of no id, opens as the file without it: the same
-- messages left, the same next id, the same refusal
abbrev pub SkippedIsAbsent : Type 0
SkippedIsAbsent = (file less : List ℕ) (before after : List (List ℕ)) (text : List ℕ)
    → lines file ≡ before ++ text ∷ after → lines less ≡ before ++ after → Unspelled text → opening file ≡ opening less
