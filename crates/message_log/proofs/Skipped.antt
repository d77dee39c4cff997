-- A line that is skipped is as if absent.
use mathlib.Core.Path.{◌≡◌, ap, sym, ◌∙◌}
use mathlib.Core.List.{List, [], ◌∷◌, ◌++◌}
use Prim.Native.Nat.{ℕ}
use Rattle.text.specs.Line.{other, read_line}
use Rattle.text.proofs.Spelling.{unspelled}
use Rattle.message_log.specs.Opening.{Read, take_in, read_lines, nothing_read, read_file, judge, opening}
use Rattle.message_log.specs.Skipped.{SkippedIsAbsent}

-- wherever it stands, reading goes on from it as from before it
silent : (r : Read) (before after : List (List ℕ)) (text : List ℕ) → read_line text ≡ other
    → read_lines r (before ++ text ∷ after) ≡ read_lines r (before ++ after)
unfolding read_lines take_in
silent r [] after text e = cc
silent r (t ∷ before) after text e = silent (take_in r (read_line t)) before after text e

pub skipped_absent : SkippedIsAbsent
unfolding opening read_file
skipped_absent file less before after text has lacks strange =
    ap judge (ap (read_lines nothing_read) has ∙ silent nothing_read before after text (unspelled text strange)
    ∙ ap (read_lines nothing_read) (sym lacks))
