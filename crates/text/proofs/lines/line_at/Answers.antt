-- The line that a reader hands back is what is read at its places; where there is none the answer is empty.
use Rattle.std.proofs.Common.{sym, ap, arith}
use Rattle.text.specs.Line.{first_text}
use Rattle.text.proofs.NextLaws.{found, no_line}
use Rattle.text.proofs.lines.line_at.Goals as goal

pub returns-in_default : goal.returns-in_default
returns-in_default c = sym (ap first_text (no_line _ _ _ c.next_from.ensures c.in_default.is))

pub slice_bounds-result-count-2 : goal.slice_bounds-result-count-2
slice_bounds-result-count-2 c =
    let f = found _ _ _ c.next_from.ensures _ _ c.in-Some.is in omega (arith, f.low, f.inside)

pub slice_bounds-result-start-2 : goal.slice_bounds-result-start-2
slice_bounds-result-start-2 c =
    let f = found _ _ _ c.next_from.ensures _ _ c.in-Some.is in omega (arith, f.low, f.inside)

pub slice_bounds-result-end-2 : goal.slice_bounds-result-end-2
slice_bounds-result-end-2 c =
    let f = found _ _ _ c.next_from.ensures _ _ c.in-Some.is in omega (arith, f.low, f.inside)

pub returns : goal.returns
returns c = sym (ap first_text (found _ _ _ c.next_from.ensures _ _ c.in-Some.is).whole)
