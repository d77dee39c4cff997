-- A record's kind has the places of the name, and the part there is the field; any other line has none.
use Rattle.std.proofs.Common.{◌∙◌, sym, arith}
use Rattle.text.proofs.LineLaws.{places, put_has_name, other_no_name}
use Rattle.text.proofs.line.name_field.Goals as goal

pub returns-in_default : goal.returns-in_default
returns-in_default c =
    other_no_name c.args.line.now (λ id a b d e k. c.in_default.not-Put id a b d e (c.line_kind.ensures ∙ k))

pub slice_bounds-result-count-2 : goal.slice_bounds-result-count-2
slice_bounds-result-count-2 c =
    omega (arith, places c.args.line.now _ _ _ _ _ (sym c.line_kind.ensures ∙ c.in-Put.is))

pub slice_bounds-result-start-2 : goal.slice_bounds-result-start-2
slice_bounds-result-start-2 c =
    omega (arith, places c.args.line.now _ _ _ _ _ (sym c.line_kind.ensures ∙ c.in-Put.is))

pub slice_bounds-result-end-2 : goal.slice_bounds-result-end-2
slice_bounds-result-end-2 c =
    omega (arith, places c.args.line.now _ _ _ _ _ (sym c.line_kind.ensures ∙ c.in-Put.is))

pub returns : goal.returns
returns c = put_has_name c.args.line.now _ _ _ _ _ (sym c.line_kind.ensures ∙ c.in-Put.is)
