-- The name is looked at first; the body only where the name fits.
use mathlib.Core.Path.{ap, ◌∙◌}
use lib.ListN.{length}
use lib.Dec.{leb}
use Rattle.text.specs.Line.{line_at}
use Rattle.message_log.proofs.FieldLaws.{name_at, body_at, fit_both, fit_not}
use Rattle.message_log.proofs.opening.row_fits.Goals as goal

pub returns-then-field_fits : goal.returns-then-field_fits
returns-then-field_fits c =
    let args = c.args in
    let line = c.line_at-line in
    let name-field = c.name_field in
    let field-fits = c.field_fits in
    let if1 = c.if-field_fits in
    let body-field = c.body_field in
    let field-fits2 = c.field_fits-then-field_fits in
    let l = line_at args.file.now args.at in
    let name = field-fits.ensures ∙ ap (λ x. leb (length x) 32)
    (name_at args.file.now _ _ args.at line.ensures name-field.ensures) in
    let body = field-fits2.ensures ∙ ap (λ x. leb (length x) 128)
    (body_at args.file.now _ _ args.at line.ensures body-field.ensures) in
    fit_both l _ _ name body if1.true

pub returns-else-field_fits : goal.returns-else-field_fits
returns-else-field_fits c =
    let args = c.args in
    let line = c.line_at-line in
    let name-field = c.name_field in
    let field-fits = c.field_fits in
    let if1 = c.if-field_fits in
    let l = line_at args.file.now args.at in
    let name = field-fits.ensures ∙ ap (λ x. leb (length x) 32)
    (name_at args.file.now _ _ args.at line.ensures name-field.ensures) in
    if1.false ∙ fit_not l _ name if1.false
