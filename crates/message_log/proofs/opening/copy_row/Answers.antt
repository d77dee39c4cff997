-- Each field goes into the part of the store that begins at its place.
use mathlib.Core.Path.{refl}
use Rattle.text.specs.Line.{name_of, body_of, line_at}
use Rattle.message_log.proofs.FieldLaws.{name_at, body_at, fit_name, fit_body, both_fields}
use Rattle.message_log.proofs.opening.copy_row.Goals as goal

pub returns : goal.returns
returns c =
    let args = c.args in
    let file = args.file.now in
    let l = line_at file args.at in
    let all = both_fields args.store.now _ _ args.base (name_of l)
    (body_of l) _ _ _ _ _ _ c.unwrap_or-name.result c.unwrap_or-body.result c.requires.0
    (fit_name l c.requires.1) (fit_body l c.requires.1)
    (name_at file _ _ args.at c.line_at-line.ensures c.name_field.ensures)
    (body_at file _ _ args.at c.line_at-line.ensures c.body_field.ensures)
    refl c.copy_field.ensures refl c.copy_field-2.ensures c.unwrap_or-name.ensures c.unwrap_or-body.ensures in
    record { lengths = all.0; copied = all.1 }
