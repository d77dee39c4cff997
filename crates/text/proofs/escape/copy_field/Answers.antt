-- The test says whether the field fits; one that does is unescaped from its first byte on.
use Rattle.std.proofs.Common.{sym, ◌∙◌}
use borrow.Author.Tests.{leb-true}
use Rattle.text.proofs.AnswerLaws.{filled_len}
use Rattle.text.proofs.escape.copy_field.Goals as goal

pub returns-then-field_fits : goal.returns-then-field_fits
returns-then-field_fits c =
    filled_len _ _ _ _ (leb-true _ _ (sym c.field_fits.ensures ∙ c.if-field_fits.true)) c.unescape_plain.ensures
