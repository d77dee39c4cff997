-- The rows behind are copied, as far as there are any.
use mathlib.Core.Path.{◌∙◌}
use Rattle.message_log.proofs.TableLaws.{closed_up, none_behind}
use Rattle.message_log.proofs.table.close_row.Goals as goal

pub returns-then-i-end : goal.returns-then-i-end
returns-then-i-end c =
    let args = c.args in
    c.copy_within.ensures.after ∙ closed_up args.rows.now args.i args.count _ c.min-end.ensures c.if-i-end.true

pub returns-else-i-end : goal.returns-else-i-end
returns-else-i-end c =
    let args = c.args in
    none_behind args.rows.now args.i args.count _ c.min-end.ensures c.if-i-end.false
