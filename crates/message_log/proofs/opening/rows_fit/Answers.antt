-- The chain answers whether each row's line is within the limits.
use Rattle.std.proofs.Common.{◌∙◌, rules}
use Rattle.std.proofs.lemmas.Iterator.{YieldsList-from_slice}
use Rattle.std.proofs.lemmas.Iterator.Search.{all_from_yields_List}
use Rattle.text.specs.Line.{line_at}
use Rattle.message_log.specs.Log.{row_at}
use Rattle.message_log.specs.Scan.{fit_line}
use Rattle.message_log.proofs.StoreLaws.{all_fits}
use Rattle.message_log.proofs.opening.rows_fit.Goals as goal

pub returns : goal.returns
returns c =
    let all = all_from_yields_List (λ r. fit_line (line_at c.args.file.now
    (row_at r))) _ _ c.all.result c.all.ensures.ran
    (YieldsList-from_slice c.args.rows.now cc) (λ x b q k. search rules) in
    all ∙ all_fits c.args.file.now c.args.rows.now
