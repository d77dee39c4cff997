-- The rows are copied, and the new one stands before them.
use Prim.Native.Nat.{◌+◌}
use mathlib.Core.Path.{refl, ap, ◌∙◌}
use native.Mathlib.Omega.{arith}
use lib.ListN.{set}
use Rattle.text.specs.Bytes.{part}
use Rattle.text.proofs.WriteLaws.{length_part}
use Rattle.message_log.proofs.TableLaws.{copied, set_before}
use Rattle.message_log.proofs.table.open_row.Goals as goal

pub returns : goal.returns
returns c =
    let args = c.args in
    let pre = c.requires in
    let rows = args.rows.now in
    let long = length_part rows args.i args.n pre.0 (omega (arith, pre.1)) in
    ap (λ l. set l args.i args.row) (c.copy_within.ensures.after ∙ copied rows args.i args.n (args.i + 1) pre.0
    (omega (arith, pre.1)))
    ∙ set_before rows args.i (args.i + 1) args.row (part rows args.i args.n) refl (omega (arith, long, pre.0, pre.1))
