-- `keys::squeeze` meets its contract: at the end nothing is left to squeeze.
use Rattle.std.proofs.Common.{ap, sym, ◌∙◌, arith}
use Rattle.lists.specs.KeyLists.{blank_row, squeeze_of}
use Rattle.lists.proofs.Rows.{squeeze_end, rest_all}
use Rattle.lists.proofs.keys.squeeze.Goals as goal

pub returns : goal.returns
returns c =
    let l = c.loop-k in
    sym (squeeze_end l.out _ l.k-index (omega arith))
    ∙ (l.invariant ∙ ap (squeeze_of blank_row) (rest_all c.args.keys.now 64 (omega arith)))
