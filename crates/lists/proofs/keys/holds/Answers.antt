-- `keys::holds` meets its contract: by the library's search through the keys.
use Rattle.std.proofs.Common.{arith, ap, ◌∙◌}
use Rattle.lists.specs.KeyLists.{holds_of, elem}
use Rattle.lists.proofs.Rows.{elem_any, held_keys}
use Rattle.lists.proofs.keys.holds.Goals as goal

pub returns-in-len1-up : goal.returns-in-len1-up
unfolding holds_of
returns-in-len1-up c =
    let keys = c.args.keys.now in
    let k = c.args.key in
    c.contains.ensures.value
    ∙ (elem_any k _ ∙ ap (elem k) (held_keys keys _ _ _ (omega arith) c.min.ensures))
