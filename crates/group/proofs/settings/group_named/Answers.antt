-- By the closure's test.
use Rattle.std.proofs.Common.{[], get_or, ◌∙◌, rules}
use Rattle.group.specs.Settings.{has_name}
use Rattle.group.proofs.Loops.{group_named_last}
use Rattle.group.proofs.settings.group_named.Goals as goal

pub returns : goal.returns
returns c =
    c.last_where.ensures (λ g. has_name (get_or c.args.groups.now g []) c.args.name.now) (λ g b l h. search rules)
    ∙ group_named_last _ _ _
