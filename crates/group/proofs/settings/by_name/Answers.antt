-- By the closure's test.
use Rattle.std.proofs.Common.{[], get_or, ◌∙◌, rules}
use Rattle.group.specs.Settings.{named}
use Rattle.group.proofs.Loops.{by_name_last}
use Rattle.group.proofs.settings.by_name.Goals as goal

pub returns : goal.returns
returns c =
    let a = c.args in
    c.last_where.ensures (λ g. named (get_or a.groups.now g []) a.store.now a.entry a.len) (λ g b l h. search rules)
    ∙ by_name_last _ _ _ _ _
