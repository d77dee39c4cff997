-- By the test; the six tables follow one another.
use mathlib.Core.Path.{ap, ◌∙◌}
use borrow.Author.Tests.{lt-ltb, le-ltb}
use Rattle.wire.specs.Output.{output_rows, output_keys}
use Rattle.replay.specs.Entry.{output_tables}
use Rattle.replay.proofs.entry.output_tables.Goals as goal

pub returns-then-show-lt2 : goal.returns-then-show-lt2
unfolding output_tables
returns-then-show-lt2 c = rw (lt-ltb c.args.show 2 c.if-show-lt2.true)

pub returns : goal.returns
unfolding output_tables
returns c =
    let args = c.args in
    let d2 = c.output_rows-b.ensures ∙ ap (λ d. output_rows d args.groups.now) c.output_rows-a.ensures in
    let d4 = c.output_rows-e.ensures ∙ ap (λ d. output_rows d args.rows.now) (c.output_rows-c.ensures ∙ ap (λ d. output_rows d args.links.now) d2) in
    let d6 = c.output_rows.ensures ∙ ap (λ d. output_rows d args.actors.now) (c.output_keys-f.ensures ∙ ap (λ d. output_keys d args.keys.now) d4) in
    rw (le-ltb args.show 2 c.if-show-lt2.false) d6
