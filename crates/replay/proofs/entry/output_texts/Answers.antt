-- The three texts follow one another.
use mathlib.Core.Path.{ap, ◌∙◌}
use Rattle.wire.specs.Output.{output}
use Rattle.replay.proofs.entry.output_texts.Goals as goal

pub returns : goal.returns
returns c =
    let args = c.args in
    c.output_bytes.ensures ∙ ap (λ d. output d args.body.now) (c.output_bytes-b.ensures ∙ ap (λ d. output d args.name.now) c.output_numbers-a.ensures)
