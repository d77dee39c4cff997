-- `play::run_opened` meets its contract: the opening's entry; then, if it was accepted, the calls. Assumes nothing.
use Rattle.replay.proofs.PlayLaws.{accepted_ok, opened_refused, opened_on}
use mathlib.Core.Path.{sym, ◌∙◌}
use Rattle.replay.proofs.play.run_opened.Goals as goal

pub returns-then-goes_on : goal.returns-then-goes_on
returns-then-goes_on c =
    let on = accepted_ok c.open-called.result _ _ _ ∙ (sym c.is_ok-goes_on.ensures.value ∙ c.if-goes_on.true) in
    opened_on _ _ _ _ c.open-called.ensures c.output_entry-e.ensures on c.run_calls.ensures

pub returns : goal.returns
returns c =
    let no = accepted_ok c.open-called.result _ _ _ ∙ (sym c.is_ok-goes_on.ensures.value ∙ c.if-goes_on.false) in
    opened_refused _ _ _ _ c.open-called.ensures c.output_entry-e.ensures no
