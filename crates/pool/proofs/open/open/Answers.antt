-- `open::open` meets its contract: by its table, and by what the log answered. Assumes nothing.
use mathlib.Core.Path.{sym, ap, ◌∙◌}
use Rattle.answers.specs.Refusals.{Lent}
use Rattle.pool.specs.Open.{open_effect, opened_by}
use Rattle.pool.proofs.OpenLaws.{open_refused, open_effect_lem}
use Rattle.pool.proofs.open.open.Goals as goal

pub returns-in-Err : goal.returns-in-Err
returns-in-Err c =
    open_refused _ _ _ (sym (c.open_check.ensures _ _ _ _) ∙ c.in-Err.is) (simp c.no_pool.ensures)

pub returns-in-Ok : goal.returns-in-Ok
unfolding open_effect opened_by
returns-in-Ok c =
    let a = c.args in
    let l : Lent = record {
      settings = a.settings;
      groups_given = a.given.now;
      bytes = a.log.now;
      size = a.n;
      store = a.store.now;
      records = a.records.now;
      groups = a.groups.now;
      links = a.links.now;
      rows = a.rows.now;
      keys = a.keys.now;
      actors = a.actors.now;
    } in
    let opened = simp c.in-Ok.is at (ap (opened_by l) c.open_log-s.ensures) in
    open_effect_lem _ _ (sym (c.open_check.ensures _ _ _ _) ∙ c.in_default.is) (simp (← c.open_pool.ensures) at opened)

pub returns-in-Err-answer : goal.returns-in-Err-answer
unfolding open_effect opened_by
returns-in-Err-answer c =
    let a = c.args in
    let l : Lent = record {
      settings = a.settings;
      groups_given = a.given.now;
      bytes = a.log.now;
      size = a.n;
      store = a.store.now;
      records = a.records.now;
      groups = a.groups.now;
      links = a.links.now;
      rows = a.rows.now;
      keys = a.keys.now;
      actors = a.actors.now;
    } in
    let opened = simp c.in-Err-answer.is at (ap (opened_by l) c.open_log-s.ensures) in
    open_effect_lem _ _ (sym (c.open_check.ensures _ _ _ _) ∙ c.in_default.is)
    (simp (c.no_pool-in-Err-answer.ensures, c.from.ensures) opened)
