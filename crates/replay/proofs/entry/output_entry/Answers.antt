-- The five parts follow one another.
use mathlib.Core.Path.{ap, ◌∙◌}
use Rattle.message_log.specs.declared.Counters.{Counters}
use Rattle.answers.specs.Numbers.{numbers_of}
use Rattle.replay.specs.Entry.{output_entry, output_message, output_log, output_tables, output_store}
use Rattle.replay.proofs.entry.output_entry.Goals as goal

pub returns : goal.returns
unfolding output_entry
returns c =
    let args = c.args in
    let size = ap (λ (n : Counters). n.size) c.counters-size.ensures in
    let said = c.numbers_of-s.ensures ∙ ap numbers_of c.answer_of.ensures in
    let shown = c.numbers_of-s.result.message in
    let length = c.counters-size.result.size in
    let d1 = c.output_head-a.ensures in
    let d2 =
    c.output_message-b.ensures ∙ ap (λ d. output_message d shown args.t.now.rows args.store.now) d1 in
    let d3 = c.output_log-c.ensures ∙ ap (λ d. output_log args.show d args.log.now length) d2 in
    let d4 =
    c.output_tables-e.ensures
    ∙ ap
    (λ d. output_tables args.show d
    (record {
      records = args.t.now.records;
      groups = args.t.now.groups;
      links = args.t.now.links;
      rows = args.t.now.rows;
      keys = args.t.now.keys;
      actors = args.t.now.actors;
    }))
    d3 in
    simp (size, said) at (c.output_store.ensures ∙ ap (λ d. output_store args.show d args.store.now) d4)
