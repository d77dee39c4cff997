-- Where the record has room behind the others it goes there; else the log is rewritten first, and the record goes behind the open ones.
use mathlib.Core.Path.{sym, ◌∙◌, ap}
use Rattle.text.specs.Format.{untried, Message}
use Rattle.message_log.specs.Log.{state, logged}
use Rattle.message_log.proofs.WalLaws.{compacted_is, appended_behind, appended_anew}
use Rattle.message_log.proofs.wal.append_record.Goals as goal

pub returns-then-fits_behind : goal.returns-then-fits_behind
returns-then-fits_behind c =
    let args = c.args in
    let pre = c.requires in
    let fits-behind = c.fits_behind in
    let if1 = c.if-fits_behind in
    let put_record = c.put_record in
    let m : Message = untried args.counters.now.next args.name.now args.body.now in
    appended_behind (state args.log.now args.records.now args.counters.now) _ m args.len pre.len_is
    (sym fits-behind.ensures ∙ if1.true) put_record.ensures

pub returns : goal.returns
returns c =
    let args = c.args in
    let pre = c.requires in
    let fits-behind = c.fits_behind in
    let if1 = c.if-fits_behind in
    let compact = c.compact in
    let put-record2 = c.put_record-2 in
    let m : Message = untried args.counters.now.next args.name.now args.body.now in
    let w = state args.log.now args.records.now args.counters.now in
    let dense = compacted_is args.log.now _ args.records.now _ args.counters.now compact.ensures in
    appended_anew w _ m args.len pre.len_is (sym fits-behind.ensures ∙ if1.false) (put-record2.ensures ∙ ap
    (λ v. logged v m) dense)
