-- The rows that the table has are measured; where they can be rewritten, they are packed and then spread.
use mathlib.Core.Path.{sym, ap, ◌∙◌}
use Prim.Native.Nat.{◌≤◌}
use native.Mathlib.Omega.{arith}
use lib.ListN.{length, take}
use Rattle.message_log.specs.Log.{rewrite}
use Rattle.message_log.proofs.TableLaws.{cut_rows}
use Rattle.message_log.proofs.RewriteLaws.{told_len, told_over, can_pack, spans_fit, spread_span, spread_no_higher}
use Rattle.message_log.proofs.RewriteLaws.{packed_and_spread, not_rewritten}
use Rattle.message_log.proofs.rewrite.compact.Goals as goal

pub returns-in_default : goal.returns-in_default
returns-in_default c =
    let args = c.args in
    let n = c.min-rows.result in
    not_rewritten args.log.now args.records.now (take n args.records.now) (told_over _ _ c.in_default.ensures)
    ∙ ap (rewrite args.log.now args.records.now) (cut_rows args.records.now args.count n c.min-rows.ensures)

pub pack-requires : goal.pack-requires
pack-requires c = (omega (arith, c.min-rows.ensures), can_pack _ _ _ _ (told_len _ _ _ c.in-Some.ensures).can)

pub spread-requires : goal.spread-requires
spread-requires c =
    let args = c.args in
    let n = c.min-rows.result in
    let told = told_len _ _ _ c.in-Some.ensures in
    let few : n ≤ length args.records.now = omega (arith, c.min-rows.ensures) in
    let span = spread_span args.log.now args.records.now n few told.can _ _ c.pack.ensures.bytes c.pack.ensures.table
    in (
      omega (arith, c.pack.auto.records, c.min-rows.ensures),
      omega (arith, c.pack.auto.log, told.is, spans_fit _ _ _ _ told.can),
      told.is ∙ sym span,
      spread_no_higher args.log.now args.records.now n few told.can _ _ c.pack.ensures.bytes c.pack.ensures.table,
    )

pub returns : goal.returns
returns c =
    let args = c.args in
    let n = c.min-rows.result in
    let told = told_len _ _ _ c.in-Some.ensures in
    packed_and_spread args.log.now args.records.now n (omega (arith, c.min-rows.ensures)) told.can _ _
    c.pack.ensures.bytes
    c.pack.ensures.table _ _ c.spread.ensures.bytes c.spread.ensures.table
    ∙ ap (rewrite args.log.now args.records.now) (cut_rows args.records.now args.count n c.min-rows.ensures)
