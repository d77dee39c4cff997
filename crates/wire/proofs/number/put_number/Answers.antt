-- The eight bytes of the library are those of the number, and they are written over a part.
use Rattle.std.proofs.Common.{◌+◌, ◌-◌, ◌∙◌, ap, arith}
use borrow.Rule.Slice.PartMut.{put_mid}
use Rattle.wire.specs.Number.{number}
use Rattle.wire.proofs.NumberLaws.{number_bytes, length_number, mid_write}
use Rattle.wire.proofs.number.put_number.Goals as goal

pub returns : goal.returns
returns c =
    let bytes = c.copy_from_slice.ensures.after ∙ (c.to_le_bytes.ensures ∙ number_bytes c.args.n) in
    record {
      past = omega (arith, length_number c.args.n);
      bytes = ap (put_mid c.args.at (c.args.at + 8 - c.args.at) c.args.out.now) bytes
          ∙ mid_write _ _ _ (number c.args.n) (omega (arith, length_number c.args.n));
    }
