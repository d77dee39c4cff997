-- The digits fill the part of the slice that starts at the place.
use Rattle.text.proofs.WriteLaws.{part_back}
use Rattle.text.specs.Format.{print_id}
use lib.ListN.{length, length-take, length-drop}
use borrow.Rule.Slice.PartMut.{put_mid}
use native.Mathlib.Omega.{arith}
use Prim.Native.Nat.{◌-◌}
use mathlib.Core.Path.{ap, ◌∙◌}
use Rattle.text.proofs.record.put_id.Goals as goal

pub print_id-requires : goal.print_id-requires
print_id-requires c = simp (length-take, length-drop) (omega (arith, c.requires))

pub overflow_add-result : goal.overflow_add-result
overflow_add-result c = omega (arith, c.print_id.ensures.past, c.requires)

pub returns : goal.returns
returns c =
    let args = c.args in
    let pre = c.requires in
    let print-id = c.print_id in
    let out = args.out.now in
    let at = args.at in
    record {
      past = omega (arith, print-id.ensures.past);
      bytes = ap (put_mid at (length out - at) out) print-id.ensures.bytes
          ∙ part_back out at (print_id args.id) (pre);
    }
