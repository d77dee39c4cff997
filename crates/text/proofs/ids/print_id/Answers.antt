-- The digits are written from the last to the first; what is left of them, written at the front, gives the whole.
use Rattle.std.proofs.Common.{◌+◌, ◌-◌, ◌/◌, ◌%◌, ◌∙◌, ap, sym, arith}
use Rattle.text.specs.Bytes.{write}
use Rattle.text.specs.Format.{print_id}
use Rattle.text.proofs.WriteLaws.{write_one, write_snoc}
use Rattle.text.proofs.IdLaws.{length_more, print_one, print_more, print_there, print_long, print_last}
use Rattle.text.proofs.ids.print_id.Goals as goal

pub loop-k-preserved : goal.loop-k-preserved
loop-k-preserved c =
    let l = c.loop-k in
    let more = print_long l.n (omega (arith, l.invariant.left, c.id_len-len.ensures)) in
    let m = length_more l.n more l.invariant.below in
    let w = write_snoc l.out (print_id (l.n / 10)) (48 + l.n % 10) (c.id_len-len.result - l.k) (omega arith) (omega
    arith) in
    record {
      below = omega arith;
      left = omega arith;
      same = w ∙ (ap (write l.out 0) (sym (print_more l.n more l.invariant.below)) ∙ l.invariant.same);
    }

pub overflow_cast-out-2 : goal.overflow_cast-out-2
overflow_cast-out-2 c =
    let l = c.loop-k in
    omega (arith, print_last l.n (omega (arith, l.invariant.left, c.id_len-len.ensures)) l.invariant.below)

pub overflow_add-out-2 : goal.overflow_add-out-2
overflow_add-out-2 c =
    let l = c.loop-k in
    omega (arith, print_last l.n (omega (arith, l.invariant.left, c.id_len-len.ensures)) l.invariant.below)

pub returns : goal.returns
returns c =
    let l = c.loop-k in
    let there = print_there c.args.id (omega arith) in
    let last = print_last l.n (omega (arith, l.invariant.left, c.id_len-len.ensures)) l.invariant.below in
    record {
      past = omega arith;
      bytes = sym (write_one l.out 0 (48 + l.n) (omega arith))
          ∙ (ap (write l.out 0) (sym (print_one l.n last)) ∙ l.invariant.same);
    }
