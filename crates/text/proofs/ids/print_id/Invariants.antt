-- The digits are written from the last to the first; what is left of them, written at the front, gives the whole.
use Rattle.std.proofs.Common.{◌≡◌, ◌+◌, ◌^◌, ◌<◌, length}
use Rattle.text.specs.Bytes.{write}
use Rattle.text.specs.Format.{print_id}
use Rattle.text.proofs.ids.print_id.Given as goal

abbrev pub invariant-loop-k : goal.invariant-loop-k
invariant-loop-k l = record {
  below : l.n < 2 ^ 64;
  left : l.k + length (print_id l.n) ≡ length (print_id l.id) + 1;
  same : write l.out 0 (print_id l.n) ≡ write l.initial.out 0 (print_id l.id);
}
