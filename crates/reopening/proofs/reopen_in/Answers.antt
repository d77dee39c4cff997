-- The log is all but the last byte of the space; what was read into it is some bytes, and those of the file where they
-- are known.
use Rattle.std.proofs.Common.{sym, ap, arith, length-take-le}
use Rattle.reopening.proofs.FileLaws.{known_file, prints_file}
use Rattle.reopening.proofs.reopen_in.Goals as goal

pub slice_bounds-log-end-2 : goal.slice_bounds-log-end-2
slice_bounds-log-end-2 g c = sym (length-take-le 65536 c.read_full.new.space (omega arith))

pub returns-clause-some_file : goal.returns-clause-some_file
returns-clause-some_file g c = record {
  log = _;
  n = _;
  long = length-take-le 65536 c.read_full.new.space (omega arith);
  is = ap (λ x. x.answer) c.reopen-r.ensures;
}

pub returns-clause-known_file : goal.returns-clause-known_file
returns-clause-known_file g c =
    let within = c.in_ok-n.ensures.bound.0 in
    let read = c.in_ok-n.ensures in
    let space = c.read_full.new.space in
    let known = known_file 65536 space c.in_ok-n.n _ _ (omega arith) within read.bytes read.end in
    prints_file space _ _ _ _ _ _ (omega arith) c.reopen-r.ensures c.in_ok-print.ensures known
