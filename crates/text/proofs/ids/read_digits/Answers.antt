-- The loop keeps that the digits left, read behind the value so far, give the whole; a value that is too large stays
-- so.
use Rattle.std.proofs.Common.{◌≡◌, ◌+◌, ◌-◌, ◌*◌, ◌∙◌, get_or, sym, arith}
use Rattle.std.proofs.lemmas.Bool.Decides.{nat_tests}
use Rattle.text.proofs.IdLaws.{read_start, read_empty, read_other, read_next, read_large, read_end}
use Rattle.text.proofs.ids.read_digits.Goals as goal

pub returns-then-is_empty : goal.returns-then-is_empty
returns-then-is_empty c = sym (read_empty _ (grind (arith, nat_tests)))

pub loop-b-init : goal.loop-b-init
loop-b-init c = record { below = omega arith; same = read_start _ (grind (arith, nat_tests)) }

pub returns-then-not-is_ascii_digit : goal.returns-then-not-is_ascii_digit
returns-then-not-is_ascii_digit c =
    let l = c.loop-b in
    sym (read_other _ l.b-index l.high c.loop-b-test.true c.if-not-is_ascii_digit.ensures.cases) ∙ l.invariant.same

pub returns-in_err-checked_mul : goal.returns-in_err-checked_mul
returns-in_err-checked_mul c =
    let l = c.loop-b in
    let digit = c.if-not-is_ascii_digit.ensures.cases in
    let e = read_large _ l.b-index l.high c.loop-b-test.true digit.0 digit.1 (omega (
      arith,
      c.in_err-checked_mul.ensures,
    )) in
    c.from_residual.ensures ∙ (sym e ∙ l.invariant.same)

pub returns-in_err-high : goal.returns-in_err-high
returns-in_err-high c =
    let l = c.loop-b in
    let digit = c.if-not-is_ascii_digit.ensures.cases in
    let e = read_large _ l.b-index l.high c.loop-b-test.true digit.0 digit.1 (omega (arith, c.in_err-high.ensures)) in
    c.from_residual-in_err-high.ensures ∙ (sym e ∙ l.invariant.same)

pub loop-b-preserved : goal.loop-b-preserved
loop-b-preserved c =
    let l = c.loop-b in
    let digit = c.if-not-is_ascii_digit.ensures.cases in
    let next : c.in_ok-high.high ≡ l.high * 10 + (get_or c.args.s.now l.b-index 0 - 48) = omega (
      arith,
      c.in_ok-checked_mul.ensures,
      c.from.ensures,
      c.in_ok-high.ensures,
    ) in
    record {
      below = omega (arith, c.in_ok-high.ensures);
      same = rw next (read_next _ l.b-index l.high c.loop-b-test.true digit.0 digit.1 ∙ l.invariant.same);
    }

pub returns : goal.returns
returns c =
    let l = c.loop-b in sym (read_end _ l.b-index l.high c.loop-b-test.false l.invariant.below) ∙ l.invariant.same
