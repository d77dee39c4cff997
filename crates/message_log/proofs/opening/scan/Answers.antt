-- What a turn keeps follows from what the reader handed back and what was made of it (proofs/PassLaws).
use Rattle.std.proofs.Common.{◌≡◌, ℕ, List, refl, ap, sym, ◌∙◌, subst}
use Rattle.text.specs.Lines.{next_at}
use Rattle.text.specs.declared.lines.NextLine.{NextLine}
use Rattle.message_log.specs.Scan.{Scanned}
use Rattle.message_log.proofs.PassLaws.{Inv, begins, ends, within, can, over, goes}
use Rattle.message_log.proofs.opening.scan.Goals as goal

-- what the reader hands back is read from the file
read : (log file : List ℕ) (at : ℕ) (t : NextLine) → t ≡ next_at log at → log ≡ file → t ≡ next_at file at
read log file at t e same = e ∙ ap (λ f. next_at f at) same

pub loop-from-init : goal.loop-from-init
loop-from-init c =
    let begun = begins c.args.file.now c.args.lo c.args.rows.now c.requires.0 c.requires.1 in
    let given = c.into_iter-from-iterator.ensures.into_iter_gives in (
      ap (λ it. it.log.now) given ∙ ap (λ b. b.now) c.new-from-items.ensures.0,
      subst (λ n. Inv c.args.file.now c.args.lo n _ c.args.rows.now)
          (sym (ap (λ it. it.at) given ∙ c.new-from-items.ensures.1)) begun,
    )

pub slice_bounds-pass_line-count : goal.slice_bounds-pass_line-count
slice_bounds-pass_line-count c =
    let l = c.loop-from in
    let is = read _ c.args.file.now l.from-iterator.at _ c.in-Some.ensures.steps.0 l.invariant.0 in
    (within c.args.file.now c.args.lo l.from-iterator.at l.p l.rows l.invariant.1 _ is _ _ refl).0

pub slice_bounds-pass_line-start : goal.slice_bounds-pass_line-start
slice_bounds-pass_line-start c =
    let l = c.loop-from in
    let is = read _ c.args.file.now l.from-iterator.at _ c.in-Some.ensures.steps.0 l.invariant.0 in
    (within c.args.file.now c.args.lo l.from-iterator.at l.p l.rows l.invariant.1 _ is _ _ refl).0

pub slice_bounds-pass_line-end : goal.slice_bounds-pass_line-end
slice_bounds-pass_line-end c =
    let l = c.loop-from in
    let is = read _ c.args.file.now l.from-iterator.at _ c.in-Some.ensures.steps.0 l.invariant.0 in
    (within c.args.file.now c.args.lo l.from-iterator.at l.p l.rows l.invariant.1 _ is _ _ refl).1

pub pass_line-requires : goal.pass_line-requires
pass_line-requires c =
    let l = c.loop-from in
    let is = read _ c.args.file.now l.from-iterator.at _ c.in-Some.ensures.steps.0 l.invariant.0 in
    can c.args.file.now c.args.lo l.from-iterator.at l.p l.rows l.invariant.1 _ is _ _ refl

pub returns-in_err-p : goal.returns-in_err-p
returns-in_err-p c =
    let l = c.loop-from in
    let is = read _ c.args.file.now l.from-iterator.at _ c.in-Some.ensures.steps.0 l.invariant.0 in
    subst (λ r. Scanned c.args.file.now c.args.lo r c.pass_line.new.rows) (sym c.from_residual.ensures)
    (over c.args.file.now c.args.lo l.from-iterator.at l.p l.rows l.invariant.1 _ is _ _ refl c.pass_line.result
    c.pass_line.new.rows c.pass_line.ensures c.in_err-p.was)

pub loop-from-preserved : goal.loop-from-preserved
loop-from-preserved c =
    let l = c.loop-from in
    let is = read _ c.args.file.now l.from-iterator.at _ c.in-Some.ensures.steps.0 l.invariant.0 in (
      ap (λ b. b.now) c.in-Some.ensures.steps.1 ∙ l.invariant.0,
      goes c.args.file.now c.args.lo l.from-iterator.at l.p l.rows l.invariant.1 _ is _ _ refl c.pass_line.result
          c.pass_line.new.rows c.pass_line.ensures c.in_ok-p.p c.in_ok-p.was c.pass_line.auto.rows,
    )

pub returns : goal.returns
returns c =
    let l = c.loop-from in
    let is = read _ c.args.file.now l.from-iterator.at _ c.in-None.ensures.steps.0 l.invariant.0 in
    ends c.args.file.now c.args.lo l.from-iterator.at l.p l.rows l.invariant.1 _ is refl
