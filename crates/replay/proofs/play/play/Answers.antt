-- `play::play` meets its contract: by the header, and by the lengths of the lent log and store. Assumes nothing.
use Rattle.replay.proofs.PlayLaws.{script_torn, script_long, script_stored, script_opened, given_room}
use Rattle.wire.specs.Script.{HasFile}
use lib.Seq.{length-take-le}
use mathlib.Core.Path.{sym, subst, ◌∙◌}
use native.Mathlib.Omega.{arith}
use Rattle.replay.proofs.play.play.Goals.{then-log-h-via-then-log-h, then-log-h-via-else-log-h+then-store-h}
use Rattle.replay.proofs.play.play.Goals as goal

pub returns-in_default : goal.returns-in_default
returns-in_default c = script_torn _ _ _ _ (sym c.in_default.is ∙ c.read_header.ensures.says)

pub returns-then-log-h : goal.returns-then-log-h
returns-then-log-h c =
    let read = sym c.in-Some.is ∙ c.read_header.ensures.says in
    elim c.then-log-h.branch [
      | then-log-h-via-then-log-h w ↦ script_long _ _ _ _ c.in-Some.h read w.if-log-h.true
      | then-log-h-via-else-log-h+then-store-h w ↦
          script_stored _ _ _ _ c.in-Some.h read w.if-log-h.false w.if-store-h.true
    ]

pub place_file-requires : goal.place_file-requires
place_file-requires c = (subst (HasFile c.args.script.now) c.in-Some.is c.read_header.ensures.inside).1

pub overflow_add-h : goal.overflow_add-h
overflow_add-h c =
    let inside = subst (HasFile c.args.script.now) c.in-Some.is c.read_header.ensures.inside in
    omega (arith, inside.1)

pub slice_bounds-run_opened-end : goal.slice_bounds-run_opened-end
slice_bounds-run_opened-end c =
    let inside = subst (HasFile c.args.script.now) c.in-Some.is c.read_header.ensures.inside in
    given_room _ _ c.requires.0 c.read_groups.auto.given inside.0

pub slice_bounds-run_opened-end-2 : goal.slice_bounds-run_opened-end-2
slice_bounds-run_opened-end-2 c =
    let inside = subst (HasFile c.args.script.now) c.in-Some.is c.read_header.ensures.inside in
    sym (length-take-le c.in-Some.h.groups _ (given_room _ _ c.requires.0 c.read_groups.auto.given inside.0))

pub returns : goal.returns
returns c =
    let pre = c.requires in
    let read = sym c.in-Some.is ∙ c.read_header.ensures.says in
    script_opened _ _ _ _ c.in-Some.h read c.if-log-h.false c.if-store-h.false pre.0 pre.1 pre.2 pre.3 pre.4 pre.5
    pre.6 c.read_groups.ensures c.place_file.ensures c.run_opened.ensures
