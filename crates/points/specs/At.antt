-- Where a turn stands.
use Rattle.std.specs.Prelude.{ℕ, ◌+◌, ltb}
use Rattle.lists.specs.Links.{pick, GROUPS}
use Rattle.actor.specs.declared.question.Who.{Who}
use Rattle.steps.specs.declared.step.End.TheVariants as end
use Rattle.steps.specs.declared.fixed.FixedNext.{FixedNext}
use Rattle.steps.specs.declared.fixed.FixedNext.TheVariants as fixed
use Rattle.steps.specs.declared.eval.EvalNext.{EvalNext}
use Rattle.steps.specs.declared.eval.EvalNext.TheVariants as eval
use Rattle.points.specs.declared.at.Cursor.{Cursor}
use Rattle.points.specs.declared.at.At.{At}
use Rattle.points.specs.declared.at.At.TheVariants as at
use Rattle.points.specs.declared.at.Ask.TheVariants as asks
use Rattle.points.specs.declared.at.Point.TheVariants as point

-- the actor with this key in this group, as a question names it
abbrev pub who_of : ℕ → ℕ → Who
who_of g key = record { group = g; key = key }

-- the group after group g; from group 7, the last, on it is 8, which no group has
abbrev pub next_group : ℕ → ℕ
next_group g = pick (ltb g GROUPS) (g + 1) GROUPS

-- a step is settled: the group's ready list goes on
abbrev pub ready_after : Cursor → At
ready_after c = at.Runs (point.Ready c.group c.now c.pops)

-- a step of a fixed actor is at its next question, or ended, and what it finished gets its marks
abbrev pub fixed_after : Cursor → FixedNext → At
fixed_after c (fixed.Asks a) = at.Asks (asks.Fixed c a)
fixed_after c (fixed.Ended s) = at.Runs (point.StepEnd c (end.Fixed s))

-- a step of an eval actor is at its next question, or ended, and what it finished gets its marks
abbrev pub eval_after : Cursor → EvalNext → At
eval_after c (eval.Asks a) = at.Asks (asks.Eval c a)
eval_after c (eval.Ended p) = at.Runs (point.StepEnd c (end.Eval p))
