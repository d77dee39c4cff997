-- A step where nothing runs, and what a loop of steps keeps.
use Rattle.std.specs.Prelude.{Option, ℕ}
use mathlib.Core.Path.{◌≡◌, refl, sym, ◌∙◌, ap}
use mathlib.Core.Bool.{false}
use Rattle.points.specs.declared.at.Point.{Point}
use Rattle.points.specs.declared.words.Where.{Where}
use Rattle.points.specs.Words.{place_runs, place_of, at_of}
use Rattle.points.proofs.WordLaws.{at_stays}
use Rattle.turn.specs.declared.state.Rail.{Rail}
use Rattle.turn.specs.Rail.{RailKept}
use Rattle.turn.specs.State.{State}
use Rattle.turn.specs.Go.{go_of}
use Rattle.turn.specs.Retry.{again_at, retry_entry, ran_of}
use Rattle.turn.specs.Step.{step_at, turn_step}

pub step_stays : (s : State) (w : Where) → s.pool.turn.at ≡ at_of w → place_runs (place_of w.place) ≡ false
    → s ≡ turn_step s
unfolding turn_step
step_stays s w is stays = sym (ap (step_at s) is ∙ at_stays w (step_at s) s stays refl (λ q. refl))

-- what is kept twice is kept
pub kept_on : (t u v : Rail) → RailKept t u → RailKept u v → RailKept t v
kept_on t u v k l =
    (l.0 ∙ k.0, l.1 ∙ k.1, l.2 ∙ k.2, l.3 ∙ k.3, l.4 ∙ k.4, l.5 ∙ k.5, l.6 ∙ k.6, l.7 ∙ k.7, l.8 ∙ k.8)

-- a point that ran, and what it tried again written, are together what `ran_of` says
pub ran_is : (s : State) (p : Point) (f : Option ℕ) (went s' : State) → f ≡ again_at s p → went ≡ go_of s p
    → s' ≡ retry_entry went f → s' ≡ ran_of s p
unfolding ran_of
ran_is s p f went s' again goes wrote =
    wrote ∙ (ap (retry_entry went) again ∙ ap (λ x. retry_entry x (again_at s p)) goes)
