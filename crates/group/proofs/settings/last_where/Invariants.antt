-- The numbers below `g` give what all of them do.
use Rattle.std.specs.Prelude.{◌≡◌, ℕ, Bool, ◌<◌}
use Rattle.group.specs.Settings.{last_where}
use Rattle.group.proofs.settings.last_where.Given as goal

abbrev pub invariant-loop-g : goal.invariant-loop-g
invariant-loop-g g l = (p : ℕ → Bool) → ((k : ℕ) (b : Bool) → k < l.count → goal.F-post g l.test k b → b ≡ p k) → last_where p l.count ≡ last_where p l.g
