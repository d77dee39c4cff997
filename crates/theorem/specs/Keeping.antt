-- Where a turn may stand between two of its parts.
use Rattle.std.specs.Prelude.{◌≤◌, ◌<◌}
use Rattle.lists.specs.Links.{Table, SLOTS}
use Rattle.points.specs.declared.at.At.{At}
use Rattle.points.specs.declared.at.At.TheVariants as at
use Rattle.points.specs.declared.at.Ask.{Ask}
use Rattle.points.specs.declared.at.Ask.TheVariants as asks
use Rattle.points.specs.declared.at.Point.{Point}
use Rattle.points.specs.declared.at.Point.TheVariants as point
use Rattle.group.specs.Roster.{slot_at}
use Rattle.theorem.specs.Places.{HandFull}

-- ---- between the steps of actors: none is under way, and what the last one left is dealt with

-- at a question: any but Sends and those of a step
abbrev pub AskBetween : Ask → Type 0
AskBetween (asks.SeedBoot g) = 0 ≤ 0
AskBetween (asks.RouteBoot g left) = 0 ≤ 0
AskBetween asks.TickClock = 0 ≤ 0
AskBetween (asks.WakePoll g k clock left) = 0 ≤ 0
AskBetween (asks.Fixed c a) = ⊥
AskBetween (asks.Eval c a) = ⊥
AskBetween (asks.Sends c s) = ⊥
AskBetween (asks.Trap c) = 0 ≤ 0
AskBetween (asks.Trapped c k) = 0 ≤ 0

-- at a point: any but StepEnd, Settle and Crash, where a step that ended is still to be dealt with
abbrev pub PointBetween : Point → Type 0
PointBetween (point.Seed g) = 0 ≤ 0
PointBetween (point.Intake left) = 0 ≤ 0
PointBetween (point.Route left) = 0 ≤ 0
PointBetween (point.Wake g clock) = 0 ≤ 0
PointBetween (point.WakeNext g clock left) = 0 ≤ 0
PointBetween (point.Ready g clock pops) = 0 ≤ 0
PointBetween (point.StepEnd c e) = ⊥
PointBetween (point.Settle c s) = ⊥
PointBetween (point.Crash c) = ⊥
PointBetween (point.AskTrap c) = 0 ≤ 0
PointBetween (point.CrashTrapped c left) = 0 ≤ 0

-- a turn between steps: at rest, or at such a question or point
abbrev pub BetweenSteps : At → Type 0
BetweenSteps at.Rest = 0 ≤ 0
BetweenSteps (at.Asks a) = AskBetween a
BetweenSteps (at.Runs p) = PointBetween p

-- ---- a step under way is of an actor that there can be, and while Push is open its message is in the step's hand

-- only a question of a step says something
abbrev pub AskOk : Ask → Table → Type 0
AskOk (asks.SeedBoot g) t = 0 ≤ 0
AskOk (asks.RouteBoot g left) t = 0 ≤ 0
AskOk asks.TickClock t = 0 ≤ 0
AskOk (asks.WakePoll g k clock left) t = 0 ≤ 0
AskOk (asks.Fixed c a) t = (slot_at c.group c.key < SLOTS) × HandFull a t
AskOk (asks.Eval c a) t = slot_at c.group c.key < SLOTS
AskOk (asks.Sends c s) t = 0 ≤ 0
AskOk (asks.Trap c) t = 0 ≤ 0
AskOk (asks.Trapped c k) t = 0 ≤ 0

-- wherever a turn stands: at a question as above; at rest and at a point nothing is said
abbrev pub PointOk : At → Table → Type 0
PointOk at.Rest t = 0 ≤ 0
PointOk (at.Asks a) t = AskOk a t
PointOk (at.Runs p) t = 0 ≤ 0
