-- A number that every step of a turn lowers: as much as `advanced` needs to be a definition by recursion. What it
-- amounts to is said without it (specs/Advance).
use Rattle.std.specs.Prelude.{ℕ, ◌+◌, ◌-◌, ◌*◌}
use Rattle.lists.specs.Links.{GROUPS}
use Rattle.points.specs.declared.at.At.{At}
use Rattle.points.specs.declared.at.At.TheVariants as at
use Rattle.points.specs.declared.at.Point.{Point}
use Rattle.points.specs.declared.at.Point.TheVariants as point
use Rattle.turn.specs.declared.state.Disk.{Disk}
use Rattle.turn.specs.declared.state.Disk.TheVariants as disk
use Rattle.turn.specs.State.{Turn}

-- the most that is left of a tick from group g on
abbrev pub tick_left : ℕ → ℕ
tick_left g = (GROUPS - g) * 30000

-- with so many pops of a group's ready list left: 100 for each, and 2 more than is left of the tick after the group
abbrev pub pops_left : ℕ → ℕ → ℕ
pops_left g pops = tick_left (g + 1) + 2 + 100 * pops

-- the weight of a point: every point that it leads to by itself has less
unfoldable pub weight_at : Point → ℕ
weight_at (point.Seed g) = 1000 + (GROUPS - g)
weight_at (point.Intake left) = 300 + left
weight_at (point.Route left) = 1 + left
weight_at (point.Wake g clock) = tick_left g + 1
weight_at (point.WakeNext g clock left) = tick_left (g + 1) + 26000 + left
weight_at (point.Ready g clock pops) = pops_left g pops
weight_at (point.StepEnd c s) = pops_left c.group c.pops + 60
weight_at (point.Settle c s) = pops_left c.group c.pops + 50
weight_at (point.Crash c) = pops_left c.group c.pops + 40
weight_at (point.AskTrap c) = pops_left c.group c.pops + 30
weight_at (point.CrashTrapped c left) = pops_left c.group c.pops + 1 + left

-- nothing is left where nothing runs
unfoldable pub weight_in : At → ℕ
weight_in at.Rest = 0
weight_in (at.Asks a) = 0
weight_in (at.Runs p) = weight_at p

-- 1 more than where the turn stands weighs, if the disk is free; 0 while an order waits, and after a failed one
abbrev pub weight_by : Disk → At → ℕ
weight_by disk.Free a = 1 + weight_in a
weight_by (disk.Waits o w) a = 0
weight_by disk.Failed a = 0

-- the weight of a turn: at least as many as the steps that it still runs by itself
unfoldable pub weight_of : Turn → ℕ
weight_of t = weight_by t.disk t.at
