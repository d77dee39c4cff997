-- What the words of a place mean: any words mean a place of a turn.
use Rattle.std.specs.Prelude.{Bool, true, false, not, ℕ, eqb, ltb}
use Rattle.lists.specs.Links.{pick}
use Rattle.steps.specs.declared.step.End.TheVariants as end
use Rattle.steps.specs.declared.step.StepWords.{StepWords}
use Rattle.steps.specs.Words.{parked_of, step_of, fixed_kind_of, fixed_ask_of, eval_kind_of, eval_ask_of}
use Rattle.actor.specs.Questions.{outcome_of}
use Rattle.points.specs.declared.at.Cursor.{Cursor}
use Rattle.points.specs.declared.at.At.{At}
use Rattle.points.specs.declared.at.At.TheVariants as at
use Rattle.points.specs.declared.at.Ask.{Ask}
use Rattle.points.specs.declared.at.Ask.TheVariants as asks
use Rattle.points.specs.declared.at.Point.{Point}
use Rattle.points.specs.declared.at.Point.TheVariants as point
use Rattle.points.specs.declared.words.Place.{Place}
use Rattle.points.specs.declared.words.Place.TheVariants as place
use Rattle.points.specs.declared.words.Where.{Where}

-- a key is below 256; any other number is read as 0
abbrev pub key_of : ℕ → ℕ
key_of n = pick (ltb n 256) n 0

-- the step under way: its actor's group and key (0 if not below 256), the tick's clock, and the pops left to the group
abbrev pub cursor_of : Where → Cursor
cursor_of w = record { group = w.group; key = key_of w.key; now = w.now; pops = w.left }

-- how the step ended, as words of its own: the number of the end, and the deadline of one that has it
abbrev pub end_of : Where → StepWords
end_of w = record { end = w.step; until = w.more }

-- the place that a number says: 0 is at rest, 1 to 12 are the points, with two for the end of a step, a fixed actor's
-- and an eval one's, 13 to 20 the questions from SeedBoot to Trap; any other number is Trapped
unfoldable pub place_of : ℕ → Place
place_of n =
    pick (eqb n 0) place.Rest
    (pick (eqb n 1) place.Seed
    (pick (eqb n 2) place.Intake
    (pick (eqb n 3) place.Route
    (pick (eqb n 4) place.Wake
    (pick (eqb n 5) place.WakeNext
    (pick (eqb n 6) place.Ready
    (pick (eqb n 7) place.FixedEnd
    (pick (eqb n 8) place.EvalEnd
    (pick (eqb n 9) place.Settle
    (pick (eqb n 10) place.Crash
    (pick (eqb n 11) place.AskTrap
    (pick (eqb n 12) place.CrashTrapped
    (pick (eqb n 13) place.SeedBoot
    (pick (eqb n 14) place.RouteBoot
    (pick (eqb n 15) place.TickClock
    (pick (eqb n 16) place.WakePoll
    (pick (eqb n 17) place.Fixed
    (pick (eqb n 18) place.Eval
    (pick (eqb n 19) place.Sends
    (pick (eqb n 20) place.Trap
    place.Trapped))))))))))))))))))))

-- a question is open there
abbrev pub place_asks : Place → Bool
place_asks place.SeedBoot = true
place_asks place.RouteBoot = true
place_asks place.TickClock = true
place_asks place.WakePoll = true
place_asks place.Fixed = true
place_asks place.Eval = true
place_asks place.Sends = true
place_asks place.Trap = true
place_asks place.Trapped = true
place_asks p = false

-- the turn runs on by itself there
abbrev pub place_runs : Place → Bool
place_runs place.Rest = false
place_runs p = not (place_asks p)

-- ---- what they mean

-- the question of this place, with what a turn keeps at it taken from the words; their other parts play no role
abbrev pub ask_by : Place → Where → Ask
ask_by place.SeedBoot w = asks.SeedBoot w.group
ask_by place.RouteBoot w = asks.RouteBoot w.group w.left
ask_by place.TickClock w = asks.TickClock
ask_by place.WakePoll w = asks.WakePoll w.group (key_of w.key) w.now w.left
ask_by place.Fixed w = asks.Fixed (cursor_of w) (fixed_ask_of (fixed_kind_of w.step))
ask_by place.Eval w = asks.Eval (cursor_of w) (eval_ask_of (eval_kind_of w.step) (outcome_of w.more))
ask_by place.Sends w = asks.Sends (cursor_of w) (step_of (end_of w))
ask_by place.Trap w = asks.Trap (cursor_of w)
ask_by p w = asks.Trapped (cursor_of w) (key_of w.more)

-- the question that the words mean, by the number of their place; one that is no question is read as Trapped
abbrev pub ask_of : Where → Ask
ask_of w = ask_by (place_of w.place) w

-- the point of this place, with what a turn keeps at it taken from the words; a step's end is one point for both modes
abbrev pub point_by : Place → Where → Point
point_by place.Seed w = point.Seed w.group
point_by place.Intake w = point.Intake w.left
point_by place.Route w = point.Route w.left
point_by place.Wake w = point.Wake w.group w.now
point_by place.WakeNext w = point.WakeNext w.group w.now w.left
point_by place.Ready w = point.Ready w.group w.now w.left
point_by place.FixedEnd w = point.StepEnd (cursor_of w) (end.Fixed (step_of (end_of w)))
point_by place.EvalEnd w = point.StepEnd (cursor_of w) (end.Eval (parked_of (end_of w)))
point_by place.Settle w = point.Settle (cursor_of w) (step_of (end_of w))
point_by place.Crash w = point.Crash (cursor_of w)
point_by place.AskTrap w = point.AskTrap (cursor_of w)
point_by p w = point.CrashTrapped (cursor_of w) w.more

-- the point that the words mean, by the number of their place; one that is no point is read as CrashTrapped
abbrev pub point_of : Where → Point
point_of w = point_by (place_of w.place) w

-- by the place: at rest, whatever else the words say; at the question that they mean; or at the point that they mean
abbrev pub at_by : Place → Where → At
at_by place.Rest w = at.Rest
at_by place.SeedBoot w = at.Asks (ask_of w)
at_by place.RouteBoot w = at.Asks (ask_of w)
at_by place.TickClock w = at.Asks (ask_of w)
at_by place.WakePoll w = at.Asks (ask_of w)
at_by place.Fixed w = at.Asks (ask_of w)
at_by place.Eval w = at.Asks (ask_of w)
at_by place.Sends w = at.Asks (ask_of w)
at_by place.Trap w = at.Asks (ask_of w)
at_by place.Trapped w = at.Asks (ask_of w)
at_by p w = at.Runs (point_of w)

-- where a turn stands by these words: at rest, at a question or at a point, with what it keeps there
unfoldable pub at_of : Where → At
at_of w = at_by (place_of w.place) w
