-- Who holds messages: a slot whose mailbox or hand is not empty has a living actor, its key given out in its group's
-- slab; a hand holds at most one message.
use Rattle.std.specs.Prelude.{◌≡◌, Bool, true, false, ℕ, ◌+◌, ◌*◌, ◌≤◌, ◌<◌, length}
use Rattle.lists.specs.Links.{Table, len_of, HAND, SLOTS, GROUPS, KEYS}
use Rattle.lists.specs.KeyLists.{keys_at}
use Rattle.lists.specs.Slabs as slab
use Rattle.lists.specs.Slabs.{contains_of}
use Rattle.actor.specs.declared.state.Mode.TheVariants as mode
use Rattle.actor.specs.Actors.{actor_at, has_run}
use Rattle.steps.specs.declared.step.Step.{Step}
use Rattle.steps.specs.declared.step.Step.TheVariants as step
use Rattle.steps.specs.declared.step.End.{End}
use Rattle.steps.specs.declared.step.End.TheVariants as end
use Rattle.steps.specs.declared.fixed.FixedAsk.{FixedAsk}
use Rattle.steps.specs.declared.fixed.FixedAsk.TheVariants as fixed
use Rattle.steps.specs.declared.eval.EvalAsk.{EvalAsk}
use Rattle.steps.specs.declared.eval.EvalAsk.TheVariants as eval
use Rattle.points.specs.declared.at.At.{At}
use Rattle.points.specs.declared.at.At.TheVariants as at
use Rattle.points.specs.declared.at.Ask.{Ask}
use Rattle.points.specs.declared.at.Ask.TheVariants as asks
use Rattle.points.specs.declared.at.Point.{Point}
use Rattle.points.specs.declared.at.Point.TheVariants as point
use Rattle.points.specs.declared.at.Cursor.{Cursor}
use Rattle.group.specs.Roster.{slot_at, live_of, ROWS}

-- how many messages are in the mailbox and in the hand of the actor of key k in group g, and in the step's hand
abbrev pub mail_len : Table → ℕ → ℕ → ℕ
mail_len t g k = len_of t (6 + 2 * (KEYS * g + k))

-- how many messages are in the hand of the actor of key k in group g
abbrev pub hand_len : Table → ℕ → ℕ → ℕ
hand_len t g k = len_of t (7 + 2 * (KEYS * g + k))

-- how many messages are in the hand of the step under way
abbrev pub step_hand : Table → ℕ
step_hand t = len_of t HAND

-- key k of group g is given out: an actor lives there
abbrev pub given : Table → ℕ → ℕ → Bool
given keys g k = contains_of (keys_at keys (4 * g)) k

-- the invariant: the slabs are sound; who is not there holds nothing; a hand holds at most one message, and none of
-- an eval actor that runs nothing
pub record Lives (t keys actors : Table) : Type 0 where
  pub keys_are : length keys ≡ ROWS
  pub actors_are : length actors ≡ SLOTS
  pub slabs : (g : ℕ) → g < GROUPS → slab.SlabSound (keys_at keys (4 * g))
  pub dead : (g k : ℕ) → g < GROUPS → k < KEYS → given keys g k ≡ false → (mail_len t g k ≡ 0) × (hand_len t g k ≡ 0)
  pub one : (g k : ℕ) → g < GROUPS → k < KEYS → hand_len t g k ≤ 1
  pub runs : (g k : ℕ) → g < GROUPS → k < KEYS → (actor_at actors (KEYS * g + k)).mode ≡ mode.Eval
      → has_run (actor_at actors (KEYS * g + k)).run ≡ false → hand_len t g k ≡ 0

-- ---- where a turn stands: the step's hand, and the hand of the step's actor

-- a step of a fixed actor ended: with its message over or in the step's hand its actor holds none
abbrev pub StepHands : Cursor → Step → Table → Type 0
StepHands c step.Done t = (step_hand t ≤ 0) × (hand_len t c.group c.key ≤ 0)
StepHands c (step.Parked p) t = step_hand t ≤ 0
StepHands c step.Failed t = (step_hand t ≤ 1) × (hand_len t c.group c.key ≤ 0)

-- a step ended: that of a fixed actor as above, that of an eval actor with nothing in the step's hand
abbrev pub EndHands : Cursor → End → Table → Type 0
EndHands c (end.Fixed s) t = StepHands c s t
EndHands c (end.Eval p) t = step_hand t ≤ 0

-- a question of a step is open
abbrev pub FixedHands : Cursor → FixedAsk → Table → Type 0
FixedHands c (fixed.Run start) t = step_hand t ≤ 0
FixedHands c fixed.Drain t = (step_hand t ≤ 0) × (hand_len t c.group c.key ≤ 0)
FixedHands c fixed.Push t = (step_hand t ≤ 1) × (hand_len t c.group c.key ≤ 0)
FixedHands c fixed.Dispatch t = step_hand t ≤ 0

-- a question of an eval step is open: at Boot, Clock at the start and Tell the step's hand holds at most one message,
-- else none; at the first two the actor's hand is empty
abbrev pub EvalHands : Cursor → EvalAsk → Table → Type 0
EvalHands c eval.Clock t = step_hand t ≤ 0
EvalHands c eval.Boot t = (step_hand t ≤ 1) × (hand_len t c.group c.key ≤ 0)
EvalHands c eval.StartClock t = (step_hand t ≤ 1) × (hand_len t c.group c.key ≤ 0)
EvalHands c (eval.Run start) t = step_hand t ≤ 0
EvalHands c eval.Dispatch t = step_hand t ≤ 0
EvalHands c (eval.Tell o) t = step_hand t ≤ 1

-- the actor of a step lives
abbrev pub Lively : Table → Cursor → Type 0
Lively keys c = live_of keys c.group c.key ≡ true

-- the actor of a step is a fixed one
abbrev pub IsFixed : Table → Cursor → Type 0
IsFixed actors c = (actor_at actors (slot_at c.group c.key)).mode ≡ mode.Fixed

-- at a point that runs: a step that ended says what its actor holds, and a message that crashed is in the step's hand
abbrev pub PointLives : Point → Table → Type 0
PointLives (point.Seed g) t = step_hand t ≤ 0
PointLives (point.Intake left) t = step_hand t ≤ 0
PointLives (point.Route left) t = step_hand t ≤ 0
PointLives (point.Wake g clock) t = step_hand t ≤ 0
PointLives (point.WakeNext g clock left) t = step_hand t ≤ 0
PointLives (point.Ready g clock pops) t = step_hand t ≤ 0
PointLives (point.StepEnd c e) t = EndHands c e t
PointLives (point.Settle c s) t = StepHands c s t
PointLives (point.Crash c) t = step_hand t ≤ 1
PointLives (point.AskTrap c) t = step_hand t ≤ 0
PointLives (point.CrashTrapped c left) t = step_hand t ≤ 0

-- at a question: a step under way is of an actor that lives
abbrev pub AskLives : Ask → Table → Table → Table → Type 0
AskLives (asks.SeedBoot g) t keys actors = step_hand t ≤ 0
AskLives (asks.RouteBoot g left) t keys actors = step_hand t ≤ 0
AskLives asks.TickClock t keys actors = step_hand t ≤ 0
AskLives (asks.WakePoll g k clock left) t keys actors = step_hand t ≤ 0
AskLives (asks.Fixed c a) t keys actors = (Lively keys c × IsFixed actors c) × FixedHands c a t
AskLives (asks.Eval c a) t keys actors = Lively keys c × EvalHands c a t
AskLives (asks.Sends c s) t keys actors = StepHands c s t
AskLives (asks.Trap c) t keys actors = step_hand t ≤ 0
AskLives (asks.Trapped c k) t keys actors = step_hand t ≤ 0

-- wherever a turn stands: at rest nothing is in the step's hand, at a question and at a point it is as above
abbrev pub AtLives : At → Table → Table → Table → Type 0
AtLives at.Rest t keys actors = step_hand t ≤ 0
AtLives (at.Asks a) t keys actors = AskLives a t keys actors
AtLives (at.Runs p) t keys actors = PointLives p t
