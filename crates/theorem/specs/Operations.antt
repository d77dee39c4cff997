-- Where the pool does the operations on mailboxes (specs/Mailboxes.antt). Each statement is of the definition that the
-- code equals, for the actor of a group (0 to 7) and key (0 to 15), or its slot, and for well-formed links (`Good`:
-- crates/lists/specs/Family), whatever else the tables have. Every part of a turn keeps the links well formed
-- (crates/theorem/proofs). Past the last slot there is no mailbox, and nothing moves. But for `crash_trapped_key`, which
-- may count an attempt, none of these definitions gives rows anew, and none gives the store.
use Rattle.std.specs.Prelude.{◌≡◌, Bool, true, false, ◌≢◌, List, [], ◌∷◌, ◌++◌, ℕ, ◌+◌, ◌*◌, ◌<◌, ltb, drop}
use Rattle.lists.specs.Links.{pick, Table, FREE, PENDING, BATCH, OVER, HAND, SLOTS, GROUPS, KEYS}
use Rattle.lists.specs.Family.{view, Good}
use Rattle.actor.specs.declared.question.Reply.TheVariants as reply
use Rattle.actor.specs.Messages.{message_at}
use Rattle.actor.specs.Actors.{actor_at}
use Rattle.steps.specs.declared.fixed.FixedAsk.TheVariants as ask
use Rattle.steps.specs.Steps.{take_mail}
use Rattle.steps.specs.StepFixed.{step_fixed}
use Rattle.points.specs.declared.at.Cursor.{Cursor}
use Rattle.group.specs.Settings.{group_at}
use Rattle.route.specs.Batch.{deliver}
use Rattle.tick.specs.declared.crash.Losses.{Losses}
use Rattle.tick.specs.Settle.{release_of}
use Rattle.tick.specs.Crash.{crash_trapped_key}
use Rattle.theorem.specs.Mailboxes.{mail_list, mailbox, Chained, put_at_end, put_at_front, take_first, empty_out}
use Rattle.theorem.specs.Mailboxes.{Operated, logged_in, unlogged_in, Unread}
use Rattle.group.specs.Roster.{slot_on, turn_tables}
use Rattle.tick.specs.Crash.{retiring}
use Rattle.steps.specs.Steps.{step_tables}

-- the slot of the actor of key k in group g, and the list that is its hand
abbrev pub slot_number : ℕ → ℕ → ℕ
slot_number g k = KEYS * g + k

-- the hand of the actor of a slot, 0 to 127, is list 7 + 2 × slot
abbrev pub hand_list : ℕ → ℕ
hand_list slot = 7 + 2 * slot

-- delivery: the first message of the batch goes to an actor
abbrev pub Delivers : Type 0
Delivers =
    (t keys actors : Table) (g k queued left : ℕ) → Good t → g < GROUPS → k < KEYS
    → Operated put_at_end (slot_number g k) BATCH t (deliver (turn_tables t keys actors queued) g k left).links

-- Push is answered no: the message in the step's hand is the first of the mailbox again
abbrev pub PushesBack : Type 0
PushesBack =
    (t rows actors : Table) (slot queued : ℕ) → Good t → slot < SLOTS
    → Operated put_at_front slot HAND t (step_fixed (step_tables t rows actors) slot queued ask.Push reply.No).links

-- a step takes the first message of the mailbox, if there is one, into its hand
abbrev pub Takes : Type 0
Takes =
    (t actors : Table) (slot queued : ℕ) → Good t → slot < SLOTS
    → Operated take_first slot HAND t (take_mail t actors slot queued).links

-- an actor that ever took a message ends or raises: its mailbox goes to the end of pending
abbrev pub SendsBack : Type 0
SendsBack =
    (t rows keys actors : Table) (c : Cursor) (queued : ℕ) → Good t → c.group < GROUPS → c.key < KEYS
    → (actor_at actors (slot_on c)).consumed ≡ true
    → Operated empty_out (slot_number c.group c.key) PENDING t (release_of rows
    (turn_tables t keys actors queued) c).links

-- one that never took a message does: its mailbox is emptied unread
abbrev pub DropsUnread : Type 0
DropsUnread =
    (t rows keys actors : Table) (c : Cursor) (queued : ℕ) → Good t → c.group < GROUPS → c.key < KEYS
    → (actor_at actors (slot_on c)).consumed ≡ false
    → Unread rows (slot_number c.group c.key) t (release_of rows (turn_tables t keys actors queued) c).links

-- ---- a trapped actor is retired

-- the first message of its hand is tried again, or is not
abbrev pub retries : Table → Table → ℕ → ℕ → Bool
retries groups rows g e = ltb (message_at rows e).attempts (group_at groups g).retry

-- of a hand's messages, the first one if it is tried again, and else none ..
unfoldable pub tried_again : Table → Table → ℕ → List ℕ → List ℕ
tried_again groups rows g [] = []
tried_again groups rows g (e ∷ es) = pick (retries groups rows g e) (e ∷ []) []

-- .. and the first one if it is not tried again, and else none
unfoldable pub not_tried : Table → Table → ℕ → List ℕ → List ℕ
not_tried groups rows g [] = []
not_tried groups rows g (e ∷ es) = pick (retries groups rows g e) [] (e ∷ [])

-- Its mailbox stands at the end of pending, and behind it what is tried again of its hand. What is not tried again is
-- over if it is logged, and else its entry is free.
pub record Retired (groups rows : Table) (g slot : ℕ) (t r : Table) : Type 0 where
  pub mail : mailbox r slot ≡ []
  pub hand : view r (hand_list slot) ≡ drop 1 (view t (hand_list slot))
  pub pending : view r PENDING
      ≡ (view t PENDING ++ mailbox t slot) ++ tried_again groups rows g (view t (hand_list slot))
  pub over : view r OVER ≡ view t OVER ++ logged_in rows (not_tried groups rows g (view t (hand_list slot)))
  pub free : view r FREE ≡ view t FREE ++ unlogged_in rows (not_tried groups rows g (view t (hand_list slot)))
  pub others : (j : ℕ) → j ≢ mail_list slot → j ≢ hand_list slot → j ≢ PENDING → j ≢ OVER → j ≢ FREE
      → view r j ≡ view t j
  pub good : Good r
  pub chained : Chained r

-- retiring a trapped actor does just this to the lists, whether it ever took a message or not
abbrev pub Retires : Type 0
Retires =
    (groups t rows keys : Table) (c : Cursor) (k left queued : ℕ) (l : Losses) → Good t → c.group < GROUPS → k < KEYS
    → Retired groups rows c.group (slot_number c.group k) t
    (crash_trapped_key groups (retiring t rows keys queued l) c k left).links
