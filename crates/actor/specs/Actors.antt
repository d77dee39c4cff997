-- The state of an actor as cells, the table of actors, and what changes it.
use Rattle.std.specs.Prelude.{Bool, true, false, List, [], ◌∷◌, ℕ, eqb, get_or, set, Option, Some, None}
use Rattle.lists.specs.Links.{pick}
use Rattle.actor.specs.declared.state.Mode.{Mode}
use Rattle.actor.specs.declared.state.Mode.TheVariants as mode
use Rattle.actor.specs.declared.state.Actor.{Actor}

-- ---- cells

-- 0 is fixed, any other number eval
abbrev pub mode_of : ℕ → Mode
mode_of n = pick (eqb n 0) mode.Fixed mode.Eval

-- 0 is no, any other number yes
abbrev pub bool_of : ℕ → Bool
bool_of n = pick (eqb n 0) false true

-- a number that may be missing, read from its two cells: none if the tag is 0, else n
abbrev pub tagged_number : ℕ → ℕ → Option ℕ
tagged_number tag n = pick (eqb tag 0) None (Some n)

-- the actor that a row of twelve cells stands for; a missing cell is 0, so that an empty row is a new fixed actor
unfoldable pub actor_of : List ℕ → Actor
actor_of c =
    record {
      mode = mode_of (get_or c 0 0);
      started = bool_of (get_or c 1 0);
      ran = bool_of (get_or c 2 0);
      idle = bool_of (get_or c 3 0);
      runnable = bool_of (get_or c 4 0);
      scheduled = bool_of (get_or c 5 0);
      blocked = bool_of (get_or c 6 0);
      consumed = bool_of (get_or c 7 0);
      wake_at = tagged_number (get_or c 8 0) (get_or c 9 0);
      run = tagged_number (get_or c 10 0) (get_or c 11 0);
    }

-- ---- cells over those of an earlier row: a cell is written only where its meaning changes

-- a flag over the earlier cell n: no is 0; yes is 1 where n is 0, and else n as it was
abbrev pub flag_onto : ℕ → Bool → ℕ
flag_onto n true = pick (eqb n 0) 1 n
flag_onto n false = 0

-- a mode over the earlier cell n: fixed is 0; eval is 1 where n is 0, and else n as it was
abbrev pub mode_onto : ℕ → Mode → ℕ
mode_onto n mode.Fixed = 0
mode_onto n mode.Eval = flag_onto n true

-- the number of what is not there: as it was where nothing was there before
abbrev pub kept_number : ℕ → ℕ → ℕ
kept_number tag n = pick (eqb tag 0) n 0

-- the tag of a number over the earlier tag: 0 for none; for a number 1 where it was 0, and else as it was
abbrev pub tag_onto : ℕ → Option ℕ → ℕ
tag_onto tag (Some ns) = flag_onto tag true
tag_onto tag None = 0

-- the number over the earlier tag and number n: itself; for none n if the tag was 0, else 0
abbrev pub number_onto : ℕ → ℕ → Option ℕ → ℕ
number_onto tag n (Some ns) = ns
number_onto tag n None = kept_number tag n

-- an actor as twelve cells over those of an earlier row, in which a missing cell counts as 0: a cell whose meaning is
-- the same keeps its number
unfoldable pub actor_onto : List ℕ → Actor → List ℕ
actor_onto c a =
    mode_onto (get_or c 0 0) a.mode ∷ flag_onto (get_or c 1 0) a.started ∷ flag_onto (get_or c 2 0) a.ran ∷
    flag_onto (get_or c 3 0) a.idle
    ∷ flag_onto (get_or c 4 0) a.runnable ∷ flag_onto (get_or c 5 0) a.scheduled ∷ flag_onto (get_or c 6 0) a.blocked ∷
    flag_onto (get_or c 7 0) a.consumed
    ∷ tag_onto (get_or c 8 0) a.wake_at ∷ number_onto (get_or c 8 0) (get_or c 9 0) a.wake_at ∷
    tag_onto (get_or c 10 0) a.run
    ∷ number_onto (get_or c 10 0) (get_or c 11 0) a.run ∷ []

-- a flag of a row is set
abbrev pub flagged : List ℕ → ℕ → List ℕ
flagged c i = set c i (flag_onto (get_or c i 0) true)

-- the tag in cell i says that there is a number, and cell `at` which: n
abbrev pub numbered : List ℕ → ℕ → ℕ → ℕ → List ℕ
numbered c i at n = set (flagged c i) at n

-- the tag in cell i becomes 0: there is no number; cell `at` becomes 0 too, but stays as it was if the tag was 0
abbrev pub unnumbered : List ℕ → ℕ → ℕ → List ℕ
unnumbered c i at = set (set c i 0) at (kept_number (get_or c i 0) (get_or c at 0))

-- the row of an actor that waits: blocked is yes, and it is woken at a time, or never
abbrev pub blocked_cells : List ℕ → Option ℕ → List ℕ
blocked_cells c (Some ns) = numbered (flagged c 6) 8 9 ns
blocked_cells c None = unnumbered (flagged c 6) 8 9

-- the row of an actor whose wait ended: runnable is yes, blocked is no, and there is no time to be woken at
abbrev pub woken_cells : List ℕ → List ℕ
woken_cells c = unnumbered (set (flagged c 4) 6 0) 8 9

-- ---- the table

-- the actor of slot k, by row k of the table; past the table's end a new fixed actor
unfoldable pub actor_at : List (List ℕ) → ℕ → Actor
actor_at l k = actor_of (get_or l k [])

-- A flag that is as it was keeps its number, so that a change of one flag is a change of one cell, of any row.
unfoldable pub put_actor : List (List ℕ) → ℕ → Actor → List (List ℕ)
put_actor l k a = set l k (actor_onto (get_or l k []) a)

-- ---- changes

-- an actor of this mode that was never stepped: every flag is no, and it has no wake_at and no run
abbrev pub new_actor : Mode → Actor
new_actor m =
    record {
      mode = m;
      started = false;
      ran = false;
      idle = false;
      runnable = false;
      scheduled = false;
      blocked =
          false;
      consumed = false;
      wake_at = None;
      run = None;
    }

-- a message came to its mailbox
abbrev pub delivered_to : Actor → Actor
delivered_to a = record a { idle = false }

-- scheduled becomes yes, when its key is put into the ready list, or no, when its key is popped from there
abbrev pub scheduled_as : Actor → Bool → Actor
scheduled_as a b = record a { scheduled = b }

-- a step begins
abbrev pub began_step : Actor → Actor
began_step a = record a { ran = true; runnable = false }

-- started becomes yes: its program was started
abbrev pub started_as : Actor → Actor
started_as a = record a { started = true }

-- idle becomes yes: it waits for mail alone
abbrev pub idled_as : Actor → Actor
idled_as a = record a { idle = true }

-- consumed becomes yes: it took a message from its mailbox
abbrev pub consumed_as : Actor → Actor
consumed_as a = record a { consumed = true }

-- runnable becomes yes: it yielded, and runs again even without mail
abbrev pub yielded_as : Actor → Actor
yielded_as a = record a { runnable = true }

-- its eval run is r from now on: one under way with its deadline, or none
abbrev pub running_to : Actor → Option ℕ → Actor
running_to a r = record a { run = r }

-- parked on a host call, woken at the latest at w
abbrev pub blocked_to : Actor → Option ℕ → Actor
blocked_to a w = record a { blocked = true; wake_at = w }

-- its wait ended
abbrev pub woken_as : Actor → Actor
woken_as a = record a { runnable = true; blocked = false; wake_at = None }

-- ---- reads

-- whether an eval run is under way
abbrev pub has_run : Option ℕ → Bool
has_run (Some ns) = true
has_run None = false

-- the deadline of an eval run; 0 where there is none
abbrev pub deadline_of : Option ℕ → ℕ
deadline_of (Some ns) = ns
deadline_of None = 0
