-- What a point tries again comes to the end of pending; and a retry leaves the log's next id. Assumes nothing.
use Rattle.std.specs.Prelude.{Option, Some, None}
use mathlib.Core.Path.{◌≡◌, refl, sym, ap, ◌∙◌}
use mathlib.Core.Bool.{Bool, true, false}
use mathlib.Core.Logic.{◌≢◌}
use mathlib.Core.List.{List, [], ◌∷◌, ◌++◌}
use Prim.Native.Nat.{ℕ, ◌+◌, ◌<◌}
use native.Mathlib.Omega.{arith}
use native.Mathlib.Decide.{dec_lt}
use lib.Dec.{eqb, leb, ltb}
use lib.ListN.{length, take}
use Rattle.lists.specs.Links.{Table, LISTS, first_of, move_first, mailbox_of, hand_of, PENDING, HAND}
use Rattle.lists.specs.KeyLists.{keys_at, front_of}
use Rattle.lists.specs.Family.{first_in, view, Good, Moved}
use Rattle.lists.proofs.Family.{first_is, view_past}
use Rattle.lists.proofs.Moves.{move_first_lem, move_all_lem}
use Rattle.text.specs.Format.{retry_line}
use Rattle.message_log.specs.Log.{Wal, open_rows, search_row, extended, compacted, with_tried, retry_written, retried_at}
use Rattle.message_log.specs.Log.{retry_found, counts_tries, retry_of}
use Rattle.actor.specs.Messages.{message_at}
use Rattle.points.specs.declared.at.Point.{Point}
use Rattle.points.specs.declared.at.Point.TheVariants as point
use Rattle.points.specs.declared.at.Cursor.{Cursor}
use Rattle.group.specs.Settings.{group_at}
use Rattle.group.specs.Roster.{TRAPPED, slot_at}
use Rattle.tick.specs.Crash.{dying, again_found, again_first, crashed_entry, crashed_found, handle_crash, crash_of, mail_back}
use Rattle.tick.specs.Crash.{crash_trapped_key, crash_trapped}
use Rattle.turn.specs.State.{State}
use Rattle.turn.specs.Go.{go_of}
use Rattle.turn.specs.Retry.{again_trapped, again_at}
use Rattle.theorem.specs.Rail.{last_in}
use Rattle.theorem.proofs.Through.{all_rule, mailbox_is}
use Rattle.theorem.proofs.PlaceMoves.{hand_is}
use Rattle.theorem.proofs.Ticking.{no_hand}

-- the last of some entries and one behind them
pub last_snoc : (es : List ℕ) (e : ℕ) → last_in (es ++ (e ∷ [])) ≡ Some e
unfolding last_in
last_snoc [] e = refl
last_snoc (x ∷ []) e = refl
last_snoc (x ∷ y ∷ es) e = last_snoc (y ∷ es) e

-- the first of some entries
first_one : (es : List ℕ) (e : ℕ) → first_in es ≡ Some e → take 1 es ≡ e ∷ []
first_one [] e is = let z : ◌≡◌ {A = ℕ} 0 1 = cc in absurd (omega arith)
first_one (x ∷ es) e is = let same : x ≡ e = cc in cc

-- a message that is tried again is the first of its list, and its attempts are below the retries
record Tries (groups t rows : Table) (g from e : ℕ) : Type 0 where
  first : first_of t from ≡ Some e
  below : ltb (message_at rows e).attempts (group_at groups g).retry ≡ true

pub found_again : (groups rows : Table) (g e : ℕ) (f : Option ℕ) → again_found groups rows g f ≡ Some e
    → (f ≡ Some e) × (ltb (message_at rows e).attempts (group_at groups g).retry ≡ true)
found_again groups rows g e None is = let z : ◌≡◌ {A = ℕ} 0 1 = cc in absurd (omega arith)
found_again groups rows g e (Some x) is =
    at (ltb (message_at rows x).attempts (group_at groups g).retry) refl
  where
    at : (b : Bool) → ltb (message_at rows x).attempts (group_at groups g).retry ≡ b
        → (Some x ≡ Some e)
        × (ltb (message_at rows e).attempts (group_at groups g).retry ≡ true)
    at true b =
        let same : x ≡ e = cc in
        (cc, ap (λ k. ltb (message_at rows k).attempts (group_at groups g).retry) (sym same) ∙ b)
    at false b = let z : ◌≡◌ {A = ℕ} 0 1 = cc in absurd (omega arith)

module _ (groups t rows : Table) (g from e dead : ℕ) (good : Good t) (apart : from ≢ PENDING)
    (is : again_first groups t rows g from ≡ Some e) where
  tries : Tries groups t rows g from e
  unfolding again_first
  tries = let both = found_again groups rows g e (first_of t from) is in record { first = both.0; below = both.1 }

  crashed_links : (handle_crash groups (dying t rows dead) g from).links ≡ move_first t from PENDING
  unfolding handle_crash crashed_entry
  crashed_links =
      ap (λ f. (crashed_found groups (dying t rows dead) g from f).links) tries.first
      ∙ rw tries.below refl

  first_there : first_in (view t from) ≡ Some e
  first_there = sym (first_is t from) ∙ tries.first

  within : from < LISTS
  within = at (dec_lt from LISTS)
    where
      at : Dec (from < LISTS) → from < LISTS
      at (yes p) = p
      at (no p) =
          let empty : first_in (view t from) ≡ None = ap first_in (view_past t good from (omega arith)) in
          let z : ◌≡◌ {A = ℕ} 0 1 = cc first_there in
          absurd (omega arith)

  moved : Moved t from PENDING 1 (move_first t from PENDING)
  moved = move_first_lem (record { good = good; from_is = within; to_is = omega arith; apart = apart })

  pub crash_last : last_in (view (handle_crash groups (dying t rows dead) g from).links PENDING) ≡ Some e
  crash_last =
      ap (λ r. last_in (view r PENDING)) crashed_links
      ∙ (ap last_in (moved.joined ∙ ap (λ l. view t PENDING ++ l) (first_one (view t from) e first_there))
      ∙ last_snoc (view t PENDING) e)

-- a slot's hand is as it was when its mailbox went back to pending
module _ (t : Table) (good : Good t) (slot : ℕ) (slot_is : slot < 128) where
  pub hand_stays : view (mail_back t slot) (hand_of slot) ≡ view t (hand_of slot)
  hand_stays =
      all_rule t good (mailbox_of slot) PENDING (λ (r : Table). view r (hand_of slot) ≡ view t (hand_of slot)) refl
      (λ pair. (move_all_lem pair).others (hand_of slot)
      (λ z. omega (arith, mailbox_is slot slot_is, hand_is slot slot_is)) (λ z. omega (arith, hand_is slot slot_is)))

  pub back_good : Good (mail_back t slot)
  back_good = all_rule t good (mailbox_of slot) PENDING Good good (λ pair. (move_all_lem pair).good)

-- past the last slot nobody has a hand
past_none : (groups t rows : Table) (g slot : ℕ) → Good t → (slot < 128 → ⊥)
    → again_first groups t rows g (hand_of slot) ≡ None
unfolding again_first
past_none groups t rows g slot good gone =
    ap (again_found groups rows g)
    (first_is t (hand_of slot) ∙ ap first_in (view_past t good (hand_of slot) (no_hand slot gone)))

-- lists with the same entries have the same first one
same_first : (groups rows : Table) (g : ℕ) (t r : Table) (from : ℕ) → view r from ≡ view t from
    → again_first groups r rows g from ≡ again_first groups t rows g from
unfolding again_first
same_first groups rows g t r from same =
    ap (again_found groups rows g) (first_is r from ∙ (ap first_in same ∙ sym (first_is t from)))

-- what is tried again of a slot's hand is the same when its mailbox went back to pending
pub hand_again : (groups t rows : Table) (g slot : ℕ) → Good t
    → again_first groups (mail_back t slot) rows g (hand_of slot) ≡ again_first groups t rows g (hand_of slot)
hand_again groups t rows g slot good = at (dec_lt slot 128)
  where
    at : Dec (slot < 128)
        → again_first groups (mail_back t slot) rows g (hand_of slot) ≡ again_first groups t rows g (hand_of slot)
    at (yes p) = same_first groups rows g t (mail_back t slot) (hand_of slot) (hand_stays t good slot p)
    at (no p) =
        past_none groups (mail_back t slot) rows g slot
        (all_rule t good (mailbox_of slot) PENDING Good good (λ pair. (move_all_lem pair).good)) p
        ∙ sym (past_none groups t rows g slot good p)

module _ (s : State) (good : Good s.links) (c : Cursor) where
  trapped_last : (k left e : ℕ) → again_trapped s c (Some k) ≡ Some e
      → last_in (view (handle_crash s.groups (dying (mail_back s.links (slot_at c.group k)) s.rows
      s.pool.turn.counts.losses.dead) c.group (hand_of (slot_at c.group k))).links PENDING) ≡ Some e
  trapped_last k left e is = at (dec_lt (slot_at c.group k) 128)
    where
      Last : Type 0
      Last = last_in (view (handle_crash s.groups (dying (mail_back s.links (slot_at c.group k)) s.rows
          s.pool.turn.counts.losses.dead) c.group (hand_of (slot_at c.group k))).links PENDING)
          ≡ Some e

      at : Dec (slot_at c.group k < 128) → Last
      at (yes p) =
          crash_last s.groups (mail_back s.links (slot_at c.group k)) s.rows c.group
          (hand_of (slot_at c.group k)) e s.pool.turn.counts.losses.dead
          (back_good s.links good (slot_at c.group k) p)
          (λ z. omega (arith, hand_is (slot_at c.group k) p))
          (hand_again s.groups s.links s.rows c.group (slot_at c.group k) good ∙ is)
      at (no p) =
          let nobody = past_none s.groups s.links s.rows c.group (slot_at c.group k) good p in
          let z : ◌≡◌ {A = ℕ} 0 1 = cc nobody in
          absurd (omega arith)

-- what a point tries again is the last of pending when it has run
pub again_last : (s : State) (p : Point) (e : ℕ) → Good s.links → again_at s p ≡ Some e
    → last_in (view (go_of s p).links PENDING) ≡ Some e
unfolding again_at go_of crash_of crash_trapped crash_trapped_key
again_last s (point.Seed g) e good is = let z : ◌≡◌ {A = ℕ} 0 1 = cc in absurd (omega arith)
again_last s (point.Intake left) e good is = let z : ◌≡◌ {A = ℕ} 0 1 = cc in absurd (omega arith)
again_last s (point.Route left) e good is = let z : ◌≡◌ {A = ℕ} 0 1 = cc in absurd (omega arith)
again_last s (point.Wake g clock) e good is = let z : ◌≡◌ {A = ℕ} 0 1 = cc in absurd (omega arith)
again_last s (point.WakeNext g clock left) e good is = let z : ◌≡◌ {A = ℕ} 0 1 = cc in absurd (omega arith)
again_last s (point.Ready g clock pops) e good is = let z : ◌≡◌ {A = ℕ} 0 1 = cc in absurd (omega arith)
again_last s (point.StepEnd c x) e good is = let z : ◌≡◌ {A = ℕ} 0 1 = cc in absurd (omega arith)
again_last s (point.Settle c x) e good is = let z : ◌≡◌ {A = ℕ} 0 1 = cc in absurd (omega arith)
again_last s (point.Crash c) e good is =
    crash_last s.groups s.links s.rows c.group HAND e s.pool.turn.counts.losses.dead good
    (λ z. omega arith) is
again_last s (point.AskTrap c) e good is = let z : ◌≡◌ {A = ℕ} 0 1 = cc in absurd (omega arith)
again_last s (point.CrashTrapped c left) e good is = at (eqb left 0) refl
  where
    by : eqb left 0 ≡ false → (k : Option ℕ) → front_of (keys_at s.keys TRAPPED) ≡ k → again_trapped s c k ≡ Some e
        → last_in (view (go_of s (point.CrashTrapped c left)).links PENDING) ≡ Some e
    by b (Some k) front is = rw (b, front) (trapped_last s good c k left e is)
    by b None front is = let z : ◌≡◌ {A = ℕ} 0 1 = cc in absurd (omega arith)

    at : (b : Bool) → eqb left 0 ≡ b → last_in (view (go_of s (point.CrashTrapped c left)).links PENDING) ≡ Some e
    at true b = let z : ◌≡◌ {A = ℕ} 0 1 = cc in absurd (omega arith)
    at false b = by b (front_of (keys_at s.keys TRAPPED)) refl (rw b at is)

-- a retry leaves the next id
pub retry_next : (w : Wal) (id n : ℕ) → (retry_of w id n).wal.counters.next ≡ w.counters.next
unfolding retry_of retried_at retry_written with_tried extended compacted
retry_next w id n = counted (counts_tries n) refl
  where
    written : (i : ℕ) (t : Bool)
        → leb (w.counters.size + length (retry_line id n)) (length w.bytes) ≡ t
        → (retry_written (with_tried w id i n) id n).wal.counters.next ≡ w.counters.next
    written i true e = cc
    written i false e = cc

    at : (i : ℕ) (t : Bool) → leb (with_tried w id i n).counters.live (length w.bytes) ≡ t
        → (retried_at w id n i).wal.counters.next ≡ w.counters.next
    at i true e =
        let d : retried_at w id n i ≡ retry_written (with_tried w id i n) id n = cc in
        ap (λ x. x.wal.counters.next) d ∙ written i _ refl
    at i false e = cc

    found : (o : Option ℕ) → (retry_found w id n o).wal.counters.next ≡ w.counters.next
    found None = refl
    found (Some i) = at i _ refl

    counted : (t : Bool) → counts_tries n ≡ t → (retry_of w id n).wal.counters.next ≡ w.counters.next
    counted true e =
        let d : retry_of w id n ≡ retry_found w id n (search_row id (open_rows w)) = cc in
        ap (λ x. x.wal.counters.next) d ∙ found (search_row id (open_rows w))
    counted false e = cc
