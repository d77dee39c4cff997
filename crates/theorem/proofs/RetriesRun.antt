-- What holds of a message's attempts while a turn runs: as many as before, written, or without room. Assumes nothing.
use Rattle.std.specs.Prelude.{Option, Some, None}
use mathlib.Core.Path.{◌≡◌, refl, sym, ap, ◌∙◌, subst}
use mathlib.Core.Bool.{Bool, true, false, false≢true, ◌&&◌}
use mathlib.Core.Logic.{◌≢◌}
use mathlib.Core.List.{List}
use Prim.Native.Nat.{ℕ, ◌+◌, ◌<◌, ◌≤◌}
use native.Mathlib.Omega.{arith}
use native.Mathlib.Decide.{dec_lt, ℕ_discrete}
use borrow.Author.Tests.{leb-false, lt-ltb, le-leb}
use lib.Dec.{eqb, leb, ltb}
use lib.ListN.{length}
use Rattle.text.specs.Format.{ATTEMPTS, Message, retry_line}
use Rattle.lists.specs.Links.{Table, FREE, PENDING, OVER, HAND, capped, first_of, move_first, hand_of}
use Rattle.lists.specs.KeyLists.{keys_at, front_of}
use Rattle.lists.specs.Family.{count, view, Good}
use Rattle.message_log.specs.declared.LogId.{LogId}
use Rattle.message_log.specs.declared.Order.{Order}
use Rattle.message_log.specs.Opening.{retried, image}
use Rattle.message_log.specs.Log.{Wal, open_rows, search_row, with_tried, retry_written, retried_at, retry_found, counts_tries}
use Rattle.message_log.specs.Log.{retry_of}
use Rattle.message_log.specs.Stands.{Stands}
use Rattle.message_log.specs.Recovery as disk
use Rattle.message_log.proofs.RecoveryLaws as log
use Rattle.message_log.proofs.SearchLaws.{open_finds}
use Rattle.message_log.proofs.Steps.{tried_laid}
use Rattle.actor.specs.Messages.{message_at, put_message, tried_of}
use Rattle.actor.proofs.Back.{message_put, message_other}
use Rattle.points.specs.declared.at.At.TheVariants as at
use Rattle.points.specs.declared.at.Point.{Point}
use Rattle.points.specs.declared.at.Point.TheVariants as point
use Rattle.group.specs.Settings.{group_at}
use Rattle.group.specs.Roster.{TRAPPED, slot_at}
use Rattle.tick.specs.Crash.{dying, again_found, again_first, crashed_entry, crashed_found, handle_crash, crash_of}
use Rattle.tick.specs.Crash.{mail_back, crash_trapped_key, crash_trapped}
use Rattle.turn.specs.declared.state.Disk.{Disk}
use Rattle.turn.specs.declared.state.Disk.TheVariants as order
use Rattle.turn.specs.declared.state.OrderFor.TheVariants as orderFor
use Rattle.turn.specs.State.{State, wal_of, with_links, is_free, running_of, marks_at}
use Rattle.turn.specs.Go.{go_of}
use Rattle.turn.specs.Retry.{again_trapped, again_at, retried_in, retry_logged, retry_entry, ran_of}
use Rattle.turn.specs.Step.{mark_logged, mark_entry, mark_first, mark_at, go_free, turn_step, advanced}
use Rattle.theorem.specs.Rail.{last_in}
use Rattle.theorem.specs.Handing.{ids_of}
use Rattle.theorem.specs.Retries.{attempts_in}
use Rattle.theorem.proofs.Steps.{pick_rule}
use Rattle.theorem.proofs.Totals.{row_past}
use Rattle.theorem.proofs.Turn.{go_keeps}
use Rattle.theorem.proofs.Invariant.{Working, Runs, still, marks, tries}
use Rattle.theorem.proofs.Replies.{from}
use Rattle.theorem.proofs.Marks.{row_found}
use Rattle.theorem.proofs.Retries.{found_again, again_last, hand_again}
use Rattle.theorem.proofs.Running.{Aside, go_aside, mark_stays, step_rule, advanced_rule, point_works}
use Rattle.theorem.proofs.Running.{marks_run, last_among, step_runs}
use Rattle.theorem.proofs.GroupsKept.{InGroups, marked_in, step_in, again_few, one_more}

-- ---- which row a point changes

-- the rows with one attempt more of an entry
abbrev tried_in : Table → ℕ → Table
tried_in rows e = put_message rows e (tried_of (message_at rows e))

module _ (groups t rows : Table) (g from dead : ℕ) where
  -- a message that is not tried again leaves the rows ..
  dead_rows : (f : Option ℕ) → again_found groups rows g f ≡ None
      → (crashed_found groups (dying t rows dead) g from f).rows ≡ rows
  unfolding crashed_entry
  dead_rows None is = refl
  dead_rows (Some x) is = at (ltb (message_at rows x).attempts (group_at groups g).retry) refl
    where
      at : (b : Bool) → ltb (message_at rows x).attempts (group_at groups g).retry ≡ b
          → (crashed_found groups (dying t rows dead) g from (Some x)).rows ≡ rows
      at true b = let z : ◌≡◌ {A = ℕ} 0 1 = cc in absurd (omega arith)
      at false b = rw b refl

  -- .. and one that is has one attempt more
  again_rows : (f : Option ℕ) (e : ℕ) → again_found groups rows g f ≡ Some e
      → (crashed_found groups (dying t rows dead) g from f).rows ≡ tried_in rows e
  unfolding crashed_entry
  again_rows f e is =
      let both = found_again groups rows g e f is in
      ap (λ x. (crashed_found groups (dying t rows dead) g from x).rows) both.0 ∙ rw both.1 refl

-- the rows by what is tried again
abbrev rows_by : Table → Option ℕ → Table
rows_by rows (Some e) = tried_in rows e
rows_by rows None = rows

crash_rows : (groups t rows : Table) (g from dead : ℕ) (f : Option ℕ) → again_first groups t rows g from ≡ f
    → (handle_crash groups (dying t rows dead) g from).rows ≡ rows_by rows f
unfolding handle_crash again_first
crash_rows groups t rows g from dead (Some e) is = again_rows groups t rows g from dead (first_of t from) e is
crash_rows groups t rows g from dead None is = dead_rows groups t rows g from dead (first_of t from) is

-- a point changes the row of what it tries again, and no other
go_rows : (s : State) (p : Point) (f : Option ℕ) → Good s.links → again_at s p ≡ f
    → (go_of s p).rows ≡ rows_by s.rows f
unfolding again_at go_of crash_of crash_trapped crash_trapped_key
go_rows s (point.Seed g) f good is = ap (rows_by s.rows) is
go_rows s (point.Intake left) f good is = ap (rows_by s.rows) is
go_rows s (point.Route left) f good is = ap (rows_by s.rows) is
go_rows s (point.Wake g clock) f good is = ap (rows_by s.rows) is
go_rows s (point.WakeNext g clock left) f good is = ap (rows_by s.rows) is
go_rows s (point.Ready g clock pops) f good is = ap (rows_by s.rows) is
go_rows s (point.StepEnd c x) f good is = ap (rows_by s.rows) is
go_rows s (point.Settle c x) f good is = ap (rows_by s.rows) is
go_rows s (point.Crash c) f good is =
    crash_rows s.groups s.links s.rows c.group HAND s.pool.turn.counts.losses.dead f is
go_rows s (point.AskTrap c) f good is = ap (rows_by s.rows) is
go_rows s (point.CrashTrapped c left) f good is = at (eqb left 0) refl
  where
    by : eqb left 0 ≡ false → (k : Option ℕ) → front_of (keys_at s.keys TRAPPED) ≡ k → again_trapped s c k ≡ f
        → (go_of s (point.CrashTrapped c left)).rows ≡ rows_by s.rows f
    by b (Some k) front is =
        rw (b, front)
        (crash_rows s.groups (mail_back s.links (slot_at c.group k)) s.rows c.group
        (hand_of (slot_at c.group k)) s.pool.turn.counts.losses.dead f
        (hand_again s.groups s.links s.rows c.group (slot_at c.group k) good ∙ is))
    by b None front is = rw (b, front) (ap (rows_by s.rows) is)

    at : (b : Bool) → eqb left 0 ≡ b → (go_of s (point.CrashTrapped c left)).rows ≡ rows_by s.rows f
    at true b = rw b (ap (rows_by s.rows) (rw b at is))
    at false b = by b (front_of (keys_at s.keys TRAPPED)) refl (rw b at is)

-- a mark changes none
logged_rows : (s : State) (t : Table) (l : Option LogId) → (mark_logged (with_links s t) l).rows ≡ s.rows
unfolding mark_logged
logged_rows s t (Some id) = refl
logged_rows s t None = refl

found_rows : (s : State) (f : Option ℕ) → (mark_entry s f).rows ≡ s.rows
found_rows s (Some e) = logged_rows s (move_first s.links OVER FREE) (message_at s.rows e).id
found_rows s None = refl

mark_rows : (s : State) (p : Point) → (mark_at s p).rows ≡ s.rows
unfolding mark_first
mark_rows s p =
    pick_rule (λ (x : State). x.rows ≡ s.rows) (marks_at p) (λ e. found_rows s (first_of s.links OVER)) (λ e. refl)

-- nor does a retry that is written
wrote_rows : (s : State) (f : Option ℕ) → (retry_entry s f).rows ≡ s.rows
unfolding retry_entry retry_logged
wrote_rows s (Some e) = at (message_at s.rows e).id
  where
    at : (l : Option LogId) → (retry_logged s l (message_at s.rows e).attempts).rows ≡ s.rows
    at (Some id) = refl
    at None = refl
wrote_rows s None = refl

-- one attempt more is at least one
capped_some : (n : ℕ) → 0 < capped (n + 1)
capped_some n = omega arith

-- ---- with no order there was no room

-- the retry of an open id, of a number that a line says, is written if the messages with it fit into the log
retry_unwritten : (w : Wal) (ms : List Message) (x n : ℕ) → Stands w ms → 0 < count x (ids_of ms) → 0 < n
    → n ≤ ATTEMPTS → (retry_of w x n).due ≡ None → length w.bytes < length (image (retried x n ms))
unfolding retry_of retried_at retry_written counts_tries
retry_unwritten w ms x n stands there told most idle =
    at (leb (with_tried w x i n).counters.live (length w.bytes)) refl
  where
    place : (k : ℕ) × (search_row x (open_rows w) ≡ Some k)
    place =
        let found = row_found x w.counters.size w.bytes ms (open_rows w) 0 0 stands.tabled there in
        (found.0, open_finds w ms stands x ∙ found.1)

    i : ℕ
    i = place.0

    counts : counts_tries n ≡ true
    counts = ap (λ b. b && leb n ATTEMPTS) (lt-ltb 0 n told) ∙ le-leb n ATTEMPTS most

    written : retry_of w x n ≡ retried_at w x n i
    written =
        let d : retry_of w x n ≡ retry_found w x n (search_row x (open_rows w)) = cc counts in
        d ∙ ap (retry_found w x n) place.1

    live : (with_tried w x i n).counters.live ≡ length (image (retried x n ms))
    live = (tried_laid w ms stands x i (sym (open_finds w ms stands x) ∙ place.1) n told most).live

    ordered : (b : Bool)
        → leb ((with_tried w x i n).counters.size + length (retry_line x n)) (length (with_tried w x i n).bytes) ≡ b
        → (retry_written (with_tried w x i n) x n).due ≢ None
    ordered true b is = let z : ◌≡◌ {A = ℕ} 0 1 = cc in absurd (omega arith)
    ordered false b is = let z : ◌≡◌ {A = ℕ} 0 1 = cc in absurd (omega arith)

    at : (b : Bool) → leb (with_tried w x i n).counters.live (length w.bytes) ≡ b
        → length w.bytes < length (image (retried x n ms))
    at true b =
        let d : retried_at w x n i ≡ retry_written (with_tried w x i n) x n = cc in
        absurd (ordered _ refl (sym (ap (λ y. y.due) (written ∙ d)) ∙ idle))
    at false b = omega (arith, leb-false (with_tried w x i n).counters.live (length w.bytes) b, live)

-- ---- what holds of an entry while a turn runs

-- the entry's message is logged under id, and had n₀ attempts when the run began, with the journal j
module _ (long : ℕ) (j : disk.LogWorld) (e : ℕ) (id : LogId) (n₀ : ℕ) where
  -- it has as many still; or no more than a line says, and the log had no room for these; or their order waits, and it
  -- is the last of pending
  pub data Tells (s : State) : Type 0 where
    as_before : attempts_in s e ≡ n₀ → Tells s
    no_room : attempts_in s e ≤ ATTEMPTS
        → length j.wal.bytes < length (image (retried id.0 (attempts_in s e) j.now)) → Tells s
    goes_out : attempts_in s e ≤ ATTEMPTS → (o : Order) → s.pool.turn.disk ≡ order.Waits o (orderFor.Retry id)
        → last_in (view s.links PENDING) ≡ Some e → Tells s

  -- the entry is the id's own
  abbrev pub Owns : State → Type 0
  Owns s = (message_at s.rows e).id ≡ Some id

  -- a state whose row of the entry is the same, of one where no order waits
  row_tells : (s s' : State) → s.pool.turn.disk ≡ order.Free → message_at s'.rows e ≡ message_at s.rows e
      → Tells s → Tells s'
  row_tells s s' free row (as_before is) = as_before (ap (λ m. m.attempts) row ∙ is)
  row_tells s s' free row (no_room few more) =
      no_room (omega (arith, ap (λ m. m.attempts) row, few))
      (subst (λ n. length j.wal.bytes < length (image (retried id.0 n j.now)))
      (sym (ap (λ m. m.attempts) row)) more)
  row_tells s s' free row (goes_out few o waits last) = absurd (false≢true (sym (ap is_free waits) ∙ ap is_free free))

  -- what was tried again is written, or there was no room
  module _ (s : State) (free : s.pool.turn.disk ≡ order.Free) (works : Working long j s) (owns : Owns s)
      (last : last_in (view s.links PENDING) ≡ Some e) (some : 0 < attempts_in s e)
      (few : attempts_in s e ≤ ATTEMPTS) where
    standing : Stands (wal_of s) j.now
    standing = subst (λ v. Stands v j.now) works.wal (log.sound_stands long j works.journal).stands

    abbrev wrote_by : Option Order → State
    wrote_by d = retried_in s id (record { wal = (retry_of (wal_of s) id.0 (attempts_in s e)).wal; due = d })

    wrote_tells : (d : Option Order) → (retry_of (wal_of s) id.0 (attempts_in s e)).due ≡ d → Tells (wrote_by d)
    wrote_tells (Some o) is = goes_out few o refl last
    wrote_tells None is =
        no_room few
        (subst (λ (v : Wal). length v.bytes < length (image (retried id.0 (attempts_in s e) j.now)))
        (sym works.wal)
        (retry_unwritten (wal_of s) j.now id.0 (attempts_in s e) standing
        (last_among long j s free works e last id owns) some few is))

    entry_tells : Tells (retry_entry s (Some e))
    unfolding retry_entry retry_logged
    entry_tells =
        subst (λ l. Tells (retry_logged s l (attempts_in s e))) (sym owns)
        (wrote_tells (retry_of (wal_of s) id.0 (attempts_in s e)).due refl)

  -- a point, and what it tried again
  module _ (s : State) (p : Point) (at-is : s.pool.turn.at ≡ at.Runs p) (free : s.pool.turn.disk ≡ order.Free)
      (works : Working long j s) (within : InGroups s) (owns : Owns s) (before : Tells s) where
    went : Working long j (go_of s p)
    went = point_works long j s p at-is works

    stays : (go_of s p).pool.turn.disk ≡ order.Free
    stays = ap (λ (a : Aside). a.disk) (go_aside s p) ∙ free

    -- no row changed, or another one
    other_tells : (f : Option ℕ) → message_at (go_of s p).rows e ≡ message_at s.rows e
        → Tells (retry_entry (go_of s p) f)
    other_tells f row =
        row_tells s (retry_entry (go_of s p) f) free (ap (λ r. message_at r e) (wrote_rows (go_of s p) f) ∙ row) before

    -- its own row
    own_tells : again_at s p ≡ Some e → Tells (retry_entry (go_of s p) (Some e))
    own_tells is = at (dec_lt e (length s.rows))
      where
        rows : (go_of s p).rows ≡ tried_in s.rows e
        rows = go_rows s p (Some e) works.sound.good is

        at : Dec (e < length s.rows) → Tells (retry_entry (go_of s p) (Some e))
        at (yes inside) =
            let row : message_at (go_of s p).rows e ≡ tried_of (message_at s.rows e) =
            ap (λ r. message_at r e) rows ∙ message_put s.rows e (tried_of (message_at s.rows e)) inside in
            entry_tells (go_of s p) stays went (ap (λ m. m.id) row ∙ owns)
            (again_last s p e works.sound.good is)
            (omega (arith, ap (λ m. m.attempts) row, capped_some (message_at s.rows e).attempts))
            (omega (
              arith,
              ap (λ m. m.attempts) row,
              one_more (message_at s.rows e).attempts (again_few s within e p at-is is),
            ))
        at (no outside) =
            other_tells (Some e)
            (ap (λ r. message_at r e) (rows ∙ row_past s.rows e (tried_of (message_at s.rows e)) (omega arith)))

    ran_tells : Tells (ran_of s p)
    unfolding ran_of
    ran_tells = go (again_at s p) refl
      where
        go : (f : Option ℕ) → again_at s p ≡ f → Tells (retry_entry (go_of s p) (again_at s p))
        go None is =
            other_tells (again_at s p)
            (ap (λ r. message_at r e) (go_rows s p None works.sound.good is))
        go (Some k) is = at (ℕ_discrete k e)
          where
            at : Dec (k ≡ e) → Tells (retry_entry (go_of s p) (again_at s p))
            at (yes same) =
                let own : again_at s p ≡ Some e = is ∙ ap Some same in
                subst (λ f. Tells (retry_entry (go_of s p) f)) (sym own) (own_tells own)
            at (no other) =
                other_tells (again_at s p)
                (ap (λ r. message_at r e) (go_rows s p (Some k) works.sound.good is)
                ∙ message_other s.rows k (tried_of (message_at s.rows k)) e (λ z. other (sym z)))

  -- ---- a step, and a run

  -- what holds while the turn runs, and where it stops
  pub record Follows (s : State) : Type 0 where
    pub runs : Runs long j s
    pub within : InGroups s
    pub owns : Owns s
    pub tells : Tells s

  -- where no order waits the run has ordered nothing
  runs_free : (s : State) → Runs long j s → s.pool.turn.disk ≡ order.Free → Working long j s
  runs_free s (still was works) free = works
  runs_free s (marks o x waits there next tail works) free =
      absurd (false≢true (sym (ap is_free waits) ∙ ap is_free free))
  runs_free s (tries o for l waits next tail works) free =
      absurd (false≢true (sym (ap is_free waits) ∙ ap is_free free))

  free_is : (d : Disk) → is_free d ≡ true → d ≡ order.Free
  free_is order.Free is = refl
  free_is (order.Waits o for) is = absurd (false≢true is)
  free_is order.Failed is = absurd (false≢true is)

  -- the point of a state that has marked
  module _ (s : State) (p : Point) (at-is : s.pool.turn.at ≡ at.Runs p) (free : s.pool.turn.disk ≡ order.Free)
      (h : Follows s) where
    abbrev marked : State
    marked = mark_at s p

    works : Working long j s
    works = runs_free s h.runs free

    marked_owns : Owns marked
    marked_owns = ap (λ r. (message_at r e).id) (mark_rows s p) ∙ h.owns

    marked_tells : Tells marked
    marked_tells = row_tells s marked free (ap (λ r. message_at r e) (mark_rows s p)) h.tells

    marked_works : marked.pool.turn.disk ≡ order.Free → Working long j marked
    marked_works is = runs_free marked (marks_run long j s free works p at-is) is

    goes_owns : Owns (go_free marked p)
    unfolding ran_of
    goes_owns =
        pick_rule Owns (is_free marked.pool.turn.disk)
        (λ is. ap (λ r. (message_at r e).id) (wrote_rows (go_of marked p) (again_at marked p))
        ∙ ((go_keeps marked p (marked_works (free_is marked.pool.turn.disk is)).sound).keeps.named e
        ∙ marked_owns))
        (λ is. marked_owns)

    goes_tells : Tells (go_free marked p)
    goes_tells =
        pick_rule Tells (is_free marked.pool.turn.disk)
        (λ is. let None = free_is marked.pool.turn.disk is in
        ran_tells marked p ((mark_stays s p).0 ∙ at-is) None (marked_works None) (marked_in s p h.within)
        marked_owns marked_tells)
        (λ is. marked_tells)

  step_follows : (s : State) → running_of s.pool ≡ true → Follows s → Follows (turn_step s)
  step_follows s run h = record {
    runs = step_runs long j s run h.runs;
    within = step_in s run h.within;
    owns = step_rule Owns s run (λ p at-is free. goes_owns s p at-is free h);
    tells = step_rule Tells s run (λ p at-is free. goes_tells s p at-is free h);
  }

  pub run_follows : (s : State) → s.pool.turn.disk ≡ order.Free → Working long j s → InGroups s → Owns s
      → attempts_in s e ≡ n₀ → Follows (advanced s)
  run_follows s free works within owns is =
      advanced_rule Follows step_follows s
      (record { runs = still free works; within = within; owns = owns; tells = as_before is })
