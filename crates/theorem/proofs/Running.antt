-- A turn that runs: no order goes out, or one, the mark or the retry of a message that was logged and not done. Assumes
-- nothing.
use Rattle.std.specs.Prelude.{Option, Some, None}
use mathlib.Core.Path.{◌≡◌, refl, sym, ap, ◌∙◌, subst}
use mathlib.Core.Bool.{Bool, true, false, false≢true, ◌&&◌}
use mathlib.Core.List.{List, [], ◌∷◌}
use Prim.Native.Nat.{ℕ, suc, ◌+◌, ◌<◌}
use native.Mathlib.Omega.{arith}
use native.Mathlib.Decide.{ℕ_discrete}
use borrow.Author.Tests.{eqb-false, eq-eqb, leb-true, ltb-true}
use lib.Dec.{eqb, leb, ltb}
use lib.ListN.{drop}
use Rattle.text.specs.Format.{ATTEMPTS, Message}
use Rattle.lists.specs.Links.{pick, FREE, Table, len_of, head_of, first_of, move_first, PENDING, OVER}
use Rattle.lists.specs.Family.{count, view}
use Rattle.lists.proofs.Counts.{count_same, count_other, total_one}
use Rattle.lists.proofs.Family.{nowhere_else}
use Rattle.message_log.specs.declared.LogId.{LogId}
use Rattle.message_log.specs.declared.Order.{Order}
use Rattle.message_log.specs.Opening.{remove, retried}
use Rattle.message_log.specs.Log.{Wal, DidMark, mark_of, counts_tries, retry_of}
use Rattle.message_log.specs.Stands.{Stands}
use Rattle.message_log.specs.Recovery as disk
use Rattle.message_log.proofs.RecoveryLaws as log
use Rattle.message_log.proofs.Recovery.{call_tail, call_idle}
use Rattle.message_log.proofs.OpeningLaws.{and_left, and_right}
use Rattle.actor.specs.Messages.{message_at}
use Rattle.points.specs.declared.at.At.{At}
use Rattle.points.specs.declared.at.At.TheVariants as at
use Rattle.points.specs.declared.at.Point.{Point}
use Rattle.points.specs.declared.at.Point.TheVariants as point
use Rattle.turn.specs.declared.state.Disk.{Disk}
use Rattle.turn.specs.declared.state.Disk.TheVariants as order
use Rattle.turn.specs.declared.state.OrderFor.TheVariants as orderFor
use Rattle.turn.specs.declared.state.Limits.{Limits}
use Rattle.turn.specs.State.{State, wal_of, with_pool, with_disk, with_links, is_free, runs_at, running_of, marks_at}
use Rattle.turn.specs.Go.{go_of}
use Rattle.turn.specs.Retry.{again_at, retried_in, retry_logged, retry_entry, ran_of}
use Rattle.turn.specs.Step.{marked, mark_logged, mark_entry, mark_first, mark_at, go_free, step_at}
use Rattle.turn.specs.Step.{turn_step, advanced}
use Rattle.turn.specs.Advance.{GoesOn, here, step}
use Rattle.turn.proofs.Advance.{advances}
use Rattle.theorem.specs.Places.{is_id, id_count, stands, Goes}
use Rattle.theorem.specs.Rail.{last_in, LastTried}
use Rattle.theorem.proofs.Totals.{id_none}
use Rattle.theorem.proofs.Tried.{kept_tried, goes_tried, never_tried, again_tried}
use Rattle.theorem.proofs.Retries.{again_last, retry_next}
use Rattle.theorem.proofs.PlaceMoves.{goes}
use Rattle.theorem.proofs.Steps.{pick_rule}
use Rattle.theorem.specs.Keeping.{PointOk}
use Rattle.theorem.specs.Living.{AtLives}
use Rattle.theorem.proofs.Turn.{StateKeeps, go_keeps}
use Rattle.theorem.proofs.Living.{Less, less_lives, at_less, first_less}
use Rattle.theorem.proofs.LivingTurn.{StateStands, go_lives}
use Rattle.theorem.specs.Handing.{ids_of}
use Rattle.theorem.proofs.Invariant.{Agrees, Working, TailKept, Runs, still, marks, tries, marked_off, retried_as}
use Rattle.theorem.proofs.Ids.{retried_ids}
use Rattle.theorem.proofs.Marks.{GoesOut, mark_goes, mark_sound, mark_tail, ids_marked}

-- ---- the parts of a step

-- what no step changes: the limits, the groups and the body store
pub record Lasting : Type 0 where
  pub limits : Limits
  pub groups : Table
  pub store : List ℕ

abbrev pub lasting_of : State → Lasting
lasting_of s = record { limits = s.pool.limits; groups = s.groups; store = s.store }

-- what no point changes
pub record Aside : Type 0 where
  pub lasting : Lasting
  pub disk : Disk
  pub wal : Wal

abbrev pub aside_of : State → Aside
aside_of s = record { lasting = lasting_of s; disk = s.pool.turn.disk; wal = wal_of s }

pub go_aside : (s : State) (p : Point) → aside_of (go_of s p) ≡ aside_of s
unfolding go_of
go_aside s (point.Seed g) = refl
go_aside s (point.Intake left) = refl
go_aside s (point.Route left) = refl
go_aside s (point.Wake g clock) = refl
go_aside s (point.WakeNext g clock left) = refl
go_aside s (point.Ready g clock pops) = refl
go_aside s (point.StepEnd c e) = refl
go_aside s (point.Settle c e) = refl
go_aside s (point.Crash c) = refl
go_aside s (point.AskTrap c) = refl
go_aside s (point.CrashTrapped c left) = refl

-- and what no mark changes
abbrev pub Stays : State → State → Type 0
Stays s s' = (s'.pool.turn.at ≡ s.pool.turn.at) × (lasting_of s' ≡ lasting_of s)

logged_stays : (s : State) (t : Table) (l : Option LogId) → Stays s (mark_logged (with_links s t) l)
unfolding mark_logged
logged_stays s t (Some id) = (refl, refl)
logged_stays s t None = (refl, refl)

found_stays : (s : State) (f : Option ℕ) → Stays s (mark_entry s f)
found_stays s (Some e) = logged_stays s (move_first s.links OVER FREE) (message_at s.rows e).id
found_stays s None = (refl, refl)

pub mark_stays : (s : State) (p : Point) → Stays s (mark_at s p)
unfolding mark_first
mark_stays s p = pick_rule (Stays s) (marks_at p) (λ e. found_stays s (first_of s.links OVER)) (λ e. (refl, refl))

-- nor what is tried again and written
retried_stays : (s : State) (l : Option LogId) (n : ℕ) → Stays s (retry_logged s l n)
unfolding retry_logged
retried_stays s (Some id) n = (refl, refl)
retried_stays s None n = (refl, refl)

entry_stays : (s : State) (f : Option ℕ) → Stays s (retry_entry s f)
unfolding retry_entry
entry_stays s (Some e) = retried_stays s (message_at s.rows e).id (message_at s.rows e).attempts
entry_stays s None = (refl, refl)

pub ran_stays : (s : State) (p : Point) → Stays (go_of s p) (ran_of s p)
unfolding ran_of
ran_stays s p = entry_stays (go_of s p) (again_at s p)

-- a state that runs is at a point, with no order waiting: what holds of that point's step holds of the state's
pub step_rule : (P : State → Type 0) (s : State) → running_of s.pool ≡ true
    → ((p : Point) → s.pool.turn.at ≡ at.Runs p → s.pool.turn.disk ≡ order.Free → P (go_free (mark_at s p) p))
    → P (turn_step s)
unfolding turn_step running_of
step_rule P s run keeps = go s.pool.turn.disk s.pool.turn.at refl refl run
  where
    go : (d : Disk) (a : At) → s.pool.turn.disk ≡ d → s.pool.turn.at ≡ a
        → (is_free d && runs_at a) ≡ true → P (step_at s a)
    go order.Free at.Rest d-is a-is e = absurd (false≢true e)
    go order.Free (at.Asks a) d-is a-is e = absurd (false≢true e)
    go order.Free (at.Runs p) d-is a-is e = keeps p a-is d-is
    go (order.Waits o for) a d-is a-is e = absurd (false≢true e)
    go order.Failed a d-is a-is e = absurd (false≢true e)

-- ---- what every step of a running turn keeps holds where the turn stops

on_rule : (P : State → Type 0) → ((s : State) → running_of s.pool ≡ true → P s → P (turn_step s)) → (s s' : State)
    → GoesOn s s' → P s → P s'
on_rule P keeps s s' (here _) h = h
on_rule P keeps s s' (step _ _ run on) h = on_rule P keeps (turn_step s) s' on (keeps s run h)

pub advanced_rule : (P : State → Type 0) → ((s : State) → running_of s.pool ≡ true → P s → P (turn_step s))
    → (s : State) → P s → P (advanced s)
advanced_rule P keeps s h = on_rule P keeps s (advanced s) (advances s).0 h

-- so what no step changes stays as it is
module _ (l : Lasting) where
  abbrev Lasts : State → Type 0
  Lasts s = lasting_of s ≡ l

  goes_lasting : (s : State) (p : Point) → Lasts s → Lasts (go_free s p)
  goes_lasting s p is =
      pick_rule Lasts (is_free s.pool.turn.disk)
      (λ e. (ran_stays s p).1 ∙ (ap (λ (a : Aside). a.lasting) (go_aside s p) ∙ is))
      (λ e. is)

  pub run_lasting : (s : State) → Lasts s → Lasts (advanced s)
  run_lasting =
      advanced_rule Lasts
      (λ s run is. step_rule Lasts s run (λ p a f. goes_lasting (mark_at s p) p ((mark_stays s p).1 ∙ is)))

-- ---- no order goes out: every id stands as before

pub moved_works : (long : ℕ) (j : disk.LogWorld) (s s' : State) → Working long j s → aside_of s' ≡ aside_of s
    → StateKeeps s s' → StateStands s' → Working long j s'
moved_works long j s s' works aside went holds = record {
  sound = went.keeps.sound;
  ids = λ x. went.keeps.same x ∙ works.ids x;
  ok = went.ok;
  lives = holds.lives;
  here = holds.ok;
  tried = kept_tried went.keeps j.now (log.sound_stands long j works.journal).stands.tries works.tried;
  wal = works.wal ∙ sym (ap (λ (a : Aside). a.wal) aside);
  agrees = subst (λ (a : Aside). Agrees a.disk j.disk.status a.wal.bytes) (sym aside) works.agrees;
  journal = works.journal;
}

pub point_works : (long : ℕ) (j : disk.LogWorld) (s : State) (p : Point) → s.pool.turn.at ≡ at.Runs p
    → Working long j s → Working long j (go_of s p)
point_works long j s p at-is works =
    moved_works long j s (go_of s p) works (go_aside s p) (go_keeps s p works.sound)
    (go_lives s p works.sound.good works.lives
    (subst (λ a. AtLives a s.links s.keys s.actors) at-is works.here))

-- ---- the first message that is over is free

module _ (long : ℕ) (j : disk.LogWorld) (s : State) (free : s.pool.turn.disk ≡ order.Free) (works : Working long j s)
    (p : Point) (at-is : s.pool.turn.at ≡ at.Runs p) where
  abbrev limit : ℕ
  limit = s.pool.limits.compact_at

  settles : j.disk.status ≡ disk.settled
  settles = subst (λ d. Agrees d j.disk.status s.bytes) free works.agrees

  standing : Stands (wal_of s) j.now
  standing = subst (λ v. Stands v j.now) works.wal (log.sound_stands long j works.journal).stands

  module _ (some : 0 < len_of s.links OVER) where
    abbrev freed : State
    freed = with_links s (move_first s.links OVER FREE)

    shorter : Less s.links freed.links
    shorter = first_less s.links works.sound.good OVER FREE (omega arith)

    gone : Goes s.links s.rows freed.links s.rows s.pool.turn.counts.queued
        (message_at s.rows (head_of s.links OVER)).id
    gone = goes s.links s.rows s.pool.turn.counts.queued works.sound some

    less : (l : Option LogId) → (message_at s.rows (head_of s.links OVER)).id ≡ l → (x : ℕ)
        → stands x freed.links s.rows + pick (is_id x l) 1 0 ≡ stands x s.links s.rows
    less l is x = rw is at (gone.less x)

    -- at a point no step of an actor is under way
    ok : PointOk s.pool.turn.at freed.links
    ok = subst (λ a. PointOk a freed.links) (sym at-is) (omega arith)

    lives : StateStands freed
    lives = record {
      lives = less_lives s.links freed.links s.keys s.actors shorter works.lives;
      ok = at_less s.links freed.links shorter s.keys s.actors s.pool.turn.at works.here;
    }

    -- it was logged: it was not done, and its mark goes out
    module _ (id : LogId) (is : (message_at s.rows (head_of s.links OVER)).id ≡ Some id) where
      abbrev did : DidMark
      did = mark_of limit (wal_of s) id.0

      there : 0 < count id.0 (ids_of j.now)
      there = omega (arith, works.ids id.0, rw (eq-eqb id.0 id.0 refl) at (less (Some id) is id.0))

      out : GoesOut s.pool.turn.counters.next did
      out = mark_goes limit (wal_of s) j.now id.0 standing there

      journal : log.Sound long (disk.issue j did.wal (remove id.0 j.now) (disk.sent did.wal.bytes
          out.order))
      journal =
          subst (λ v. (mark_of limit v id.0).due ≡ Some out.order
          → log.Sound long (disk.issue j (mark_of limit v id.0).wal (remove id.0 j.now)
          (disk.sent (mark_of limit v id.0).wal.bytes out.order)))
          works.wal (mark_sound long limit j id.0 out.order settles works.journal) out.due_is

      abbrev marked_by : Option Order → State
      marked_by d = marked freed id (record { wal = did.wal; due = d })

      abbrev off : State
      off = marked_by (Some out.order)

      stopped : Working long (marked_off j off out.order id) off
      unfolding disk.issue
      stopped = record {
        sound = gone.sound;
        ids = λ x. omega (
          arith,
          less (Some id) is x,
          works.ids x,
          ids_marked id.0 s.pool.turn.counters.next 0 j.now standing.rising there x,
        );
        ok = ok;
        lives = lives.lives;
        here = lives.ok;
        tried = goes_tried id (rw is at gone) j.now works.tried;
        wal = refl;
        agrees = refl;
        journal = journal;
      }

      tail : TailKept j.wal.bytes off
      tail =
          mark_tail limit (wal_of s) j.now id.0 standing
          ∙ ap (λ v. drop did.wal.counters.size v.bytes) (sym works.wal)

      marks_it : Runs long j (marked_by did.due)
      marks_it =
          subst (λ d. Runs long j (marked_by d)) (sym out.due_is)
          (marks out.order id refl there (out.next_is ∙ sym (ap (λ v. v.counters.next) works.wal)) tail
          stopped)

    by_id : (l : Option LogId) → (message_at s.rows (head_of s.links OVER)).id ≡ l → Runs long j (mark_logged freed l)
    unfolding mark_logged
    by_id (Some id) is = marks_it id is
    by_id None is =
        still free (record {
          sound = gone.sound;
          ids = λ x. omega (arith, less None is x, works.ids x);
          ok = ok;
          lives = lives.lives;
          here = lives.ok;
          tried = never_tried (rw is at gone) j.now works.tried;
          wal = works.wal;
          agrees = works.agrees;
          journal = works.journal;
        })

  first_runs : Runs long j (mark_first s)
  unfolding mark_first
  first_runs =
      pick_rule (λ (f : Option ℕ). Runs long j (mark_entry s f)) (eqb (len_of s.links OVER) 0) (λ e. still free works)
      (λ e. by_id (omega (arith, eqb-false (len_of s.links OVER) 0 e))
      (message_at s.rows (head_of s.links OVER)).id refl)

  pub marks_run : Runs long j (mark_at s p)
  marks_run = pick_rule (Runs long j) (marks_at p) (λ e. first_runs) (λ e. still free works)

-- ---- what a point tried again is written

-- the journal after a retry whose order goes out
retry_sound : (long : ℕ) (j : disk.LogWorld) (x n : ℕ) (o : Order) → j.disk.status ≡ disk.settled
    → log.Sound long j → (retry_of j.wal x n).due ≡ Some o
    → log.Sound long (disk.issue j (retry_of j.wal x n).wal (retried x n j.now)
    (disk.sent (retry_of j.wal x n).wal.bytes o))
unfolding disk.step_log disk.called disk.did_call disk.call_effect
retry_sound long j x n o settles sound goes =
    let stepped = subst (λ s. log.Sound long (disk.step_log 0 s j (disk.call (disk.retry x n)))) settles
    (log.step_sound long 0 j (disk.call (disk.retry x n)) sound) in
    subst (λ a. log.Sound long (disk.issued j (disk.retry x n) (retry_of j.wal x n).wal (disk.ordered_due a))) goes
    stepped

-- the log's bytes at and after the new size are as they were
retry_tail : (w : Wal) (ms : List Message) (x n : ℕ) → Stands w ms
    → drop (retry_of w x n).wal.counters.size (retry_of w x n).wal.bytes
    ≡ drop (retry_of w x n).wal.counters.size w.bytes
unfolding disk.did_call
retry_tail w ms x n stands = call_tail 0 w ms (disk.retry x n) stands

-- with no order the log is as it was
retry_idle : (w : Wal) (x n : ℕ) → (retry_of w x n).due ≡ None → (retry_of w x n).wal ≡ w
unfolding disk.did_call
retry_idle w x n is = call_idle 0 w (disk.retry x n) (ap disk.ordered_due is)

-- the last of some entries is one of them
last_there : (es : List ℕ) (e : ℕ) → last_in es ≡ Some e → 0 < count e es
unfolding last_in
last_there [] e is = let z : ◌≡◌ {A = ℕ} 0 1 = cc in absurd (omega arith)
last_there (x ∷ []) e is = let same : x ≡ e = cc in omega (arith, count_same e x [] same)
last_there (x ∷ y ∷ es) e is = at (ℕ_discrete x e) (last_there (y ∷ es) e is)
  where
    at : Dec (x ≡ e) → 0 < count e (y ∷ es) → 0 < count e (x ∷ y ∷ es)
    at (yes p) later = omega (arith, count_same e x (y ∷ es) p)
    at (no p) later = omega (arith, count_other e x (y ∷ es) p)

-- an entry with a log id in a list: the id stands there
id_there : (x : ℕ) (rows : Table) (e : ℕ) (id : LogId) → (message_at rows e).id ≡ Some id → x ≡ id.0 → (es : List ℕ)
    → 0 < count e es → 0 < id_count x rows es
unfolding id_count count
id_there x rows e id own is [] there = there
id_there x rows e id own is (k ∷ es) there = at (ℕ_discrete k e) (id_there x rows e id own is es)
  where
    at : Dec (k ≡ e) → (0 < count e es → 0 < id_count x rows es) → 0 < id_count x rows (k ∷ es)
    at (yes p) later =
        let here : (message_at rows k).id ≡ Some id = ap (λ y. (message_at rows y).id) p ∙ own in
        rw here (rw (eq-eqb id.0 x (sym is)) (omega arith))
    at (no p) later = omega (arith, later (omega (arith, count_other e k es p)))

module _ (long : ℕ) (j : disk.LogWorld) (s : State) (free : s.pool.turn.disk ≡ order.Free) (works : Working long j s)
    (e : ℕ) (last : last_in (view s.links PENDING) ≡ Some e) where
  abbrev n : ℕ
  n = (message_at s.rows e).attempts

  retry_settles : j.disk.status ≡ disk.settled
  retry_settles = subst (λ d. Agrees d j.disk.status s.bytes) free works.agrees

  retry_stands : Stands (wal_of s) j.now
  retry_stands = subst (λ v. Stands v j.now) works.wal (log.sound_stands long j works.journal).stands

  in_pending : 0 < count e (view s.links PENDING)
  in_pending = last_there (view s.links PENDING) e last

  not_free : count e (view s.links FREE) ≡ 0
  not_free = nowhere_else s.links works.sound.good e PENDING FREE (omega arith) in_pending (λ z. omega arith)

  module _ (id : LogId) (own : (message_at s.rows e).id ≡ Some id) where
    abbrev written : DidMark
    written = retry_of (wal_of s) id.0 n

    pub last_among : 0 < count id.0 (ids_of j.now)
    unfolding stands
    last_among =
        omega (
          arith,
          works.ids id.0,
          id_there id.0 s.rows e id own refl (view s.links PENDING) in_pending,
          total_one (id_count id.0 s.rows) 261 (λ (k : ℕ). view s.links (suc k)) 1 (omega arith)
              (id_none id.0 s.rows),
        )

    abbrev wrote_by : Option Order → State
    wrote_by d = retried_in s id (record { wal = written.wal; due = d })

    -- its order goes out
    module _ (o : Order) (goes : written.due ≡ Some o) where
      counts : counts_tries n ≡ true
      unfolding retry_of
      counts = at (counts_tries n) refl
        where
          at : (b : Bool) → counts_tries n ≡ b → counts_tries n ≡ true
          at true c = c
          at false c = let z : ◌≡◌ {A = ℕ} 0 1 = cc goes in absurd (omega arith)

      abbrev wrote : State
      wrote = wrote_by (Some o)

      lasts : LastTried wrote j.now
      unfolding counts_tries
      lasts = record {
        entry = e;
        last = last;
        id = id;
        own = own;
        among = last_among;
        told = ltb-true 0 n (and_left (ltb 0 n) (leb n ATTEMPTS) counts);
        most = leb-true n ATTEMPTS (and_right (ltb 0 n) (leb n ATTEMPTS) counts);
      }

      journal_is : log.Sound long
          (disk.issue j written.wal (retried id.0 n j.now) (disk.sent written.wal.bytes o))
      journal_is =
          subst (λ v. (retry_of v id.0 n).due ≡ Some o
          → log.Sound long (disk.issue j (retry_of v id.0 n).wal (retried id.0 n j.now)
          (disk.sent (retry_of v id.0 n).wal.bytes o)))
          works.wal (retry_sound long j id.0 n o retry_settles works.journal) goes

      stopped_works : Working long (retried_as j wrote o id n) wrote
      unfolding disk.issue
      stopped_works = record {
        sound = works.sound;
        ids = λ x. works.ids x ∙ ap (count x) (sym (retried_ids id.0 n j.now));
        ok = works.ok;
        lives = works.lives;
        here = works.here;
        tried = again_tried s.links s.rows id e n not_free own (omega arith) j.now works.tried;
        wal = refl;
        agrees = refl;
        journal = journal_is;
      }

      wrote_tail : TailKept j.wal.bytes wrote
      wrote_tail =
          retry_tail (wal_of s) j.now id.0 n retry_stands
          ∙ ap (λ v. drop written.wal.counters.size v.bytes) (sym works.wal)

      wrote_runs : Runs long j wrote
      unfolding lasts
      wrote_runs =
          tries o (orderFor.Retry id) lasts refl
          (retry_next (wal_of s) id.0 n ∙ sym (ap (λ v. v.counters.next) works.wal)) wrote_tail stopped_works

    -- it has none: nothing changed
    unwritten : written.due ≡ None → wrote_by None ≡ s
    unwritten none =
        let same : written.wal ≡ wal_of s = retry_idle (wal_of s) id.0 n none in
        ap (λ (v : Wal). retried_in s id (record { wal = v; due = None })) same
        ∙ ap (λ d. with_pool s (with_disk s.pool s.pool.turn.counters d)) (sym free)

    logged_runs : Runs long j (wrote_by written.due)
    logged_runs = at written.due refl
      where
        at : (d : Option Order) → written.due ≡ d → Runs long j (wrote_by written.due)
        at (Some o) is = subst (λ d. Runs long j (wrote_by d)) (sym is) (wrote_runs o is)
        at None is =
            subst (λ d. Runs long j (wrote_by d)) (sym is)
            (subst (Runs long j) (sym (unwritten is)) (still free works))

  pub entry_runs : Runs long j (retry_entry s (Some e))
  unfolding retry_entry retry_logged
  entry_runs = at (message_at s.rows e).id refl
    where
      at : (l : Option LogId) → (message_at s.rows e).id ≡ l → Runs long j (retry_logged s (message_at s.rows e).id n)
      at (Some id) is = subst (λ l. Runs long j (retry_logged s l n)) (sym is) (logged_runs id is)
      at None is = subst (λ l. Runs long j (retry_logged s l n)) (sym is) (still free works)

-- the point runs, and what it tried again is written
ran_runs : (long : ℕ) (j : disk.LogWorld) (s : State) (p : Point) → s.pool.turn.at ≡ at.Runs p
    → s.pool.turn.disk ≡ order.Free → Working long j s → Runs long j (ran_of s p)
unfolding ran_of retry_entry
ran_runs long j s p at-is free works = go (again_at s p) refl
  where
    went : Working long j (go_of s p)
    went = point_works long j s p at-is works

    stays : (go_of s p).pool.turn.disk ≡ order.Free
    stays = ap (λ (a : Aside). a.disk) (go_aside s p) ∙ free

    go : (f : Option ℕ) → again_at s p ≡ f → Runs long j (retry_entry (go_of s p) (again_at s p))
    go (Some e) is =
        subst (λ f. Runs long j (retry_entry (go_of s p) f)) (sym is)
        (entry_runs long j (go_of s p) stays went e (again_last s p e works.sound.good is))
    go None is = subst (λ f. Runs long j (retry_entry (go_of s p) f)) (sym is) (still stays went)

-- ---- a step, and a run

-- the point runs, unless an order waits
free_runs : (long : ℕ) (j : disk.LogWorld) (s : State) (p : Point) → s.pool.turn.at ≡ at.Runs p → Runs long j s
    → Runs long j (go_free s p)
free_runs long j s p at-is (still free works) =
    subst (λ d. Runs long j (pick (is_free d) (ran_of s p) s)) (sym free) (ran_runs long j s p at-is free works)
free_runs long j s p at-is (marks o id waits there next tail works) =
    subst (λ d. Runs long j (pick (is_free d) (ran_of s p) s)) (sym waits) (marks o id waits there next tail works)
free_runs long j s p at-is (tries o for l waits next tail works) =
    subst (λ d. Runs long j (pick (is_free d) (ran_of s p) s)) (sym waits) (tries o for l waits next tail works)

pub step_runs : (long : ℕ) (j : disk.LogWorld) (s : State) → running_of s.pool ≡ true → Runs long j s
    → Runs long j (turn_step s)
step_runs long j s run (still free works) =
    step_rule (Runs long j) s run
    (λ p at-is is. free_runs long j (mark_at s p) p ((mark_stays s p).0 ∙ at-is) (marks_run long j s free works p at-is))
step_runs long j s run (marks o id waits there next tail works) =
    step_rule (Runs long j) s run
    (λ p at-is free. absurd (false≢true (sym (ap is_free waits) ∙ ap is_free free)))
step_runs long j s run (tries o for l waits next tail works) =
    step_rule (Runs long j) s run
    (λ p at-is free. absurd (false≢true (sym (ap is_free waits) ∙ ap is_free free)))

pub run_runs : (long : ℕ) (j : disk.LogWorld) (s : State) → s.pool.turn.disk ≡ order.Free → Working long j s
    → Runs long j (advanced s)
run_runs long j s free works = advanced_rule (Runs long j) (step_runs long j) s (still free works)
