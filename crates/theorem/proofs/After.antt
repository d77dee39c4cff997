-- How a call ends: refused, with the state as it was, or accepted, with the invariant and the log's bytes behind its
-- size kept and an order that fits the call; what an order for a mark changes; and what a call may lean on where its
-- table refuses nothing. Assumes nothing.
use Rattle.std.specs.Prelude.{Result, Err, Ok}
use mathlib.Core.Path.{◌≡◌, refl, sym, ap, ◌∙◌, subst}
use mathlib.Core.Bool.{true, false, ◌&&◌}
use mathlib.Core.List.{List, [], ◌∷◌, ◌++◌, append-nil}
use mathlib.Core.Logic.{inl, inr}
use Prim.Native.Nat.{ℕ, ◌+◌, ◌≤◌, ◌<◌}
use native.Mathlib.Omega.{arith}
use native.Mathlib.Decide.{ℕ_discrete}
use borrow.Author.Tests.{eq-eqb, ne_eqb, not-false}
use lib.ListN.{length, drop}
use Rattle.text.specs.Format.{Message}
use Rattle.lists.specs.Family.{count}
use Rattle.message_log.specs.Opening.{remove, retried}
use Rattle.message_log.specs.declared.Order.{Order}
use Rattle.actor.specs.Messages.{logged_number, message_at}
use Rattle.actor.specs.declared.question.Reply.{Reply}
use Rattle.turn.specs.declared.state.Disk.{Disk}
use Rattle.turn.specs.declared.state.Disk.TheVariants as order
use Rattle.message_log.specs.Recovery as disk
use Rattle.message_log.proofs.RecoveryLaws as sound
use Rattle.theorem.specs.Handing.{ids_of}
use Rattle.theorem.proofs.Steps.{pick_rule}
use Rattle.turn.specs.declared.state.Limits.{Limits}
use Rattle.turn.specs.State.{Pool, State, wal_of}
use Rattle.turn.specs.Asks.{open_in}
use Rattle.answers.specs.declared.answer.Refusal.{Refusal}
use Rattle.answers.specs.declared.answer.Answer.{Answer}
use Rattle.answers.specs.declared.answer.Answer.TheVariants as answer
use Rattle.answers.specs.Answers.{Did, refused, shown}
use Rattle.answers.specs.Refusals.{judged, by_table, in_turn, is_message, fits_in, no_entry_free}
use Rattle.answers.specs.Refusals.{turn_refusals, reply_refusals, sync_refusals}
use Rattle.pool.specs.Run.{answered_of}
use Rattle.theorem.specs.Rail.{Call, World, in_places, turn_effect, moved, unordered, Shown}
use Rattle.theorem.specs.Rail.{nothing, shows, orders_in, order_shown}
use Rattle.theorem.specs.Rail.{of_turn, purpose_of, out_of_places, tried_as, LastTried, TurnFits}
use Rattle.theorem.specs.Rail.{OrderFits, ordered_for, ordered, answered}
use Rattle.theorem.specs.Rail.{accepted}
use Rattle.theorem.specs.Rail.{step_did}
use Rattle.theorem.proofs.Ids.{gone_same, gone_other, retried_ids, count_snoc}
use Rattle.theorem.proofs.Left.{none_out, retried_none, marked_in, marked_out, marked_one}
use Rattle.answers.proofs.RefusalLaws.{fine_clear}
use Rattle.theorem.proofs.Refusals.{is_free_lem}
use Rattle.theorem.proofs.Invariant.{Ledger, Working, TailKept, Runs, still, marks, tries, marked_off, retried_as}
use Rattle.theorem.proofs.Invariant.{Steady}

-- an id that was logged and not done is done
marked_ledger : (j j' : disk.LogWorld) (top : ℕ) (logged done : List ℕ) (id : ℕ) → Ledger j top logged done
    → 0 < count id (ids_of j.now)
    → j'.now ≡ remove id j.now → j'.wal.counters.next ≡ j.wal.counters.next
    → Ledger j' top logged (done ++ (id ∷ []))
marked_ledger j j' top logged done id old there now next = record {
  next_is = old.next_is ∙ sym next;
  adds = λ x. rw now (adds x (ℕ_discrete x id));
  once = old.once;
  below = λ x some. omega (arith, old.below x some);
}
  where
    adds : (x : ℕ) → Dec (x ≡ id) → count x (ids_of (remove id j.now)) + count x (done ++ (id ∷ [])) ≡ count x logged
    adds x (yes p) = rw p (omega (
      arith,
      gone_same id j.now,
      rw (eq-eqb id id refl) at (count_snoc id id done),
      old.adds id,
      old.once id,
    ))
    adds x (no p) = omega (
      arith,
      gone_other id x j.now p,
      rw (ne_eqb id x (λ z. p (sym z))) at
          (count_snoc x id done),
      old.adds x,
    )

-- an id is open at most once
open_once : (j : disk.LogWorld) {top : ℕ} {logged done : List ℕ} → Ledger j top logged done → (x : ℕ)
    → count x (ids_of j.now) ≤ 1
open_once j old x = omega (arith, old.adds x, old.once x)

-- ---- a call of the log

-- with no order out, a call of the log keeps what holds of the journal
pub call_sound : (long : ℕ) (j : disk.LogWorld) → sound.Sound long j → j.disk.status ≡ disk.settled
    → (c : disk.LogCall)
    → sound.Sound long (disk.called j c (disk.did_call 0 j.wal c))
unfolding disk.step_log
call_sound long j good settled c = subst (λ q. sound.Sound long (disk.step_log 0 q j (disk.call c))) settled
    (sound.step_sound long 0 j (disk.call c) good)

-- ---- how a call ends

-- the order that waits, as the pool has it
abbrev pub order_of : Disk → Shown
order_of order.Free = nothing
order_of (order.Waits o for) = shows o
order_of order.Failed = nothing

-- the world by the pool's own order; the answer shows the same one (Shown)
abbrev pub ordered_in : Call → World → State → disk.LogWorld → Disk → World
ordered_in c w s j d = ordered c w s j (order_of d)

-- a call whose orders are marks and retries
abbrev pub Marking : World → Call → Type 0
Marking w c =
    (purpose_of c ≡ of_turn)
    × ((s : State) (o : Shown) → TurnFits s w.journal.now o → OrderFits w c s o)

-- after a retry no message is out of the places, and the last of pending has its attempts in the log
pub retried_effect : (s : State) (now : List Message) (l : LastTried s now) → out_of_places s now ≡ []
    → turn_effect s now ≡ retried l.id.0 (message_at s.rows l.entry).attempts now
retried_effect s now l none =
    rw (ap length none)
    (ap (λ f. tried_as s f now) l.last
    ∙ ap (λ x. retried (logged_number x) (message_at s.rows l.entry).attempts now) l.own)

-- after a mark one is
pub marked_effect : (s : State) (now left : List Message) → length (out_of_places s now) ≡ 1 → in_places s now ≡ left
    → turn_effect s now ≡ left
marked_effect s now left one is = rw one is

-- a retry leaves every id as it was
retried_ledger : (j j' : disk.LogWorld) (top : ℕ) (logged done : List ℕ) (x n : ℕ) → Ledger j top logged done
    → j'.now ≡ retried x n j.now → j'.wal.counters.next ≡ j.wal.counters.next → Ledger j' top logged done
retried_ledger j j' top logged done x n old now next = record {
  next_is = old.next_is ∙ sym next;
  adds = λ y. rw (now, retried_ids x n j.now) (old.adds y);
  once = old.once;
  below = λ y some. omega (arith, old.below y some);
}

module _ (long : ℕ) (limits : Limits) where
  pub data Ends (w : World) (c : Call) (d : Did) : Type 0 where
    turned : (r : Refusal) → d ≡ refused w.state r → Ends w c d
    took : accepted d.answer ≡ true → TailKept w.state.bytes d.state
        → OrderFits w c d.state (order_of d.state.pool.turn.disk)
        → Steady long limits (ordered_in c w d.state (answered w.journal c) d.state.pool.turn.disk)
        → Ends w c d

  -- with no order: the journal is the one that the state has beside it
  pub still_steady : (w : World) (s : State) (j : disk.LogWorld) → Working long j s
      → Ledger j w.next w.logged w.done → s.pool.limits ≡ limits → Steady long limits (unordered w s j)
  still_steady w s j works ledger is =
      subst (λ v. Steady long limits (record {
        state = s;
        journal = moved j v;
        next = w.next;
        logged = w.logged;
        done = w.done;
      })) works.wal
      (record { works = works; ledger = ledger; limits_are = is })

  -- after a run, and after a call that runs nothing: the journal is the answered one
  pub rest_steady : (c : Call) (w : World) (s : State) (j : disk.LogWorld) → answered w.journal c ≡ j
      → s.pool.turn.disk ≡ order.Free → Working long j s → Ledger j w.next w.logged w.done
      → s.pool.limits ≡ limits → Steady long limits (ordered_in c w s (answered w.journal c) s.pool.turn.disk)
  rest_steady c w s j from free works ledger is =
      subst (λ k. Steady long limits (ordered_in c w s k s.pool.turn.disk)) (sym from)
      (subst (λ d. Steady long limits (ordered_in c w s j d)) (sym free) (still_steady w s j works ledger is))

  -- the world after the order of a mark, with these messages left and these ids done
  abbrev off_by : World → State → disk.LogWorld → Order → List Message → List ℕ → World
  off_by w s j o now ids = record {
    state = s;
    journal = disk.issue j (wal_of s) now (disk.sent s.bytes o);
    next = w.next;
    logged = w.logged;
    done = w.done ++ ids;
  }

  pub runs_steady : (c : Call) (w : World) (s : State) (j : disk.LogWorld) → Marking w c
      → answered w.journal c ≡ j → Runs long j s → Ledger j w.next w.logged w.done
      → s.pool.limits ≡ limits → Steady long limits (ordered_in c w s (answered w.journal c) s.pool.turn.disk)
  unfolding disk.issue
  runs_steady c w s j own from runs ledger is =
      subst (λ k. Steady long limits (ordered_in c w s k s.pool.turn.disk)) (sym from) (go runs)
    where
      go : Runs long j s → Steady long limits (ordered_in c w s j s.pool.turn.disk)
      go (still free works) =
          subst (λ d. Steady long limits (ordered_in c w s j d)) (sym free)
          (still_steady w s j works ledger is)
      go (marks o id waits there next tail works) =
          let off : Steady long limits (off_by w s j o (remove id.0 j.now) (id.0 ∷ [])) =
          record {
            works = works;
            ledger = marked_ledger j (marked_off j s o id) w.next w.logged w.done id.0 ledger there
                refl next;
            limits_are = is;
          } in
          let one = marked_one s id.0 j.now there (open_once j ledger id.0) works.ids in
          let left =
          marked_effect s j.now _ one (marked_in s id.0 j.now there (open_once j ledger id.0) works.ids)
          in
          let ids = marked_out s id.0 j.now there (open_once j ledger id.0) works.ids in
          subst (λ d. Steady long limits (ordered_in c w s j d)) (sym waits)
          (subst (λ k. Steady long limits (ordered_for w s j o k)) (sym own.0)
          (subst (λ now. Steady long limits (off_by w s j o now (ids_of (out_of_places s j.now)))) (sym left)
          (subst (λ x. Steady long limits (off_by w s j o (remove id.0 j.now) x)) (sym ids) off)))
      go (tries o for l waits next tail works) =
          let n = (message_at s.rows l.entry).attempts in
          let none : out_of_places s j.now ≡ [] = retried_none s l.id.0 n j.now works.ids in
          let off : Steady long limits (off_by w s j o (retried l.id.0 n j.now) []) =
          subst (λ ids. Steady long limits (record {
            state = s;
            journal = retried_as j s o l.id n;
            next = w.next;
            logged = w.logged;
            done = ids;
          })) (sym (append-nil w.done))
          (record {
            works = works;
            ledger = retried_ledger j (retried_as j s o l.id n) w.next w.logged w.done l.id.0 n ledger
                refl next;
            limits_are = is;
          }) in
          subst (λ d. Steady long limits (ordered_in c w s j d)) (sym waits)
          (subst (λ k. Steady long limits (ordered_for w s j o k)) (sym own.0)
          (subst (λ now. Steady long limits (off_by w s j o now (ids_of (out_of_places s j.now))))
          (sym (retried_effect s j.now l none))
          (subst (λ x. Steady long limits (off_by w s j o (retried l.id.0 n j.now) (ids_of x))) (sym none) off)))

  -- nothing is marked: every message stands where it can be found
  pub none_fits : (c : Call) (w : World) (s : State) (j : disk.LogWorld) → Marking w c → j.now ≡ w.journal.now
      → Working long j s → OrderFits w c s nothing
  none_fits c w s j own same works =
      own.1 s nothing
      (inl (ap length (subst (λ now. out_of_places s now ≡ []) same (none_out s j.now works.ids))))

  pub runs_fits : (c : Call) (w : World) (s : State) (j : disk.LogWorld) → Marking w c → j.now ≡ w.journal.now
      → Runs long j s → Ledger j w.next w.logged w.done
      → OrderFits w c s (order_of s.pool.turn.disk)
  unfolding disk.issue
  runs_fits c w s j own same (still free works) ledger =
      subst (λ d. OrderFits w c s (order_of d)) (sym free) (none_fits c w s j own same works)
  runs_fits c w s j own same (marks o id waits there next tail works) ledger =
      subst (λ d. OrderFits w c s (order_of d)) (sym waits)
      (own.1 s (shows o)
      (inl (subst (λ now. length (out_of_places s now) ≡ 1) same
      (marked_one s id.0 j.now there (open_once j ledger id.0) works.ids))))
  runs_fits c w s j own same (tries o for l waits next tail works) ledger =
      subst (λ d. OrderFits w c s (order_of d)) (sym waits)
      (own.1 s (shows o)
      (inr (subst (λ now. (orders_in (shows o) ≡ 1) × (length (out_of_places s now) ≡ 0) × LastTried s now) same (
        refl,
        ap length (retried_none s l.id.0 (message_at s.rows l.entry).attempts j.now works.ids),
        l,
      ))))

  -- after a run the log's bytes at and after its size are those from before it
  pub runs_tail : (j : disk.LogWorld) (s : State) (bytes : List ℕ) → j.wal.bytes ≡ bytes → Runs long j s
      → TailKept bytes s
  runs_tail j s bytes from (still free works) =
      ap (drop s.pool.turn.counters.size) (sym (ap (λ v. v.bytes) works.wal) ∙ from)
  runs_tail j s bytes from (marks o id waits there next tail works) =
      tail ∙ ap (drop s.pool.turn.counters.size) from
  runs_tail j s bytes from (tries o for l waits next tail works) =
      tail ∙ ap (drop s.pool.turn.counters.size) from

  -- a world after a call that ended so, and whose answer shows the order that waits
  pub ends_steady : (w : World) (c : Call) (d : Did) → Steady long limits w → (accepted d.answer ≡ true
      → order_shown d.answer ≡ order_of d.state.pool.turn.disk) → Ends w c d
      → Steady long limits (step_did w c d)
  ends_steady w c d steady shown-is (turned r is) =
      subst (λ e. Steady long limits (step_did w c e)) (sym is)
      (still_steady w w.state w.journal steady.works steady.ledger steady.limits_are)
  ends_steady w c d steady shown-is (took ok tail fits after) = go d.answer refl
    where
      by : order_shown d.answer ≡ order_of d.state.pool.turn.disk
          → Steady long limits (ordered c w d.state (answered w.journal c) (order_shown d.answer))
      by is = subst (λ o. Steady long limits (ordered c w d.state (answered w.journal c) o)) (sym is) after

      there : Steady long limits (ordered c w d.state (answered w.journal c) (order_shown d.answer))
      there = by (shown-is ok)

      go : (a : Answer) → d.answer ≡ a → Steady long limits (step_did w c d)
      go (answer.Refused r) e = let z : ◌≡◌ {A = ℕ} 0 1 = cc in absurd (omega arith)
      go (answer.Open a) e =
          subst (λ x. Steady long limits (step_did w c (record { state = d.state; answer = x }))) (sym e)
          (subst (λ x. Steady long limits (ordered c w d.state (answered w.journal c) (order_shown x))) e there)
      go (answer.Ended busy waiters) e =
          subst (λ x. Steady long limits (step_did w c (record { state = d.state; answer = x }))) (sym e)
          (subst (λ x. Steady long limits (ordered c w d.state (answered w.journal c) (order_shown x))) e there)

-- ---- an answer is no refusal

pub shown_rule : (P : Did → Type 0) (s : State)
    → ((a : Answer) → accepted a ≡ true → P (record { state = s; answer = a })) → P (shown s)
unfolding shown
shown_rule P s all = all _ refl

pub answered_rule : (P : Did → Type 0) (s : State)
    → ((a : Answer) → accepted a ≡ true → P (record { state = s; answer = a })) → P (answered_of s)
unfolding answered_of
answered_rule P s all = pick_rule P (in_turn s.pool.turn.at) (λ e. shown_rule P s all) (λ e. all _ refl)

-- ---- a call by its table

-- what holds of every refusal, and of the effect where no line holds, holds of the call
pub table_rule : (P : Did → Type 0) (s : State) (k : Result Unit Refusal) (effect : Did) → ((r : Refusal) → P (refused s r))
    → (k ≡ Ok tt → P effect) → P (by_table s k effect)
table_rule P s (Err r) effect off on = off r
table_rule P s (Ok tt) effect off on = on refl

pub turn_fine : (p : Pool) → judged (turn_refusals p) ≡ Ok tt
    → (p.turn.disk ≡ order.Free) × (in_turn p.turn.at ≡ false)
unfolding turn_refusals
turn_fine p fine =
    let clear = fine_clear (turn_refusals p) fine in
    (is_free_lem p.turn.disk clear.0 clear.1.0, clear.1.1.0)

pub sync_fine : (p : Pool) → judged (sync_refusals p) ≡ Ok tt → p.turn.disk ≡ order.Free
unfolding sync_refusals
sync_fine p fine =
    let clear = fine_clear (sync_refusals p) fine in is_free_lem p.turn.disk clear.0 clear.1.0

pub reply_fine : (s : State) (r : Reply) (name body : List ℕ) → judged (reply_refusals s r name body) ≡ Ok tt
    → (fits_in (open_in s) r ≡ true) × ((is_message r && no_entry_free s.links) ≡ false)
unfolding reply_refusals
reply_fine s r name body fine =
    let clear = fine_clear (reply_refusals s r name body) fine in (not-false _ clear.1.0, clear.1.1.1.0)
