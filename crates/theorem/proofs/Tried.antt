-- The attempts that the log has of a message are no more than the pool's: what moves, arrivals, marks and retries make
-- of that. Assumes nothing.
use Rattle.std.specs.Prelude.{Option, Some, None}
use mathlib.Core.Path.{◌≡◌, refl, sym, ap, ◌∙◌}
use mathlib.Core.Bool.{Bool, true, false}
use mathlib.Core.List.{List, [], ◌∷◌, ◌++◌}
use Prim.Native.Nat.{ℕ, suc, ◌+◌, ◌-◌, ◌≤◌}
use native.Mathlib.Omega.{arith}
use borrow.Author.Tests.{eqb-true, eqb-false}
use lib.Dec.{eqb}
use lib.ListN.{length}
use Rattle.text.specs.Format.{Message}
use Rattle.lists.specs.Links.{Table, FREE, ENTRIES}
use Rattle.lists.specs.Family.{count, view}
use Rattle.lists.proofs.Counts.{count_up_below}
use Rattle.message_log.specs.declared.LogId.{LogId}
use Rattle.message_log.specs.Opening.{remove, retried}
use Rattle.message_log.specs.Stands.{Tries}
use Rattle.actor.specs.Messages.{logged_number, message_at}
use Rattle.theorem.specs.Places.{Keeps, Comes, Goes}
use Rattle.theorem.specs.Handing.{TriedAs, AllTried}
use Rattle.theorem.proofs.Filling.{Filled, Stand}

-- a part of a turn keeps it
pub kept_tried : {t rows t' rows' : Table} {q : ℕ} → Keeps t rows t' rows' q → (ms : List Message) → Tries ms
    → AllTried t rows ms → AllTried t' rows' ms
kept_tried keeps [] few all = tt
kept_tried keeps (m ∷ ms) few (here, later) = (
  record {
    entry = here.entry;
    busy = keeps.busy here.entry (record { 0 = m.id }) here.own here.busy;
    own = keeps.named here.entry ∙ here.own;
    most = keeps.tried here.entry m.attempts (omega (arith, few.0)) here.most;
  },
  kept_tried keeps ms few.1 later,
)

-- a message comes
pub comes_tried : {t rows t' rows' : Table} {q : ℕ} {id : Option LogId} → Comes t rows t' rows' q id → (ms : List Message)
    → AllTried t rows ms → AllTried t' rows' ms
comes_tried came [] all = tt
comes_tried came (m ∷ ms) (here, later) =
    let same = came.kept here.entry here.busy in (
      record {
        entry = here.entry;
        busy = came.busy here.entry here.busy;
        own = ap (λ x. x.id) same ∙ here.own;
        most = omega (arith, ap (λ x. x.attempts) same, here.most);
      },
      comes_tried came ms later,
    )

-- a message goes whose id is none of theirs, or was taken off
module _ {t rows t' : Table} {q : ℕ} where
  other_tried : {id : Option LogId} → Goes t rows t' rows q id → (m : Message)
      → (◌≡◌ {A = (Option LogId)} (Some (record { 0 = m.id })) id → ⊥) → TriedAs t rows m → TriedAs t' rows m
  other_tried gone m other here = record {
    entry = here.entry;
    busy =
        gone.busy here.entry (record { 0 = m.id }) here.own (λ is. other (sym here.own ∙ is)) here.busy;
    own = here.own;
    most = here.most;
  }

  pub goes_tried : (id : LogId) → Goes t rows t' rows q (Some id) → (ms : List Message) → AllTried t rows ms
      → AllTried t' rows (remove id.0 ms)
  unfolding remove
  goes_tried id gone [] all = tt
  goes_tried id gone (m ∷ ms) (here, later) = at (eqb m.id id.0) refl (goes_tried id gone ms later)
    where
      at : (b : Bool) → eqb m.id id.0 ≡ b → AllTried t' rows (remove id.0 ms)
          → AllTried t' rows (remove id.0 (m ∷ ms))
      at true e rest = rw (e, remove) rest
      at false e rest =
          rw (e, remove)
          (other_tried gone m (λ is. eqb-false m.id id.0 e (ap logged_number is)) here, rest)

  pub never_tried : Goes t rows t' rows q None → (ms : List Message) → AllTried t rows ms → AllTried t' rows ms
  never_tried gone [] all = tt
  never_tried gone (m ∷ ms) (here, later) =
      (other_tried gone m (λ is. let z : ◌≡◌ {A = ℕ} 0 1 = cc in omega arith) here, never_tried gone ms later)

-- one message more
pub snoc_tried : {t rows : Table} (ms : List Message) (m : Message) → AllTried t rows ms → TriedAs t rows m
    → AllTried t rows (ms ++ (m ∷ []))
snoc_tried [] m all last = (last, tt)
snoc_tried (x ∷ ms) m (here, later) last = (here, snoc_tried ms m later last)

-- a retry, of an entry whose row says so
pub again_tried : (t rows : Table) (id : LogId) (e n : ℕ) → count e (view t FREE) ≡ 0
    → (message_at rows e).id ≡ Some id → n ≤ (message_at rows e).attempts → (ms : List Message) → AllTried t rows ms
    → AllTried t rows (retried id.0 n ms)
unfolding retried
again_tried t rows id e n busy own most [] all = tt
again_tried t rows id e n busy own most (m ∷ ms) (here, later) =
    at (eqb m.id id.0) refl (again_tried t rows id e n busy own most ms later)
  where
    at : (b : Bool) → eqb m.id id.0 ≡ b → AllTried t rows (retried id.0 n ms)
        → AllTried t rows (retried id.0 n (m ∷ ms))
    at true c rest =
        let is : m.id ≡ id.0 = eqb-true m.id id.0 c in
        rw (c, retried) (
          record { entry = e; busy = busy; own = own ∙ ap (λ k. Some (record { 0 = k })) (sym is); most = most },
          rest,
        )
    at false c rest = rw (c, retried) (here, rest)

-- at an opening the messages left stand in the first entries, which are not free
pub left_tried : {t rows : Table} {n : ℕ} → Filled t rows n → (ms : List Message) (i : ℕ) → i + length ms ≡ n
    → Stand rows i ms → AllTried t rows ms
left_tried filled [] i sum stand = tt
left_tried {n = n} filled (m ∷ ms) i sum (here, later) = (
  record {
    entry = i;
    busy = ap (count i) filled.free ∙ count_up_below i n (ENTRIES - n) (omega arith);
    own = ap (λ x. x.id) here;
    most = omega (arith, ap (λ x. x.attempts) here);
  },
  left_tried filled ms (suc i) (omega arith) later,
)
