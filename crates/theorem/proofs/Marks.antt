-- The mark of a message that was logged and not done: its order goes out, and its id alone is no longer open. Assumes
-- nothing.
use Rattle.std.specs.Prelude.{Some}
use mathlib.Core.Path.{◌≡◌, refl, sym, ap, ◌∙◌, subst}
use mathlib.Core.Bool.{Bool, true, false}
use mathlib.Core.List.{List, [], ◌∷◌}
use Prim.Native.Nat.{ℕ, suc, ◌+◌, ◌<◌}
use native.Mathlib.Omega.{arith}
use native.Mathlib.Decide.{ℕ_discrete}
use borrow.Author.Tests.{eq-eqb, ne_eqb}
use lib.Dec.{eqb}
use lib.ListN.{length, drop}
use Rattle.text.specs.Format.{Message, record_line, done_line}
use Rattle.lists.specs.Links.{pick}
use Rattle.lists.specs.Family.{count}
use Rattle.message_log.specs.declared.Order.{Order}
use Rattle.message_log.specs.Opening.{Rising, remove}
use Rattle.message_log.specs.Log.{Wal, DidMark, row_id, row_at, open_rows, extended, compacted, find_row, without_row, keeps}
use Rattle.message_log.specs.Log.{marked_done, mark_of}
use Rattle.message_log.specs.Stands.{Stands, Tabled}
use Rattle.message_log.specs.Recovery as disk
use Rattle.message_log.proofs.WalLaws.{mark_known}
use Rattle.message_log.proofs.SearchLaws.{open_finds}
use Rattle.message_log.proofs.RecoveryLaws as log
use Rattle.message_log.proofs.Recovery.{call_tail}
use Rattle.theorem.specs.Handing.{ids_of}
use Rattle.theorem.proofs.Ids.{rising_once, gone_same, gone_other}

-- ---- the order

-- an order goes out, and the next id is as it was
pub record GoesOut (next : ℕ) (did : DidMark) : Type 0 where
  pub order : Order
  pub due_is : did.due ≡ Some order
  pub next_is : did.wal.counters.next ≡ next

-- the row of an id that is open is found
pub row_found : (x size : ℕ) (bytes : List ℕ) (ms : List Message) (rs : List (List ℕ)) (start j : ℕ)
    → Tabled bytes start ms rs size → 0 < count x (ids_of ms) → (k : ℕ) × (find_row j x rs ≡ Some k)
unfolding find_row count
row_found x size bytes [] [] start j t there = absurd (omega arith)
row_found x size bytes [] (r ∷ rs) start j t there = absurd t
row_found x size bytes (m ∷ ms) [] start j t there = absurd t
row_found x size bytes (m ∷ ms) (r ∷ rs) start j t there = go (eqb (row_id r) x) refl (row_found x size bytes ms rs
    (row_at r + length (record_line m)) (suc j) t.3)
  where
    go : (b : Bool) → eqb (row_id r) x ≡ b → (0 < count x (ids_of ms) → (k : ℕ) × (find_row (suc j) x rs ≡ Some k))
        → (k : ℕ) × (find_row j x (r ∷ rs) ≡ Some k)
    go true e later = (j, cc)
    go false e later =
        let other : eqb m.id x ≡ false = ap (λ n. eqb n x) (sym (ap row_id t.0)) ∙ e in
        rw (e, find_row) (later (omega (arith, ap (λ b. pick {A = ℕ} b 1 0) other)))

-- the row taken out, a done line or a rewrite is ordered
done_goes : (limit : ℕ) (w : Wal) (x : ℕ) → GoesOut w.counters.next (marked_done limit w x)
unfolding marked_done extended compacted
done_goes limit w x = go (keeps limit (length w.bytes) w.counters.live (w.counters.size + length
    (done_line x))) refl
  where
    go : (b : Bool) → keeps limit (length w.bytes) w.counters.live (w.counters.size + length (done_line x)) ≡ b
        → GoesOut w.counters.next (marked_done limit w x)
    go true e = rw (e, marked_done) (record { order = _; due_is = refl; next_is = refl })
    go false e = rw (e, marked_done) (record { order = _; due_is = refl; next_is = refl })

-- the mark of an open id goes out
pub mark_goes : (limit : ℕ) (w : Wal) (ms : List Message) (x : ℕ) → Stands w ms → 0 < count x (ids_of ms)
    → GoesOut w.counters.next (mark_of limit w x)
unfolding without_row
mark_goes limit w ms x stands there =
    let found = row_found x w.counters.size w.bytes ms (open_rows w) 0 0 stands.tabled there in
    subst (GoesOut w.counters.next) (mark_known limit w x found.0 (open_finds w ms stands x ∙ found.1))
    (done_goes limit (without_row w found.0) x)

-- the journal after it
pub mark_sound : (long limit : ℕ) (j : disk.LogWorld) (x : ℕ) (o : Order) → j.disk.status ≡ disk.settled
    → log.Sound long j → (mark_of limit j.wal x).due ≡ Some o
    → log.Sound long (disk.issue j (mark_of limit j.wal x).wal (remove x j.now)
    (disk.sent (mark_of limit j.wal x).wal.bytes o))
unfolding disk.step_log disk.called disk.did_call disk.call_effect
mark_sound long limit j x o settles sound goes =
    let stepped = subst (λ s. log.Sound long (disk.step_log limit s j (disk.call (disk.mark x)))) settles
    (log.step_sound long limit j (disk.call (disk.mark x)) sound) in
    subst (λ a. log.Sound long (disk.issued j (disk.mark x) (mark_of limit j.wal x).wal (disk.ordered_due a))) goes
    stepped

-- the log's bytes at and after the new size are as they were
pub mark_tail : (limit : ℕ) (w : Wal) (ms : List Message) (x : ℕ) → Stands w ms
    → drop (mark_of limit w x).wal.counters.size (mark_of limit w x).wal.bytes
    ≡ drop (mark_of limit w x).wal.counters.size w.bytes
unfolding disk.did_call
mark_tail limit w ms x stands = call_tail limit w ms (disk.mark x) stands

-- ---- the ids that are open

-- an open id is marked: it stands once less, every other as before
pub ids_marked : (x high low : ℕ) (ms : List Message) → Rising low ms high → 0 < count x (ids_of ms) → (y : ℕ)
    → count y (ids_of (remove x ms)) + pick (eqb x y) 1 0 ≡ count y (ids_of ms)
ids_marked x high low ms r there y = go (ℕ_discrete x y)
  where
    go : Dec (x ≡ y) → count y (ids_of (remove x ms)) + pick (eqb x y) 1 0 ≡ count y (ids_of ms)
    go (yes e) = rw (eq-eqb x y e, ← e) (omega (arith, gone_same x ms, rising_once ms low high x r))
    go (no n) = rw (ne_eqb x y n) (omega (arith, gone_other x y ms (λ e. n (sym e))))
