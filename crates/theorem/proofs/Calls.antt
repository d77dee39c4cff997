-- Every call keeps the invariant, keeps the log's bytes behind its size, and orders what fits it; and the size is the
-- file's length. Assumes nothing.
use mathlib.Core.Path.{◌≡◌, sym, ap, ◌∙◌, subst}
use mathlib.Core.Bool.{true, false≢true}
use mathlib.Core.List.{List, [], ◌∷◌}
use Prim.Native.Nat.{ℕ}
use native.Mathlib.Omega.{arith}
use lib.ListN.{drop}
use Rattle.message_log.specs.Log.{Wal}
use Rattle.message_log.specs.Recovery as disk
use Rattle.message_log.proofs.RecoveryLaws as log
use Rattle.turn.specs.declared.state.Limits.{Limits}
use Rattle.answers.specs.Answers.{Did}
use Rattle.theorem.specs.Rail.{Call, admit, turn, reply, sync, close, call_of, World, step, run}
use Rattle.theorem.specs.Rail.{accepted, order_shown, SizeIs, KeepsTail, CallKeepsTail, OrderFits, CallOrderFits}
use Rattle.theorem.proofs.Invariant.{Steady}
use Rattle.theorem.proofs.After.{order_of, Ends, turned, took, ends_steady}
use Rattle.theorem.proofs.OrderShown.{order_shown_lem}
use Rattle.theorem.proofs.Admit.{admit_ends}
use Rattle.theorem.proofs.Replies.{turn_ends, reply_ends, sync_ends, close_ends}

-- how each call ends
pub call_ends : (long : ℕ) (limits : Limits) (w : World) (c : Call) → Steady long limits w
    → Ends long limits w c (call_of w.state c)
call_ends long limits w (admit name body who) steady = admit_ends long limits w steady name body who
call_ends long limits w turn steady = turn_ends long limits w steady
call_ends long limits w (reply r name body) steady = reply_ends long limits w steady r name body
call_ends long limits w sync steady = sync_ends long limits w steady
call_ends long limits w close steady = close_ends long limits w steady

pub call_steady : (long : ℕ) (limits : Limits) (w : World) (c : Call) → Steady long limits w
    → Steady long limits (step w c)
unfolding step
call_steady long limits w c steady = ends_steady long limits w c (call_of w.state c) steady
    (order_shown_lem w.state c) (call_ends long limits w c steady)

pub run_steady : (long : ℕ) (limits : Limits) (calls : List Call) (w : World) → Steady long limits w
    → Steady long limits (run w calls)
unfolding run
run_steady long limits [] w steady = steady
run_steady long limits (c ∷ calls) w steady = run_steady long limits calls (step w c) (call_steady long limits w c
    steady)

-- ---- the log's size

-- by the journal: with no order out, and with one that waits
journal_size : (long : ℕ) (j : disk.LogWorld) → log.Sound long j → SizeIs j.wal.counters.size j.disk
    j.disk.status
unfolding disk.stored_order
journal_size long j (log.steady st) =
    subst (SizeIs j.wal.counters.size j.disk) (sym st.on_disk.settles) (sym st.on_disk.whole)
journal_size long j (log.waiting s waits after back) =
    subst (SizeIs j.wal.counters.size j.disk) (sym waits) (sym after.on_disk.whole)
journal_size long j (log.ended s lost stands bytes back) =
    subst (SizeIs j.wal.counters.size j.disk) (sym lost) (omega arith)

pub size_is : (long : ℕ) (limits : Limits) (w : World) → Steady long limits w
    → SizeIs w.state.pool.turn.counters.size w.journal.disk w.journal.disk.status
size_is long limits w steady =
    subst (λ (v : Wal). SizeIs v.counters.size w.journal.disk w.journal.disk.status) steady.works.wal
    (journal_size long w.journal steady.works.journal)

-- ---- what a call leaves

module _ (long : ℕ) (limits : Limits) (w : World) (c : Call) where
  -- refused, the log's bytes are all as they were; accepted, those at and after the new size are
  ends_tail : (d : Did) → Ends long limits w c d
      → KeepsTail d.state.pool.turn.counters.size w.state.bytes d.state.bytes
  ends_tail d (turned r is) = ap (λ (e : Did). drop d.state.pool.turn.counters.size e.state.bytes) is
  ends_tail d (took ok tail fits after) = tail

  pub tail_kept : Steady long limits w → CallKeepsTail w c
  tail_kept steady = ends_tail (call_of w.state c) (call_ends long limits w c steady)

  -- the order shown is the one that waits
  ends_fits : (d : Did) → Ends long limits w c d → accepted d.answer ≡ true
      → order_shown d.answer ≡ order_of d.state.pool.turn.disk
      → OrderFits w c d.state (order_shown d.answer)
  ends_fits d (turned r is) ok shown = absurd (false≢true (sym (ap (λ (e : Did). accepted e.answer) is) ∙ ok))
  ends_fits d (took was tail fits after) ok shown = subst (OrderFits w c d.state) (sym shown) fits

  pub order_fits : Steady long limits w → CallOrderFits w c
  order_fits steady ok =
      ends_fits (call_of w.state c) (call_ends long limits w c steady) ok (order_shown_lem w.state c ok)
