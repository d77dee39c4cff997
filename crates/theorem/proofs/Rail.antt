-- THE THEOREM OF THE WHOLE RAIL, and what holds of every call of every list (statements: specs/Rail.antt).
-- Assumes nothing.
use mathlib.Core.Path.{◌≡◌, refl, ◌∙◌}
use mathlib.Core.Logic.{◌⊎◌, inl, inr}
use mathlib.Core.Bool.{Bool, true, false}
use Prim.Native.Nat.{ℕ, ◌+◌, ◌*◌, ◌≤◌, ◌<◌}
use native.Mathlib.Omega.{arith}
use native.Mathlib.Decide.{ℕ_discrete}
use mathlib.Core.List.{List}
use lib.ListN.{length, drop}
use Rattle.lists.specs.Family.{count}
use Rattle.lists.specs.Links.{Table}
use Rattle.turn.specs.declared.state.Limits.{Limits}
use Rattle.message_log.specs.Recovery as disk
use Rattle.theorem.specs.Places.{stands}
use Rattle.theorem.specs.Handing.{ids_of}
use Rattle.lists.proofs.Family.{length_view}
use Rattle.theorem.proofs.Chained.{good_chained}
use Rattle.theorem.specs.Living.{given, Lives}
use Rattle.theorem.proofs.LivingTurn.{few_hand}
use Rattle.answers.specs.Refusals.{Lent, file_in}
use Rattle.pool.specs.Open.{open_of}
use Rattle.theorem.specs.Rail.{Call, World, Accepts, begin, after, mailbox_at, hand_at, Living}
use Rattle.theorem.specs.Rail.{Reopens, Holds, WholeRail, MailboxesChained, TailsKept, RefusedSame, OrdersFit}
use Rattle.theorem.specs.Rail.{AdmitsLoaded}
use Rattle.theorem.specs.Retries.{RetriesWritten}
use Rattle.theorem.proofs.Invariant.{Steady}
use Rattle.theorem.proofs.Calls.{run_steady, size_is, tail_kept, order_fits}
use Rattle.theorem.proofs.Refused.{refused_stays}
use Rattle.theorem.proofs.GroupsKept.{after_in}
use Rattle.theorem.proofs.RetriesWritten.{call_retries}
use Rattle.theorem.proofs.Opened.{accepted_taken, refused_untouched}
use Rattle.theorem.proofs.Opening.{limits_of, opens_long, opens_replacing, opens_tail, open_steady, reopens}
use Rattle.theorem.proofs.Loaded.{run_long, admit_comes, admit_away}

-- an id that was logged is done and nowhere, or stands once
placed_by : (n d l s : ℕ) → n + d ≡ l → l ≤ 1 → s ≡ n → 0 < l → ((0 < d) × (s ≡ 0)) ⊎ ((d ≡ 0) × (s ≡ 1))
placed_by n d l s adds once ids there = go (ℕ_discrete d 0)
  where
    go : Dec (d ≡ 0) → ((0 < d) × (s ≡ 0)) ⊎ ((d ≡ 0) × (s ≡ 1))
    go (yes p) = inr (p, omega arith)
    go (no p) = inl (omega arith, omega arith)

-- who holds a message lives
holder : (t keys actors : Table) → Lives t keys actors → (g k : ℕ) → g < 8 → k < 16 → Living t keys g k
holder t keys actors l g k g-is k-is = (
  λ some. go some (given keys g k) refl,
  omega (arith, length_view t (7 + 2 * (16 * g + k)), l.one g k g-is k-is),
)
  where
    go : 0 < length (mailbox_at t g k) + length (hand_at t g k) → (b : Bool) → given keys g k ≡ b → given keys g k ≡ true
    go some true e = e
    go some false e =
        let none = l.dead g k g-is k-is e in
        absurd (omega (
          arith,
          none.0,
          none.1,
          length_view t (6 + 2 * (16 * g + k)),
          length_view t (7 + 2 * (16 * g + k)),
        ))

-- an id that was not logged stands nowhere
strange_by : (n d l s : ℕ) → n + d ≡ l → s ≡ n → l ≡ 0 → s ≡ 0
strange_by n d l s adds ids none = omega arith

-- after every list of calls the invariant holds
after_steady : (l : Lent) → Accepts l → (calls : List Call) → Steady (length l.bytes) (limits_of l) (after l calls)
after_steady l ok calls =
    run_steady (length l.bytes) (limits_of l) calls (begin (open_of l) (file_in l)) (open_steady l ok)

steady_holds : (l : Lent) (limits : Limits) (w : World) → Steady (length l.bytes) limits w
    → ((file : List ℕ) → disk.Possible w.journal.disk file
    → Reopens l file (drop w.journal.firm w.journal.moments))
    → Holds l w
steady_holds l limits w steady safe = record {
  placed = λ x there.
      placed_by (count x (ids_of w.journal.now)) (count x w.done) (count x w.logged)
      (stands x w.state.links w.state.rows) (steady.ledger.adds x) (steady.ledger.once x)
      (steady.works.ids x) there;
  others = λ x none.
      strange_by (count x (ids_of w.journal.now)) (count x w.done) (count x w.logged)
      (stands x w.state.links w.state.rows) (steady.ledger.adds x) (steady.works.ids x) none;
  queued = steady.works.sound.mail;
  living = λ g k g-is k-is.
      holder w.state.links w.state.keys w.state.actors steady.works.lives g k g-is k-is;
  hand =
      omega (
        arith,
        length_view w.state.links 5,
        few_hand w.state.pool.turn.at w.state.links w.state.keys w.state.actors
            steady.works.here,
      );
  tried = steady.works.tried;
  safe = safe;
}

pub whole_rail : WholeRail
whole_rail l ok calls =
    steady_holds l (limits_of l) (after l calls) (after_steady l ok calls)
    (reopens l ok (after l calls) (after_steady l ok calls))

pub mailboxes_chained : MailboxesChained
mailboxes_chained l ok calls = good_chained (after l calls).state.links (after_steady l ok calls).works.sound.good

-- ---- every call of every list

pub tails_kept : TailsKept
tails_kept = record {
  sizes = λ l ok calls. size_is (length l.bytes) (limits_of l) (after l calls) (after_steady l ok calls);
  openings = λ l ok. opens_tail l (accepted_taken l ok);
  calls = λ l ok before c.
      tail_kept (length l.bytes) (limits_of l) (after l before) c (after_steady l ok before);
}

pub refused_same : RefusedSame
refused_same = record {
  openings = λ l turned. refused_untouched l turned;
  calls = λ l ok before c turned. refused_stays (after l before).state c turned;
}

pub orders_fit : OrdersFit
orders_fit = record {
  openings = λ l ok. (_, opens_replacing l (accepted_taken l ok));
  calls = λ l ok before c.
      order_fits (length l.bytes) (limits_of l) (after l before) c (after_steady l ok before);
}

pub retries_written : RetriesWritten
retries_written l ok before c =
    call_retries (length l.bytes) (limits_of l) (after l before) c (after_steady l ok before) (after_in l ok before)

-- the body store has its length
stored_long : (l : Lent) → Accepts l → (calls : List Call) → length (after l calls).state.store ≡ 40960
stored_long l ok calls =
    run_long calls (begin (open_of l) (file_in l)) ∙ opens_long l (accepted_taken l ok)

pub admits_loaded : AdmitsLoaded
admits_loaded = record {
  comes = λ l ok before name body who.
      admit_comes (after l before).state (after_steady l ok before).works.sound (stored_long l ok before) name body
      who;
  refused = λ l ok before name body who.
      admit_away (after l before).state (after_steady l ok before).works.sound (stored_long l ok before) name body
      who;
}
