-- What each operation of the pool does to the order of a mailbox, and to every other list. Assumes nothing.
use Rattle.std.specs.Prelude.{Option, Some, None}
use Rattle.message_log.specs.declared.LogId.{LogId}
use mathlib.Core.Path.{◌≡◌, refl, sym, ap, ◌∙◌}
use mathlib.Core.Bool.{Bool, true, false}
use mathlib.Core.Logic.{◌≢◌}
use mathlib.Core.List.{List, [], ◌∷◌, ◌++◌, append-nil}
use Prim.Native.Nat.{ℕ, ◌≤◌, ◌<◌}
use native.Mathlib.Omega.{arith}
use borrow.Author.Tests.{eqb-true, lt-leb}
use lib.Dec.{eqb}
use lib.ListN.{take, drop}
use Rattle.lists.specs.Links.{Table, len_of, move_first, move_all, mailbox_of, FREE, PENDING, BATCH, OVER, HAND}
use Rattle.lists.specs.Family.{first_in, view, Good, Moved, MovedAll}
use Rattle.lists.proofs.Family.{first_is, view_none}
use Rattle.lists.proofs.Moves.{move_first_lem, move_all_lem}
use Rattle.actor.specs.Messages.{message_at}
use Rattle.actor.specs.Questions.{slot_of}
use Rattle.steps.specs.Steps.{place_logged, place_over, over_first, take_mail}
use Rattle.steps.specs.StepFixed.{step_fixed, push_reply, fixed_pushed}
use Rattle.group.specs.Roster.{slot_at}
use Rattle.route.specs.Batch.{deliver, deliver_to}
use Rattle.tick.specs.Settle.{leftover_of, release_of}
use Rattle.tick.specs.Crash as crashing
use Rattle.theorem.proofs.Through.{mailbox_is}
use Rattle.theorem.proofs.PlaceMoves.{hand_is}
use Rattle.theorem.specs.Mailboxes.{mail_list, mailbox, take_first, Operated, has_log_id, logged_in, unlogged_in}
use Rattle.theorem.specs.Operations.{slot_number, hand_list, Delivers, PushesBack, Takes, SendsBack, DropsUnread}
use Rattle.theorem.specs.Operations.{retries, tried_again, not_tried, Retired, Retires}
use Rattle.theorem.proofs.Chained.{good_chained}
use Rattle.theorem.proofs.MailMoves.{operated, pair_to, put_at_end_lem, put_at_front_lem, take_first_lem, empty_out_lem}
use Rattle.theorem.proofs.Unread.{unread}
use Rattle.tick.specs.Crash.{dying}

-- the slot of an actor
pub low_slot : (g k : ℕ) → g < 8 → k < 16 → slot_at g k ≡ slot_number g k
unfolding slot_of
low_slot g k group key = rw (lt-leb 8 g group, lt-leb 16 k key)

-- ---- put at the end, put at the front, take, empty

pub delivers : Delivers
unfolding deliver deliver_to
delivers t keys actors g k queued left good group key =
    rw (low_slot g k group key) (put_at_end_lem (slot_number g k) (omega arith) t good BATCH (omega arith))

pub pushes_back : PushesBack
unfolding step_fixed push_reply fixed_pushed
pushes_back t rows actors slot queued good low = put_at_front_lem slot low t good HAND (omega arith)

-- where there is no mail nothing moves
taken_none : (slot : ℕ) → slot < 128 → (t : Table) → Good t → len_of t (mailbox_of slot) ≡ 0
    → Operated take_first slot HAND t t
taken_none slot low t good none =
    let empty : mailbox t slot ≡ [] = view_none t (mail_list slot) (ap (len_of t) (sym (mailbox_is slot low)) ∙ none) in
    operated slot low t good take_first HAND t good (rw empty) (rw empty (sym (append-nil (view t HAND))))
    (λ j p q. refl)

pub takes : Takes
unfolding take_mail
takes t actors slot queued good low = by (eqb (len_of t (mailbox_of slot)) 0) refl
  where
    by : (b : Bool) → eqb (len_of t (mailbox_of slot)) 0 ≡ b → Operated take_first slot HAND t
        (take_mail t actors slot queued).links
    by true p = rw p (taken_none slot low t good (eqb-true (len_of t (mailbox_of slot)) 0 p))
    by false p = rw p (take_first_lem slot low t good HAND (omega arith))

pub sends_back : SendsBack
unfolding release_of leftover_of
sends_back t rows keys actors c queued good group key took =
    rw (took, low_slot c.group c.key group key)
    (empty_out_lem (slot_number c.group c.key) (omega arith) t good PENDING (omega arith))

pub drops_unread : DropsUnread
unfolding release_of leftover_of
drops_unread t rows keys actors c queued good group key never =
    rw (never, low_slot c.group c.key group key)
    (unread (slot_number c.group c.key) (omega arith) t rows good)

-- ---- a trapped actor is retired

module _ (groups rows t : Table) (good : Good t) (g slot : ℕ) (low : slot < 128) where
  abbrev back : Table
  back = move_all t (mail_list slot) PENDING

  abbrev hand : ℕ
  hand = hand_list slot

  backed : MovedAll t (mail_list slot) PENDING back
  backed = move_all_lem (pair_to slot low t good PENDING (omega arith))

  back_other : (k : ℕ) → k ≢ mail_list slot → k ≢ PENDING → view back k ≡ view t k
  back_other = backed.others

  back_hand : view back hand ≡ view t hand
  back_hand = back_other hand (λ z. omega arith) (λ z. omega arith)

  -- nothing is in its hand
  none_retired : view t hand ≡ [] → Retired groups rows g slot t back
  unfolding tried_again not_tried logged_in unlogged_in
  none_retired is = record {
    mail = backed.left;
    hand = back_hand ∙ rw is;
    pending = backed.joined ∙ rw is (sym (append-nil (view t PENDING ++ mailbox t slot)));
    over = back_other OVER (λ z. omega arith) (λ z. omega arith) ∙ rw is (sym (append-nil (view t OVER)));
    free = back_other FREE (λ z. omega arith) (λ z. omega arith) ∙ rw is (sym (append-nil (view t FREE)));
    others = λ j p q r u v. back_other j p r;
    good = backed.good;
    chained = good_chained _ backed.good;
  }

  -- its first message goes to list k
  module _ (k : ℕ) (k-is : k ≤ 4) where
    went : Moved back hand k 1 (move_first back hand k)
    went = move_first_lem (record {
      good = backed.good;
      from_is = omega arith;
      to_is = omega arith;
      apart = λ e. omega arith;
    })

    went_mail : mailbox (move_first back hand k) slot ≡ []
    went_mail = went.others (mail_list slot) (λ z. omega arith) (λ z. omega arith) ∙ backed.left

    went_hand : view (move_first back hand k) hand ≡ drop 1 (view t hand)
    went_hand = went.left ∙ ap (drop 1) back_hand

    -- of another list than k and pending
    went_other : (j : ℕ) → j ≢ mail_list slot → j ≢ hand → j ≢ PENDING → j ≢ k
        → view (move_first back hand k) j ≡ view t j
    went_other j p q r other = went.others j q other ∙ back_other j p r

    went_pending : k ≢ PENDING → view (move_first back hand k) PENDING ≡ view t PENDING ++ mailbox t slot
    went_pending other = went.others PENDING (λ z. omega arith) (λ z. other (sym z)) ∙ backed.joined

    went_to : k ≢ PENDING → view (move_first back hand k) k ≡ view t k ++ take 1 (view t hand)
    went_to other = went.joined ∙ rw (back_other k (λ z. omega arith) other, back_hand)

  module _ (e : ℕ) (es : List ℕ) (is : view t hand ≡ e ∷ es) where
    -- it is tried again
    again_retired : retries groups rows g e ≡ true → Retired groups rows g slot t (move_first back hand PENDING)
    unfolding tried_again not_tried logged_in unlogged_in
    again_retired p = record {
      mail = went_mail PENDING (omega arith);
      hand = went_hand PENDING (omega arith);
      pending = (went PENDING (omega arith)).joined ∙ rw (backed.joined, back_hand, is, p);
      over = went_other PENDING (omega arith) OVER (λ z. omega arith) (λ z. omega arith) (λ z. omega arith)
          (λ z. omega arith) ∙ rw (is, p) (sym (append-nil (view t OVER)));
      free = went_other PENDING (omega arith) FREE (λ z. omega arith) (λ z. omega arith) (λ z. omega arith)
          (λ z. omega arith) ∙ rw (is, p) (sym (append-nil (view t FREE)));
      others = λ j p q r u v. went_other PENDING (omega arith) j p q r r;
      good = (went PENDING (omega arith)).good;
      chained = good_chained _ (went PENDING (omega arith)).good;
    }

    -- it is not, and it is logged
    over_retired : retries groups rows g e ≡ false → has_log_id (message_at rows e).id ≡ true
        → Retired groups rows g slot t (move_first back hand OVER)
    unfolding tried_again not_tried logged_in unlogged_in
    over_retired p l = record {
      mail = went_mail OVER (omega arith);
      hand = went_hand OVER (omega arith);
      pending = went_pending OVER (omega arith) (λ z. omega arith)
          ∙ rw (is, p) (sym (append-nil (view t PENDING ++ mailbox t slot)));
      over = went_to OVER (omega arith) (λ z. omega arith) ∙ rw (is, p, l);
      free = went_other OVER (omega arith) FREE (λ z. omega arith) (λ z. omega arith) (λ z. omega arith)
          (λ z. omega arith) ∙ rw (is, p, l) (sym (append-nil (view t FREE)));
      others = λ j p q r u v. went_other OVER (omega arith) j p q r u;
      good = (went OVER (omega arith)).good;
      chained = good_chained _ (went OVER (omega arith)).good;
    }

    -- it is not, and it is not logged
    free_retired : retries groups rows g e ≡ false → has_log_id (message_at rows e).id ≡ false
        → Retired groups rows g slot t (move_first back hand FREE)
    unfolding tried_again not_tried logged_in unlogged_in
    free_retired p l = record {
      mail = went_mail FREE (omega arith);
      hand = went_hand FREE (omega arith);
      pending = went_pending FREE (omega arith) (λ z. omega arith)
          ∙ rw (is, p) (sym (append-nil (view t PENDING ++ mailbox t slot)));
      over = went_other FREE (omega arith) OVER (λ z. omega arith) (λ z. omega arith) (λ z. omega arith)
          (λ z. omega arith) ∙ rw (is, p, l) (sym (append-nil (view t OVER)));
      free = went_to FREE (omega arith) (λ z. omega arith) ∙ rw (is, p, l);
      others = λ j p q r u v. went_other FREE (omega arith) j p q r v;
      good = (went FREE (omega arith)).good;
      chained = good_chained _ (went FREE (omega arith)).good;
    }

    -- what is not tried again is over
    done_retired : retries groups rows g e ≡ false → Retired groups rows g slot t (over_first back rows hand)
    unfolding over_first place_over
    done_retired p = rw (first_is back hand, back_hand, is) (by (message_at rows e).id refl)
      where
        by : (l : Option LogId) → (message_at rows e).id ≡ l
            → Retired groups rows g slot t (move_first back hand (place_logged l))
        by (Some id) q = over_retired p (rw q)
        by None q = free_retired p (rw q)

    first_retired : (dead : ℕ)
        → Retired groups rows g slot t (crashing.crashed_entry groups (dying back rows dead) g hand e
        ).links
    unfolding crashing.crashed_entry
    first_retired dead = by (retries groups rows g e) refl
      where
        by : (b : Bool) → retries groups rows g e ≡ b
            → Retired groups rows g slot t (crashing.crashed_entry groups (dying back rows dead) g hand e).links
        by true p = rw p (again_retired p)
        by false p = rw p (done_retired p)

  hand_retired : (dead : ℕ) (es : List ℕ) → view t hand ≡ es
      → Retired groups rows g slot t (crashing.crashed_found groups (dying back rows dead) g hand (first_in es)).links
  hand_retired dead [] is = none_retired is
  hand_retired dead (e ∷ es) is = first_retired e es is dead

pub retires : Retires
unfolding crashing.crash_trapped_key crashing.handle_crash
retires groups t rows keys c k left queued l good group key =
    rw (
      low_slot c.group k group key,
      mailbox_is slot low,
      hand_is slot low,
      first_is (back groups rows t good c.group slot low) (hand_list slot),
      back_hand groups rows t good c.group slot low,
    )
    (hand_retired groups rows t good c.group slot low l.dead (view t (hand_list slot)) refl)
  where
    slot : ℕ
    slot = slot_number c.group k

    low : slot < 128
    low = omega arith
