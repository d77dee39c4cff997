-- What a move between two places keeps, and what a message that comes or goes changes. Assumes nothing.
use mathlib.Core.Path.{◌≡◌, refl, sym, ap, ◌∙◌}
use mathlib.Core.Logic.{◌≢◌}
use mathlib.Core.List.{[]}
use Prim.Native.Nat.{ℕ, ◌+◌, ◌*◌, ◌-◌, ◌^◌, ◌≤◌, ◌<◌}
use native.Mathlib.Omega.{arith}
use borrow.Author.Tests.{lt-ltb}
use lib.ListN.{length, take, drop, get_or, length-append, length-drop}
use lib.Seq.{length-take-le}
use Rattle.lists.specs.Links.{pick, Table, FREE, head_of, len_of, capped, move_first, move_first_to_front, move_all}
use Rattle.lists.specs.Links.{mailbox_of, hand_of, OVER, HAND, LISTS, ENTRIES}
use Rattle.lists.specs.Family.{count, view, Pair, Moved, MovedToFront}
use Rattle.lists.proofs.Counts.{count_same, count_other, count_append, count_split, take_one, total_one}
use Rattle.lists.proofs.Family.{length_view, first_view, count_at, count_none, entry}
use Rattle.lists.proofs.Moves.{move_first_lem, move_first_to_front_lem}
use Rattle.actor.specs.declared.message.Message.{Message}
use Rattle.actor.specs.Messages.{message_at, put_message}
use Rattle.actor.proofs.Back.{message_put, message_other}
use Rattle.steps.specs.Steps.{over_first}
use Rattle.steps.proofs.Times.{capped_fits}
use Rattle.group.specs.Roster.{over_all, queued_after}
use Rattle.theorem.specs.Places.{is_id, id_count, stands, mail_total, Sound, Keeps, NotMailbox, Comes, Goes}
use Rattle.theorem.proofs.Totals.{id_first, id_append, id_split, rows_length, row_id_lem, row_tried_lem, stands_row}
use Rattle.theorem.proofs.Totals.{stands_free}
use Rattle.theorem.proofs.Through.{mailbox_is, aside_not_mailbox, aside_mailbox, Through, mail_not_mailbox}
use Rattle.theorem.proofs.Through.{mail_fits, mail_by}
use Rattle.theorem.proofs.Through.{moved_exchange, moved_to_front_exchange, free_change, exchange_through}
use Rattle.theorem.proofs.Through.{through_by, through_not_mailbox, through_keeps, first_through, all_through}
use Rattle.theorem.proofs.Through.{not_mailbox_move, not_mailbox_all, not_mailbox_over, over_all_through}

-- the mailboxes begin at list 6
low_not_mailbox : (k : ℕ) → 0 < k → k < 6 → NotMailbox k
low_not_mailbox k place low = record { is = omega arith; place = place; no_mail = λ slot slot_is e. omega arith }

pub not_mailbox_inbox : NotMailbox 1
not_mailbox_inbox = low_not_mailbox 1 (omega arith) (omega arith)

pub not_mailbox_pending : NotMailbox 2
not_mailbox_pending = low_not_mailbox 2 (omega arith) (omega arith)

pub not_mailbox_batch : NotMailbox 3
not_mailbox_batch = low_not_mailbox 3 (omega arith) (omega arith)

pub not_mailbox_hand : NotMailbox HAND
not_mailbox_hand = low_not_mailbox HAND (omega arith) (omega arith)

pub hand_is : (slot : ℕ) → slot < 128 → hand_of slot ≡ 7 + 2 * slot
unfolding hand_of
hand_is slot slot_is = rw (lt-ltb slot 128 slot_is)

pub not_mailbox_held : (slot : ℕ) → slot < 128 → NotMailbox (hand_of slot)
not_mailbox_held slot slot_is = rw (hand_is slot slot_is) (record {
  is = omega arith;
  place = omega arith;
  no_mail =
      λ s s-is e. omega arith;
})

pub then_keeps : {t rows t₁ rows₁ t₂ rows₂ : Table} {q₁ q₂ : ℕ} → Keeps t rows t₁ rows₁ q₁ → Keeps t₁ rows₁ t₂ rows₂ q₂
    → Keeps t rows t₂ rows₂ q₂
then_keeps first second = record {
  sound = second.sound;
  same = λ x. second.same x ∙ first.same x;
  busy = λ e id own none. second.busy e id (first.named e ∙ own) (first.busy e id own none);
  named = λ e. second.named e ∙ first.named e;
  tried = λ e n small most. second.tried e n small (first.tried e n small most);
}

module _ (t rows : Table) (q : ℕ) (sound : Sound t rows q) where
  pub same_keeps : Keeps t rows t rows q
  same_keeps = record {
    sound = sound;
    same = λ x. refl;
    busy = λ e id own none. none;
    named = λ e. refl;
    tried = λ e n small most. most;
  }

  pub move_keeps : (from to : ℕ) → NotMailbox from → NotMailbox to → Keeps t rows (move_first t from to) rows q
  move_keeps from to f g =
      through_not_mailbox t rows _ q 128 sound (not_mailbox_move t rows sound.good from f to g) (omega arith)

  pub move_all_keeps : (from to : ℕ) → NotMailbox from → NotMailbox to → Keeps t rows (move_all t from to) rows q
  move_all_keeps from to f g =
      through_not_mailbox t rows _ q 128 sound (not_mailbox_all t rows sound.good from f to g) (omega arith)

  -- the first message of a place is over: a logged one waits for its mark, any other is free
  pub over_keeps : (from : ℕ) → NotMailbox from → Keeps t rows (over_first t rows from) rows q
  over_keeps from f = through_not_mailbox t rows _ q 128 sound (not_mailbox_over t rows sound.good from f)
      (omega arith)

  -- whatever the slot: where there is no such mailbox nothing moves
  pub to_mailbox : (from slot : ℕ) → NotMailbox from → Keeps t rows (move_first t from (mailbox_of slot)) rows
      (queued_after t (move_first t from (mailbox_of slot)) slot q)
  to_mailbox from slot f =
      through_keeps t rows _ q slot sound (first_through t rows sound.good from slot (aside_not_mailbox slot from f)
      (mailbox_of slot) (aside_mailbox slot))

  pub empty_mailbox : (slot to : ℕ) → NotMailbox to → Keeps t rows (move_all t (mailbox_of slot) to) rows
      (queued_after t (move_all t (mailbox_of slot) to) slot q)
  empty_mailbox slot to g =
      through_keeps t rows _ q slot sound (all_through t rows sound.good (mailbox_of slot) slot (aside_mailbox slot)
      to (aside_not_mailbox slot to g))

  pub over_mailbox : (slot n : ℕ) → Keeps t rows (over_all t rows (mailbox_of slot) n) rows
      (queued_after t (over_all t rows (mailbox_of slot) n) slot q)
  over_mailbox slot n =
      through_keeps t rows _ q slot sound (over_all_through n t rows sound.good (mailbox_of slot) slot
      (aside_mailbox slot))

  -- the first message of a mailbox is in the step's hand
  module _ (slot : ℕ) (slot_is : slot < 128) (some : 0 < len_of t (mailbox_of slot)) where
    abbrev taken : Table
    taken = move_first t (mailbox_of slot) HAND

    took : Moved t (mailbox_of slot) HAND 1 taken
    took = move_first_lem (record {
      good = sound.good;
      from_is = omega (arith, mailbox_is slot slot_is);
      to_is =
          omega arith;
      apart = λ e. omega (arith, mailbox_is slot slot_is);
    })

    took_less : len_of taken (mailbox_of slot) + 1 ≡ len_of t (mailbox_of slot)
    took_less =
        omega (
          arith,
          length_view taken (mailbox_of slot),
          length_view t (mailbox_of slot),
          ap length took.left,
          length-drop 1 (view t (mailbox_of slot)),
        )

    took_more : 0 < len_of taken HAND
    took_more =
        omega (
          arith,
          length_view taken HAND,
          ap length took.joined,
          length-append (view t HAND) (take 1 (view t (mailbox_of slot))),
          length-take-le 1 (view t (mailbox_of slot)) (omega (arith, length_view t (mailbox_of slot))),
        )

    took_keeps : Keeps t rows taken rows (q - 1)
    took_keeps =
        through_by t rows taken q slot sound through (q - 1) (omega (
          arith,
          took_less,
          mail_by t rows taken q slot
              sound through,
        ))
      where
        through : Through t rows taken slot
        through = first_through t rows sound.good (mailbox_of slot) slot (aside_mailbox slot) HAND
            (aside_not_mailbox slot HAND not_mailbox_hand)

  pub take_keeps : (slot : ℕ) → slot < 128 → 0 < len_of t (mailbox_of slot)
      → Keeps t rows (move_first t (mailbox_of slot) HAND) rows (q - 1)
  take_keeps slot slot_is some = took_keeps slot slot_is some

  -- a message was taken: the step's hand is not empty
  pub take_fills : (slot : ℕ) → slot < 128 → 0 < len_of t (mailbox_of slot)
      → 0 < len_of (move_first t (mailbox_of slot) HAND) HAND
  take_fills slot slot_is some = took_more slot slot_is some

  -- the first message of the step's hand is the first of a mailbox again
  module _ (slot : ℕ) (slot_is : slot < 128) (some : 0 < len_of t HAND) where
    abbrev put_back : Table
    put_back = move_first_to_front t HAND (mailbox_of slot)

    back_pair : Pair t HAND (mailbox_of slot)
    back_pair = record {
      good = sound.good;
      from_is = omega arith;
      to_is = omega (arith, mailbox_is slot slot_is);
      apart = λ e. omega (arith, mailbox_is slot slot_is);
    }

    back : MovedToFront t HAND (mailbox_of slot) 1 put_back
    back = move_first_to_front_lem back_pair

    back_more : len_of put_back (mailbox_of slot) ≡ len_of t (mailbox_of slot) + 1
    back_more =
        omega (
          arith,
          length_view put_back (mailbox_of slot),
          length_view t (mailbox_of slot),
          ap length back.joined,
          length-append (take 1 (view t HAND)) (view t (mailbox_of slot)),
          length-take-le 1 (view t HAND) (omega (arith, length_view t HAND)),
        )

    put_back_keeps : Keeps t rows put_back rows (capped (q + 1))
    put_back_keeps =
        through_by t rows put_back q slot sound through (capped (q + 1))
        (omega (arith, back_more, capped_fits (q + 1) (omega (arith, mail_fits t rows q sound))))
      where
        through : Through t rows put_back slot
        through = exchange_through rows slot (moved_to_front_exchange back_pair 1 back)
            (aside_not_mailbox slot HAND not_mailbox_hand) (aside_mailbox slot)

  pub back_keeps : (slot : ℕ) → slot < 128 → 0 < len_of t HAND → Keeps t rows (move_first_to_front t HAND (mailbox_of slot))
      rows (capped (q + 1))
  back_keeps slot slot_is some = put_back_keeps slot slot_is some

  -- a row is written anew under the same log id, with no fewer attempts
  pub row_keeps : (e : ℕ) (m : Message) → m.id ≡ (message_at rows e).id
      → ((n : ℕ) → n < 2 ^ 64 → n ≤ (message_at rows e).attempts → n ≤ m.attempts)
      → Keeps t rows t (put_message rows e m) q
  row_keeps e m same more =
      record {
        sound = record { good = sound.good; sized = rows_length rows e m ∙ sound.sized; mail = sound.mail };
        same = λ x. stands_row x t rows e m same;
        busy = λ k id own none. none;
        named = row_id_lem rows e m same;
        tried = λ k n small most. row_tried_lem rows e m k n (more n small) most;
      }

  -- the first free entry goes to a place
  module _ (to : ℕ) (g : NotMailbox to) where
    free_pair : Pair t FREE to
    free_pair = record {
      good = sound.good;
      from_is = omega arith;
      to_is = g.is;
      apart =
          λ e. omega (arith, g.place);
    }

    came : Moved t FREE to 1 (move_first t FREE to)
    came = move_first_lem free_pair

    came_mail : q ≡ mail_total (move_first t FREE to)
    came_mail =
        omega (
          arith,
          sound.mail,
          mail_not_mailbox t (move_first t FREE to) 128 sound.good came.good
              (λ s s-is other. came.others (6 + 2 * s) (λ z. omega arith) (λ z. g.no_mail s s-is (sym z)))
              (omega arith),
        )

    came_more : (x : ℕ) (rows' : Table) → stands x (move_first t FREE to) rows' ≡ stands x t rows' + id_count x rows'
        (take 1 (view t FREE))
    came_more x rows' =
        omega (
          arith,
          free_change (moved_exchange free_pair 1 came) x rows',
          ap (id_count x rows') came.left,
          id_split x rows' 1 (view t FREE),
        )

  -- the first free entry gets a message, which goes to a place
  pub comes : (to : ℕ) (m : Message) → NotMailbox to → 0 < len_of t FREE → Comes t rows (move_first t FREE to)
      (put_message rows (head_of t FREE) m) q m.id
  comes to m g some =
      record {
        sound = record {
          good = (came to g).good;
          sized = rows_length rows (head_of t FREE) m ∙ sound.sized;
          mail =
              came_mail to g;
        };
        more = more;
        busy = λ e none. ap (count e) (came to g).left ∙ omega (arith, count_split e 1 (view t FREE));
        kept = λ e none. message_other rows (head_of t FREE) m e
            (λ is. omega (arith, here, ap (λ k. count k (view t FREE)) is));
        entry = head_of t FREE;
        there = ap (count (head_of t FREE)) (came to g).left ∙ last_free;
        own = ap (λ (x : Message). x.id) written;
      }
    where
      first : 0 < length (view t FREE)
      first = omega (arith, length_view t FREE)

      here : 0 < count (head_of t FREE) (view t FREE)
      here = rw (first_view t FREE first) at (count_at (view t FREE) 0 first)

      inside : head_of t FREE < ENTRIES
      inside = entry t sound.good (head_of t FREE) FREE (omega arith) here

      written : message_at (put_message rows (head_of t FREE) m) (head_of t FREE) ≡ m
      written = message_put rows (head_of t FREE) m (omega (arith, sound.sized, inside))

      -- it stood among what is free once, as the first
      last_free : count (head_of t FREE) (drop 1 (view t FREE)) ≡ 0
      last_free =
          omega (
            arith,
            count_split (head_of t FREE) 1 (view t FREE),
            ap (count (head_of t FREE)) (take_one (view t FREE) first),
            count_same (head_of t FREE) (get_or (view t FREE) 0 0) [] (first_view t FREE first),
            total_one (count (head_of t FREE)) LISTS (view t) FREE (omega arith) (count_none (head_of t FREE)),
            sound.good.once (head_of t FREE) inside,
          )

      more : (x : ℕ) → stands x (move_first t FREE to) (put_message rows (head_of t FREE) m)
          ≡ stands x t rows + pick (is_id x m.id) 1 0
      more x =
          omega (
            arith,
            came_more to g x (put_message rows (head_of t FREE) m),
            stands_free x t rows (head_of t FREE) m sound.good here,
            rw written at (id_first x (put_message rows (head_of t FREE) m) t FREE first),
          )

  -- the first message that is over is free
  pub goes : 0 < len_of t OVER → Goes t rows (move_first t OVER FREE) rows q (message_at rows (head_of t OVER)).id
  goes some =
      record {
        sound = record { good = gone.good; sized = sound.sized; mail = mail };
        less = less;
        busy = λ e other own apart none.
            ap (count e) gone.joined
            ∙ omega (arith, count_append e (view t FREE) (take 1 (view t OVER)), not_first e apart);
      }
    where
      first_over : 0 < length (view t OVER)
      first_over = omega (arith, length_view t OVER)

      -- an entry with another id is not the one that goes
      not_first : (e : ℕ) → (message_at rows e).id ≢ (message_at rows (head_of t OVER)).id
          → count e (take 1 (view t OVER)) ≡ 0
      not_first e apart =
          ap (count e) (take_one (view t OVER) first_over)
          ∙ (count_other e (get_or (view t OVER) 0 0) []
          (λ is. apart (ap (λ k. (message_at rows k).id) (sym is ∙ first_view t OVER first_over))) ∙ count_none e)

      pair : Pair t OVER FREE
      pair = record { good = sound.good; from_is = omega arith; to_is = omega arith; apart = λ e. omega arith }

      gone : Moved t OVER FREE 1 (move_first t OVER FREE)
      gone = move_first_lem pair

      mail : q ≡ mail_total (move_first t OVER FREE)
      mail =
          omega (
            arith,
            sound.mail,
            mail_not_mailbox t (move_first t OVER FREE) 128 sound.good gone.good
                (λ s s-is other. gone.others (6 + 2 * s) (λ z. omega arith) (λ z. omega arith)) (omega arith),
          )

      less : (x : ℕ) → stands x (move_first t OVER FREE) rows + pick (is_id x (message_at rows (head_of t OVER)).id) 1 0
          ≡ stands x t rows
      less x =
          omega (
            arith,
            free_change (moved_exchange pair 1 gone) x rows,
            ap (id_count x rows) gone.joined,
            id_append x rows (view t FREE) (take 1 (view t OVER)),
            id_first x rows t OVER (omega (arith, length_view t OVER)),
          )
