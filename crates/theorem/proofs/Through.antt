-- What a move of messages between two lists does to the places, whatever the lists' numbers. Assumes nothing.
use Rattle.std.specs.Prelude.{Option, Some, None}
use mathlib.Core.Path.{◌≡◌, refl, sym, ap, ◌∙◌}
use mathlib.Core.Logic.{◌≢◌}
use mathlib.Core.List.{List, [], ◌∷◌}
use Prim.Native.Nat.{ℕ, zero, suc, ◌+◌, ◌*◌, ◌≤◌, ◌<◌}
use native.Mathlib.Omega.{arith}
use native.Mathlib.Decide.{ℕ_discrete, dec_lt}
use borrow.Author.Tests.{lt-ltb, le-ltb, eq-eqb}
use lib.ListN.{length, take}
use Rattle.lists.specs.Links.{LISTS, ENTRIES, FREE, Table, len_of, capped, if_moves, move_first, move_all, mailbox_of, OVER}
use Rattle.lists.specs.Family.{count, first_in, total, view, Good, Pair, Moved, MovedAll, MovedToFront}
use Rattle.lists.proofs.Counts.{total_kept, put_two, count_append, count_other}
use Rattle.lists.proofs.Family.{length_view, first_is, at_most_all, len_past}
use Rattle.lists.proofs.Moves.{move_first_lem, move_all_lem, same_list, no_such_to, no_such_from}
use Rattle.message_log.specs.declared.LogId.{LogId}
use Rattle.actor.specs.Messages.{message_at}
use Rattle.steps.specs.Steps.{place_logged, place_over, over_first}
use Rattle.steps.proofs.Times.{capped_fits}
use Rattle.group.specs.Roster.{over_all, queued_after}
use Rattle.theorem.specs.Places.{id_count, stands, mail_total, Sound, Keeps, NotMailbox}
use Rattle.theorem.proofs.Totals.{total_same, total_at, id_append, id_split, id_none, id_single, stands_all}
use Rattle.theorem.proofs.Totals.{mail_few}

-- ---- mailboxes

pub mailbox_is : (slot : ℕ) → slot < 128 → mailbox_of slot ≡ 6 + 2 * slot
unfolding mailbox_of
mailbox_is slot slot_is = rw (lt-ltb slot 128 slot_is)

pub mailbox_past : (slot : ℕ) → 128 ≤ slot → mailbox_of slot ≡ LISTS
unfolding mailbox_of
mailbox_past slot out = rw (le-ltb slot 128 out)

-- a list above what is free, and no mailbox but that of `slot`
pub record Aside (slot k : ℕ) : Type 0 where
  pub place : 0 < k
  pub no_mail : (s : ℕ) → s < 128 → s ≢ slot → 6 + 2 * s ≢ k

pub aside_not_mailbox : (slot k : ℕ) → NotMailbox k → Aside slot k
aside_not_mailbox slot k not-mailbox =
    record { place = not-mailbox.place; no_mail = λ s s-is other e. not-mailbox.no_mail s s-is (sym e) }

pub aside_mailbox : (slot : ℕ) → Aside slot (mailbox_of slot)
aside_mailbox slot = go (dec_lt slot 128)
  where
    go : Dec (slot < 128) → Aside slot (mailbox_of slot)
    go (yes p) = record {
      place = omega (arith, mailbox_is slot p);
      no_mail = λ s s-is other e. other
          (omega (arith, mailbox_is slot p));
    }
    go (no p) = record {
      place = omega (arith, mailbox_past slot (omega arith));
      no_mail = λ s s-is other e. omega
          (arith, mailbox_past slot (omega arith));
    }

-- ---- messages go from place to place

-- from the links t to the links r: no log id comes or goes, and no mailbox changes but that of `slot`; at slot 128
-- none does
pub record Through (t rows r : Table) (slot : ℕ) : Type 0 where
  pub good : Good r
  pub same : (x : ℕ) → stands x r rows ≡ stands x t rows
  pub others : (s : ℕ) → s < 128 → s ≢ slot → view r (6 + 2 * s) ≡ view t (6 + 2 * s)
  pub busy : (e : ℕ) (id : LogId) → (message_at rows e).id ≡ Some id → count e (view t FREE) ≡ 0
      → count e (view r FREE) ≡ 0

pub same_through : (t rows : Table) (slot : ℕ) → Good t → Through t rows t slot
same_through t rows slot good = record {
  good = good;
  same = λ x. refl;
  others = λ s s-is other. refl;
  busy = λ e id own none. none;
}

-- one after the other
pub then_through : {t rows r u : Table} {slot : ℕ} → Through t rows r slot → Through r rows u slot
    → Through t rows u slot
then_through first second =
    record {
      good = second.good;
      same = λ x. second.same x ∙ first.same x;
      others = λ s s-is other. second.others s s-is other ∙ first.others s s-is other;
      busy = λ e id own none. second.busy e id own (first.busy e id own none);
    }

-- past the last mailbox there is none
mailbox_none : (t : Table) → Good t → (slot : ℕ) → 128 ≤ slot → len_of t (mailbox_of slot) ≡ 0
mailbox_none t good slot out = len_past t (mailbox_of slot) (omega (arith, mailbox_past slot out, good.sized))

-- a mailbox holds no more than all the entries
mailbox_few : (t : Table) → Good t → (slot : ℕ) → len_of t (mailbox_of slot) ≤ ENTRIES
mailbox_few t good slot = go (dec_lt slot 128)
  where
    go : Dec (slot < 128) → len_of t (mailbox_of slot) ≤ ENTRIES
    go (yes p) = omega (
      arith,
      length_view t (mailbox_of slot),
      at_most_all t good (mailbox_of slot)
          (omega (arith, mailbox_is slot p)),
    )
    go (no p) = omega (arith, mailbox_none t good slot (omega arith))

-- the mailbox of each slot
abbrev mailboxes : Table → ℕ → List ℕ
mailboxes t slot = view t (6 + 2 * slot)

module _ (t r : Table) (slot : ℕ) (good : Good t) (good' : Good r) (others : (s : ℕ) → s < 128 → s ≢ slot
    → mailboxes r s ≡ mailboxes t s) where
  -- the sum of the mailbox lengths changes as that mailbox does
  mail_through : mail_total r + len_of t (mailbox_of slot) ≡ mail_total t + len_of r (mailbox_of slot)
  unfolding mail_total
  mail_through = go (dec_lt slot 128)
    where
      go : Dec (slot < 128) → total length 128 (mailboxes r) + len_of t (mailbox_of slot)
          ≡ total length 128 (mailboxes t) + len_of r (mailbox_of slot)
      go (yes p) =
          rw (mailbox_is slot p)
          (omega (
            arith,
            total_at length 128 (mailboxes t) (mailboxes r) slot p (λ s s-is other. ap length (others s s-is other)),
            length_view t (6 + 2 * slot),
            length_view r (6 + 2 * slot),
          ))
      go (no p) =
          omega (
            arith,
            total_same length length 128 (mailboxes r) (mailboxes t)
                (λ s s-is. ap length (others s s-is (λ e. p (omega arith)))),
            mailbox_none t good slot (omega arith),
            mailbox_none r good' slot (omega arith),
          )

  -- where there is no such mailbox it does not change
  pub mail_not_mailbox : 128 ≤ slot → mail_total r ≡ mail_total t
  mail_not_mailbox out = omega (arith, mail_through, mailbox_none t good slot out, mailbox_none r good' slot out)

-- queued is no more than all the entries
pub mail_fits : (t rows : Table) (q : ℕ) → Sound t rows q → q ≤ ENTRIES
mail_fits t rows q sound = omega (arith, sound.mail, mail_few t sound.good)

module _ (t rows r : Table) (q slot : ℕ) (sound : Sound t rows q) (through : Through t rows r slot) where
  pub mail_by : mail_total r + len_of t (mailbox_of slot) ≡ q + len_of r (mailbox_of slot)
  mail_by = omega (arith, mail_through t r slot sound.good through.good through.others, sound.mail)

  -- queued changes as that mailbox does
  pub through_by : (p : ℕ) → p + len_of t (mailbox_of slot) ≡ q + len_of r (mailbox_of slot) → Keeps t rows r rows p
  through_by p by = record {
    sound = record {
      good = through.good;
      sized = sound.sized;
      mail =
          omega (arith, mail_by);
    };
    same = through.same;
    busy = through.busy;
    named = λ e. refl;
    tried = λ e n small most. most;
  }

  -- no mailbox changes
  pub through_not_mailbox : 128 ≤ slot → Keeps t rows r rows q
  through_not_mailbox out = through_by q (omega (
    arith,
    mailbox_none t sound.good slot out,
    mailbox_none r through.good
        slot out,
  ))

  -- queued changes as the rules write it, and is never capped
  pub through_keeps : Keeps t rows r rows (queued_after t r slot q)
  through_keeps = through_by (queued_after t r slot q) (rw fits (omega (arith, mail_by)))
    where
      fits : capped (q + len_of r (mailbox_of slot)) ≡ q + len_of r (mailbox_of slot)
      fits = capped_fits (q + len_of r (mailbox_of slot)) (omega (
        arith,
        mail_fits t rows q sound,
        mailbox_few r through.good slot,
      ))

-- ---- whatever the numbers

-- what holds of the table as it is, and of a move between two lists, holds of every move
module _ (t : Table) (good : Good t) (from to : ℕ) (P : Table → Type 0) (stays : P t) where
  moves_rule : (r : Table) → (Pair t from to → P (if_moves t from to r)) → P (if_moves t from to r)
  moves_rule r moved = go (ℕ_discrete from to) (dec_lt to LISTS) (dec_lt from LISTS)
    where
      go : Dec (from ≡ to) → Dec (to < LISTS) → Dec (from < LISTS) → P (if_moves t from to r)
      go (yes p) d e = rw (same_list t good from to r p) stays
      go (no p) (no d) e = rw (no_such_to t good from to r (omega arith)) stays
      go (no p) (yes d) (no e) = rw (no_such_from t good from to r (omega arith)) stays
      go (no p) (yes d) (yes e) = moved (record { good = good; from_is = e; to_is = d; apart = p })

  pub first_rule : (Pair t from to → P (move_first t from to)) → P (move_first t from to)
  unfolding move_first
  first_rule moved = moves_rule _ moved

  pub all_rule : (Pair t from to → P (move_all t from to)) → P (move_all t from to)
  unfolding move_all
  all_rule moved = moves_rule _ moved

-- ---- two lists

-- r is t but for two lists, which hold together what they held
pub record Exchange (t r : Table) (from to : ℕ) : Type 0 where
  pub pair : Pair t from to
  pub good : Good r
  pub ids : (x : ℕ) (rows : Table) → id_count x rows (view r from) + id_count x rows (view r to)
      ≡ id_count x rows (view t from) + id_count x rows (view t to)
  pub others : (k : ℕ) → k ≢ from → k ≢ to → view r k ≡ view t k

module _ {t r : Table} {from to : ℕ} (pair : Pair t from to) where
  pub moved_exchange : (n : ℕ) → Moved t from to n r → Exchange t r from to
  moved_exchange n m =
      record {
        pair = pair;
        good = m.good;
        ids = λ x rows. rw (m.left, m.joined) (omega (
          arith,
          id_append x rows (view t to) (take n (view t from)),
          id_split x rows n (view t from),
        ));
        others = m.others;
      }

  pub moved_all_exchange : MovedAll t from to r → Exchange t r from to
  moved_all_exchange m =
      record {
        pair = pair;
        good = m.good;
        ids = λ x rows. rw (m.left, m.joined) (omega (
          arith,
          id_none x rows,
          id_append x rows (view t to)
              (view t from),
        ));
        others = m.others;
      }

  pub moved_to_front_exchange : (n : ℕ) → MovedToFront t from to n r → Exchange t r from to
  moved_to_front_exchange n m =
      record {
        pair = pair;
        good = m.good;
        ids = λ x rows. rw (m.left, m.joined) (omega (
          arith,
          id_append x rows (take n (view t from)) (view t to),
          id_split x rows n (view t from),
        ));
        others = m.others;
      }

module _ {t r : Table} {from to : ℕ} (e : Exchange t r from to) (x : ℕ) (rows : Table) where
  -- all the lists together hold what they held
  all_same : total (id_count x rows) LISTS (view r) ≡ total (id_count x rows) LISTS (view t)
  all_same =
      ap (total (id_count x rows) LISTS) (put_two (view r) (view t) from to (view r from) (view r to) e.pair.apart
      refl refl e.others)
      ∙ total_kept (id_count x rows) LISTS (view t) from to e.pair.from_is e.pair.to_is e.pair.apart
      (view r from) (view r to) (e.ids x rows)

  -- what the places lose is free
  pub free_change : stands x r rows + id_count x rows (view r FREE) ≡ stands x t rows + id_count x rows (view t FREE)
  free_change = omega (arith, all_same, stands_all x r rows, stands_all x t rows)

  -- between two places
  pub stands_same : 0 < from → 0 < to → stands x r rows ≡ stands x t rows
  stands_same f g = omega (
    arith,
    free_change,
    ap (id_count x rows) (e.others FREE (λ z. omega arith)
        (λ z. omega arith)),
  )

pub exchange_through : {t r : Table} {from to : ℕ} (rows : Table) (slot : ℕ) → Exchange t r from to → Aside slot from
    → Aside slot to → Through t rows r slot
exchange_through rows slot e f g =
    record {
      good = e.good;
      same = λ x. stands_same e x rows f.place g.place;
      others = λ s s-is other. e.others (6 + 2 * s) (f.no_mail s s-is other) (g.no_mail s s-is other);
      busy = λ x id own none.
          ap (count x) (e.others FREE (λ z. omega (arith, f.place)) (λ z. omega (arith, g.place))) ∙ none;
    }

-- ---- moves

module _ (t rows : Table) (good : Good t) (from slot : ℕ) (f : Aside slot from) where
  pub first_through : (to : ℕ) → Aside slot to → Through t rows (move_first t from to) slot
  first_through to g =
      first_rule t good from to (λ (r : Table). Through t rows r slot) (same_through t rows slot good)
      (λ pair. exchange_through rows slot (moved_exchange pair 1 (move_first_lem pair)) f g)

  pub all_through : (to : ℕ) → Aside slot to → Through t rows (move_all t from to) slot
  all_through to g =
      all_rule t good from to (λ (r : Table). Through t rows r slot) (same_through t rows slot good)
      (λ pair. exchange_through rows slot (moved_all_exchange pair (move_all_lem pair)) f g)

  -- an entry with a log id is none of those that have none
  unnamed : (e : ℕ) (id : LogId) → (message_at rows e).id ≡ Some id → (es : List ℕ) → id_count id.0 rows es ≡ 0
      → count e es ≡ 0
  unfolding id_count count
  unnamed e id own [] none = refl
  unnamed e id own (x ∷ es) none = at (ℕ_discrete x e) (unnamed e id own es (omega arith))
    where
      at : Dec (x ≡ e) → count e es ≡ 0 → count e (x ∷ es) ≡ 0
      at (yes is) later =
          let here : (message_at rows x).id ≡ Some id = ap (λ k. (message_at rows k).id) is ∙ own in
          absurd (omega (arith, rw (eq-eqb id.0 id.0 refl) at (rw here at none)))
      at (no other) later = count_other e x es other ∙ later

  -- a message that is not logged goes
  free_through : ((x : ℕ) → id_count x rows (take 1 (view t from)) ≡ 0) → Through t rows (move_first t from FREE) slot
  free_through never = first_rule t good from FREE (λ (r : Table). Through t rows r slot) (same_through t rows slot
      good) moved
    where
      moved : Pair t from FREE → Through t rows (move_first t from FREE) slot
      moved pair =
          let m : Moved t from FREE 1 (move_first t from FREE) = move_first_lem pair in
          record {
            good = m.good;
            same = λ x. omega (
              arith,
              never x,
              free_change (moved_exchange pair 1 m) x rows,
              ap (id_count x rows)
                  m.joined,
              id_append x rows (view t FREE) (take 1 (view t from)),
            );
            others = λ s s-is other. m.others (6 + 2 * s) (f.no_mail s s-is other) (λ z. omega arith);
            busy = λ e id own none.
                ap (count e) m.joined
                ∙ omega (
                  arith,
                  count_append e (view t FREE) (take 1 (view t from)),
                  unnamed e id own (take 1 (view t from)) (never id.0),
                );
          }

  -- the first message is over
  pub over_through : Through t rows (over_first t rows from) slot
  unfolding over_first place_over
  over_through = rw (ap (place_over rows) (first_is t from)) (go (view t from) refl)
    where
      by : (e : ℕ) (es : List ℕ) → view t from ≡ e ∷ es → (l : Option LogId) → (message_at rows e).id ≡ l
          → Through t rows (move_first t from (place_logged l)) slot
      by e es is (Some id) p = first_through OVER (record {
        place = omega arith;
        no_mail = λ s s-is other z. omega
            arith;
      })
      by e es is None p = free_through (λ x. rw (is, id_single x rows e, p))

      go : (l : List ℕ) → view t from ≡ l → Through t rows (move_first t from (place_over rows (first_in l))) slot
      go [] is = free_through (λ x. rw is (id_none x rows))
      go (e ∷ es) is = by e es is (message_at rows e).id refl

-- between places that are no mailboxes no mailbox changes
module _ (t rows : Table) (good : Good t) (from : ℕ) (f : NotMailbox from) where
  pub not_mailbox_move : (to : ℕ) → NotMailbox to → Through t rows (move_first t from to) 128
  not_mailbox_move to g =
      first_through t rows good from 128 (aside_not_mailbox 128 from f) to (aside_not_mailbox 128 to g)

  pub not_mailbox_all : (to : ℕ) → NotMailbox to → Through t rows (move_all t from to) 128
  not_mailbox_all to g =
      all_through t rows good from 128 (aside_not_mailbox 128 from f) to (aside_not_mailbox 128 to g)

  pub not_mailbox_over : Through t rows (over_first t rows from) 128
  not_mailbox_over = over_through t rows good from 128 (aside_not_mailbox 128 from f)

-- the first n messages are over
pub over_all_through : (n : ℕ) (t rows : Table) → Good t → (from slot : ℕ) → Aside slot from
    → Through t rows (over_all t rows from n) slot
unfolding over_all
over_all_through zero t rows good from slot f = same_through t rows slot good
over_all_through (suc n) t rows good from slot f =
    let first = over_through t rows good from slot f in
    then_through first (over_all_through n (over_first t rows from) rows first.good from slot f)
