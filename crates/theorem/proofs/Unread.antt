-- A mailbox that is emptied unread: what is logged stands at the end of over, in order, and the rest is free. Assumes
-- nothing.
use Rattle.std.specs.Prelude.{Option, Some, None}
use Rattle.message_log.specs.declared.LogId.{LogId}
use mathlib.Core.Path.{◌≡◌, refl, sym, ap, ◌∙◌}
use mathlib.Core.Bool.{true, false}
use mathlib.Core.Logic.{◌≢◌}
use mathlib.Core.List.{List, [], ◌∷◌, ◌++◌, append-nil, append_assoc}
use Prim.Native.Nat.{ℕ, ◌≤◌, ◌<◌}
use native.Mathlib.Omega.{arith}
use lib.ListN.{length, take, drop}
use Rattle.lists.specs.Links.{LISTS, Table, len_of, move_first, mailbox_of, FREE, OVER}
use Rattle.lists.specs.Family.{view, Good, Pair, Moved}
use Rattle.lists.proofs.Family.{length_view, first_is}
use Rattle.lists.proofs.Moves.{move_first_lem}
use Rattle.actor.specs.Messages.{message_at}
use Rattle.steps.specs.Steps.{place_logged, place_over, over_first}
use Rattle.group.specs.Roster.{over_all}
use Rattle.theorem.proofs.Through.{mailbox_is}
use Rattle.theorem.specs.Mailboxes.{mail_list, mailbox, has_log_id, logged_in, unlogged_in, Unread}
use Rattle.theorem.proofs.Chained.{good_chained}

-- the messages es of a list are over: at the ends of over and of what is free
record Overs (rows : Table) (from : ℕ) (es : List ℕ) (t r : Table) : Type 0 where
  left : view r from ≡ []
  over : view r OVER ≡ view t OVER ++ logged_in rows es
  free : view r FREE ≡ view t FREE ++ unlogged_in rows es
  others : (j : ℕ) → j ≢ from → j ≢ OVER → j ≢ FREE → view r j ≡ view t j
  good : Good r

module _ (rows : Table) (from : ℕ) (above : 4 < from) (from_is : from < LISTS) where
  to_low : (t : Table) → Good t → (k : ℕ) → k ≤ 4 → Pair t from k
  to_low t good k low = record { good = good; from_is = from_is; to_is = omega arith; apart = λ e. omega arith }

  -- the first message is over, and then the others
  module _ (t : Table) (good : Good t) (e : ℕ) (es : List ℕ) (is : view t from ≡ e ∷ es) where
    goes : (k : ℕ) → place_logged (message_at rows e).id ≡ k → over_first t rows from ≡ move_first t from k
    unfolding over_first place_over
    goes k p = rw (first_is t from, is) (ap (move_first t from) p)

    over_logged : (r : Table) → Overs rows from es (move_first t from OVER) r → has_log_id (message_at rows e).id ≡ true
        → Overs rows from (e ∷ es) t r
    unfolding logged_in unlogged_in
    over_logged r rest is-logged =
        let m = move_first_lem (to_low t good OVER (omega arith)) in
        record {
          left = rest.left;
          over = rest.over ∙ ap (λ xs. xs ++ logged_in rows es) (m.joined ∙ ap (λ xs. view t OVER ++ take 1 xs) is)
              ∙ append_assoc (view t OVER) (e ∷ []) (logged_in rows es) ∙ rw is-logged;
          free = rest.free
              ∙ ap (λ xs. xs ++ unlogged_in rows es) (m.others FREE (λ z. omega arith) (λ z. omega arith))
              ∙ rw is-logged;
          others = λ j p q s. rest.others j p q s ∙ m.others j p q;
          good = rest.good;
        }

    over_unlogged : (r : Table) → Overs rows from es (move_first t from FREE) r
        → has_log_id (message_at rows e).id ≡ false → Overs rows from (e ∷ es) t r
    unfolding logged_in unlogged_in
    over_unlogged r rest is-not =
        let m = move_first_lem (to_low t good FREE (omega arith)) in
        record {
          left = rest.left;
          over = rest.over ∙ ap (λ xs. xs ++ logged_in rows es) (m.others OVER (λ z. omega arith) (λ z. omega arith))
              ∙ rw is-not;
          free = rest.free ∙ ap (λ xs. xs ++ unlogged_in rows es) (m.joined ∙ ap (λ xs. view t FREE ++ take 1 xs) is)
              ∙ append_assoc (view t FREE) (e ∷ []) (unlogged_in rows es) ∙ rw is-not;
          others = λ j p q s. rest.others j p q s ∙ m.others j p s;
          good = rest.good;
        }

  over_all_lem : (es : List ℕ) (t : Table) → Good t → view t from ≡ es
      → Overs rows from es t (over_all t rows from (length es))
  unfolding over_all logged_in unlogged_in
  over_all_lem [] t good is = record {
    left = is;
    over = sym (append-nil (view t OVER));
    free = sym (append-nil (view t FREE));
    others = λ j p q s. refl;
    good = good;
  }
  over_all_lem (e ∷ es) t good is = by (λ k low. over_all_lem es (move_first t from k) (went k low).good (stays k low))
      (message_at rows e).id refl
    where
      went : (k : ℕ) → k ≤ 4 → Moved t from k 1 (move_first t from k)
      went k low = move_first_lem (to_low t good k low)

      stays : (k : ℕ) (low : k ≤ 4) → view (move_first t from k) from ≡ es
      stays k low = (went k low).left ∙ ap (drop 1) is

      by : ((k : ℕ) → k ≤ 4 → Overs rows from es (move_first t from k)
          (over_all (move_first t from k) rows from (length es)))
          → (l : Option LogId) → (message_at rows e).id ≡ l
          → Overs rows from (e ∷ es) t (over_all (over_first t rows from) rows from (length es))
      by rest (Some id) p = rw (goes t good e es is OVER (rw p)) (over_logged t good e es is _ (rest OVER
          (omega arith)) (rw p))
      by rest None p = rw (goes t good e es is FREE (rw p)) (over_unlogged t good e es is _ (rest FREE
          (omega arith)) (rw p))

pub unread : (slot : ℕ) → slot < 128 → (t rows : Table) → Good t
    → Unread rows slot t (over_all t rows (mailbox_of slot) (len_of t (mailbox_of slot)))
unread slot low t rows good =
    let all = over_all_lem rows (mail_list slot) (omega arith) (omega arith) (mailbox t slot) t good refl in
    rw (mailbox_is slot low, ← length_view t (mail_list slot)) (record {
      mail = all.left;
      over = all.over;
      free = all.free;
      others = all.others;
      good = all.good;
      chained = good_chained _ all.good;
    })
