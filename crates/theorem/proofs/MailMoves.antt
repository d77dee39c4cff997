-- A move between a mailbox and another list is an operation on the mailbox. Assumes nothing.
use mathlib.Core.Path.{◌≡◌, refl, ap, ◌∙◌}
use mathlib.Core.Logic.{◌≢◌}
use mathlib.Core.List.{List, [], ◌∷◌, map, map-append}
use Prim.Native.Nat.{ℕ, ◌<◌}
use native.Mathlib.Omega.{arith}
use lib.ListN.{take, drop}
use Rattle.lists.specs.Links.{Table, move_first, move_first_to_front, move_all, mailbox_of}
use Rattle.lists.specs.Family.{view, Good, Pair}
use Rattle.lists.proofs.Moves.{move_first_lem, move_first_to_front_lem, move_all_lem}
use Rattle.theorem.proofs.Through.{mailbox_is}
use Rattle.theorem.specs.Mailboxes.{mail_list, mailbox, Operation, put_at_end, put_at_front, take_first, empty_out}
use Rattle.theorem.specs.Mailboxes.{mail_after, list_after, messages_of, full_message, Operated}
use Rattle.theorem.proofs.Chained.{good_chained}

-- ---- an operation on entries is the operation on their messages

module _ {A B : Type 0} (f : A → B) where
  map_take : (xs : List A) → map f (take 1 xs) ≡ take 1 (map f xs)
  map_take [] = refl
  map_take (x ∷ xs) = refl

  map_drop : (xs : List A) → map f (drop 1 xs) ≡ drop 1 (map f xs)
  map_drop [] = refl
  map_drop (x ∷ xs) = refl

  map_after : (op : Operation) (mail list : List A) → map f (mail_after op mail list)
      ≡ mail_after op (map f mail) (map f list)
  map_after put_at_end mail list = simp (map-append, map_take)
  map_after put_at_front mail list = simp (map-append, map_take)
  map_after take_first mail list = simp map_drop
  map_after empty_out mail list = refl

  map_list_after : (op : Operation) (mail list : List A) → map f (list_after op mail list)
      ≡ list_after op (map f mail) (map f list)
  map_list_after put_at_end mail list = simp map_drop
  map_list_after put_at_front mail list = simp map_drop
  map_list_after take_first mail list = simp (map-append, map_take)
  map_list_after empty_out mail list = simp map-append

-- ---- a move between a mailbox and another list is the operation

module _ (slot : ℕ) (slot_is : slot < 128) (t : Table) (good : Good t) where
  pub operated : (op : Operation) (k : ℕ) (r : Table) → Good r
      → mailbox r slot ≡ mail_after op (mailbox t slot) (view t k)
      → view r k ≡ list_after op (mailbox t slot) (view t k)
      → ((j : ℕ) → j ≢ mail_list slot → j ≢ k → view r j ≡ view t j)
      → Operated op slot k t r
  operated op k r good' mail list others = record {
    mail = mail;
    list = list;
    messages = λ store rows. ap (messages_of store rows) mail
        ∙ map_after (full_message store rows) op (mailbox t slot) (view t k);
    list_messages = λ store rows. ap (messages_of store rows) list
        ∙ map_list_after (full_message store rows) op (mailbox t slot) (view t k);
    others = others;
    good = good';
    chained = good_chained r good';
  }

  pair_from : (k : ℕ) → k < 6 → Pair t k (mail_list slot)
  pair_from k low = record { good = good; from_is = omega arith; to_is = omega arith; apart = λ e. omega arith }

  pub pair_to : (k : ℕ) → k < 6 → Pair t (mail_list slot) k
  pair_to k low = record { good = good; from_is = omega arith; to_is = omega arith; apart = λ e. omega arith }

  pub put_at_end_lem : (k : ℕ) → k < 6 → Operated put_at_end slot k t (move_first t k (mailbox_of slot))
  put_at_end_lem k low =
      let m = move_first_lem (pair_from k low) in
      rw (mailbox_is slot slot_is) (operated put_at_end k _ m.good m.joined m.left (λ j p q. m.others j q p))

  pub put_at_front_lem : (k : ℕ) → k < 6 → Operated put_at_front slot k t (move_first_to_front t k (mailbox_of slot))
  put_at_front_lem k low =
      let m = move_first_to_front_lem (pair_from k low) in
      rw (mailbox_is slot slot_is) (operated put_at_front k _ m.good m.joined m.left (λ j p q. m.others j q p))

  pub take_first_lem : (k : ℕ) → k < 6 → Operated take_first slot k t (move_first t (mailbox_of slot) k)
  take_first_lem k low =
      let m = move_first_lem (pair_to k low) in
      rw (mailbox_is slot slot_is) (operated take_first k _ m.good m.left m.joined m.others)

  pub empty_out_lem : (k : ℕ) → k < 6 → Operated empty_out slot k t (move_all t (mailbox_of slot) k)
  empty_out_lem k low =
      let m = move_all_lem (pair_to k low) in
      rw (mailbox_is slot slot_is) (operated empty_out k _ m.good m.left m.joined m.others)
