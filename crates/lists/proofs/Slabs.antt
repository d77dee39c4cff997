-- What each operation does to every key of a group's actors. Assumes nothing.
use Rattle.std.specs.Prelude.{Option, Some, None}
use mathlib.Core.Path.{◌≡◌, refl, sym, ap, ◌∙◌}
use mathlib.Core.Bool.{Bool, true, false, false≢true}
use mathlib.Core.Logic.{◌≢◌}
use mathlib.Core.List.{List, [], ◌∷◌, ◌++◌}
use Prim.Native.Nat.{ℕ, zero, suc, ◌+◌, ◌-◌, ◌≤◌, ◌<◌}
use native.Mathlib.Nat.{suc-sub-suc, sub-zero}
use native.Mathlib.Omega.{arith}
use native.Mathlib.Decide.{ℕ_discrete, dec_lt}
use borrow.Author.Tests.{eq-eqb, ne_eqb, lt-ltb, le-ltb}
use lib.Dec.{eqb, ltb}
use lib.ListN.{length, get_or, set, length-set, length-append}
use lib.Seq.{get_or-set_same, get_or-set_other, take-set-le, take-suc}
use Rattle.lists.specs.Links.{pick}
use Rattle.lists.specs.Family.{count}
use Rattle.lists.specs.KeyLists.{blank_row, count_of, keys_of, Held, elem, holds_of, pop_end, key_appended}
use Rattle.lists.specs.Slabs.{given_of, contains_of, vacant_of, insert_of, remove_of, live_count, next_key, SlabSound}
use Rattle.lists.proofs.Queues.{elem_count, elem_counted, elem_last, length_keys, pop_end_held, append_is}
use Rattle.lists.proofs.Queues.{append_held, at_most, count_joined, count_alone, count_itself}

-- ---- elem

count_elem : (k : ℕ) (xs : List ℕ) → count k xs ≡ 0 → elem k xs ≡ false
count_elem k xs none = go (elem k xs) refl
  where
    go : (b : Bool) → elem k xs ≡ b → b ≡ false
    go true e = absurd (omega (arith, elem_counted k xs e, none))
    go false e = refl

elem_other : (j k : ℕ) (xs : List ℕ) → j ≢ k → elem j (xs ++ (k ∷ [])) ≡ elem j xs
unfolding elem
elem_other j k [] other = rw (ne_eqb k j (λ e. other (sym e)))
elem_other j k (x ∷ xs) other = rw (elem_other j k xs other)

-- ---- the row

pub sound_held : (s : List ℕ) → SlabSound s → Held s
sound_held s sound = record { sized = sound.sized; few = omega (arith, sound.few, sound.fewer) }

-- no actor, and no key given yet
pub sound_blank : SlabSound blank_row
unfolding count
sound_blank = record {
  sized = refl;
  few = omega arith;
  fewer = omega arith;
  once = λ k. omega arith;
  given =
      λ k some. absurd (omega arith);
}

-- the last cell is no key
given_keys : (s : List ℕ) (v : ℕ) → count_of s < 64 → length s ≡ 65 → (keys_of (set s 64 v) ≡ keys_of s)
    × (count_of (set s 64 v) ≡ count_of s)
given_keys [] v few long = absurd (omega arith)
given_keys (n ∷ ks) v few long = (take-set-le n ks 63 v (omega arith), refl)

-- the free keys are those before the last freed one, and it
free_split : (s : List ℕ) → Held s → 0 < count_of s → keys_of s ≡ keys_of (pop_end s) ++ (get_or s (count_of s) 0 ∷ [])
unfolding pop_end
free_split [] held some = absurd (omega (arith, held.sized))
free_split (zero ∷ ks) held some = absurd (omega arith)
free_split (suc n ∷ ks) held some =
    rw (ne_eqb (suc n) 0 (λ z. omega arith), suc-sub-suc n 0, sub-zero n)
    (take-suc ks n 0 (omega (arith, held.sized, held.few)))

given_pop : (s : List ℕ) → given_of (pop_end s) ≡ given_of s
unfolding pop_end
given_pop s = go (eqb (count_of s) 0)
  where
    go : (b : Bool) → given_of (pick b s (set s 0 (count_of s - 1))) ≡ given_of s
    go true = refl
    go false = get_or-set_other s 0 64 (count_of s - 1) 0 (λ e. omega arith)

given_append : (s : List ℕ) (k : ℕ) → count_of s < 63 → given_of (key_appended s k) ≡ given_of s
unfolding key_appended
given_append s k few =
    rw (lt-ltb (count_of s) 64 (omega arith))
    (get_or-set_other (set s (count_of s + 1) k) 0 64 (count_of s + 1) 0 (λ e. omega arith)
    ∙ get_or-set_other s (count_of s + 1) 64 k 0 (λ e. omega arith))

-- ---- which keys are those of actors

-- an actor has a key that was given and is not free
live_by : (s : List ℕ) (k : ℕ) → k < given_of s → elem k (keys_of s) ≡ false → contains_of s k ≡ true
unfolding contains_of holds_of
live_by s k low absent = rw (lt-ltb k (given_of s) low, absent)

pub live_given : (s : List ℕ) (k : ℕ) → contains_of s k ≡ true → (k < given_of s) × (elem k (keys_of s) ≡ false)
unfolding contains_of holds_of
live_given s k live = go (dec_lt k (given_of s))
  where
    absent : (b : Bool) → pick b false true ≡ true → b ≡ false
    absent true e = absurd (false≢true e)
    absent false e = refl

    go : Dec (k < given_of s) → (k < given_of s) × (elem k (keys_of s) ≡ false)
    go (yes p) = (p, absent (elem k (keys_of s)) (rw (lt-ltb k (given_of s) p) at live))
    go (no p) = absurd (false≢true (rw (le-ltb k (given_of s) (omega arith)) at live))

dead_free : (s : List ℕ) (k : ℕ) → elem k (keys_of s) ≡ true → contains_of s k ≡ false
unfolding contains_of holds_of
dead_free s k free = rw free (go (ltb k (given_of s)))
  where
    go : (b : Bool) → pick b false false ≡ false
    go true = refl
    go false = refl

dead_new : (s : List ℕ) (k : ℕ) → given_of s ≤ k → contains_of s k ≡ false
unfolding contains_of
dead_new s k new = rw (le-ltb k (given_of s) new)

-- the same keys given and the same free: the same actors
same_live : (s r : List ℕ) (k : ℕ) → ltb k (given_of r) ≡ ltb k (given_of s) → elem k (keys_of r) ≡ elem k (keys_of s)
    → contains_of r k ≡ contains_of s k
unfolding contains_of holds_of
same_live s r k given free = rw (given, free)

-- ---- insert

pub record Inserted (s : List ℕ) (k : ℕ) : Type 0 where
  pub sound : SlabSound (insert_of s)
  pub low : k < 16
  pub was_free : contains_of s k ≡ false
  pub live : contains_of (insert_of s) k ≡ true
  pub others : (j : ℕ) → j ≢ k → contains_of (insert_of s) j ≡ contains_of s j
  pub counted : live_count (insert_of s) ≡ live_count s + 1

-- no key is free: the next that never was one
module _ (s : List ℕ) (sound : SlabSound s) (none : count_of s ≡ 0) (room : given_of s < 16) where
  abbrev more : List ℕ
  more = set s 64 (given_of s + 1)

  more_keys : (keys_of more ≡ keys_of s) × (count_of more ≡ count_of s)
  more_keys = given_keys s (given_of s + 1) (omega arith) sound.sized

  more_given : given_of more ≡ given_of s + 1
  more_given = get_or-set_same s 64 (given_of s + 1) 0 (omega (arith, sound.sized))

  no_keys : keys_of s ≡ []
  no_keys = rw none

  free_none : (j : ℕ) → elem j (keys_of s) ≡ false
  unfolding elem
  free_none j = rw no_keys

  new_form : insert_of s ≡ more
  unfolding insert_of
  new_form = rw (eq-eqb (count_of s) 0 none, lt-ltb (given_of s) 16 room)

  new_inserted : Inserted s (given_of s)
  new_inserted =
      record {
        sound =
            rw new_form
            (record {
              sized = simp length-set sound.sized;
              few = omega (arith, more_given);
              fewer = omega (arith, more_given, more_keys.1, none);
              once = λ k. rw more_keys.0 (sound.once k);
              given = λ k some. omega (arith, more_given, sound.given k (rw more_keys.0 at some));
            });
        low = room;
        was_free = dead_new s (given_of s) (omega arith);
        live = rw new_form (live_by more (given_of s) (omega (arith, more_given))
            (rw more_keys.0 (free_none (given_of s))));
        others = λ j other. rw new_form (same_live s more j (rw more_given (below j other (dec_lt j (given_of s))))
            (ap (elem j) more_keys.0));
        counted = rw new_form (omega (arith, more_given, more_keys.1, none));
      }
    where
      below : (j : ℕ) → j ≢ given_of s → Dec (j < given_of s) → ltb j (given_of s + 1) ≡ ltb j (given_of s)
      below j other (yes p) = rw (lt-ltb j (given_of s) p, lt-ltb j (given_of s + 1) (omega arith))
      below j other (no p) = rw (le-ltb j (given_of s) (omega arith), le-ltb j (given_of s + 1) (omega arith))

-- the last freed key
module _ (s : List ℕ) (sound : SlabSound s) (some : 0 < count_of s) where
  abbrev freed : ℕ
  freed = get_or s (count_of s) 0

  split : keys_of s ≡ keys_of (pop_end s) ++ (freed ∷ [])
  split = free_split s (sound_held s sound) some

  freed_counted : 0 < count freed (keys_of s)
  freed_counted = omega (
    arith,
    ap (count freed) split,
    count_joined (keys_of (pop_end s)) freed freed,
    count_itself (keys_of s) freed,
  )

  freed_given : freed < given_of s
  freed_given = sound.given freed freed_counted

  rest_count : (j : ℕ) → count j (keys_of (pop_end s)) ≤ count j (keys_of s)
  rest_count j = omega (arith, ap (count j) split, count_joined (keys_of (pop_end s)) freed j)

  freed_gone : elem freed (keys_of (pop_end s)) ≡ false
  freed_gone =
      count_elem freed (keys_of (pop_end s))
      (omega (
        arith,
        sound.once freed,
        ap (count freed) split,
        count_joined (keys_of (pop_end s)) freed freed,
        count_itself (keys_of s) freed,
      ))

  popped : Held (pop_end s)
  popped = pop_end_held s (sound_held s sound)

  popped_count : count_of (pop_end s) + 1 ≡ count_of s
  popped_count =
      omega (
        arith,
        length_keys (pop_end s) popped,
        length_keys s (sound_held s sound),
        ap length split,
        length-append (keys_of (pop_end s)) (freed ∷ []),
      )

  old_form : insert_of s ≡ pop_end s
  unfolding insert_of
  old_form = rw (ne_eqb (count_of s) 0 (λ z. omega arith))

  old_inserted : Inserted s freed
  old_inserted =
      record {
        sound =
            rw old_form
            (record {
              sized = popped.sized;
              few = omega (arith, given_pop s, sound.few);
              fewer = omega (arith, given_pop s, popped_count, sound.fewer);
              once = λ k. omega (arith, rest_count k, sound.once k);
              given = λ k there. omega (arith, given_pop s, sound.given k (omega (arith, there, rest_count k)));
            });
        low = omega (arith, freed_given, sound.few);
        was_free = dead_free s freed (rw split (elem_last freed (keys_of (pop_end s))));
        live = rw old_form (live_by (pop_end s) freed (omega (arith, freed_given, given_pop s)) freed_gone);
        others = λ j other. rw old_form (same_live s (pop_end s) j (ap (ltb j) (given_pop s)) (sym (ap (elem j) split
            ∙ elem_other j freed (keys_of (pop_end s)) other)));
        counted = rw old_form (omega (arith, given_pop s, popped_count, sound.fewer));
      }

-- `vacant` tells a key, and `insert` gives it to an actor
pub inserted_live : (s : List ℕ) → SlabSound s → (k : ℕ) → vacant_of s ≡ Some k → Inserted s k
unfolding vacant_of
inserted_live s sound k gives = go (ℕ_discrete (count_of s) 0) (dec_lt (given_of s) 16)
  where
    told : (a b : ℕ) → ◌≡◌ {A = (Option ℕ)} (Some a) (Some b) → a ≡ b
    told a b e = cc

    go : Dec (count_of s ≡ 0) → Dec (given_of s < 16) → Inserted s k
    go (yes none) (yes room) =
        rw (told k (given_of s) (sym gives ∙ rw (eq-eqb (count_of s) 0 none, lt-ltb (given_of s) 16 room)))
        (new_inserted s sound none room)
    go (yes none) (no full) =
        absurd (apart (sym gives ∙ rw (eq-eqb (count_of s) 0 none, le-ltb (given_of s) 16 (omega arith))))
      where
        apart : ◌≡◌ {A = (Option ℕ)} (Some k) None → ⊥
        apart e = let z : ◌≡◌ {A = ℕ} 0 1 = cc in omega arith
    go (no some) d =
        rw (told k (get_or s (count_of s) 0) (sym gives ∙ rw (
          ne_eqb (count_of s) 0 some,
          lt-ltb (count_of s) 65
              (omega (arith, sound.few, sound.fewer)),
        )))
        (old_inserted s sound (omega arith))

-- ---- remove

pub record Removed (s : List ℕ) (k : ℕ) : Type 0 where
  pub sound : SlabSound (remove_of s k)
  pub dead : contains_of (remove_of s k) k ≡ false
  pub others : (j : ℕ) → j ≢ k → contains_of (remove_of s k) j ≡ contains_of s j
  pub counted : live_count (remove_of s k) + 1 ≡ live_count s
  -- the last freed key is given first
  pub next : vacant_of (remove_of s k) ≡ Some k

module _ (s : List ℕ) (sound : SlabSound s) (k : ℕ) (live : contains_of s k ≡ true) where
  abbrev less : List ℕ
  less = key_appended s k

  held : Held s
  held = sound_held s sound

  k_given : k < given_of s
  k_given = (live_given s k live).0

  k_not_free : elem k (keys_of s) ≡ false
  k_not_free = (live_given s k live).1

  less_keys : keys_of less ≡ keys_of s ++ (k ∷ [])
  less_keys = append_is s k held (omega (arith, sound.few, sound.fewer))

  less_given : given_of less ≡ given_of s
  less_given = given_append s k (omega (arith, sound.few, sound.fewer))

  less_held : Held less
  less_held = append_held s k held

  less_count : count_of less ≡ count_of s + 1
  less_count = omega (
    arith,
    length_keys less less_held,
    length_keys s held,
    ap length less_keys,
    length-append (keys_of s) (k ∷ []),
  )

  counts : (j : ℕ) → count j (keys_of less) ≡ count j (keys_of s) + count j (k ∷ [])
  counts j = ap (count j) less_keys ∙ count_joined (keys_of s) k j

  less_once : (j : ℕ) → count j (keys_of less) ≤ 1
  less_once j = go (ℕ_discrete j k)
    where
      go : Dec (j ≡ k) → count j (keys_of less) ≤ 1
      go (yes p) = rw p (omega (arith, counts k, count_itself (keys_of s) k, elem_count k (keys_of s) k_not_free))
      go (no p) = omega (arith, counts j, count_alone (keys_of s) k j p, sound.once j)

  less_under : (j : ℕ) → 0 < count j (keys_of less) → j < given_of less
  less_under j there = go (ℕ_discrete j k)
    where
      go : Dec (j ≡ k) → j < given_of less
      go (yes p) = omega (arith, k_given, less_given)
      go (no p) = omega (
        arith,
        less_given,
        sound.given j (omega (
          arith,
          there,
          counts j,
          count_alone (keys_of s) k j
              p,
        )),
      )

  -- free keys are different ones of those given, so they are no more
  less_fewer : count_of less ≤ given_of less
  less_fewer = omega (arith, length_keys less less_held, at_most (given_of less) (keys_of less) less_under less_once)

  remove_form : remove_of s k ≡ less
  unfolding remove_of
  remove_form = rw live

  less_last : get_or less (count_of s + 1) 0 ≡ k
  unfolding key_appended
  less_last =
      rw (
        lt-ltb (count_of s) 64 (omega (arith, sound.few, sound.fewer)),
        get_or-set_other (set s (count_of s + 1) k) 0
            (count_of s + 1) (count_of s + 1) 0 (λ e. omega arith),
      )
      (get_or-set_same s (count_of s + 1) k 0 (omega (arith, sound.sized, sound.few, sound.fewer)))

  gives : vacant_of less ≡ Some k
  unfolding vacant_of
  gives =
      rw (
        less_count,
        ne_eqb (count_of s + 1) 0 (λ z. omega arith),
        lt-ltb (count_of s + 1) 65
            (omega (arith, sound.few, sound.fewer)),
        less_last,
      )

  pub removed_dead : Removed s k
  removed_dead =
      record {
        sound =
            rw remove_form
            (record {
              sized = less_held.sized;
              few = omega (arith, less_given, sound.few);
              fewer = less_fewer;
              once =
                  less_once;
              given = less_under;
            });
        dead = rw remove_form (dead_free less k (rw less_keys (elem_last k (keys_of s))));
        others = λ j other. rw remove_form (same_live s less j (ap (ltb j) less_given) (ap (elem j) less_keys
            ∙ elem_other j k (keys_of s) other));
        counted = rw remove_form (omega (arith, less_given, less_count, less_fewer));
        next = rw remove_form gives;
      }

-- the last freed key is given first
pub last_freed_first : (s : List ℕ) → SlabSound s → (k : ℕ) → contains_of s k ≡ true → vacant_of (remove_of s k) ≡ Some k
last_freed_first s sound k live = (removed_dead s sound k live).next

-- ---- the walk

-- `next_key` tells the least key of an actor from k on
pub next_least : (s : List ℕ) (n k j : ℕ) → next_key s n k ≡ Some j → (contains_of s j ≡ true) × (k ≤ j)
    × ((i : ℕ) → k ≤ i → i < j → contains_of s i ≡ false)
unfolding next_key
next_least s zero k j found = absurd (apart found)
  where
    apart : ◌≡◌ {A = (Option ℕ)} None (Some j) → ⊥
    apart e = let z : ◌≡◌ {A = ℕ} 0 1 = cc in omega arith
next_least s (suc n) k j found = go (contains_of s k) refl (next_least s n (k + 1) j)
  where
    here : pick true (Some k) (next_key s n (k + 1)) ≡ Some j → k ≡ j
    here e = cc

    go : (b : Bool) → contains_of s k ≡ b
        → (next_key s n (k + 1) ≡ Some j → (contains_of s j ≡ true) × (k + 1 ≤ j) × ((i : ℕ) → k + 1 ≤ i → i < j
        → contains_of s i ≡ false))
        → (contains_of s j ≡ true) × (k ≤ j) × ((i : ℕ) → k ≤ i → i < j → contains_of s i ≡ false)
    go true e later =
        let same : k ≡ j = here (rw e at found) in
        (rw (← same) e, omega arith, λ i p q. absurd (omega arith))
    go false e later =
        let more = later (rw e at found) in
        (more.0, omega (arith, more.1), λ i p q. each i p q more.2 (ℕ_discrete i k))
      where
        each : (i : ℕ) → k ≤ i → i < j → ((m : ℕ) → k + 1 ≤ m → m < j → contains_of s m ≡ false) → Dec (i ≡ k)
            → contains_of s i ≡ false
        each i p q above (yes same) = rw same e
        each i p q above (no other) = above i (omega arith) q

-- ---- row end 11 (docs/RULES.md, section 9): keys 0, 1, 2, free 1, then 0: spawns get 0, 1, 3

-- three actors, and then 1 and 0 are freed
abbrev freed_two : List ℕ
freed_two = remove_of (remove_of (insert_of (insert_of (insert_of blank_row))) 1) 0

pub row_end_11 : (vacant_of freed_two ≡ Some 0) × (vacant_of (insert_of freed_two) ≡ Some 1)
    × (vacant_of (insert_of (insert_of freed_two)) ≡ Some 3)
unfolding vacant_of insert_of remove_of contains_of holds_of pop_end key_appended elem
row_end_11 = (refl, refl, refl)
