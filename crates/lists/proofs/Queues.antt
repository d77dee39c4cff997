-- What each operation on a row of keys does to the list that the row stands for. Assumes nothing.
use mathlib.Core.Path.{◌≡◌, refl, sym, ap, ◌∙◌}
use mathlib.Core.Bool.{Bool, true, false, false≢true}
use mathlib.Core.Logic.{◌≢◌}
use mathlib.Core.List.{List, [], ◌∷◌, ◌++◌}
use Prim.Native.Nat.{ℕ, zero, suc, ◌+◌, ◌-◌, ◌≤◌, ◌<◌}
use native.Mathlib.Numerals.{add-one}
use native.Mathlib.Nat.{suc-sub-suc, sub-zero}
use native.Mathlib.Omega.{arith}
use native.Mathlib.Decide.{ℕ_discrete, dec_lt}
use borrow.Author.Tests.{eq-eqb, ne_eqb, lt-ltb, le-ltb}
use lib.Dec.{eqb, ltb}
use lib.ListN.{length, take, drop, length-set, length-drop}
use lib.Seq.{take_all, take-take, take-append-le, take-suc-set, length-take-le}
use Rattle.lists.specs.Links.{pick, KEYS}
use Rattle.lists.specs.Family.{count}
use Rattle.lists.specs.KeyLists.{blank_row, count_of, keys_of, Held, elem, moved_last, holds_of, pop_front}
use Rattle.lists.specs.KeyLists.{pop_end, key_appended, add_absent, squeeze_of, push_of, with_key, firsts_from}
use Rattle.lists.specs.KeyLists.{firsts, pushed}
use Rattle.lists.proofs.Counts.{count_append, count_same}

-- ---- elem and count

pub elem_count : (k : ℕ) (xs : List ℕ) → elem k xs ≡ false → count k xs ≡ 0
unfolding elem count
elem_count k [] p = refl
elem_count k (x ∷ xs) p = go (ℕ_discrete x k) (elem_count k xs)
  where
    go : Dec (x ≡ k) → (elem k xs ≡ false → count k xs ≡ 0) → pick (eqb x k) 1 0 + count k xs ≡ 0
    go (yes e) later = absurd (false≢true (sym p ∙ rw (eq-eqb x k e)))
    go (no e) later = rw (ne_eqb x k e) (omega (arith, later (rw (ne_eqb x k e) at p)))

pub elem_counted : (k : ℕ) (xs : List ℕ) → elem k xs ≡ true → 0 < count k xs
unfolding elem count
elem_counted k [] p = absurd (false≢true p)
elem_counted k (x ∷ xs) p = go (ℕ_discrete x k) (elem_counted k xs)
  where
    go : Dec (x ≡ k) → (elem k xs ≡ true → 0 < count k xs) → 0 < pick (eqb x k) 1 0 + count k xs
    go (yes e) later = rw (eq-eqb x k e) (omega arith)
    go (no e) later = rw (ne_eqb x k e) (omega (arith, later (rw (ne_eqb x k e) at p)))

pub elem_last : (k : ℕ) (xs : List ℕ) → elem k (xs ++ (k ∷ [])) ≡ true
unfolding elem
elem_last k [] = rw (eq-eqb k k refl)
elem_last k (x ∷ xs) = rw (elem_last k xs) (go (eqb x k))
  where
    go : (b : Bool) → pick b true true ≡ true
    go true = refl
    go false = refl

pub elem_more : (k j : ℕ) (xs : List ℕ) → elem k xs ≡ true → elem k (xs ++ (j ∷ [])) ≡ true
unfolding elem
elem_more k j [] p = absurd (false≢true p)
elem_more k j (x ∷ xs) p = go (eqb x k) p (elem_more k j xs)
  where
    go : (b : Bool) → pick b true (elem k xs) ≡ true → (elem k xs ≡ true → elem k (xs ++ (j ∷ [])) ≡ true)
        → pick b true (elem k (xs ++ (j ∷ []))) ≡ true
    go true q later = refl
    go false q later = later q

-- ---- rows

-- a row of 65 cells is a count and 64 keys
pub length_keys : (c : List ℕ) → Held c → length (keys_of c) ≡ count_of c
length_keys c held = length-take-le (count_of c) (drop 1 c) (rw length-drop (omega (arith, held.sized, held.few)))

pub held_blank : Held blank_row
held_blank = record { sized = refl; few = omega arith }

-- `pop_front`: the first key is gone
pub pop_front_is : (c : List ℕ) → Held c → keys_of (pop_front c) ≡ drop 1 (keys_of c)
unfolding pop_front moved_last
pop_front_is [] held = absurd (omega (arith, held.sized))
pop_front_is (n ∷ []) held = absurd (omega (arith, held.sized))
pop_front_is (zero ∷ k ∷ ks) held = refl
pop_front_is (suc n ∷ k ∷ ks) held =
    rw (ne_eqb (suc n) 0 (λ z. omega arith), suc-sub-suc n 0, sub-zero n)
    (take-append-le n ks (0 ∷ []) (omega (arith, held.sized, held.few)))

-- `pop_end`: the last key is gone
pub pop_end_is : (c : List ℕ) → Held c → keys_of (pop_end c) ≡ take (length (keys_of c) - 1) (keys_of c)
unfolding pop_end
pop_end_is [] held = absurd (omega (arith, held.sized))
pop_end_is (zero ∷ ks) held = refl
pop_end_is (suc n ∷ ks) held =
    rw (ne_eqb (suc n) 0 (λ z. omega arith), length_keys (suc n ∷ ks) held)
    (sym (take-take (suc n - 1) (suc n) ks (omega arith)))

pub pop_end_held : (c : List ℕ) → Held c → Held (pop_end c)
unfolding pop_end
pop_end_held [] held = absurd (omega (arith, held.sized))
pop_end_held (zero ∷ ks) held = held
pop_end_held (suc n ∷ ks) held =
    rw (ne_eqb (suc n) 0 (λ z. omega arith)) (record { sized = held.sized; few = omega (arith, held.few) })

-- a key joins a list that is not full
pub append_is : (c : List ℕ) (k : ℕ) → Held c → count_of c < 64 → keys_of (key_appended c k) ≡ keys_of c ++ (k ∷ [])
unfolding key_appended
append_is [] k held room = absurd (omega (arith, held.sized))
append_is (n ∷ ks) k held room = rw (lt-ltb n 64 room, add-one n) (take-suc-set ks n k (omega (arith, held.sized)))

pub append_held : (c : List ℕ) (k : ℕ) → Held c → Held (key_appended c k)
unfolding key_appended
append_held [] k held = absurd (omega (arith, held.sized))
append_held (n ∷ ks) k held = go (dec_lt n 64)
  where
    go : Dec (n < 64) → Held (key_appended (n ∷ ks) k)
    go (yes room) = rw (lt-ltb n 64 room, add-one n) (record {
      sized = omega (arith, held.sized, length-set ks n k);
      few = omega arith;
    })
    go (no full) = rw (le-ltb n 64 (omega arith)) held

-- ---- the squeeze

-- a list in which no key stands twice, each below `top`, is no longer than `top`
without : ℕ → List ℕ → List ℕ
without e [] = []
without e (x ∷ xs) = pick (eqb x e) (without e xs) (x ∷ without e xs)

length_without : (e : ℕ) (xs : List ℕ) → length (without e xs) + count e xs ≡ length xs
unfolding without count
length_without e [] = refl
length_without e (x ∷ xs) = go (ℕ_discrete x e) (length_without e xs)
  where
    go : Dec (x ≡ e) → length (without e xs) + count e xs ≡ length xs
        → length (pick (eqb x e) (without e xs) (x ∷ without e xs)) + (pick (eqb x e) 1 0 + count e xs)
        ≡ suc (length xs)
    go (yes p) later = rw (eq-eqb x e p) (omega arith)
    go (no p) later = rw (ne_eqb x e p) (omega arith)

count_without : (e k : ℕ) (xs : List ℕ) → count k (without e xs) ≤ count k xs
unfolding without count
count_without e k [] = omega arith
count_without e k (x ∷ xs) = go (ℕ_discrete x e) (count_without e k xs)
  where
    go : Dec (x ≡ e) → count k (without e xs) ≤ count k xs → count k (pick (eqb x e) (without e xs) (x ∷ without e xs))
        ≤ pick (eqb x k) 1 0 + count k xs
    go (yes p) later = rw (eq-eqb x e p) (omega arith)
    go (no p) later = rw (ne_eqb x e p) (omega arith)

count_gone : (e : ℕ) (xs : List ℕ) → count e (without e xs) ≡ 0
unfolding without count
count_gone e [] = refl
count_gone e (x ∷ xs) = go (ℕ_discrete x e) (count_gone e xs)
  where
    go : Dec (x ≡ e) → count e (without e xs) ≡ 0 → count e (pick (eqb x e) (without e xs) (x ∷ without e xs)) ≡ 0
    go (yes p) later = rw (eq-eqb x e p) later
    go (no p) later = rw (ne_eqb x e p, ne_eqb x e p) (omega arith)

-- every key of a list is below `top`
abbrev pub Under : ℕ → List ℕ → Type 0
Under top xs = (k : ℕ) → 0 < count k xs → k < top

-- no key stands twice
abbrev pub Once : List ℕ → Type 0
Once xs = (k : ℕ) → count k xs ≤ 1

none_under : (xs : List ℕ) → Under 0 xs → length xs ≡ 0
none_under [] under = refl
none_under (x ∷ xs) under = absurd (omega (arith, under x (omega (arith, count_same x x xs refl))))

pub at_most : (top : ℕ) (xs : List ℕ) → Under top xs → Once xs → length xs ≤ top
at_most zero xs under once = omega (arith, none_under xs under)
at_most (suc top) xs under once = omega (
  arith,
  length_without top xs,
  once top,
  at_most top (without top xs) lower
      fewer,
)
  where
    lower : Under top (without top xs)
    lower k some = go (ℕ_discrete k top)
      where
        go : Dec (k ≡ top) → k < top
        go (yes p) = absurd (omega (arith, some, count_gone top xs, ap (λ (e : ℕ). count e (without top xs)) p))
        go (no p) = omega (arith, under k (omega (arith, some, count_without top k xs)))

    fewer : Once (without top xs)
    fewer k = omega (arith, once k, count_without top k xs)

-- a key joins unless it is there: no key then stands twice, and all stay below the top
module _ (ks : List ℕ) (k : ℕ) where
  by : (P : List ℕ → Type 0) → (elem k ks ≡ true → P ks) → (elem k ks ≡ false → P (ks ++ (k ∷ []))) → P (with_key ks k)
  unfolding with_key
  by P there absent = go (elem k ks) refl
    where
      go : (b : Bool) → elem k ks ≡ b → P (pick b ks (ks ++ (k ∷ [])))
      go true e = there e
      go false e = absent e

  pub count_joined : (j : ℕ) → count j (ks ++ (k ∷ [])) ≡ count j ks + count j (k ∷ [])
  count_joined j = count_append j ks (k ∷ [])

  pub count_alone : (j : ℕ) → j ≢ k → count j (k ∷ []) ≡ 0
  unfolding count
  count_alone j other = rw (ne_eqb k j (λ e. other (sym e)))

  pub count_itself : count k (k ∷ []) ≡ 1
  unfolding count
  count_itself = rw (eq-eqb k k refl)

  pub with_once : Once ks → Once (with_key ks k)
  with_once once = by Once (λ e. once) (λ e j. go e j (ℕ_discrete j k))
    where
      go : elem k ks ≡ false → (j : ℕ) → Dec (j ≡ k) → count j (ks ++ (k ∷ [])) ≤ 1
      go e j (yes p) = rw p (omega (arith, count_joined k, elem_count k ks e, count_itself))
      go e j (no p) = omega (arith, count_joined j, once j, count_alone j p)

  pub with_under : (top : ℕ) → Under top ks → k < top → Under top (with_key ks k)
  with_under top under low = by (Under top) (λ e. under) (λ e j some. go j some (ℕ_discrete j k))
    where
      go : (j : ℕ) → 0 < count j (ks ++ (k ∷ [])) → Dec (j ≡ k) → j < top
      go j some (yes p) = omega arith
      go j some (no p) = under j (omega (arith, some, count_joined j, count_alone j p))

-- a row whose keys are below 16, and none stands twice
pub record Single (c : List ℕ) : Type 0 where
  pub held : Held c
  pub once : Once (keys_of c)
  pub under : Under KEYS (keys_of c)

single_few : (c : List ℕ) → Single c → count_of c ≤ KEYS
single_few c single = omega (
  arith,
  length_keys c single.held,
  at_most KEYS (keys_of c) single.under
      single.once,
)

module _ (c : List ℕ) (k : ℕ) (single : Single c) where
  add_absent_is : keys_of (add_absent c k) ≡ with_key (keys_of c) k
  unfolding add_absent holds_of with_key
  add_absent_is = go (elem k (keys_of c))
    where
      go : (b : Bool) → keys_of (pick b c (key_appended c k)) ≡ pick b (keys_of c) (keys_of c ++ (k ∷ []))
      go true = refl
      go false = append_is c k single.held (omega (arith, single_few c single))

  add_absent_held : Held (add_absent c k)
  unfolding add_absent
  add_absent_held = go (holds_of c k)
    where
      go : (b : Bool) → Held (pick b c (key_appended c k))
      go true = single.held
      go false = append_held c k single.held

  pub add_absent_single : k < KEYS → Single (add_absent c k)
  add_absent_single low =
      record {
        held = add_absent_held;
        once = rw add_absent_is (with_once (keys_of c) k single.once);
        under = rw add_absent_is (with_under (keys_of c) k KEYS single.under low);
      }

under_tail : (top x : ℕ) (xs : List ℕ) → Under top (x ∷ xs) → Under top xs
unfolding count
under_tail top x xs under k some = under k (omega arith)

-- squeezing keys into a row is taking each one's first entry
pub squeeze_is : (c ks : List ℕ) → Single c → Under KEYS ks → (keys_of (squeeze_of c ks) ≡ firsts_from (keys_of c) ks)
    × Single (squeeze_of c ks)
unfolding squeeze_of firsts_from
squeeze_is c [] single under = (refl, single)
squeeze_is c (k ∷ ks) single under =
    let more = squeeze_is (add_absent c k) ks (add_absent_single c k single
    (under k (omega (arith, count_same k k ks refl)))) (under_tail KEYS k ks under) in
    (rw (← add_absent_is c k single) more.0, more.1)

-- ---- push

single_blank : Single blank_row
unfolding count
single_blank = record { held = held_blank; once = λ k. omega arith; under = λ k some. absurd (omega arith) }

-- a full row's keys are all its cells
full_keys : (c : List ℕ) → Held c → 64 ≤ count_of c → keys_of c ≡ drop 1 c
full_keys c held full = take_all (count_of c) (drop 1 c) (rw length-drop (omega (arith, held.sized)))

module _ (c : List ℕ) (k : ℕ) (held : Held c) (under : Under KEYS (keys_of c)) (low : k < KEYS) where
  squeezed : 64 ≤ count_of c → (keys_of (squeeze_of blank_row (drop 1 c)) ≡ firsts (keys_of c))
      × Single (squeeze_of blank_row (drop 1 c))
  squeezed full = rw (full_keys c held full) (squeeze_is blank_row (drop 1 c) single_blank (rw (full_keys c held full)
      at under))

  -- `push`: at the end; a full list is squeezed first, and then the key joins if it is absent
  pub push_is : keys_of (push_of c k) ≡ pushed (keys_of c) k
  unfolding push_of
  push_is = go (dec_lt (count_of c) 64)
    where
      go : Dec (count_of c < 64) → keys_of (push_of c k) ≡ pushed (keys_of c) k
      go (yes room) = rw (length_keys c held, lt-ltb (count_of c) 64 room) (append_is c k held room)
      go (no p) =
          let full : 64 ≤ count_of c = omega arith in
          rw (length_keys c held, le-ltb (count_of c) 64 full)
          (add_absent_is (squeeze_of blank_row (drop 1 c)) k (squeezed full).1 ∙ ap (λ (ks : List ℕ). with_key ks k)
          (squeezed full).0)

-- ---- no key is lost

with_there : (ks : List ℕ) (k : ℕ) → elem k (with_key ks k) ≡ true
with_there ks k = by ks k (λ (l : List ℕ). elem k l ≡ true) (λ e. e) (λ e. elem_last k ks)

with_keeps : (ks : List ℕ) (k j : ℕ) → elem j ks ≡ true → elem j (with_key ks k) ≡ true
with_keeps ks k j there = by ks k (λ (l : List ℕ). elem j l ≡ true) (λ e. there) (λ e. elem_more j k ks there)

firsts_seen : (seen ks : List ℕ) (j : ℕ) → elem j seen ≡ true → elem j (firsts_from seen ks) ≡ true
unfolding firsts_from
firsts_seen seen [] j there = there
firsts_seen seen (k ∷ ks) j there = firsts_seen (with_key seen k) ks j (with_keeps seen k j there)

-- a squeeze keeps an entry of each key
pub firsts_keep : (seen ks : List ℕ) (j : ℕ) → elem j ks ≡ true → elem j (firsts_from seen ks) ≡ true
unfolding firsts_from elem
firsts_keep seen [] j there = absurd (false≢true there)
firsts_keep seen (k ∷ ks) j there = go (ℕ_discrete k j) (firsts_keep (with_key seen k) ks j)
  where
    go : Dec (k ≡ j) → (elem j ks ≡ true → elem j (firsts_from (with_key seen k) ks) ≡ true)
        → elem j (firsts_from (with_key seen k) ks) ≡ true
    go (yes same) later = firsts_seen (with_key seen k) ks j (rw (← same) (with_there seen k))
    go (no other) later = later (rw (ne_eqb k j other) at there)

pub push_keeps : (ks : List ℕ) (k j : ℕ) → elem j ks ≡ true → elem j (pushed ks k) ≡ true
push_keeps ks k j there = go (ltb (length ks) 64)
  where
    go : (b : Bool) → elem j (pick b (ks ++ (k ∷ [])) (with_key (firsts ks) k)) ≡ true
    go true = elem_more j k ks there
    go false = with_keeps (firsts ks) k j (firsts_keep [] ks j there)
