-- An actor that is written over an earlier row: what is as it was keeps its cell, and what is written is read back. So
-- a change of one flag is a change of one cell. Assumes nothing.
use Rattle.std.specs.Prelude.{Option, Some, None}
use mathlib.Core.Path.{◌≡◌, refl, sym, ap, ◌∙◌}
use mathlib.Core.Bool.{Bool, true, false}
use mathlib.Core.List.{List, [], ◌∷◌}
use Prim.Native.Nat.{ℕ}
use native.Mathlib.Omega.{arith}
use native.Mathlib.Decide.{ℕ_discrete}
use borrow.Author.Tests.{eq-eqb, ne_eqb}
use lib.Dec.{eqb}
use lib.ListN.{length, get_or, set}
use lib.Seq.{set-get_or}
use Rattle.actor.specs.declared.state.Mode.{Mode}
use Rattle.actor.specs.declared.state.Mode.TheVariants as mode
use Rattle.actor.specs.declared.state.Actor.{Actor}
use Rattle.actor.specs.Actors.{mode_of, bool_of, tagged_number, actor_of, flag_onto, mode_onto, tag_onto, number_onto}
use Rattle.actor.specs.Actors.{actor_onto, flagged, numbered, unnumbered, blocked_cells, woken_cells}
use Rattle.actor.specs.Actors.{delivered_to, scheduled_as, began_step, started_as, idled_as, consumed_as, yielded_as}
use Rattle.actor.specs.Actors.{running_to, blocked_to, woken_as}

-- ---- what is as it was keeps its cell

flag_own : (n : ℕ) → flag_onto n (bool_of n) ≡ n
flag_own n = go (ℕ_discrete n 0)
  where
    go : Dec (n ≡ 0) → flag_onto n (bool_of n) ≡ n
    go (yes e) = simp (eq-eqb n 0 e) (sym e)
    go (no e) = simp (ne_eqb n 0 e)

mode_own : (n : ℕ) → mode_onto n (mode_of n) ≡ n
mode_own n = go (ℕ_discrete n 0)
  where
    go : Dec (n ≡ 0) → mode_onto n (mode_of n) ≡ n
    go (yes e) = simp (eq-eqb n 0 e) (sym e)
    go (no e) = simp (ne_eqb n 0 e)

module _ (tag n : ℕ) where
  tag_own : tag_onto tag (tagged_number tag n) ≡ tag
  tag_own = go (ℕ_discrete tag 0)
    where
      go : Dec (tag ≡ 0) → tag_onto tag (tagged_number tag n) ≡ tag
      go (yes e) = simp (eq-eqb tag 0 e) (sym e)
      go (no e) = simp (ne_eqb tag 0 e)

  number_own : number_onto tag n (tagged_number tag n) ≡ n
  number_own = go (ℕ_discrete tag 0)
    where
      go : Dec (tag ≡ 0) → number_onto tag n (tagged_number tag n) ≡ n
      go (yes e) = simp (eq-eqb tag 0 e)
      go (no e) = simp (ne_eqb tag 0 e)

-- all of these, for a row whose other cells stay
ruleset own = (mode_own, flag_own, tag_own, number_own)

-- ---- what is written is read back

raised : (n : ℕ) → eqb (flag_onto n true) 0 ≡ false
raised n = go (ℕ_discrete n 0)
  where
    go : Dec (n ≡ 0) → eqb (flag_onto n true) 0 ≡ false
    go (yes e) = simp (eq-eqb n 0 e)
    go (no e) = simp (ne_eqb n 0 e)

flag_back : (n : ℕ) (b : Bool) → bool_of (flag_onto n b) ≡ b
flag_back n true = rw (raised n)
flag_back n false = refl

mode_back : (n : ℕ) (m : Mode) → mode_of (mode_onto n m) ≡ m
mode_back n mode.Fixed = refl
mode_back n mode.Eval = rw (raised n)

number_back : (tag n : ℕ) (o : Option ℕ) → tagged_number (tag_onto tag o) (number_onto tag n o) ≡ o
number_back tag n (Some ns) = rw (raised tag)
number_back tag n None = refl

pub onto_back : (c : List ℕ) (a : Actor) → actor_of (actor_onto c a) ≡ a
unfolding actor_of actor_onto
onto_back c a =
    rw (
      mode_back (get_or c 0 0) a.mode,
      flag_back (get_or c 1 0) a.started,
      flag_back (get_or c 2 0) a.ran,
      flag_back (get_or c 3 0) a.idle,
      flag_back (get_or c 4 0) a.runnable,
      flag_back (get_or c 5 0) a.scheduled,
      flag_back (get_or c 6 0) a.blocked,
      flag_back (get_or c 7 0) a.consumed,
      number_back (get_or c 8 0) (get_or c 9 0) a.wake_at,
      number_back (get_or c 10 0) (get_or c 11 0) a.run,
    )

-- ---- the cells of a row of twelve that a change of the actor changes

twelve : (P : List ℕ → Type 0) → ((c0 c1 c2 c3 c4 c5 c6 c7 c8 c9 c10 c11 : ℕ)
    → P (c0 ∷ c1 ∷ c2 ∷ c3 ∷ c4 ∷ c5 ∷ c6 ∷ c7 ∷ c8 ∷ c9 ∷ c10 ∷ c11 ∷ [])) → (c : List ℕ) → length c ≡ 12 → P c
twelve P f [] h = absurd (omega arith)
twelve P f (c0 ∷ []) h = absurd (omega arith)
twelve P f (c0 ∷ c1 ∷ []) h = absurd (omega arith)
twelve P f (c0 ∷ c1 ∷ c2 ∷ []) h = absurd (omega arith)
twelve P f (c0 ∷ c1 ∷ c2 ∷ c3 ∷ []) h = absurd (omega arith)
twelve P f (c0 ∷ c1 ∷ c2 ∷ c3 ∷ c4 ∷ []) h = absurd (omega arith)
twelve P f (c0 ∷ c1 ∷ c2 ∷ c3 ∷ c4 ∷ c5 ∷ []) h = absurd (omega arith)
twelve P f (c0 ∷ c1 ∷ c2 ∷ c3 ∷ c4 ∷ c5 ∷ c6 ∷ []) h = absurd (omega arith)
twelve P f (c0 ∷ c1 ∷ c2 ∷ c3 ∷ c4 ∷ c5 ∷ c6 ∷ c7 ∷ []) h = absurd (omega arith)
twelve P f (c0 ∷ c1 ∷ c2 ∷ c3 ∷ c4 ∷ c5 ∷ c6 ∷ c7 ∷ c8 ∷ []) h = absurd (omega arith)
twelve P f (c0 ∷ c1 ∷ c2 ∷ c3 ∷ c4 ∷ c5 ∷ c6 ∷ c7 ∷ c8 ∷ c9 ∷ []) h = absurd (omega arith)
twelve P f (c0 ∷ c1 ∷ c2 ∷ c3 ∷ c4 ∷ c5 ∷ c6 ∷ c7 ∷ c8 ∷ c9 ∷ c10 ∷ []) h = absurd (omega arith)
twelve P f (c0 ∷ c1 ∷ c2 ∷ c3 ∷ c4 ∷ c5 ∷ c6 ∷ c7 ∷ c8 ∷ c9 ∷ c10 ∷ c11 ∷ []) h =
    f c0 c1 c2 c3 c4 c5 c6 c7 c8 c9 c10 c11
twelve P f (c0 ∷ c1 ∷ c2 ∷ c3 ∷ c4 ∷ c5 ∷ c6 ∷ c7 ∷ c8 ∷ c9 ∷ c10 ∷ c11 ∷ x ∷ r) h = absurd (omega arith)

pub delivered_cells : (c : List ℕ) → length c ≡ 12 → actor_onto c (delivered_to (actor_of c)) ≡ set c 3 0
unfolding actor_onto actor_of
delivered_cells =
    twelve
    (λ c. actor_onto c (delivered_to (actor_of c)) ≡ set c 3 0)
    (λ c0 c1 c2 c3 c4 c5 c6 c7 c8 c9 c10 c11. simp own)

pub scheduled_cells : (c : List ℕ) → length c ≡ 12 → actor_onto c (scheduled_as (actor_of c) true) ≡ flagged c 5
unfolding actor_onto actor_of
scheduled_cells =
    twelve
    (λ c. actor_onto c (scheduled_as (actor_of c) true) ≡ flagged c 5)
    (λ c0 c1 c2 c3 c4 c5 c6 c7 c8 c9 c10 c11. simp own)

pub unscheduled_cells : (c : List ℕ) → length c ≡ 12 → actor_onto c (scheduled_as (actor_of c) false) ≡ set c 5 0
unfolding actor_onto actor_of
unscheduled_cells =
    twelve
    (λ c. actor_onto c (scheduled_as (actor_of c) false) ≡ set c 5 0)
    (λ c0 c1 c2 c3 c4 c5 c6 c7 c8 c9 c10 c11. simp own)

pub began_cells : (c : List ℕ) → length c ≡ 12 → actor_onto c (began_step (actor_of c)) ≡ set (flagged c 2) 4 0
unfolding actor_onto actor_of
began_cells =
    twelve
    (λ c. actor_onto c (began_step (actor_of c)) ≡ set (flagged c 2) 4 0)
    (λ c0 c1 c2 c3 c4 c5 c6 c7 c8 c9 c10 c11. simp own)

pub started_cells : (c : List ℕ) → length c ≡ 12 → actor_onto c (started_as (actor_of c)) ≡ flagged c 1
unfolding actor_onto actor_of
started_cells =
    twelve
    (λ c. actor_onto c (started_as (actor_of c)) ≡ flagged c 1)
    (λ c0 c1 c2 c3 c4 c5 c6 c7 c8 c9 c10 c11. simp own)

pub idled_cells : (c : List ℕ) → length c ≡ 12 → actor_onto c (idled_as (actor_of c)) ≡ flagged c 3
unfolding actor_onto actor_of
idled_cells =
    twelve
    (λ c. actor_onto c (idled_as (actor_of c)) ≡ flagged c 3)
    (λ c0 c1 c2 c3 c4 c5 c6 c7 c8 c9 c10 c11. simp own)

pub consumed_cells : (c : List ℕ) → length c ≡ 12 → actor_onto c (consumed_as (actor_of c)) ≡ flagged c 7
unfolding actor_onto actor_of
consumed_cells =
    twelve
    (λ c. actor_onto c (consumed_as (actor_of c)) ≡ flagged c 7)
    (λ c0 c1 c2 c3 c4 c5 c6 c7 c8 c9 c10 c11. simp own)

pub yielded_cells : (c : List ℕ) → length c ≡ 12 → actor_onto c (yielded_as (actor_of c)) ≡ flagged c 4
unfolding actor_onto actor_of
yielded_cells =
    twelve
    (λ c. actor_onto c (yielded_as (actor_of c)) ≡ flagged c 4)
    (λ c0 c1 c2 c3 c4 c5 c6 c7 c8 c9 c10 c11. simp own)

pub until_cells : (ns : ℕ) (c : List ℕ) → length c ≡ 12 → actor_onto c (running_to (actor_of c) (Some ns)) ≡ numbered c 10 11 ns
unfolding actor_onto actor_of
until_cells ns =
    twelve
    (λ c. actor_onto c (running_to (actor_of c) (Some ns)) ≡ numbered c 10 11 ns)
    (λ c0 c1 c2 c3 c4 c5 c6 c7 c8 c9 c10 c11. simp own)

pub run_over_cells : (c : List ℕ) → length c ≡ 12 → actor_onto c (running_to (actor_of c) None) ≡ unnumbered c 10 11
unfolding actor_onto actor_of
run_over_cells =
    twelve
    (λ c. actor_onto c (running_to (actor_of c) None) ≡ unnumbered c 10 11)
    (λ c0 c1 c2 c3 c4 c5 c6 c7 c8 c9 c10 c11. simp own)

pub blocked_cells_lem : (w : Option ℕ) (c : List ℕ) → length c ≡ 12 → actor_onto c (blocked_to (actor_of c) w) ≡ blocked_cells c w
unfolding actor_onto actor_of
blocked_cells_lem (Some ns) =
    twelve
    (λ c. actor_onto c (blocked_to (actor_of c) (Some ns)) ≡ blocked_cells c (Some ns))
    (λ c0 c1 c2 c3 c4 c5 c6 c7 c8 c9 c10 c11. simp own)
blocked_cells_lem None =
    twelve
    (λ c. actor_onto c (blocked_to (actor_of c) None) ≡ blocked_cells c None)
    (λ c0 c1 c2 c3 c4 c5 c6 c7 c8 c9 c10 c11. simp own)

pub woken_cells_lem : (c : List ℕ) → length c ≡ 12 → actor_onto c (woken_as (actor_of c)) ≡ woken_cells c
unfolding actor_onto actor_of
woken_cells_lem =
    twelve
    (λ c. actor_onto c (woken_as (actor_of c)) ≡ woken_cells c)
    (λ c0 c1 c2 c3 c4 c5 c6 c7 c8 c9 c10 c11. simp own)

-- all of these, for the changes of a table
pub ruleset changed = (
  delivered_cells,
  scheduled_cells,
  unscheduled_cells,
  began_cells,
  started_cells,
  idled_cells,
  consumed_cells,
  yielded_cells,
  until_cells,
  run_over_cells,
  blocked_cells_lem,
  woken_cells_lem,
)

-- a tag that says already that there is no number
pub unnumbered_same : (c : List ℕ) (i at : ℕ) → get_or c i 0 ≡ 0 → unnumbered c i at ≡ c
unnumbered_same c i at none =
    let tag = eq-eqb (get_or c i 0) 0 none in
    let own = sym (ap (λ (n : ℕ). set c i n) none) ∙ set-get_or c i 0 in
    simp (tag, own) (set-get_or c at 0)
