-- Which message leaves the places with an order: where all stand but those of one id, that id's alone is taken off.
-- Assumes nothing.
use mathlib.Core.Path.{◌≡◌, refl, sym, ap, ◌∙◌}
use mathlib.Core.Bool.{true, false}
use mathlib.Core.Logic.{◌≢◌}
use mathlib.Core.List.{List, [], ◌∷◌}
use Prim.Native.Nat.{ℕ, ◌≤◌, ◌<◌}
use native.Mathlib.Omega.{arith}
use native.Mathlib.Decide.{ℕ_discrete}
use borrow.Author.Tests.{eq-eqb, ne_eqb, lt-ltb, le-ltb}
use lib.ListN.{length, length-map, replicate}
use Rattle.text.specs.Format.{Message}
use Rattle.lists.specs.Family.{count}
use Rattle.lists.proofs.Counts.{count_same, count_other}
use Rattle.message_log.specs.Opening.{remove, retried}
use Rattle.theorem.specs.Places.{stands}
use Rattle.theorem.specs.Handing.{ids_of}
use Rattle.turn.specs.State.{State}
use Rattle.theorem.specs.Rail.{is_placed, in_places, out_of_places}
use Rattle.theorem.proofs.Ids.{gone_same, gone_other, retried_ids}

-- a message that stands in a place is kept, one that stands in none is out
module _ (s : State) (m : Message) (ms : List Message) where
  kept : is_placed s m ≡ true → (in_places s (m ∷ ms) ≡ m ∷ in_places s ms) × (out_of_places s (m ∷ ms) ≡ out_of_places s ms)
  unfolding in_places out_of_places
  kept e = (rw e, rw e)

  out : is_placed s m ≡ false → (in_places s (m ∷ ms) ≡ in_places s ms) × (out_of_places s (m ∷ ms) ≡ m ∷ out_of_places s ms)
  unfolding in_places out_of_places
  out e = (rw e, rw e)

-- ---- every message stands in a place

-- how often ids stand, by the messages of a list
abbrev pub StandAs : State → List Message → Type 0
StandAs s ms = (y : ℕ) → stands y s.links s.rows ≡ count y (ids_of ms)

all_in : (s : State) (ms : List Message) → ((y : ℕ) → 0 < count y (ids_of ms) → 0 < stands y s.links s.rows)
    → out_of_places s ms ≡ []
unfolding out_of_places count
all_in s [] all = refl
all_in s (m ∷ ms) all =
    let here = all m.id (omega (arith, count_same m.id m.id (ids_of ms) refl)) in
    (kept s m ms (lt-ltb 0 (stands m.id s.links s.rows) here)).1
    ∙ all_in s ms (λ y there. all y (omega arith))

-- with no mark none is out
pub none_out : (s : State) (ms : List Message) → StandAs s ms → out_of_places s ms ≡ []
none_out s ms same = all_in s ms (λ y there. omega (arith, same y))

-- with a retry none is: every id stands as among the messages with its attempts set
pub retried_none : (s : State) (x n : ℕ) (ms : List Message) → StandAs s (retried x n ms) → out_of_places s ms ≡ []
retried_none s x n ms same = none_out s ms (λ y. same y ∙ ap (count y) (retried_ids x n ms))

-- ---- every message stands in a place, but those of one id

module _ (s : State) (x : ℕ) (gone : stands x s.links s.rows ≡ 0) where
  abbrev AllBut : List Message → Type 0
  AllBut ms = (y : ℕ) → 0 < count y (ids_of ms) → y ≢ x → 0 < stands y s.links s.rows

  rest_but : (m : Message) (ms : List Message) → AllBut (m ∷ ms) → AllBut ms
  unfolding count
  rest_but m ms all y there other = all y (omega arith) other

  other_in : (m : Message) (ms : List Message) → AllBut (m ∷ ms) → m.id ≢ x → is_placed s m ≡ true
  other_in m ms all other =
      lt-ltb 0 (stands m.id s.links s.rows)
      (all m.id (omega (arith, count_same m.id m.id (ids_of ms) refl)) other)

  same_out : (m : Message) → m.id ≡ x → is_placed s m ≡ false
  same_out m is =
      le-ltb 0 (stands m.id s.links s.rows)
      (omega (arith, ap (λ (y : ℕ). stands y s.links s.rows) is, gone))

  in_but : (ms : List Message) → AllBut ms → in_places s ms ≡ remove x ms
  unfolding in_places remove
  in_but [] all = refl
  in_but (m ∷ ms) all = go (in_but ms (rest_but m ms all)) (ℕ_discrete m.id x)
    where
      go : in_places s ms ≡ remove x ms → Dec (m.id ≡ x) → in_places s (m ∷ ms) ≡ remove x (m ∷ ms)
      go rest (yes p) = (out s m ms (same_out m p)).0 ∙ rw (eq-eqb m.id x p, remove) rest
      go rest (no p) = (kept s m ms (other_in m ms all p)).0 ∙ rw (ne_eqb m.id x p, remove) (ap (λ r. m ∷ r) rest)

  out_but : (ms : List Message) → AllBut ms → ids_of (out_of_places s ms) ≡ replicate (count x (ids_of ms)) x
  unfolding out_of_places count
  out_but [] all = refl
  out_but (m ∷ ms) all = go (out_but ms (rest_but m ms all)) (ℕ_discrete m.id x)
    where
      go : ids_of (out_of_places s ms) ≡ replicate (count x (ids_of ms)) x → Dec (m.id ≡ x)
          → ids_of (out_of_places s (m ∷ ms)) ≡ replicate (count x (ids_of (m ∷ ms))) x
      go rest (yes p) =
          ap ids_of (out s m ms (same_out m p)).1
          ∙ (rw (p, rest) refl ∙ sym (ap (λ n. replicate n x) (count_same x m.id (ids_of ms) p)))
      go rest (no p) =
          ap ids_of (kept s m ms (other_in m ms all p)).1
          ∙ (rest ∙ sym (ap (λ n. replicate n x) (count_other x m.id (ids_of ms) p)))

-- ---- a mark

-- ids stand as among the messages without that of id x, which was one of them: it is taken off, and it alone
module _ (s : State) (x : ℕ) (ms : List Message) (there : 0 < count x (ids_of ms)) (once : count x (ids_of ms) ≤ 1)
    (same : StandAs s (remove x ms)) where
  none : stands x s.links s.rows ≡ 0
  none = same x ∙ gone_same x ms

  others : AllBut s x none ms
  others y some other = omega (arith, same y, gone_other x y ms other)

  pub marked_in : in_places s ms ≡ remove x ms
  marked_in = in_but s x none ms others

  pub marked_out : ids_of (out_of_places s ms) ≡ x ∷ []
  marked_out =
      let one : count x (ids_of ms) ≡ 1 = omega arith in
      out_but s x none ms others ∙ ap (λ n. replicate n x) one

  pub marked_one : length (out_of_places s ms) ≡ 1
  marked_one = sym (length-map (out_of_places s ms) (λ (m : Message). m.id)) ∙ ap length marked_out
