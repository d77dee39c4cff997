-- How often an id stands among messages: ids rise, so each at most once; one is taken off, one is added. Assumes
-- nothing.
use mathlib.Core.Path.{◌≡◌, refl, ap, ◌∙◌}
use mathlib.Core.Bool.{Bool, true, false}
use mathlib.Core.Logic.{◌≢◌}
use mathlib.Core.List.{List, [], ◌∷◌, ◌++◌, map-append}
use Prim.Native.Nat.{ℕ, suc, ◌+◌, ◌≤◌, ◌<◌}
use native.Mathlib.Omega.{arith}
use native.Mathlib.Decide.{ℕ_discrete}
use borrow.Author.Tests.{eqb-true, eqb-false, eq-eqb, ne_eqb}
use lib.Dec.{eqb}
use Rattle.text.specs.Format.{Message}
use Rattle.lists.specs.Links.{pick}
use Rattle.lists.specs.Family.{count}
use Rattle.lists.proofs.Counts.{count_same, count_other, count_append}
use Rattle.lists.proofs.Family.{count_none}
use Rattle.message_log.specs.Opening.{Rising, remove, retried}
use Rattle.message_log.proofs.OpeningLaws.{Rising-le}
use Rattle.theorem.specs.Handing.{ids_of}

-- ---- ids that rise

rising_under : (ms : List Message) (low high x : ℕ) → Rising low ms high → x < low → count x (ids_of ms) ≡ 0
unfolding count
rising_under [] low high x rises under = refl
rising_under (m ∷ ms) low high x rises under =
    count_other x m.id (ids_of ms) (λ same. omega (arith, rises.0)) ∙ rising_under ms (suc m.id) high x
    rises.1 (omega (arith, rises.0))

pub rising_once : (ms : List Message) (low high x : ℕ) → Rising low ms high → count x (ids_of ms) ≤ 1
unfolding count
rising_once [] low high x rises = omega arith
rising_once (m ∷ ms) low high x rises = at (eqb m.id x) refl (rising_once ms (suc m.id) high x rises.1)
  where
    at : (b : Bool) → eqb m.id x ≡ b → count x (ids_of ms) ≤ 1 → count x (m.id ∷ ids_of ms) ≤ 1
    at true e later =
        let is : m.id ≡ x = eqb-true m.id x e in
        omega (
          arith,
          count_same x m.id (ids_of ms) is,
          rising_under ms (suc m.id) high x rises.1
              (omega arith),
        )
    at false e later = omega (arith, count_other x m.id (ids_of ms) (eqb-false m.id x e))

pub rising_top : (ms : List Message) (low high x : ℕ) → Rising low ms high → 0 < count x (ids_of ms) → x < high
unfolding count
rising_top [] low high x rises there = omega arith
rising_top (m ∷ ms) low high x rises there = at (eqb m.id x) refl (rising_top ms (suc m.id) high x rises.1)
  where
    at : (b : Bool) → eqb m.id x ≡ b → (0 < count x (ids_of ms) → x < high) → x < high
    at true e later = omega (arith, eqb-true m.id x e, Rising-le ms (suc m.id) high rises.1)
    at false e later = later (omega (arith, count_other x m.id (ids_of ms) (eqb-false m.id x e)))

-- ---- a message is taken off: all of its id, and nothing else

pub gone_same : (id : ℕ) (ms : List Message) → count id (ids_of (remove id ms)) ≡ 0
unfolding remove
gone_same id [] = count_none id
gone_same id (m ∷ ms) = go (gone_same id ms) (ℕ_discrete m.id id)
  where
    go : count id (ids_of (remove id ms)) ≡ 0 → Dec (m.id ≡ id) → count id (ids_of (remove id (m ∷ ms))) ≡ 0
    go rest (yes p) = rw (eq-eqb m.id id p, remove) rest
    go rest (no p) = rw (ne_eqb m.id id p, remove) (omega (arith, count_other id m.id (ids_of (remove id ms)) p))

pub gone_other : (id x : ℕ) (ms : List Message) → x ≢ id → count x (ids_of (remove id ms)) ≡ count x (ids_of ms)
unfolding remove count
gone_other id x [] other = refl
gone_other id x (m ∷ ms) other = go (gone_other id x ms other) (ℕ_discrete m.id id)
  where
    go : count x (ids_of (remove id ms)) ≡ count x (ids_of ms) → Dec (m.id ≡ id) → count x (ids_of (remove id (m ∷ ms)))
        ≡ count x (ids_of (m ∷ ms))
    go rest (yes p) = rw (eq-eqb m.id id p, remove)
        (omega (arith, count_other x m.id (ids_of ms) (λ z. other (omega arith))))
    go rest (no p) = rw (ne_eqb m.id id p, remove) (omega arith)

-- a retry leaves every id
pub retried_ids : (x n : ℕ) (ms : List Message) → ids_of (retried x n ms) ≡ ids_of ms
unfolding retried
retried_ids x n [] = refl
retried_ids x n (m ∷ ms) = go (eqb m.id x) refl (retried_ids x n ms)
  where
    go : (b : Bool) → eqb m.id x ≡ b → ids_of (retried x n ms) ≡ ids_of ms
        → ids_of (retried x n (m ∷ ms)) ≡ ids_of (m ∷ ms)
    go true e later = rw (e, retried) (ap (λ r. m.id ∷ r) later)
    go false e later = rw (e, retried) (ap (λ r. m.id ∷ r) later)

-- one id more
pub count_snoc : (x y : ℕ) (xs : List ℕ) → count x (xs ++ (y ∷ [])) ≡ count x xs + pick (eqb y x) 1 0
unfolding count
count_snoc x y xs = omega (arith, count_append x xs (y ∷ []))

pub now_count : (x : ℕ) (m : Message) (ms : List Message) → count x (ids_of (ms ++ (m ∷ [])))
    ≡ count x (ids_of ms) + pick (eqb m.id x) 1 0
now_count x m ms = ap (count x) (map-append (λ (m : Message). m.id) ms (m ∷ [])) ∙ count_snoc x m.id (ids_of ms)
