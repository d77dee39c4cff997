-- Laws of the loop over the waiting lists: one turn, by its definition. Assumes nothing.
use mathlib.Core.Path.{◌≡◌, refl, sym, ap, ◌∙◌}
use mathlib.Core.Bool.{Bool, true, false, false≢true}
use Prim.Native.Nat.{ℕ, zero, suc, ◌+◌, ◌<◌}
use native.Mathlib.Omega.{arith}
use native.Mathlib.Decide.{ℕ_discrete}
use lib.Dec.{ltb}
use Rattle.lists.specs.Links.{Table}
use Rattle.lists.specs.KeyLists.{keys_at, count_of}
use Rattle.group.specs.Roster.{waiting_row}
use Rattle.pool.specs.Run.{waiters_from}

abbrev waits_at : Table → ℕ → Bool
waits_at keys g = ltb 0 (count_of (keys_at keys (waiting_row g)))

pub waiters_none : (keys : Table) → waiters_from keys 0 ≡ false
unfolding waiters_from
waiters_none keys = refl

pub waiters_more : (keys : Table) (g : ℕ) → waits_at keys g ≡ false → waiters_from keys g ≡ false
    → waiters_from keys (g + 1) ≡ false
unfolding waiters_from
waiters_more keys g none below = let e : g + 1 ≡ suc g = omega arith in rw (e, none) below

above : (keys : Table) (g n : ℕ) → waits_at keys g ≡ true → (g < n → waiters_from keys n ≡ true) → g < suc n
    → waiters_from keys (suc n) ≡ true
unfolding waiters_from
above keys g n some below here = go (ℕ_discrete g n) (waits_at keys n) refl
  where
    go : Dec (g ≡ n) → (b : Bool) → waits_at keys n ≡ b → waiters_from keys (suc n) ≡ true
    go d true is = rw is
    go (yes e) false is = absurd (false≢true (sym is ∙ (ap (waits_at keys) (sym e) ∙ some)))
    go (no e) false is = rw is (below (omega arith))

pub waiters_found : (keys : Table) (g n : ℕ) → g < n → waits_at keys g ≡ true → waiters_from keys n ≡ true
waiters_found keys g zero here some = absurd (omega arith)
waiters_found keys g (suc n) here some = above keys g n some (λ below. waiters_found keys g n below some) here
