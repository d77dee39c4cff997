-- Laws of the script: one turn of each loop, and its end; a call that was read lies in the script.
use Rattle.std.proofs.Common.{Bool, true, false, leb, min}
use borrow.Author.Tests.{leb-true, leb-false}
use mathlib.Core.Path.{◌≡◌, refl}
use mathlib.Core.List.{List, [], ◌∷◌, ◌++◌, append_assoc}
use Prim.Native.Nat.{ℕ, zero, suc, ◌+◌, ◌-◌, ◌*◌, ◌≤◌, ◌<◌}
use native.Mathlib.Numerals.{add-one}
use native.Mathlib.Omega.{arith}
use lib.ListN.{length, get_or, take, drop, set, take-append-drop, drop_of_length-le}
use lib.Seq.{drop-cons, take-suc-set, drop-set-lt}
use Rattle.lists.specs.Links.{Table}
use Rattle.wire.specs.Number.{numbers_at}
use Rattle.wire.specs.Script.{groups_into}

-- one cell more of a list, as the code counts
below_more : {A : Type 0} (l : List A) (i : ℕ) (new : A) → i < length l → take (i + 1) (set l i new)
    ≡ take i l ++ (new ∷ [])
below_more l i new inside = rw add-one (take-suc-set l i new inside)

-- ---- the groups' rows: those below g are read

abbrev pub placed : ℕ → List ℕ → Table → ℕ → Table
placed groups s given g = take g given ++ groups_into (groups - g) s (88 + 296 * g) (drop g given)

none_given : (k : ℕ) (s : List ℕ) (p : ℕ) → groups_into k s p [] ≡ []
unfolding groups_into
none_given zero s p = refl
none_given (suc k) s p = refl

module _ (groups : ℕ) (s : List ℕ) (given : Table) (g : ℕ) where
  pub groups_more : g < length given → g < groups → placed groups s (set given g (numbers_at 37 s (88 + 296 * g)))
      (g + 1) ≡ placed groups s given g
  unfolding groups_into
  groups_more in_table inside =
      let new = numbers_at 37 s (88 + 296 * g) in
      let some : groups - g ≡ suc (groups - (g + 1)) = omega arith in
      let next : 88 + 296 * (g + 1) ≡ 88 + 296 * g + 296 = omega arith in
      let above : drop (g + 1) (set given g new) ≡ drop (g + 1) given = drop-set-lt (g + 1) given g new (omega arith)
      in
      let old : drop g given ≡ get_or given g [] ∷ drop (g + 1) given = rw add-one (drop-cons given g [] in_table) in
      rw (below_more given g new in_table, above, append_assoc, old, some, next)

  pub groups_full : length given ≤ g → placed groups s given g ≡ given
  groups_full full =
      let none = drop_of_length-le given full in
      rw (none, none_given) (rw none at (take-append-drop g given))

  pub groups_end : groups ≤ g → placed groups s given g ≡ given
  unfolding groups_into
  groups_end out = let none : groups - g ≡ 0 = omega arith in rw none (take-append-drop g given)

  -- .. and one of the two holds where the loop ends
  pub groups_done : min groups (length given) ≤ g → placed groups s given g ≡ given
  groups_done h = at (leb groups g) refl
    where
      at : (t : Bool) → leb groups g ≡ t → placed groups s given g ≡ given
      at true e = groups_end (leb-true groups g e)
      at false e = groups_full (omega (arith, leb-false groups g e))
