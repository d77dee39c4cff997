-- Reads of a table, and rows of keys in it. Assumes nothing.
use mathlib.Core.Path.{◌≡◌, refl, sym, ap, ◌∙◌}
use mathlib.Core.List.{List, [], ◌∷◌}
use native.Mathlib.Nat.{not-suc-le-zero, le_of_suc-le-suc}
use Prim.Native.Nat.{ℕ, suc, zero, ◌≤◌, ◌<◌}
use lib.ListN.{length, get_or, set, get_or-eq_default}
use lib.Seq.{set_out, set-set, get_or-set_same}
use Rattle.lists.specs.KeyLists.{blank_row, keys_at}

-- inside a table it does not matter what is read past its end
pub read_in : {A : Type 0} (l : List A) (d e : A) (i : ℕ) → i < length l → get_or l i d ≡ get_or l i e
read_in [] d e i h = absurd (not-suc-le-zero h)
read_in (x ∷ xs) d e zero h = refl
read_in (x ∷ xs) d e (suc i) h = read_in xs d e i (le_of_suc-le-suc h)

-- a row of keys inside the table, as the code reads it, and past its end
module _ (t : List (List ℕ)) (i : ℕ) where
  pub row_in : i < length t → get_or t i [] ≡ keys_at t i
  row_in inside = read_in t [] blank_row i inside

  pub row_out : length t ≤ i → keys_at t i ≡ blank_row
  row_out out = get_or-eq_default t blank_row {n = i} out

  -- a store past the end changes nothing
  pub kept_out : (c : List ℕ) → length t ≤ i → t ≡ set t i c
  kept_out c out = sym (set_out t i c out)

  -- a cell of a row that was just stored
  pub again : (c : List ℕ) (j v : ℕ) → i < length t → set (set t i c) i (set (get_or (set t i c) i []) j v)
      ≡ set t i (set c j v)
  again c j v inside = set-set t i c _ ∙ ap (λ (r : List ℕ). set t i (set r j v)) (get_or-set_same t i c [] inside)
