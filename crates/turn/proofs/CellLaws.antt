-- The pool's cells, one by one: a list of 28 numbers is the list of its reads, so a write to a numbered cell computes.
use mathlib.Core.Path.{◌≡◌, refl, ap, sym, ◌∙◌}
use mathlib.Core.List.{List, [], ◌∷◌}
use Prim.Native.Nat.{ℕ, zero, suc}
use lib.ListN.{length, get_or}

-- so many numbers, from this place on
abbrev pub reads : ℕ → ℕ → List ℕ → List ℕ
reads k zero c = []
reads k (suc n) c = get_or c k 0 ∷ reads (suc k) n c

reads_behind : (k n x : ℕ) (c : List ℕ) → reads (suc k) n (x ∷ c) ≡ reads k n c
reads_behind k zero x c = refl
reads_behind k (suc n) x c = ap (λ (r : List ℕ). get_or c k 0 ∷ r) (reads_behind (suc k) n x c)

all_read : (c : List ℕ) → c ≡ reads 0 (length c) c
all_read [] = refl
all_read (x ∷ c) = ap (λ (r : List ℕ). x ∷ r) (all_read c ∙ sym (reads_behind 0 (length c) x c))

pub cells_read : (c : List ℕ) → length c ≡ 28 → c ≡ reads 0 28 c
cells_read c h = all_read c ∙ ap (λ n. reads 0 n c) h
