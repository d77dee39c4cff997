-- Laws of lists of entries, whatever table they come from: updates of a function, counts, last elements, sums over
-- lists. They hold for any number of entries and of lists. Assumes nothing.
use mathlib.Core.Path.{◌≡◌, refl, sym, ap, ◌∙◌, fun_ext}
use mathlib.Core.Logic.{◌≢◌}
use mathlib.Core.List.{List, [], ◌∷◌, ◌++◌}
use Prim.Native.Nat.{ℕ, zero, suc, ◌+◌, ◌-◌, ◌≤◌, ◌<◌}
use native.Mathlib.Omega.{arith}
use native.Mathlib.Decide.{ℕ_discrete}
use borrow.Author.Tests.{eq-eqb, ne_eqb}
use lib.Dec.{eqb}
use lib.ListN.{length, get_or, take, drop, length-append, take-append-drop}
use Rattle.lists.specs.Links.{pick}
use Rattle.lists.specs.Family.{count, last_d, total, up_from}

-- ---- put: f, but x at k

unfoldable pub put : {A : Type 0} → (ℕ → A) → ℕ → A → ℕ → A
put f k x j = pick (eqb j k) x (f j)

pub put_same : {A : Type 0} (f : ℕ → A) (k : ℕ) (x : A) → put f k x k ≡ x
unfolding put
put_same f k x = rw (eq-eqb k k refl)

pub put_other : {A : Type 0} (f : ℕ → A) (k : ℕ) (x : A) (j : ℕ) → j ≢ k → put f k x j ≡ f j
unfolding put
put_other f k x j n = rw (ne_eqb j k n)

-- a function that is x at i and f elsewhere
pub put_one : {A : Type 0} (g f : ℕ → A) (i : ℕ) (x : A) → g i ≡ x → ((k : ℕ) → k ≢ i → g k ≡ f k) → g ≡ put f i x
put_one {A} g f i x at_i others = fun_ext (λ k. go k (ℕ_discrete k i))
  where
    go : (k : ℕ) → Dec (k ≡ i) → g k ≡ put f i x k
    go k (yes p) = rw (p, put_same f i x) at_i
    go k (no p) = rw (put_other f i x k p) (others k p)

-- a function that is x at i, y at j and f elsewhere
pub put_two : {A : Type 0} (g f : ℕ → A) (i j : ℕ) (x y : A) → i ≢ j → g i ≡ x → g j ≡ y → ((k : ℕ) → k ≢ i → k ≢ j
    → g k ≡ f k) → g ≡ put (put f i x) j y
put_two {A} g f i j x y apart at_i at_j others = fun_ext (λ k. go k (ℕ_discrete k i) (ℕ_discrete k j))
  where
    go : (k : ℕ) → Dec (k ≡ i) → Dec (k ≡ j) → g k ≡ put (put f i x) j y k
    go k d (yes q) = rw (q, put_same (put f i x) j y) at_j
    go k (yes p) (no q) = rw (put_other (put f i x) j y k q, p, put_same f i x) at_i
    go k (no p) (no q) = rw (put_other (put f i x) j y k q, put_other f i x k p) (others k p q)

-- ---- the first element of a list

pub take_one : (l : List ℕ) → 0 < length l → take 1 l ≡ get_or l 0 0 ∷ []
take_one [] some = absurd (omega arith)
take_one (x ∷ xs) some = refl

-- ---- count

pub count_same : (e x : ℕ) (xs : List ℕ) → x ≡ e → count e (x ∷ xs) ≡ suc (count e xs)
unfolding count
count_same e x xs p = rw (eq-eqb x e p) (omega arith)

pub count_other : (e x : ℕ) (xs : List ℕ) → x ≢ e → count e (x ∷ xs) ≡ count e xs
unfolding count
count_other e x xs n = rw (ne_eqb x e n) (omega arith)

pub count_append : (e : ℕ) (xs ys : List ℕ) → count e (xs ++ ys) ≡ count e xs + count e ys
unfolding count
count_append e [] ys = omega arith
count_append e (x ∷ xs) ys = omega (arith, count_append e xs ys)

pub count_split : (e n : ℕ) (xs : List ℕ) → count e (take n xs) + count e (drop n xs) ≡ count e xs
count_split e n xs = sym (count_append e (take n xs) (drop n xs)) ∙ ap (count e) (take-append-drop n xs)

pub length_split : (n : ℕ) (xs : List ℕ) → length (take n xs) + length (drop n xs) ≡ length xs
length_split n xs = sym (length-append (take n xs) (drop n xs)) ∙ ap length (take-append-drop n xs)

-- ---- last_d

pub last_d_append : (d : ℕ) (xs ys : List ℕ) → last_d d (xs ++ ys) ≡ last_d (last_d d xs) ys
unfolding last_d
last_d_append d [] ys = refl
last_d_append d (x ∷ xs) ys = last_d_append x xs ys

pub last_d_default : (d d' : ℕ) (xs : List ℕ) → 0 < length xs → last_d d xs ≡ last_d d' xs
unfolding last_d
last_d_default d d' [] some = absurd (omega arith)
last_d_default d d' (x ∷ xs) some = refl

pub last_d_drop : (t n : ℕ) (xs : List ℕ) → last_d t xs ≡ t → last_d t (drop n xs) ≡ t
unfolding last_d
last_d_drop t zero xs h = h
last_d_drop t (suc n) [] h = refl
last_d_drop t (suc n) (x ∷ []) h = last_d_drop t n [] refl
last_d_drop t (suc n) (x ∷ y ∷ ys) h = last_d_drop t n (y ∷ ys) h

pub last_d_take : (d n : ℕ) (xs : List ℕ) → 0 < n → n ≤ length xs → last_d d (take n xs) ≡ get_or xs (n - 1) 0
unfolding last_d
last_d_take d zero xs some h = absurd (omega arith)
last_d_take d (suc n) [] some h = absurd (omega arith)
last_d_take d (suc zero) (x ∷ xs) some h = refl
last_d_take d (suc (suc n)) (x ∷ xs) some h =
    let same : suc (suc n) - 1 ≡ suc (suc n - 1) = omega arith in
    rw same (last_d_take x (suc n) xs (omega arith) (omega arith))

-- the last element of a list stands in it
pub count_last : (d x : ℕ) (xs : List ℕ) → 0 < count (last_d d (x ∷ xs)) (x ∷ xs)
unfolding last_d count
count_last d x [] = rw (eq-eqb x x refl) (omega arith)
count_last d x (y ∷ ys) = omega (arith, count_last x y ys)

pub last_in_lem : (t : ℕ) (xs : List ℕ) → 0 < length xs → last_d t xs ≡ t → 0 < count t xs
last_in_lem t [] some p = absurd (omega arith)
last_in_lem t (x ∷ xs) some p = rw p at (count_last t x xs)

-- ---- total

-- a list past the first n does not count
pub total_put_past : (w : List ℕ → ℕ) (n : ℕ) (f : ℕ → List ℕ) (k : ℕ) (l : List ℕ) → n ≤ k → total w n (put f k l)
    ≡ total w n f
unfolding total
total_put_past w zero f k l h = refl
total_put_past w (suc n) f k l h =
    rw (total_put_past w n f k l (omega arith), put_other f k l n (omega arith))

pub total_put : (w : List ℕ → ℕ) (n : ℕ) (f : ℕ → List ℕ) (k : ℕ) (l : List ℕ) → k < n
    → total w n (put f k l) + w (f k) ≡ total w n f + w l
unfolding total
total_put w zero f k l h = absurd (omega arith)
total_put w (suc n) f k l h = go (ℕ_discrete k n) (total_put w n f k l)
  where
    go : Dec (k ≡ n) → (k < n → total w n (put f k l) + w (f k) ≡ total w n f + w l)
        → total w n (put f k l) + w (put f k l n) + w (f k) ≡ total w n f + w (f n) + w l
    go (yes p) below = rw (p, total_put_past w n f n l (omega arith), put_same f n l) (omega arith)
    go (no q) below = rw (put_other f k l n (λ e. q (sym e))) (omega (arith, below (omega arith)))

module _ (w : List ℕ → ℕ) (n : ℕ) (f : ℕ → List ℕ) (i j : ℕ) (i_is : i < n) (j_is : j < n) (apart : i ≢ j) where
  -- two lists change, and what they weigh together does not
  pub total_kept : (a b : List ℕ) → w a + w b ≡ w (f i) + w (f j) → total w n (put (put f i a) j b) ≡ total w n f
  total_kept a b same =
      let first = total_put w n f i a i_is in
      let second = rw (put_other f i a j (λ e. apart (sym e))) at (total_put w n (put f i a) j b j_is) in
      omega arith

  -- two lists weigh no more than all
  pub total_two : w [] ≡ 0 → w (f i) + w (f j) ≤ total w n f
  total_two none =
      let first = total_put w n f i [] i_is in
      let second = rw (put_other f i [] j (λ e. apart (sym e))) at (total_put w n (put f i []) j [] j_is) in
      omega arith

pub total_one : (w : List ℕ → ℕ) (n : ℕ) (f : ℕ → List ℕ) (i : ℕ) → i < n → w [] ≡ 0 → w (f i) ≤ total w n f
total_one w n f i i_is none = omega (arith, total_put w n f i [] i_is)

pub total_empty : (w : List ℕ → ℕ) (n : ℕ) → w [] ≡ 0 → total w n (λ _. []) ≡ 0
unfolding total
total_empty w zero none = refl
total_empty w (suc n) none = omega (arith, total_empty w n none)

pub total_single : (w : List ℕ → ℕ) (n k : ℕ) (l : List ℕ) → k < n → w [] ≡ 0 → total w n (put (λ _. []) k l) ≡ w l
total_single w n k l k-is none = omega (arith, total_put w n (λ _. []) k l k-is, total_empty w n none)

-- ---- up_from

pub length_up : (h n : ℕ) → length (up_from h n) ≡ n
unfolding up_from
length_up h zero = refl
length_up h (suc n) = ap suc (length_up (suc h) n)

pub last_d_up : (d h n : ℕ) → last_d d (up_from h (suc n)) ≡ h + n
unfolding up_from last_d
last_d_up d h zero = omega arith
last_d_up d h (suc n) = last_d_up h (suc h) n ∙ omega arith

pub count_up_below : (e h n : ℕ) → e < h → count e (up_from h n) ≡ 0
unfolding up_from count
count_up_below e h zero p = refl
count_up_below e h (suc n) p = rw (ne_eqb h e (omega arith)) (omega (arith, count_up_below e (suc h) n (omega arith)))

pub count_up_past : (e h n : ℕ) → h + n ≤ e → count e (up_from h n) ≡ 0
unfolding up_from count
count_up_past e h zero p = refl
count_up_past e h (suc n) p = rw (ne_eqb h e (omega arith)) (omega (arith, count_up_past e (suc h) n (omega arith)))

pub count_up_in : (e h n : ℕ) → h ≤ e → e < h + n → count e (up_from h n) ≡ 1
unfolding up_from
count_up_in e h zero p q = absurd (omega arith)
count_up_in e h (suc n) p q = go (ℕ_discrete h e) (count_up_in e (suc h) n)
  where
    go : Dec (h ≡ e) → (suc h ≤ e → e < suc h + n → count e (up_from (suc h) n) ≡ 1) → count e (h ∷ up_from (suc h) n)
        ≡ 1
    go (yes r) later = omega (arith, count_same e h (up_from (suc h) n) r, count_up_below e (suc h) n (omega arith))
    go (no r) later = count_other e h (up_from (suc h) n) r ∙ later (omega arith) (omega arith)
