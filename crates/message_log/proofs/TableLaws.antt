-- Laws of the rows in use: the first `count` of a table, read by places.
use mathlib.Core.Path.{◌≡◌, refl, ap, sym, ◌∙◌}
use mathlib.Core.Bool.{Bool, true, false}
use mathlib.Core.List.{List, [], ◌∷◌, ◌++◌, append_assoc}
use Prim.Native.Nat.{ℕ, suc, ◌+◌, ◌-◌, ◌≤◌, ◌<◌, min}
use native.Mathlib.Numerals.{add-one}
use native.Mathlib.Omega.{arith}
use borrow.Author.Tests.{le-leb, lt-leb, leb-true, leb-false, ltb-true, ltb-false}
use lib.Dec.{leb, ltb}
use lib.ListN.{length, take, drop, get_or, set, length-append, length-take, drop_of_length-le}
use lib.Seq.{drop-cons, drop_at, get_or-take, take-take, take_all, length-take-le}
use Rattle.std.specs.List.{copy_within}
use Rattle.text.specs.Bytes.{write, part}
use Rattle.text.proofs.WriteLaws.{write_one, length_write, take_write, take_written, part_take, length_part}
use Rattle.text.proofs.WriteLaws.{move_end, move_past}

module _ {A : Type 0} (z : A) (rows : List A) (count i : ℕ) where
  pub next_row : i < count → i < length rows → drop i (take count rows) ≡ get_or rows i z ∷ drop (i + 1)
      (take count rows)
  next_row h l =
      let n : i < length (take count rows) = rw length-take (omega arith) in
      rw add-one (drop-cons (take count rows) i z n ∙ ap (λ x. x ∷ drop (suc i) (take count rows))
      (get_or-take count rows i z h))

  pub no_row : length rows ≤ i → drop i (take count rows) ≡ []
  no_row h = let n : length (take count rows) ≤ i = rw length-take (omega arith) in drop_of_length-le (take count rows)
      n

  pub last_row : count ≤ i → drop i (take count rows) ≡ []
  last_row h = let n : length (take count rows) ≤ i = rw length-take (omega arith) in
      drop_of_length-le (take count rows) n

-- the row at a place, and those behind it
pub here_row : {A : Type 0} (z : A) (rows : List A) (i : ℕ) → i < length rows → drop i rows ≡ get_or rows i z ∷ drop
    (i + 1) rows
here_row z rows i h = rw add-one (drop-cons rows i z h)

module _ {A : Type 0} where
  -- what stands from where a text was written on
  pub drop_front : (d : List A) (at : ℕ) (x : List A) → at ≤ length d
      → drop at (write d at x) ≡ x ++ drop (at + length x) d
  unfolding write
  drop_front d at x h = ap (drop at) (append_assoc (take at d) x (drop (at + length x) d))
      ∙ drop_at (take at d) (x ++ drop (at + length x) d) at (length-take-le at d h)

  -- one text, then another directly before it, is both at once
  pub write_before : (d : List A) (at end : ℕ) (x y : List A) → end ≡ at + length x → end ≤ length d
      → write (write d end y) at x ≡ write d at (x ++ y)
  unfolding write
  write_before d at end x y e h =
      let t : take at (write d end y) ≡ take at d = take_write d end at y (omega arith) h in
      let n : length (x ++ y) ≡ length x + length y = length-append x y in
      let s : at + length (x ++ y) ≡ end + length y = omega arith in
      let q : drop (at + length x) (write d end y) ≡ y ++ drop (at + length (x ++ y)) d
      = ap (λ k. drop k (write d end y)) (sym e) ∙ (drop_front d end y h ∙ ap (λ k. y ++ drop k d) (sym s)) in
      rw (t, q) (sym (append_assoc (take at d ++ x) y (drop (at + length (x ++ y)) d))
      ∙ ap (λ l. l ++ drop (at + length (x ++ y)) d) (append_assoc (take at d) x y))

  -- one element before a text
  pub set_before : (d : List A) (at end : ℕ) (b : A) (y : List A) → end ≡ at + 1 → end + length y ≤ length d
      → set (write d end y) at b ≡ write d at (b ∷ y)
  set_before d at end b y e h =
      let n : length (write d end y) ≡ length d = length_write d end y h in
      sym (write_one (write d end y) at b (omega arith)) ∙ write_before d at end (b ∷ []) y e (omega arith)

-- a part copied to another place of the list
pub copied : {A : Type 0} (d : List A) (a b to : ℕ) → a ≤ b → b ≤ length d → copy_within d a b to ≡ write d to
    (part d a b)
unfolding write
copied d a b to h l = ap (λ n. take to d ++ part d a b ++ drop (to + n) d) (sym (length_part d a b h l))

-- the first rows of a table, by a number that is no more than it has
pub cut_rows : {A : Type 0} (table : List A) (count n : ℕ) → n ≡ min count
    (length table) → take n table ≡ take count table
cut_rows table count n e = at (leb count (length table)) refl
  where
    at : (t : Bool) → leb count (length table) ≡ t → take n table ≡ take count table
    at true p = let q : n ≡ count = omega (arith, leb-true count (length table) p) in ap (λ k. take k table) q
    at false p =
        let q : length table < count = leb-false count (length table) p in
        take_all n table (omega arith) ∙ sym (take_all count table (omega arith))

-- the rows behind one moved down by one, as far as there are any
module _ {A : Type 0} (d : List A) (i n end : ℕ) (e : end ≡ min n (length d)) where
  pub closed_up : i < end → copy_within d (i + 1) end i ≡ write d i (part d (i + 1) n)
  closed_up h =
      let same : part d (i + 1) end ≡ part d (i + 1) n = part_take d (i + 1) end (omega arith) (omega arith)
      ∙ (ap (drop (i + 1)) (cut_rows d n end e) ∙ sym (part_take d (i + 1) n (omega arith) (omega arith))) in
      copied d (i + 1) end i (omega arith) (omega arith) ∙ ap (write d i) same

  pub none_behind : end ≤ i → d ≡ write d i (part d (i + 1) n)
  none_behind h = at (ltb i (length d)) refl
    where
      at : (t : Bool) → ltb i (length d) ≡ t → d ≡ write d i (part d (i + 1) n)
      at true l = let k = ltb-true i (length d) l in sym (move_end d i (i + 1) n (omega arith))
      at false l = let k = ltb-false i (length d) l in sym (move_past d i (i + 1) n (omega arith))

-- the rows after one was taken out of the table
pub taken_out : {A : Type 0} (table : List A) (i n : ℕ) → i < n → n ≤ length table
    → take (n - 1) (write table i (part table (i + 1) n)) ≡ take i (take n table) ++ drop (suc i) (take n table)
taken_out table i n h l =
    let long : length (part table (i + 1) n) ≡ n - (i + 1) = length_part table (i + 1) n (omega arith) l in
    let e : n - 1 ≡ i + length (part table (i + 1) n) = omega arith in
    let rest : part table (i + 1) n ≡ drop (i + 1) (take n table) = part_take table (i + 1) n (omega arith)
    (omega arith) in
    let s : i + 1 ≡ suc i = omega arith in
    ap (λ k. take k (write table i (part table (i + 1) n))) e
    ∙ (take_written table i (part table (i + 1) n) (omega arith)
    ∙ (ap (λ x. take i table ++ x) (rest ∙ ap (λ k. drop k (take n table)) s)
    ∙ ap (λ x. x ++ drop (suc i) (take n table)) (sym (take-take i n table (omega arith)))))

-- the rows after one was put in at place i, before those up to place n
pub put_in : {A : Type 0} (table : List A) (i n : ℕ) (e : A) → i ≤ n → n < length table
    → take (n + 1) (write table i (e ∷ part table i n)) ≡ take i (take n table) ++ e ∷ drop i (take n table)
put_in table i n e h l =
    let long : length (part table i n) ≡ n - i = length_part table i n h (omega arith) in
    let k : n + 1 ≡ i + length (e ∷ part table i n) = omega arith in
    ap (λ j. take j (write table i (e ∷ part table i n))) k
    ∙ (take_written table i (e ∷ part table i n) (omega arith)
    ∙ (ap (λ x. take i table ++ e ∷ x) (part_take table i n h (omega arith)) ∙ ap (λ x. x ++ e ∷ drop i (take n table))
    (sym (take-take i n table h))))

-- a sum compared without being made
pub room_behind : (size n long : ℕ) → size ≤ long → leb n (long - size) ≡ leb (size + n) long
room_behind size n long h = at (leb n (long - size)) refl
  where
    at : (t : Bool) → leb n (long - size) ≡ t → leb n (long - size) ≡ leb (size + n) long
    at true e = e ∙ sym (le-leb (size + n) long (omega (arith, leb-true n (long - size) e)))
    at false e = e ∙ sym (lt-leb (size + n) long (omega (arith, leb-false n (long - size) e)))
