-- Laws of numbers as bytes: one byte, one number, one element at a time; and their lengths.
use mathlib.Core.Path.{◌≡◌, refl, ap, sym, ◌∙◌}
use mathlib.Core.List.{List, [], ◌∷◌, ◌++◌, append_assoc}
use Prim.Native.Nat.{ℕ, zero, suc, ◌+◌, ◌*◌, ◌/◌, ◌^◌, ◌≤◌, ◌<◌}
use native.Mathlib.Numerals.{add-one}
use native.Mathlib.Omega.{arith}
use lib.ListN.{length, take, drop, get_or, length-append, drop_of_length-le}
use lib.Seq.{drop-cons, drop-drop}
use borrow.Rule.Slice.PartMut.{put_mid}
use Rattle.std.specs.Int.{w64, to_le_bytes, from_le_bytes}
use Rattle.text.specs.Bytes.{write}
use Rattle.wire.specs.Number.{low_bytes, number, numbers, four_at, number_at, numbers_at}

length_low : (k n : ℕ) → length (low_bytes k n) ≡ k
unfolding low_bytes
length_low zero n = refl
length_low (suc k) n = ap suc (length_low k (n / 256))

pub length_number : (n : ℕ) → length (number n) ≡ 8
unfolding number
length_number n = length_low 8 n

pub length_numbers : (ns : List ℕ) → length (numbers ns) ≡ 8 * length ns
unfolding numbers
length_numbers [] = refl
length_numbers (n ∷ ns) = length-append (number n) (numbers ns) ∙ omega (arith, length_number n, length_numbers ns)

pub numbers_more : (ns : List ℕ) (i : ℕ) → i < length ns → numbers (drop i ns) ≡ number (get_or ns i 0) ++ numbers
    (drop (i + 1) ns)
unfolding numbers
numbers_more ns i h = ap numbers (drop-cons ns i 0 h) ∙ ap (λ k. number (get_or ns i 0) ++ numbers (drop k ns))
    (sym (add-one i))

pub numbers_end : (ns : List ℕ) (i : ℕ) → length ns ≤ i → numbers (drop i ns) ≡ []
unfolding numbers
numbers_end ns i h = ap numbers (drop_of_length-le ns h)

pub numbers_room : (ns : List ℕ) (i : ℕ) → i < length ns → length (numbers (drop i ns))
    ≡ 8 + length (numbers (drop (i + 1) ns))
numbers_room ns i h = ap length (numbers_more ns i h)
    ∙ (length-append (number (get_or ns i 0)) (numbers (drop (i + 1) ns))
    ∙ ap (λ k. k + length (numbers (drop (i + 1) ns))) (length_number (get_or ns i 0)))

-- the library's bytes of a number are those of the definition
pub number_bytes : (n : ℕ) → to_le_bytes w64 n ≡ number n
unfolding number low_bytes
number_bytes n =
    let e2 : n / 256 / 256 ≡ n / 256 ^ 2 = omega arith in
    let e3 : n / 256 ^ 2 / 256 ≡ n / 256 ^ 3 = omega arith in
    let e4 : n / 256 ^ 3 / 256 ≡ n / 256 ^ 4 = omega arith in
    let e5 : n / 256 ^ 4 / 256 ≡ n / 256 ^ 5 = omega arith in
    let e6 : n / 256 ^ 5 / 256 ≡ n / 256 ^ 6 = omega arith in
    let e7 : n / 256 ^ 6 / 256 ≡ n / 256 ^ 7 = omega arith in
    simp (e2, e3, e4, e5, e6, e7)

-- .. and what the library reads from eight bytes is the number that they say, where they stand
pub number_said : (s : List ℕ) (p : ℕ) (bytes : List ℕ) → ((i : ℕ) → i < 8 → get_or bytes i 0 ≡ get_or s (p + i) 0)
    → from_le_bytes w64 bytes ≡ number_at s p
unfolding number_at four_at
number_said s p bytes h =
    let at : (j : ℕ) → get_or s (p + 4 + j) 0 ≡ get_or s (p + (4 + j)) 0 = λ j. ap (λ q. get_or s q 0) (omega arith) in
    let start : get_or s (p + 0) 0 ≡ get_or s p 0 = ap (λ q. get_or s q 0) (omega arith) in
    omega (
      arith,
      start,
      at 1,
      at 2,
      at 3,
      h 0 (omega arith),
      h 1 (omega arith),
      h 2 (omega arith),
      h 3 (omega arith),
      h 4 (omega arith),
      h 5 (omega arith),
      h 6 (omega arith),
      h 7 (omega arith),
    )

pub numbers_said : (n : ℕ) (s : List ℕ) (from : ℕ) (row : List ℕ) → length row ≡ n
    → ((i : ℕ) → i < n → get_or row i 0 ≡ number_at s (from + 8 * i)) → row ≡ numbers_at n s from
unfolding numbers_at
numbers_said zero s from [] e h = refl
numbers_said zero s from (n ∷ ns) e h = absurd (omega arith)
numbers_said (suc k) s from [] e h = absurd (omega arith)
numbers_said (suc k) s from (n ∷ ns) e h =
    let first : n ≡ number_at s from = h 0 (omega arith) ∙ ap (number_at s) (omega arith) in
    let next : (i : ℕ) → i < k → get_or ns i 0 ≡ number_at s (from + 8 + 8 * i) = λ i l. h (suc i) (omega arith)
    ∙ ap (number_at s) (omega arith) in
    rw (first, numbers_said k s (from + 8) ns (omega arith) next) refl

-- a part that is written over, said of the whole
pub mid_write : (d : List ℕ) (at k : ℕ) (x : List ℕ) → k ≡ length x → put_mid at k d x ≡ write d at x
unfolding write
mid_write d at k x e = rw e (ap (λ r. take at d ++ (x ++ r)) (drop-drop (length x) at d)
    ∙ sym (append_assoc (take at d) x (drop (at + length x) d)))
