-- Laws of ids as the code meets them.
use Rattle.std.specs.Prelude.{Option, Some, None}
use mathlib.Core.Path.{◌≡◌, refl, ap, sym, ◌∙◌}
use mathlib.Core.Bool.{Bool, true, false}
use mathlib.Core.Logic.{◌⊎◌, inl, inr}
use mathlib.Core.List.{List, [], ◌∷◌, ◌++◌}
use Prim.Native.Nat.{ℕ, zero, suc, ◌+◌, ◌-◌, ◌*◌, ◌/◌, ◌%◌, ◌^◌, ◌≤◌, ◌<◌}
use native.Mathlib.Omega.{arith}
use borrow.Author.Tests.{ltb-true, ltb-false, le-ltb, lt-leb, lt-ltb, le-leb}
use lib.Dec.{eqb, ltb}
use lib.ListN.{length, drop, get_or, length-append, drop_of_length-le}
use lib.Seq.{drop-cons}
use Rattle.text.specs.Format.{DIGIT0, digits, print_id, decimal, below64, read_digits, leading_zero, read_id}
use Rattle.text.proofs.Bridge.{decimal_next, decimal_grows}

pub read_start : (s : List ℕ) → (length s ≡ 0 → ⊥) → below64 (decimal 0 s) ≡ read_digits s
unfolding read_digits
read_start [] h = absurd (h refl)
read_start (b ∷ s) h = refl

pub read_empty : (s : List ℕ) → length s ≡ 0 → read_digits s ≡ None
unfolding read_digits
read_empty [] h = refl
read_empty (b ∷ s) h = absurd (omega arith)

read_low : (s : List ℕ) (i high : ℕ) → i < length s → get_or s i 0 < 48 → below64 (decimal high (drop i s)) ≡ None
unfolding decimal below64
read_low s i high h l = rw (drop-cons s i 0) (cc (lt-leb DIGIT0 (get_or s i 0) l))

read_high : (s : List ℕ) (i high : ℕ) → i < length s → 57 < get_or s i 0 → below64 (decimal high (drop i s)) ≡ None
unfolding decimal below64
read_high s i high h l = rw (drop-cons s i 0) (cc (
  le-leb DIGIT0 (get_or s i 0) (omega arith),
  le-ltb (get_or s i 0)
      (DIGIT0 + 10) (omega arith),
))

-- a byte that is no digit, below the digits or above them
pub read_other : (s : List ℕ) (i high : ℕ) → i < length s → (get_or s i 0 < 48) ⊎ (57 < get_or s i 0)
    → below64 (decimal high (drop i s)) ≡ None
read_other s i high h (inl l) = read_low s i high h l
read_other s i high h (inr l) = read_high s i high h l

too_large : (high : ℕ) (bs : List ℕ) → 2 ^ 64 ≤ high → below64 (decimal high bs) ≡ None
unfolding below64
too_large high bs h = at (decimal high bs) refl
  where
    at : (o : Option ℕ) → decimal high bs ≡ o → below64 (decimal high bs) ≡ None
    at None e = cc
    at (Some n) e = cc (le-ltb n (2 ^ 64) (omega (arith, decimal_grows bs high n e)))

module _ (s : List ℕ) (i high : ℕ) (h : i < length s) (low : 48 ≤ get_or s i 0) (top : get_or s i 0 ≤ 57) where
  pub read_next : below64 (decimal (high * 10 + (get_or s i 0 - 48)) (drop (i + 1) s))
      ≡ below64 (decimal high (drop i s))
  read_next = ap below64 (sym (decimal_next s i high h low (omega arith)))

  pub read_large : 2 ^ 64 ≤ high * 10 + (get_or s i 0 - 48) → below64 (decimal high (drop i s)) ≡ None
  read_large l = sym read_next ∙ too_large (high * 10 + (get_or s i 0 - 48)) (drop (i + 1) s) l

pub read_end : (s : List ℕ) (i high : ℕ) → length s ≤ i → high < 2 ^ 64 → below64 (decimal high (drop i s)) ≡ Some high
unfolding decimal below64
read_end s i high h l = rw (drop_of_length-le s h) (cc (lt-ltb high (2 ^ 64) l))

-- a text of fewer than two bytes has no leading zero; in a longer one the first byte says it
pub zero_short : (s : List ℕ) → length s < 2 → leading_zero s ≡ false
zero_short [] h = refl
zero_short (b ∷ []) h = refl
zero_short (b ∷ c ∷ s) h = absurd (omega arith)

pub zero_first : (s : List ℕ) → 2 ≤ length s → leading_zero s ≡ eqb (get_or s 0 0) DIGIT0
zero_first [] h = absurd (omega arith)
zero_first (b ∷ []) h = absurd (omega arith)
zero_first (b ∷ c ∷ s) h = refl

pub read_id_zero : (s : List ℕ) → leading_zero s ≡ true → read_id s ≡ None
unfolding read_id
read_id_zero s e = cc

pub read_id_digits : (s : List ℕ) → leading_zero s ≡ false → read_id s ≡ read_digits s
unfolding read_id
read_id_digits s e = cc

-- printing: more places than needed change nothing
digits_more : (places n : ℕ) → 0 < places → n < 10 ^ places → digits (suc places) n ≡ digits places n
unfolding digits
digits_more zero n p h = absurd (omega arith)
digits_more (suc places) n p h = at (ltb n 10) refl places refl (digits_more places (n / 10))
  where
    at : (t : Bool) → ltb n 10 ≡ t → (k : ℕ) → places ≡ k → (0 < places → n / 10 < 10 ^ places
        → digits (suc places) (n / 10) ≡ digits places (n / 10)) → digits (suc (suc places)) n ≡ digits (suc places) n
    at true e k q ih = cc
    at false e zero q ih = let z : 10 ≤ n = ltb-false n 10 e in let w : 10 ^ suc places ≡ 10 = rw q refl in
        absurd (omega arith)
    at false e (suc k) q ih = cc (ih (omega arith) (omega arith))

pub print_one : (n : ℕ) → n < 10 → print_id n ≡ (48 + n) ∷ []
unfolding print_id digits
print_one n h = cc (lt-ltb n 10 h)

pub print_more : (n : ℕ) → 10 ≤ n → n < 2 ^ 64 → print_id n ≡ print_id (n / 10) ++ ((48 + n % 10) ∷ [])
unfolding print_id digits
print_more n h l = cc (le-ltb n 10 h, digits_more 19 (n / 10) (omega arith) (omega arith))

-- by the length of what a number is printed as: more than one digit, and one
pub print_long : (n : ℕ) → 1 < length (print_id n) → 10 ≤ n
print_long n h = at (ltb n 10) refl
  where
    at : (t : Bool) → ltb n 10 ≡ t → 10 ≤ n
    at true e = absurd (omega (arith, ap length (print_one n (ltb-true n 10 e))))
    at false e = ltb-false n 10 e

pub length_one : (n : ℕ) → n < 10 → length (print_id n) ≡ 1
length_one n h = rw (print_one n h) refl

pub length_more : (n : ℕ) → 10 ≤ n → n < 2 ^ 64 → length (print_id n) ≡ length (print_id (n / 10)) + 1
length_more n h l = rw (print_more n h l) (simp length-append)

digits_short : (places n : ℕ) → length (digits places n) ≤ places
unfolding digits
digits_short zero n = omega arith
digits_short (suc places) n = at (ltb n 10) refl (digits_short places (n / 10))
  where
    at : (t : Bool) → ltb n 10 ≡ t → length (digits places (n / 10)) ≤ places → length (digits (suc places) n) ≤ suc
        places
    at true e ih = rw (e, digits) (omega arith)
    at false e ih = rw (e, digits) (simp length-append (omega arith))

pub print_short : (n : ℕ) → length (print_id n) ≤ 20
unfolding print_id
print_short n = digits_short 20 n

pub print_there : (n : ℕ) → n < 2 ^ 64 → 0 < length (print_id n)
print_there n l = at (ltb n 10) refl
  where
    at : (t : Bool) → ltb n 10 ≡ t → 0 < length (print_id n)
    at true e = rw (length_one n (ltb-true n 10 e)) (omega arith)
    at false e = rw (length_more n (ltb-false n 10 e) l) (omega arith)

pub print_last : (n : ℕ) → length (print_id n) ≤ 1 → n < 2 ^ 64 → n < 10
print_last n h l = at (ltb n 10) refl
  where
    at : (t : Bool) → ltb n 10 ≡ t → n < 10
    at true e = ltb-true n 10 e
    at false e =
        let more = ltb-false n 10 e in
        absurd (omega (arith, length_more n more l, print_there (n / 10) (omega arith)))

-- the number of digits, by the power of ten that a number reaches
pub length_power : (n k : ℕ) → 10 ^ k ≤ n → n < 10 * 10 ^ k → n < 2 ^ 64 → length (print_id n) ≡ k + 1
length_power n zero h l b = length_one n l
length_power n (suc k) h l b =
    let more : 10 ≤ n = omega (arith, pow_pos k) in
    omega (arith, length_more n more b, length_power (n / 10) k (omega arith) (omega arith) (omega arith))
  where
    pow_pos : (k : ℕ) → 0 < 10 ^ k
    pow_pos zero = omega arith
    pow_pos (suc k) = omega (arith, pow_pos k)
