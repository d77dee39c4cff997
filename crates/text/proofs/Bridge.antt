-- The definitions read by places in a slice, as a loop over an index meets them.
use Rattle.std.specs.Prelude.{Some}
use mathlib.Core.Path.{◌≡◌, refl}
use mathlib.Core.Bool.{Bool, true, false}
use mathlib.Core.List.{List, [], ◌∷◌}
use Prim.Native.Nat.{ℕ, ◌+◌, ◌-◌, ◌*◌, ◌≤◌, ◌<◌}
use native.Mathlib.Numerals.{add-one}
use native.Mathlib.Omega.{arith}
use borrow.Author.Tests.{leb-true, ltb-true, le-leb, lt-ltb}
use lib.Dec.{eqb, leb, ltb}
use lib.ListN.{length, drop, get_or}
use lib.Seq.{drop-cons}
use Rattle.text.specs.Format.{DIGIT0, BACKSLASH, escaped, unescape, unescape_next, decimal}

-- unescape: from place i on, in plain text and after a backslash
pub unescape_plain : (s : List ℕ) (i : ℕ) → i < length s → eqb (get_or s i 0) BACKSLASH ≡ false → unescape (drop i s)
    ≡ get_or s i 0 ∷ unescape (drop (i + 1) s)
unfolding unescape
unescape_plain s i h e = rw (add-one, drop-cons s i 0) (cc)

pub unescape_backslash : (s : List ℕ) (i : ℕ) → i < length s → eqb (get_or s i 0) BACKSLASH ≡ true → unescape (drop i s)
    ≡ unescape_next (drop (i + 1) s)
unfolding unescape
unescape_backslash s i h e = rw (add-one, drop-cons s i 0) (cc)

pub unescape_after : (s : List ℕ) (i : ℕ) → i < length s → unescape_next (drop i s) ≡ escaped (get_or s i 0) ∷ unescape
    (drop (i + 1) s)
unfolding unescape
unescape_after s i h = rw (add-one, drop-cons s i 0)

-- decimal: one digit more, and a byte that is none
pub decimal_next : (s : List ℕ) (i high : ℕ) → i < length s → DIGIT0 ≤ get_or s i 0 → get_or s i 0 < DIGIT0 + 10
    → decimal high (drop i s) ≡ decimal (high * 10 + (get_or s i 0 - DIGIT0)) (drop (i + 1) s)
unfolding decimal
decimal_next s i high h a b = rw (add-one, drop-cons s i 0) (cc (
  le-leb DIGIT0 (get_or s i 0) a,
  lt-ltb (get_or s i 0)
      (DIGIT0 + 10) b,
))

-- what is read is digits, one by one
pub decimal_head : (high b : ℕ) (bs : List ℕ) (n : ℕ) → decimal high (b ∷ bs) ≡ Some n
    → (DIGIT0 ≤ b) × (b < DIGIT0 + 10) × (decimal (high * 10 + (b - DIGIT0)) bs ≡ Some n)
unfolding decimal
decimal_head high b bs n e = at (leb DIGIT0 b) refl (ltb b (DIGIT0 + 10)) refl
  where
    at : (t : Bool) → leb DIGIT0 b ≡ t → (u : Bool) → ltb b (DIGIT0 + 10) ≡ u
        → (DIGIT0 ≤ b) × (b < DIGIT0 + 10) × (decimal (high * 10 + (b - DIGIT0)) bs ≡ Some n)
    at true p true q = (leb-true DIGIT0 b p, ltb-true b (DIGIT0 + 10) q, cc)
    at true p false q = let z : ◌≡◌ {A = ℕ} 0 1 = cc in absurd (omega arith)
    at false p u q = let z : ◌≡◌ {A = ℕ} 0 1 = cc in absurd (omega arith)

-- a value that is too large stays so: the reader may stop there
pub decimal_grows : (bs : List ℕ) (high n : ℕ) → decimal high bs ≡ Some n → high ≤ n
unfolding decimal
decimal_grows [] high n e = let q : high ≡ n = cc in omega arith
decimal_grows (b ∷ bs) high n e = omega (
  arith,
  decimal_grows bs (high * 10 + (b - DIGIT0)) n (decimal_head high b bs n e).2,
)
