-- Laws of the answers: a measured length, and a slice that was to be filled.
use Rattle.std.specs.Prelude.{Option, Some, None}
use mathlib.Core.Path.{◌≡◌, refl, ap, ◌∙◌}
use mathlib.Core.Bool.{Bool, true, false}
use mathlib.Core.List.{List, [], ◌∷◌}
use Prim.Native.Nat.{ℕ, ◌+◌, ◌-◌, ◌*◌, ◌≤◌, ◌<◌}
use native.Mathlib.Omega.{arith}
use borrow.Author.Tests.{le-leb, lt-leb, leb-true, leb-false}
use borrow.Rule.Slice.PartMut.{put_mid}
use lib.Dec.{eqb, leb}
use lib.ListN.{length, take, drop, length-take, length-drop}
use Rattle.text.specs.Format.{BACKSLASH, unescape, unescape_next}
use Rattle.text.specs.Bytes.{Wrote, write}
use Rattle.text.specs.Answers.{length_within, Filled, filled}
use Rattle.text.proofs.WriteLaws.{part_back}

-- a length that was told
pub record Told (n most k : ℕ) : Type 0 where
  pub is : k ≡ n
  pub small : n ≤ most

pub told : (n most k : ℕ) → Some k ≡ length_within n most → Told n most k
unfolding length_within
told n most k e = at (leb n most) refl
  where
    at : (t : Bool) → leb n most ≡ t → Told n most k
    at true p = record { is = cc; small = leb-true n most p }
    at false p = let z : ◌≡◌ {A = ℕ} 0 1 = cc in absurd (omega arith)

pub told_over : (n most : ℕ) → None ≡ length_within n most → most < n
unfolding length_within
told_over n most e = at (leb n most) refl
  where
    at : (t : Bool) → leb n most ≡ t → most < n
    at true p = let z : ◌≡◌ {A = ℕ} 0 1 = cc in absurd (omega arith)
    at false p = leb-false n most p

pub filled_len : (old text new : List ℕ) (n : ℕ) → length text ≤ length old → Wrote old 0 text new n
    → ◌≡◌ {A = Filled} (record { bytes = new; answer = Some n }) (filled old text)
unfolding filled
filled_len old text new n h w =
    let a : n ≡ length text = omega (arith, w.past) in
    let b : new ≡ write old 0 text = w.bytes in
    cc (le-leb (length text) (length old) h)

pub filled_over : (old text : List ℕ) → length old < length text
    → ◌≡◌ {A = Filled} (record { bytes = old; answer = None }) (filled old text)
unfolding filled
filled_over old text h = cc (lt-leb (length text) (length old) h)

-- unescaping takes at most two bytes for one, and drops at most one more
mutual
  unfolding unescape

  pub unescape_long : (s : List ℕ) → length s ≤ 2 * length (unescape s) + 1
  unescape_long [] = omega arith
  unescape_long (b ∷ s) = at (eqb b BACKSLASH) refl (unescape_long s) (next_long s)
    where
      at : (t : Bool) → eqb b BACKSLASH ≡ t → length s ≤ 2 * length (unescape s) + 1
          → length s ≤ 2 * length (unescape_next s) → length (b ∷ s) ≤ 2 * length (unescape (b ∷ s)) + 1
      at true e p q = rw (e, unescape) (omega arith)
      at false e p q = rw (e, unescape) (omega arith)

  next_long : (s : List ℕ) → length s ≤ 2 * length (unescape_next s)
  next_long [] = omega arith
  next_long (b ∷ s) = omega (arith, unescape_long s)

-- a text that fits was put at the front
filled_fits : (old text : List ℕ) → length text ≤ length old → filled old text ≡ record {
  bytes = write old 0 text;
  answer = Some (length text);
}
unfolding filled
filled_fits old text h = cc (le-leb (length text) (length old) h)

pub filled_bytes : (old text new : List ℕ) (a : Option ℕ) → length text ≤ length old
    → ◌≡◌ {A = Filled} (record { bytes = new; answer = a }) (filled old text) → new ≡ write old 0 text
filled_bytes old text new a h e = ap (λ f. f.bytes) (e ∙ filled_fits old text h)

pub filled_answer : (old text new : List ℕ) (a : Option ℕ) → length text ≤ length old
    → ◌≡◌ {A = Filled} (record { bytes = new; answer = a }) (filled old text) → a ≡ Some (length text)
filled_answer old text new a h e = ap (λ f. f.answer) (e ∙ filled_fits old text h)

-- the same, put into a part of a slice that begins at a, said of the whole
pub filled_part : (d : List ℕ) (a : ℕ) (text last : List ℕ) (r : Option ℕ) → a + length text ≤ length d
    → ◌≡◌ {A = Filled} (record { bytes = last; answer = r }) (filled (take (length d - a) (drop a d)) text)
    → put_mid a (length d - a) d last ≡ write d a text
filled_part d a text last r h e =
    let room : length text ≤ length (take (length d - a) (drop a d)) = simp (length-take, length-drop) (omega arith) in
    ap (put_mid a (length d - a) d) (filled_bytes (take (length d - a) (drop a d)) text last r room e)
    ∙ part_back d a text h
