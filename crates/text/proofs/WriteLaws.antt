-- Laws of `write` and `part`: elements written one after another, and what a write leaves as it was.
use mathlib.Core.Path.{◌≡◌, refl, ap, sym, ◌∙◌}
use mathlib.Core.List.{List, [], ◌∷◌, ◌++◌, append_assoc, append-nil}
use Prim.Native.Nat.{ℕ, suc, ◌+◌, ◌-◌, ◌≤◌, ◌<◌}
use native.Mathlib.Numerals.{add-one}
use native.Mathlib.Omega.{arith}
use borrow.Rule.Slice.PartMut.{put_mid}
use lib.ListN.{length, take, drop, get_or, set, length-append, length-take, length-drop, take-append-drop}
use lib.ListN.{drop_of_length-le}
use lib.Seq.{set_split, take_at, drop_at, drop-drop, drop-cons, append_snoc, length-take-le, take-take, take-append-le}
use lib.Seq.{take-add, take_all, take-nil, drop-set-lt}
use Rattle.text.specs.Bytes.{write, part, Wrote}

module _ {A : Type 0} where
  pub write_none : (d : List A) (at : ℕ) → write d at [] ≡ d
  unfolding write
  write_none d at = let z : at + 0 ≡ at = omega arith in rw (z, append-nil) (take-append-drop at d)

  pub write_one : (d : List A) (at : ℕ) (b : A) → at < length d → write d at (b ∷ []) ≡ set d at b
  unfolding write
  write_one d at b h = rw (add-one, append_snoc, set_split d at b h)

  pub length_write : (d : List A) (at : ℕ) (x : List A) → at + length x ≤ length d → length (write d at x) ≡ length d
  unfolding write
  length_write d at x h = simp (length-append, length-take, length-drop) (omega arith)

  front : (d : List A) (at : ℕ) (x : List A) → at ≤ length d → length (take at d ++ x) ≡ at + length x
  front d at x h = simp (length-append, length-take) (omega arith)

  -- one text, then another behind it, is both at once
  pub write_write : (d : List A) (at : ℕ) (x y : List A) → at + length x ≤ length d
      → write (write d at x) (at + length x) y ≡ write d at (x ++ y)
  unfolding write
  write_write d at x y h =
      let n : length (x ++ y) ≡ length x + length y = length-append x y in
      let f : length (take at d ++ x) ≡ at + length x = front d at x (omega arith) in
      let t : take (at + length x) (take at d ++ x ++ drop (at + length x) d) ≡ take at d ++ x =
      take_at (take at d ++ x) (drop (at + length x) d) (at + length x) f in
      let s : at + length x + length y ≡ at + length (x ++ y) = omega arith in
      let q : drop (at + length x + length y) (take at d ++ x ++ drop (at + length x) d) ≡ drop (at + length (x ++ y))
      d
      = sym (drop-drop (length y) (at + length x) (take at d ++ x ++ drop (at + length x) d))
      ∙ (ap (drop (length y)) (drop_at (take at d ++ x) (drop (at + length x) d) (at + length x) f)
      ∙ (drop-drop (length y) (at + length x) d ∙ ap (λ k. drop k d) s))
      in rw (t, q) (ap (λ l. l ++ drop (at + length (x ++ y)) d) (append_assoc (take at d) x y))

  -- one element first, then the rest
  pub write_cons : (d : List A) (at : ℕ) (b : A) (x : List A) → at < length d → write (set d at b) (at + 1) x
      ≡ write d at (b ∷ x)
  write_cons d at b x h = ap (λ l. write l (at + 1) x) (sym (write_one d at b h)) ∙ write_write d at (b ∷ []) x
      (omega arith)

  -- what stands before, behind and in what was written
  pub take_write : (d : List A) (at k : ℕ) (x : List A) → k ≤ at → at ≤ length d → take k (write d at x) ≡ take k d
  unfolding write
  take_write d at k x h l =
      let n : length (take at d) ≡ at = length-take-le at d l in
      rw (append_assoc (take at d) x (drop (at + length x) d)) (take-append-le k (take at d) (x ++ drop (at + length x)
      d) (omega arith) ∙ take-take k at d h)

  pub take_written : (d : List A) (at : ℕ) (x : List A) → at ≤ length d → take (at + length x) (write d at x)
      ≡ take at d ++ x
  unfolding write
  take_written d at x h = take_at (take at d ++ x) (drop (at + length x) d) (at + length x) (front d at x h)

  pub drop_written : (d : List A) (at : ℕ) (x : List A) → at ≤ length d → drop (at + length x) (write d at x)
      ≡ drop (at + length x) d
  unfolding write
  drop_written d at x h = drop_at (take at d ++ x) (drop (at + length x) d) (at + length x) (front d at x h)

  pub drop_write : (d : List A) (at k : ℕ) (x : List A) → at + length x ≤ k → at ≤ length d → drop k (write d at x)
      ≡ drop k d
  drop_write d at k x h l =
      let s : at + length x + (k - (at + length x)) ≡ k = omega arith in
      ap (λ j. drop j (write d at x)) (sym s) ∙ (sym (drop-drop (k - (at + length x)) (at + length x) (write d at x))
      ∙ (ap (drop (k - (at + length x))) (drop_written d at x l) ∙ (drop-drop (k - (at + length x)) (at + length x) d
      ∙ ap (λ j. drop j d) s)))

  -- a part is what the first b elements have from a on
  pub part_take : (d : List A) (a b : ℕ) → a ≤ b → a ≤ length d → part d a b ≡ drop a (take b d)
  part_take d a b h l =
      let s : a + (b - a) ≡ b = omega arith in
      sym (ap (λ j. drop a (take j d)) (sym s) ∙ (ap (drop a) (take-add a (b - a) d)
      ∙ drop_at (take a d) (take (b - a) (drop a d)) a (length-take-le a d l)))

  pub part_below : (d : List A) (at a b : ℕ) (x : List A) → a ≤ b → b ≤ at → at + length x ≤ length d
      → part (write d at x) a b ≡ part d a b
  part_below d at a b x h l r =
      let n : length (write d at x) ≡ length d = length_write d at x r in
      part_take (write d at x) a b h (omega arith) ∙ (ap (drop a) (take_write d at b x l (omega arith))
      ∙ sym (part_take d a b h (omega arith)))

  pub part_above : (d : List A) (at a b : ℕ) (x : List A) → at + length x ≤ a → at ≤ length d → part (write d at x) a b
      ≡ part d a b
  part_above d at a b x h l = ap (take (b - a)) (drop_write d at a x h l)

  pub part_written : (d : List A) (at : ℕ) (x : List A) → at + length x ≤ length d
      → part (write d at x) at (at + length x) ≡ x
  part_written d at x h =
      let n : length (write d at x) ≡ length d = length_write d at x h in
      part_take (write d at x) at (at + length x) (omega arith) (omega arith)
      ∙ (ap (drop at) (take_written d at x (omega arith))
      ∙ drop_at (take at d) x at (length-take-le at d (omega arith)))

  pub length_part : (d : List A) (a b : ℕ) → a ≤ b → b ≤ length d → length (part d a b) ≡ b - a
  length_part d a b h l = length-take-le (b - a) (drop a d) (omega (arith, length-drop a d))

  pub part_none : (d : List A) (a b : ℕ) → b ≤ a → part d a b ≡ []
  part_none d a b h = let z : b - a ≡ 0 = omega arith in rw z refl

  pub part_past : (d : List A) (a b : ℕ) → length d ≤ a → part d a b ≡ []
  part_past d a b h = rw (drop_of_length-le d h) (take-nil (b - a))

  pub part_cons : (d : List A) (a b : ℕ) (z : A) → a < b → a < length d → part d a b ≡ get_or d a z ∷ part d (a + 1) b
  part_cons d a b z h l =
      let s : b - a ≡ suc (b - (a + 1)) = omega arith in
      rw (s, drop-cons d a z l, add-one) refl

  -- a part moved down, element by element: one is moved, the others follow
  pub move_step : (d : List A) (to a b : ℕ) (z : A) → to ≤ a → a < b → a < length d
      → write (set d to (get_or d a z)) (to + 1) (part (set d to (get_or d a z)) (a + 1) b) ≡ write d to (part d a b)
  move_step d to a b z h l r =
      let rest : part (set d to (get_or d a z)) (a + 1) b ≡ part d (a + 1) b = ap (take (b - (a + 1)))
      (drop-set-lt (a + 1) d to (get_or d a z) (omega arith)) in
      ap (write (set d to (get_or d a z)) (to + 1)) rest
      ∙ (write_cons d to (get_or d a z) (part d (a + 1) b) (omega arith)
      ∙ ap (write d to) (sym (part_cons d a b z l (omega arith))))

  pub move_end : (d : List A) (to a b : ℕ) → b ≤ a → write d to (part d a b) ≡ d
  move_end d to a b h = ap (write d to) (part_none d a b h) ∙ write_none d to

  pub move_past : (d : List A) (to a b : ℕ) → length d ≤ a → write d to (part d a b) ≡ d
  move_past d to a b h = ap (write d to) (part_past d a b h) ∙ write_none d to

  pub move_same : (d : List A) (a b : ℕ) → a ≤ b → b ≤ length d → write d a (part d a b) ≡ d
  unfolding write
  move_same d a b h l =
      let n : a + length (part d a b) ≡ b = omega (arith, length_part d a b h l) in
      let s : a + (b - a) ≡ b = omega arith in
      rw n (ap (λ x. x ++ drop b d) (sym (take-add a (b - a) d) ∙ ap (λ k. take k d) s) ∙ take-append-drop b d)

  -- a part moved up by one, element by element: what stood there is carried on
  pub shift_step : (d : List A) (j b : ℕ) (x z : A) → j < b → b ≤ length d
      → write (set d j x) (j + 1) (get_or d j z ∷ part (set d j x) (j + 1) b) ≡ write d j (x ∷ part d j b)
  shift_step d j b x z h l =
      let rest : part (set d j x) (j + 1) b ≡ part d (j + 1) b = ap (take (b - (j + 1))) (drop-set-lt (j + 1) d j x
      (omega arith)) in
      ap (λ r. write (set d j x) (j + 1) (get_or d j z ∷ r)) rest
      ∙ (write_cons d j x (get_or d j z ∷ part d (j + 1) b) (omega arith) ∙ ap (λ r. write d j (x ∷ r))
      (sym (part_cons d j b z h (omega arith))))

  pub shift_end : (d : List A) (b : ℕ) (x : A) → b < length d → set d b x ≡ write d b (x ∷ part d b b)
  shift_end d b x h = sym (ap (λ r. write d b (x ∷ r)) (part_none d b b (omega arith)) ∙ write_one d b x h)

  -- what was written into a part that begins at a, said of the whole
  pub part_back : (d : List A) (a : ℕ) (x : List A) → a + length x ≤ length d
      → put_mid a (length d - a) d (write (take (length d - a) (drop a d)) 0 x) ≡ write d a x
  unfolding write
  part_back d a x h =
      let k : length (drop a d) ≤ length d - a = omega (arith, length-drop a d) in
      let all : take (length d - a) (drop a d) ≡ drop a d = take_all (length d - a) (drop a d) k in
      let none : drop (length d - a) (drop a d) ≡ [] = drop_of_length-le (drop a d) k in
      let on : drop (0 + length x) (drop a d) ≡ drop (a + length x) d = drop-drop (0 + length x) a d
      ∙ ap (λ j. drop j d) (sum a (length x)) in
      rw (all, none) (ap (λ l. take a d ++ l) (append-nil (x ++ drop (0 + length x) (drop a d)) ∙ ap (λ l. x ++ l) on)
      ∙ sym (append_assoc (take a d) x (drop (a + length x) d)))
    where
      sum : (a n : ℕ) → a + (0 + n) ≡ a + n
      sum a n = omega arith

-- the digits of a number are written from the last to the first
pub write_snoc : (d : List ℕ) (x : List ℕ) (b i : ℕ) → i ≡ length x → length x < length d → write (set d i b) 0 x
    ≡ write d 0 (x ++ (b ∷ []))
unfolding write
write_snoc d x b i e h =
    let f : length (take i d) ≡ i = length-take-le i d (omega arith) in
    let z : 0 + length x ≡ i = omega arith in
    let n : 0 + length (x ++ (b ∷ [])) ≡ suc i = simp length-append (omega arith) in
    let q : drop i (set d i b) ≡ b ∷ drop (suc i) d = ap (drop i) (set_split d i b (omega arith))
    ∙ drop_at (take i d) (b ∷ drop (suc i) d) i f in
    rw (z, n, q, append_snoc)

-- one byte stored
pub wrote_one : (d : List ℕ) (at b : ℕ) → at < length d → Wrote d at (b ∷ []) (set d at b) (at + 1)
wrote_one d at b h = record { past = refl; bytes = sym (write_one d at b h) }

pub wrote_none : (d : List ℕ) (at : ℕ) → Wrote d at [] d at
wrote_none d at = record { past = omega arith; bytes = sym (write_none d at) }

-- a text is being written: what is left of it, written where the writer now stands, gives the whole
pub record Writing (d₀ : List ℕ) (at₀ : ℕ) (text d : List ℕ) (at : ℕ) (rest : List ℕ) : Type 0 where
  pub long : length d ≡ length d₀
  pub room : at + length rest ≤ length d
  pub ends : at + length rest ≡ at₀ + length text
  pub same : write d at rest ≡ write d₀ at₀ text

pub begin : (d : List ℕ) (at : ℕ) (text : List ℕ) → at + length text ≤ length d → Writing d at text d at text
begin d at text h = record { long = refl; room = h; ends = refl; same = refl }

module _ {d₀ : List ℕ} {at₀ : ℕ} {text d : List ℕ} {at : ℕ} {rest : List ℕ} (w : Writing d₀ at₀ text d at rest) where
  -- the next part of what is left has been written
  pub further : {x more d' : List ℕ} {at' : ℕ} → rest ≡ x ++ more → Wrote d at x d' at'
      → Writing d₀ at₀ text d' at' more
  further {x} {more} {d'} {at'} e p =
      let n : length rest ≡ length x + length more = ap length e ∙ length-append x more in
      let r : at + length x ≤ length d = omega (arith, w.room) in
      let b : d' ≡ write d at x = p.bytes in
      let a : at' ≡ at + length x = p.past in
      let k : length d' ≡ length d = rw b (length_write d at x r) in
      record {
        long = k ∙ w.long;
        room = omega (arith, w.room);
        ends = omega (arith, w.ends);
        same = rw (b, a) (write_write d at x more r ∙ (ap (write d at) (sym e) ∙ w.same));
      }

  pub finish : rest ≡ [] → Wrote d₀ at₀ text d at
  finish e = record {
    past = let z : length rest ≡ 0 = ap length e in omega (arith, w.ends);
    bytes = sym (write_none d at) ∙ (ap (write d at) (sym e) ∙ w.same);
  }

  pub last : {d' : List ℕ} {at' : ℕ} → Wrote d at rest d' at' → Wrote d₀ at₀ text d' at'
  last p = record { past = p.past ∙ w.ends; bytes = p.bytes ∙ w.same }

-- one text, then another
pub both : {d x d₁ y d₂ : List ℕ} {at at₁ at₂ : ℕ} (text : List ℕ) → at + length text ≤ length d → text ≡ x ++ y
    → Wrote d at x d₁ at₁ → Wrote d₁ at₁ y d₂ at₂ → Wrote d at text d₂ at₂
both {d} {at = at} text h e p q = last (further (begin d at text h) e p) q

pub is_text : {d x d₁ : List ℕ} {at at₁ : ℕ} (text : List ℕ) → text ≡ x → Wrote d at x d₁ at₁ → Wrote d at text d₁ at₁
is_text {d} {x} {d₁} {at} {at₁} text e p = rw e p
