-- Laws of moves: steps of any width, one after another, leave what moving all their bytes at once leaves.
use mathlib.Core.Path.{◌≡◌, refl, ap, sym, ◌∙◌}
use mathlib.Core.Bool.{Bool, true, false}
use mathlib.Core.List.{List, [], ◌∷◌, ◌++◌, append_assoc}
use Prim.Native.Nat.{ℕ, zero, suc, ◌+◌, ◌-◌, ◌*◌, ◌/◌, ◌%◌, ◌≤◌, ◌<◌}
use native.Mathlib.Nat.{div-add-mod, mul-zero, mul-suc, mul-le-mul_left}
use native.Mathlib.Numerals.{add-one}
use native.Mathlib.Omega.{arith}
use borrow.Author.Tests.{le-leb, lt-leb}
use lib.Dec.{leb}
use lib.ListN.{length, take, drop, get_or, set, length-append}
use lib.Seq.{take-add, drop-drop, drop_at, length-take-le}
use Rattle.text.specs.Bytes.{write, part}
use Rattle.text.proofs.WriteLaws.{write_none, write_one, write_write, length_write, length_part, part_cons, part_none}
use Rattle.text.proofs.WriteLaws.{part_above, part_below, take_write}
use Rattle.moves.specs.Moves.{moved_at_once, steps_down, steps_up, steps_of, words_down, words_up, DidMove, not_moved}
use Rattle.moves.specs.Moves.{move_down, move_up, EightsAreSingles, DownAsSingly, UpAsSingly}

pub sum_less : (a b : ℕ) → a + b - a ≡ b
sum_less a b = omega arith

one_times : (n : ℕ) → 1 * n ≡ n
one_times n = omega arith

module _ {A : Type 0} where
  -- what stands from where a text was written on
  pub drop_front : (d : List A) (at : ℕ) (x : List A) → at ≤ length d
      → drop at (write d at x) ≡ x ++ drop (at + length x) d
  unfolding write
  drop_front d at x h = ap (drop at) (append_assoc (take at d) x (drop (at + length x) d))
      ∙ drop_at (take at d) (x ++ drop (at + length x) d) at (length-take-le at d h)

  -- one text, then another directly before it, is both at once
  pub write_before : (d : List A) (at end : ℕ) (x y : List A) → end ≡ at + length x → end ≤ length d
      → write (write d end y) at x ≡ write d at (x ++ y)
  unfolding write
  write_before d at end x y e h =
      let t : take at (write d end y) ≡ take at d = take_write d end at y (omega arith) h in
      let n : length (x ++ y) ≡ length x + length y = length-append x y in
      let s : at + length (x ++ y) ≡ end + length y = omega arith in
      let q : drop (at + length x) (write d end y) ≡ y ++ drop (at + length (x ++ y)) d
      = ap (λ k. drop k (write d end y)) (sym e) ∙ (drop_front d end y h ∙ ap (λ k. y ++ drop k d) (sym s)) in
      rw (t, q) (sym (append_assoc (take at d ++ x) y (drop (at + length (x ++ y)) d))
      ∙ ap (λ l. l ++ drop (at + length (x ++ y)) d) (append_assoc (take at d) x y))

  -- two parts, the one behind the other
  part_split : (d : List A) (a m n : ℕ) → part d a (a + (m + n)) ≡ part d a (a + m) ++ part d (a + m) (a + m + n)
  part_split d a m n =
      rw (sum_less a (m + n), sum_less a m, sum_less (a + m) n)
      (take-add m n (drop a d) ∙ ap (λ l. take m (drop a d) ++ take n l) (drop-drop m a d))

  -- what was moved down as two parts, the lower one first, is moved down as one
  pub down_on : (d : List A) (a to m n : ℕ) → to ≤ a → a + (m + n) ≤ length d
      → write (write d to (part d a (a + m))) (to + m) (part (write d to (part d a (a + m))) (a + m) (a + m + n))
      ≡ write d to (part d a (a + (m + n)))
  down_on d a to m n h l =
      let x : List A = part d a (a + m) in
      let k : length x ≡ m = length_part d a (a + m) (omega arith) (omega arith) ∙ sum_less a m in
      let rest : part (write d to x) (a + m) (a + m + n) ≡ part d (a + m) (a + m + n)
      = part_above d to (a + m) (a + m + n) x (omega arith) (omega arith) in
      ap (write (write d to x) (to + m)) rest
      ∙ (ap (λ j. write (write d to x) (to + j) (part d (a + m) (a + m + n))) (sym k)
      ∙ (write_write d to x (part d (a + m) (a + m + n)) (omega arith)
      ∙ ap (write d to) (sym (part_split d a m n))))

  -- what was moved up as two parts, the higher one first, is moved up as one
  pub up_on : (d : List A) (a to m n : ℕ) → a ≤ to → to + (m + n) ≤ length d
      → write (write d (to + m) (part d (a + m) (a + m + n))) to
      (part (write d (to + m) (part d (a + m) (a + m + n))) a (a + m)) ≡ write d to (part d a (a + (m + n)))
  up_on d a to m n h l =
      let x : List A = part d a (a + m) in
      let y : List A = part d (a + m) (a + m + n) in
      let k : length x ≡ m = length_part d a (a + m) (omega arith) (omega arith) ∙ sum_less a m in
      let j : length y ≡ n = length_part d (a + m) (a + m + n) (omega arith) (omega arith) ∙ sum_less (a + m) n in
      let rest : part (write d (to + m) y) a (a + m) ≡ x
      = part_below d (to + m) a (a + m) y (omega arith) (omega arith) (omega arith) in
      ap (write (write d (to + m) y) to) rest
      ∙ (write_before d to (to + m) x y (omega arith) (omega arith) ∙ ap (write d to) (sym (part_split d a m n)))

  move_none : (d : List A) (a to n : ℕ) → n ≡ 0 → write d to (part d a (a + n)) ≡ d
  move_none d a to n e = ap (write d to) (part_none d a (a + n) (omega arith)) ∙ write_none d to

-- k steps of so many bytes, the first ones first, are one move
pub steps_down_lem : (width k : ℕ) (d : List ℕ) (a to : ℕ) → to ≤ a → a + width * k ≤ length d
    → steps_down width k d a to ≡ moved_at_once d a (width * k) to
unfolding steps_down
steps_down_lem width zero d a to h l = sym (move_none d a to (width * 0) (mul-zero width))
steps_down_lem width (suc k) d a to h l =
    let e : width * suc k ≡ width + width * k = omega (arith, mul-suc width k) in
    let n : length (part d a (a + width)) ≡ width = length_part d a (a + width) (omega arith) (omega arith)
    ∙ sum_less a width in
    let same : length (moved_at_once d a width to) ≡ length d = length_write d to (part d a (a + width)) (omega arith) in
    steps_down_lem width k (moved_at_once d a width to) (a + width) (to + width) (omega arith) (omega arith)
    ∙ (down_on d a to width (width * k) h (omega arith) ∙ ap (λ j. moved_at_once d a j to) (sym e))

-- k steps of so many bytes, the last ones first, are one move
pub steps_up_lem : (width k : ℕ) (d : List ℕ) (a to : ℕ) → a ≤ to → to + width * k ≤ length d
    → steps_up width k d a to ≡ moved_at_once d a (width * k) to
unfolding steps_up
steps_up_lem width zero d a to h l = sym (move_none d a to (width * 0) (mul-zero width))
steps_up_lem width (suc k) d a to h l =
    let e : width * suc k ≡ width * k + width = mul-suc width k in
    let y : List ℕ = part d (a + width * k) (a + width * k + width) in
    let n : length y ≡ width = length_part d (a + width * k) (a + width * k + width) (omega arith) (omega arith)
    ∙ sum_less (a + width * k) width in
    let same : length (write d (to + width * k) y) ≡ length d = length_write d (to + width * k) y (omega arith) in
    steps_up_lem width k (write d (to + width * k) y) a to h (omega arith)
    ∙ (up_on d a to (width * k) width h (omega arith) ∙ ap (λ j. moved_at_once d a j to) (sym e))

pub eights_are_singles : EightsAreSingles
eights_are_singles = record {
  down = λ d a k to h l. steps_down_lem 8 k d a to h l
      ∙ sym (steps_down_lem 1 (8 * k) d a to h (omega arith) ∙ ap (λ j. moved_at_once d a j to) (one_times (8 * k)));
  up = λ d a k to h l. steps_up_lem 8 k d a to h l
      ∙ sym (steps_up_lem 1 (8 * k) d a to h (omega arith) ∙ ap (λ j. moved_at_once d a j to) (one_times (8 * k)));
}

-- one byte is stored
pub single_is : (d : List ℕ) (a to : ℕ) → a < length d → to < length d → set d to (get_or d a 0) ≡ moved_at_once d a 1 to
single_is d a to h l =
    let one : part d a (a + 1) ≡ get_or d a 0 ∷ [] = part_cons d a (a + 1) 0 (omega arith) h
    ∙ ap (λ x. get_or d a 0 ∷ x) (part_none d (a + 1) (a + 1) (omega arith)) in
    sym (ap (write d to) one ∙ write_one d to (get_or d a 0) l)

-- as many steps as are to be taken, of so many bytes, the first ones first: `count` are taken, and those left give the
-- whole
pub record GoingDown (width all : ℕ) (d₀ : List ℕ) (a to : ℕ) (d : List ℕ) (count : ℕ) : Type 0 where
  pub few : count ≤ all
  pub low : to ≤ a
  pub room : a + width * all ≤ length d
  pub long : length d ≡ length d₀
  pub rest : steps_down width (all - count) d (a + width * count) (to + width * count) ≡ steps_down width all d₀ a to

module _ {width all : ℕ} {d₀ : List ℕ} {a to : ℕ} {d : List ℕ} {count : ℕ} (s : GoingDown width all d₀ a to d count)
  where
    -- the next step lies inside
    pub down_inside : count < all → (a + width * count + width ≤ length d) × (to + width * count + width ≤ length d)
    down_inside h =
        let e : width * suc count ≡ width * count + width = mul-suc width count in
        let m : width * suc count ≤ width * all = mul-le-mul_left width h in
        (omega (arith, s.room), omega (arith, s.room, s.low))

    -- one more step is taken
    pub down_one_more : (x y : ℕ) (d' : List ℕ) → count < all → x ≡ a + width * count → y ≡ to + width * count
        → d' ≡ moved_at_once d x width y → GoingDown width all d₀ a to d' (count + 1)
    unfolding steps_down
    down_one_more x y d' h p q e =
        let z : List ℕ = part d x (x + width) in
        let i : (a + width * count + width ≤ length d) × (to + width * count + width ≤ length d) = down_inside h in
        let n : length z ≡ width = length_part d x (x + width) (omega arith) (omega (arith, i.0))
        ∙ sum_less x width in
        let same : length d' ≡ length d = ap length e ∙ length_write d y z (omega (arith, i.1)) in
        let left : all - count ≡ suc (all - (count + 1)) = omega arith in
        let w : width * (count + 1) ≡ width * count + width = ap (λ k. width * k) (add-one count)
        ∙ mul-suc width count in
        let f : a + width * (count + 1) ≡ x + width = omega arith in
        let t : to + width * (count + 1) ≡ y + width = omega arith in
        let go : steps_down width (all - count) d (a + width * count) (to + width * count)
        ≡ steps_down width (all - (count + 1)) (moved_at_once d x width y) (x + width) (y + width)
        = ap (λ k. steps_down width k d (a + width * count) (to + width * count)) left
        ∙ (ap (λ k. steps_down width (suc (all - (count + 1))) d k (to + width * count)) (sym p)
        ∙ ap (steps_down width (suc (all - (count + 1))) d x) (sym q)) in
        record {
          few = omega arith;
          low = s.low;
          room = omega (arith, s.room);
          long = same ∙ s.long;
          rest = ap (λ k. steps_down width (all - (count + 1)) d' k (to + width * (count + 1))) f
              ∙ (ap (steps_down width (all - (count + 1)) d' (x + width)) t
              ∙ (ap (λ l. steps_down width (all - (count + 1)) l (x + width) (y + width)) e ∙ (sym go ∙ s.rest)));
        }

    -- all steps are taken
    pub down_ends : all ≤ count → d ≡ steps_down width all d₀ a to
    unfolding steps_down
    down_ends h =
        let z : all - count ≡ 0 = omega arith in
        sym (ap (λ k. steps_down width k d (a + width * count) (to + width * count)) z) ∙ s.rest

-- the same, the last bytes first
pub record GoingUp (width all : ℕ) (d₀ : List ℕ) (a to : ℕ) (d : List ℕ) (count : ℕ) : Type 0 where
  pub few : count ≤ all
  pub high : a ≤ to
  pub room : to + width * all ≤ length d
  pub long : length d ≡ length d₀
  pub rest : steps_up width (all - count) d a to ≡ steps_up width all d₀ a to

module _ {width all : ℕ} {d₀ : List ℕ} {a to : ℕ} {d : List ℕ} {count : ℕ} (s : GoingUp width all d₀ a to d count)
  where
    -- one more step is taken, of the last bytes that are left
    pub up_one_more : (x y : ℕ) (d' : List ℕ) → count < all → x ≡ a + width * (all - (count + 1))
        → y ≡ to + width * (all - (count + 1)) → d' ≡ moved_at_once d x width y
        → GoingUp width all d₀ a to d' (count + 1)
    unfolding steps_up
    up_one_more x y d' h p q e =
        let z : List ℕ = part d x (x + width) in
        let j : ℕ = all - (count + 1) in
        let w : width * suc j ≡ width * j + width = mul-suc width j in
        let m : width * suc j ≤ width * all = mul-le-mul_left width (omega arith) in
        let n : length z ≡ width = length_part d x (x + width) (omega arith) (omega (arith, s.room, s.high))
        ∙ sum_less x width in
        let same : length d' ≡ length d = ap length e ∙ length_write d y z (omega (arith, s.room)) in
        let left : all - count ≡ suc j = omega arith in
        let go : steps_up width (all - count) d a to ≡ steps_up width j (moved_at_once d x width y) a to
        = ap (λ k. steps_up width k d a to) left
        ∙ (ap (λ k. steps_up width j (moved_at_once d k width (to + width * j)) a to) (sym p)
        ∙ ap (λ k. steps_up width j (moved_at_once d x width k) a to) (sym q)) in
        record {
          few = omega arith;
          high = s.high;
          room = omega (arith, s.room);
          long = same ∙ s.long;
          rest = ap (λ l. steps_up width j l a to) e ∙ (sym go ∙ s.rest);
        }

    -- all steps are taken
    pub up_ends : all ≤ count → d ≡ steps_up width all d₀ a to
    unfolding steps_up
    up_ends h =
        let z : all - count ≡ 0 = omega arith in
        sym (ap (λ k. steps_up width k d a to) z) ∙ s.rest

-- the byte behind a text is stored
store_next : (d : List ℕ) (to k : ℕ) (x : List ℕ) (b : ℕ) → length x ≡ k → to + k < length d
    → set (write d to x) (to + k) b ≡ write d to (x ++ (b ∷ []))
store_next d to k x b e h =
    let n : length (write d to x) ≡ length d = length_write d to x (omega arith) in
    sym (write_one (write d to x) (to + k) b (omega arith))
    ∙ (ap (λ j. write (write d to x) (to + j) (b ∷ [])) (sym e) ∙ write_write d to x (b ∷ []) (omega arith))

-- the next byte of a part, counted from where the part's text begins
byte_next : (d : List ℕ) (a k n : ℕ) → k < n → a + n ≤ length d
    → part d (a + k) (a + n) ≡ get_or d (a + k) 0 ∷ part d (a + suc k) (a + n)
byte_next d a k n h l =
    let s : a + k + 1 ≡ a + suc k = omega arith in
    part_cons d (a + k) (a + n) 0 (omega arith) (omega arith)
    ∙ ap (λ j. get_or d (a + k) 0 ∷ part d j (a + n)) s

-- eight bytes are read, then stored
module _ (d : List ℕ) (a to : ℕ) (l : a + 8 ≤ length d) (h : to + 8 ≤ length d) where
  abbrev b : ℕ → ℕ
  b k = get_or d (a + k) 0

  eight_bytes : part d a (a + 8)
      ≡ get_or d a 0 ∷ b 1 ∷ b 2 ∷ b 3 ∷ b 4 ∷ b 5 ∷ b 6 ∷ b 7 ∷ []
  eight_bytes = rw (
    part_cons d a (a + 8) 0 (omega arith) (omega arith),
    next 1 (omega arith),
    next 2 (omega arith),
    next 3 (omega arith),
    next 4 (omega arith),
    next 5 (omega arith),
    next 6 (omega arith),
    next 7 (omega arith),
    part_none d (a + 8) (a + 8) (omega arith),
  ) refl
    where
      next : (k : ℕ) → k < 8 → part d (a + k) (a + 8) ≡ b k ∷ part d (a + suc k) (a + 8)
      next k h = byte_next d a k 8 h l

  pub eight_is : set (set (set (set (set (set (set (set d to (get_or d a 0)) (to + 1) (b 1)) (to + 2) (b 2)) (to + 3)
      (b 3)) (to + 4) (b 4)) (to + 5) (b 5)) (to + 6) (b 6)) (to + 7) (b 7) ≡ moved_at_once d a 8 to
  eight_is =
      let x₀ : List ℕ = get_or d a 0 ∷ [] in
      let x₁ : List ℕ = x₀ ++ (b 1 ∷ []) in
      let x₂ : List ℕ = x₁ ++ (b 2 ∷ []) in
      let x₃ : List ℕ = x₂ ++ (b 3 ∷ []) in
      let x₄ : List ℕ = x₃ ++ (b 4 ∷ []) in
      let x₅ : List ℕ = x₄ ++ (b 5 ∷ []) in
      let x₆ : List ℕ = x₅ ++ (b 6 ∷ []) in
      rw (
        sym (write_one d to (get_or d a 0) (omega arith)),
        store_next d to 1 x₀ (b 1) refl (omega arith),
        store_next d to 2 x₁ (b 2) refl (omega arith),
        store_next d to 3 x₂ (b 3) refl (omega arith),
        store_next d to 4 x₃ (b 4) refl (omega arith),
        store_next d to 5 x₄ (b 5) refl (omega arith),
        store_next d to 6 x₅ (b 6) refl (omega arith),
        store_next d to 7 x₆ (b 7) refl (omega arith),
      )
      (ap (write d to) (sym eight_bytes))

-- a move down is refused, or it is made
module _ (d : List ℕ) (a n to : ℕ) where
  pub down_too_high : a < to → not_moved d ≡ move_down d a n to
  unfolding move_down
  down_too_high h = cc (lt-leb to a h)

  pub down_too_long : length d < a + n → not_moved d ≡ move_down d a n to
  unfolding move_down
  down_too_long h = at (leb to a) refl
    where
      at : (t : Bool) → leb to a ≡ t → not_moved d ≡ move_down d a n to
      at true e = cc (lt-leb (a + n) (length d) h)
      at false e = cc

  pub down_made : to ≤ a → a + n ≤ length d
      → move_down d a n to ≡ record { bytes = words_down d a n to; steps = steps_of n }
  unfolding move_down
  down_made h l = cc (le-leb to a h, le-leb (a + n) (length d) l)

-- a move up is refused, or it is made
module _ (d : List ℕ) (a n to : ℕ) where
  pub up_too_low : to < a → not_moved d ≡ move_up d a n to
  unfolding move_up
  up_too_low h = cc (lt-leb a to h)

  pub up_too_long : length d < to + n → not_moved d ≡ move_up d a n to
  unfolding move_up
  up_too_long h = at (leb a to) refl
    where
      at : (t : Bool) → leb a to ≡ t → not_moved d ≡ move_up d a n to
      at true e = cc (lt-leb (to + n) (length d) h)
      at false e = cc

  pub up_made : a ≤ to → to + n ≤ length d → move_up d a n to ≡ record { bytes = words_up d a n to; steps = steps_of n }
  unfolding move_up
  up_made h l = cc (le-leb a to h, le-leb (to + n) (length d) l)

pub down_as_singly : DownAsSingly
down_as_singly d a n to h l =
    let q : ℕ = 8 * (n / 8) in
    let s : q + n % 8 ≡ n = div-add-mod n 8 in
    let x : List ℕ = part d a (a + q) in
    let k : length x ≡ q = length_part d a (a + q) (omega arith) (omega arith) ∙ sum_less a q in
    let e : steps_down 8 (n / 8) d a to ≡ moved_at_once d a q to = steps_down_lem 8 (n / 8) d a to h (omega arith) in
    let same : length (moved_at_once d a q to) ≡ length d = length_write d to x (omega arith) in
    let r : steps_down 1 (n % 8) (moved_at_once d a q to) (a + q) (to + q)
    ≡ moved_at_once (moved_at_once d a q to) (a + q) (n % 8) (to + q)
    = steps_down_lem 1 (n % 8) (moved_at_once d a q to) (a + q) (to + q) (omega arith) (omega arith)
    ∙ ap (λ j. moved_at_once (moved_at_once d a q to) (a + q) j (to + q)) (one_times (n % 8)) in
    let all : words_down d a n to ≡ moved_at_once d a n to = ap (λ b. steps_down 1 (n % 8) b (a + q) (to + q)) e
    ∙ (r ∙ (down_on d a to q (n % 8) h (omega arith) ∙ ap (λ j. moved_at_once d a j to) s)) in
    record {
      single_steps = all
          ∙ sym (steps_down_lem 1 n d a to h (omega arith) ∙ ap (λ j. moved_at_once d a j to) (one_times n));
      all_at_once = all;
    }

pub up_as_singly : UpAsSingly
up_as_singly d a n to h l =
    let q : ℕ = 8 * (n / 8) in
    let m : ℕ = n % 8 in
    let s : m + q ≡ n = omega (arith, div-add-mod n 8) in
    let y : List ℕ = part d (a + m) (a + m + q) in
    let k : length y ≡ q = length_part d (a + m) (a + m + q) (omega arith) (omega arith) ∙ sum_less (a + m) q in
    let e : steps_up 8 (n / 8) d (a + m) (to + m) ≡ moved_at_once d (a + m) q (to + m)
    = steps_up_lem 8 (n / 8) d (a + m) (to + m) (omega arith) (omega arith) in
    let b : List ℕ = moved_at_once d (a + m) q (to + m) in
    let same : length b ≡ length d = length_write d (to + m) y (omega arith) in
    let r : steps_up 1 m b a to ≡ moved_at_once b a m to = steps_up_lem 1 m b a to h (omega arith)
    ∙ ap (λ j. moved_at_once b a j to) (one_times m) in
    let all : words_up d a n to ≡ moved_at_once d a n to = ap (λ c. steps_up 1 m c a to) e
    ∙ (r ∙ (up_on d a to m q h (omega arith) ∙ ap (λ j. moved_at_once d a j to) s)) in
    record {
      single_steps = all ∙ sym (steps_up_lem 1 n d a to h (omega arith) ∙ ap (λ j. moved_at_once d a j to) (one_times n));
      all_at_once = all;
    }

-- the eights, then the singles, as the two loops count them
pub down_done : (d : List ℕ) (a n to : ℕ) (d₁ d₂ : List ℕ) (e s : ℕ) → to ≤ a → a + n ≤ length d
    → d₁ ≡ steps_down 8 (n / 8) d a to → e ≡ n / 8 → d₂ ≡ steps_down 1 (n % 8) d₁ (a + 8 * e) (to + 8 * e)
    → s ≡ n % 8 → ◌≡◌ {A = DidMove} (record { bytes = d₂; steps = record { eights = e; singles = s } })
    (move_down d a n to)
down_done d a n to d₁ d₂ e s h l p q r t =
    let b : d₂ ≡ words_down d a n to = r ∙ (ap (λ x. steps_down 1 (n % 8) x (a + 8 * e) (to + 8 * e)) p
    ∙ ap (λ j. steps_down 1 (n % 8) (steps_down 8 (n / 8) d a to) (a + 8 * j) (to + 8 * j)) q) in
    cc (down_made d a n to h l)

-- the same, upward
pub up_done : (d : List ℕ) (a n to : ℕ) (d₁ d₂ : List ℕ) (e s : ℕ) → a ≤ to → to + n ≤ length d
    → d₁ ≡ steps_up 8 (n / 8) d (a + n % 8) (to + n % 8) → e ≡ n / 8 → d₂ ≡ steps_up 1 (n % 8) d₁ a to
    → s ≡ n % 8 → ◌≡◌ {A = DidMove} (record { bytes = d₂; steps = record { eights = e; singles = s } })
    (move_up d a n to)
up_done d a n to d₁ d₂ e s h l p q r t =
    let b : d₂ ≡ words_up d a n to = r ∙ ap (λ x. steps_up 1 (n % 8) x a to) p in
    cc (up_made d a n to h l)
