-- Laws of the rewrite: how long it is, the records packed one behind the other, and spread with their retry lines.
use Rattle.std.specs.Prelude.{Some, None}
use mathlib.Core.Path.{◌≡◌, refl, ap, sym, ◌∙◌, subst}
use mathlib.Core.Bool.{Bool, true, false}
use mathlib.Core.List.{List, [], ◌∷◌, ◌++◌, append_assoc}
use Prim.Native.Nat.{ℕ, zero, suc, ◌+◌, ◌-◌, ◌≤◌, ◌<◌}
use native.Mathlib.Omega.{arith}
use borrow.Author.Tests.{le-leb, lt-leb, leb-true, leb-false, ne_eqb}
use lib.Dec.{leb}
use lib.ListN.{length, take, drop, get_or, set, length-append, length-drop, length-set}
use lib.Seq.{drop-drop, drop-set-lt, drop_at, take_at, length-take-le, take_all}
use lib.Seq.{get_or-drop, get_or-take}
use Rattle.text.specs.Bytes.{write, part}
use Rattle.text.specs.Format.{attempts_line, retry_line}
use Rattle.text.proofs.WriteLaws.{write_none, write_write, write_cons, length_write, length_part}
use Rattle.text.proofs.WriteLaws.{take_write, take_written, drop_write, part_below}
use Rattle.message_log.specs.Log.{row, row_id, row_at, row_len, row_tried, row_tries, row_span, rewritable, rows_image}
use Rattle.message_log.specs.Log.{rows_placed, Rewritten, rewrite}
use Rattle.message_log.specs.Rewrite.{rows_span, end_behind, image_len, Packable, packed, rows_packed, NoHigher}
use Rattle.message_log.proofs.TableLaws.{next_row, last_row, here_row, drop_front, write_before, set_before}

sum_less : (a b : ℕ) → a + b - a ≡ b
sum_less a b = omega arith

module _ {A : Type 0} where
  -- a write leaves only what stands before it and behind it
  write_alike : (d e : List A) (at : ℕ) (x : List A) → take at d ≡ take at e
      → drop (at + length x) d ≡ drop (at + length x) e → write d at x ≡ write e at x
  unfolding write
  write_alike d e at x p q = cc

  -- a text is written over a shorter one
  write_over : (d : List A) (at : ℕ) (x y : List A) → at ≤ length d → length x ≤ length y
      → write (write d at x) at y ≡ write d at y
  write_over d at x y h l = write_alike (write d at x) d at y (take_write d at at x (omega arith) h)
      (drop_write d at (at + length y) x (omega arith) h)

  -- what two lists have alike from a place on they have alike from a later one on
  drop_later : (d e : List A) (a b : ℕ) → a ≤ b → drop a d ≡ drop a e → drop b d ≡ drop b e
  drop_later d e a b h q =
      let s : a + (b - a) ≡ b = omega arith in
      ap (λ k. drop k d) (sym s) ∙ (sym (drop-drop (b - a) a d) ∙ (ap (drop (b - a)) q
      ∙ (drop-drop (b - a) a e ∙ ap (λ k. drop k e) s)))

  get_d_alike : (d e : List A) (i : ℕ) (z : A) → drop i d ≡ drop i e → get_or d i z ≡ get_or e i z
  get_d_alike d e i z q =
      let s : i + 0 ≡ i = omega arith in
      ap (λ k. get_or d k z) (sym s) ∙ (sym (get_or-drop i d 0 z) ∙ (ap (λ l. get_or l 0 z) q
      ∙ (get_or-drop i e 0 z ∙ ap (λ k. get_or e k z) s)))

pub no_tries : (id tried : ℕ) → tried ≡ 0 → attempts_line id tried ≡ []
unfolding attempts_line
no_tries id tried e = cc

pub some_tries : (id tried : ℕ) → (tried ≡ 0 → ⊥) → attempts_line id tried ≡ retry_line id tried
unfolding attempts_line
some_tries id tried h = cc (ne_eqb tried 0 h)

-- One row of `rewritable`.
module _ (long start to : ℕ) (r : List ℕ) (rs : List (List ℕ)) where
  fit_low : row_at r < start → rewritable long start to (r ∷ rs) ≡ false
  unfolding rewritable
  fit_low h = cc (lt-leb start (row_at r) h)

  fit_long : long < row_at r + row_len r → rewritable long start to (r ∷ rs) ≡ false
  unfolding rewritable
  fit_long h = at (leb start (row_at r)) refl
    where
      at : (t : Bool) → leb start (row_at r) ≡ t → rewritable long start to (r ∷ rs) ≡ false
      at true e = cc (lt-leb (row_at r + row_len r) long h)
      at false e = cc

  fit_rest : rewritable long (row_at r + row_len r) (to + row_span r) rs ≡ false
      → rewritable long start to (r ∷ rs) ≡ false
  unfolding rewritable
  fit_rest h = at (leb start (row_at r)) refl (leb (row_at r + row_len r) long) refl
    where
      at : (t : Bool) → leb start (row_at r) ≡ t → (u : Bool) → leb (row_at r + row_len r) long ≡ u
          → rewritable long start to (r ∷ rs) ≡ false
      at true e true f = cc
      at true e false f = cc
      at false e u f = cc

  fit_next : start ≤ row_at r → row_at r + row_len r ≤ long
      → rewritable long start to (r ∷ rs) ≡ rewritable long (row_at r + row_len r) (to + row_span r) rs
  unfolding rewritable
  fit_next h l = cc (le-leb start (row_at r) h, le-leb (row_at r + row_len r) long l)

-- a row that fits
record Fit (long start to : ℕ) (r : List ℕ) (rs : List (List ℕ)) : Type 0 where
  behind : start ≤ row_at r
  inside : row_at r + row_len r ≤ long
  rest : rewritable long (row_at r + row_len r) (to + row_span r) rs ≡ true

fit : (long start to : ℕ) (r : List ℕ) (rs : List (List ℕ)) → rewritable long start to (r ∷ rs) ≡ true
    → Fit long start to r rs
fit long start to r rs e = at (leb start (row_at r)) refl (leb (row_at r + row_len r) long) refl
  where
    never : {B : Type 0} → rewritable long start to (r ∷ rs) ≡ false → B
    never f = let z : ◌≡◌ {A = ℕ} 0 1 = cc in absurd (omega arith)

    at : (t : Bool) → leb start (row_at r) ≡ t → (u : Bool) → leb (row_at r + row_len r) long ≡ u
        → Fit long start to r rs
    at true p true q =
        let a : start ≤ row_at r = leb-true start (row_at r) p in
        let b : row_at r + row_len r ≤ long = leb-true (row_at r + row_len r) long q in
        record { behind = a; inside = b; rest = sym (fit_next long start to r rs a b) ∙ e }
    at true p false q = never (fit_long long start to r rs (leb-false (row_at r + row_len r) long q))
    at false p u q = never (fit_low long start to r rs (leb-false start (row_at r) p))

-- rows that would end behind the log's end cannot be rewritten
too_long_lem : (long start to : ℕ) (rs : List (List ℕ)) → long < to → rewritable long start to rs ≡ false
unfolding rewritable
too_long_lem long start to [] h = lt-leb to long h
too_long_lem long start to (r ∷ rs) h =
    fit_rest long start to r rs (too_long_lem long (row_at r + row_len r) (to + row_span r) rs (omega arith))

pub can_pack : (long start to : ℕ) (rs : List (List ℕ)) → rewritable long start to rs ≡ true → Packable long start rs
can_pack long start to [] e = tt
can_pack long start to (r ∷ rs) e =
    let f : Fit long start to r rs = fit long start to r rs e in
    (f.behind, f.inside, can_pack long (row_at r + row_len r) (to + row_span r) rs f.rest)

pub spans_fit : (long start to : ℕ) (rs : List (List ℕ)) → rewritable long start to rs ≡ true
    → to + rows_span rs ≤ long
unfolding rewritable rows_span
spans_fit long start to [] e = omega (arith, leb-true to long e)
spans_fit long start to (r ∷ rs) e =
    let f : Fit long start to r rs = fit long start to r rs e in
    omega (arith, spans_fit long (row_at r + row_len r) (to + row_span r) rs f.rest)

-- the rows are being measured: what is said of those left is said of all
pub record Measuring (long : ℕ) (rows : List (List ℕ)) (start to i : ℕ) : Type 0 where
  pub same : rewritable long 0 0 rows ≡ rewritable long start to (drop i rows)
  pub span : rows_span rows ≡ to + rows_span (drop i rows)
  pub small : to ≤ long

image_len_lem : (long : ℕ) (rs : List (List ℕ)) → rewritable long 0 0 rs ≡ true → image_len long rs ≡ Some (rows_span rs)
unfolding image_len
image_len_lem long rs e = cc

image_over : (long : ℕ) (rs : List (List ℕ)) → rewritable long 0 0 rs ≡ false → image_len long rs ≡ None
unfolding image_len
image_over long rs e = cc

module _ {long : ℕ} {rows : List (List ℕ)} {start to i : ℕ} (s : Measuring long rows start to i) where
  pub measuring_ends : drop i rows ≡ [] → Some to ≡ image_len long rows
  unfolding rewritable rows_span
  measuring_ends e =
      let f : rewritable long start to (drop i rows) ≡ true = ap (rewritable long start to) e
      ∙ le-leb to long s.small in
      let n : rows_span (drop i rows) ≡ 0 = ap rows_span e in
      let k : rows_span rows ≡ to = omega (arith, s.span) in
      sym (image_len_lem long rows (s.same ∙ f) ∙ ap Some k)

  module _ (h : i < length rows) where
    abbrev m : List ℕ
    m = get_or rows i []

    next : drop i rows ≡ m ∷ drop (i + 1) rows
    next = here_row [] rows i h

    over : rewritable long start to (m ∷ drop (i + 1) rows) ≡ false
        → None ≡ image_len long rows
    over e = sym (image_over long rows (s.same ∙ (ap (rewritable long start to) next ∙ e)))

    pub over_low : row_at m < start → None ≡ image_len long rows
    over_low p = over (fit_low long start to m (drop (i + 1) rows) p)

    pub over_long : long < row_at m + row_len m → None ≡ image_len long rows
    over_long p = over (fit_long long start to m (drop (i + 1) rows) p)

    pub over_span : long < to + row_span m → None ≡ image_len long rows
    over_span p = over (fit_rest long start to m (drop (i + 1) rows)
        (too_long_lem long (row_at m + row_len m) (to + row_span m) (drop (i + 1) rows) p))

    pub measured : start ≤ row_at m → row_at m + row_len m ≤ long → (start' to' : ℕ) → start' ≡ row_at m + row_len m
        → to' ≡ to + row_span m → to' ≤ long → Measuring long rows start' to' (i + 1)
    unfolding rows_span
    measured a b start' to' f e k =
        let n : rows_span (drop i rows) ≡ row_span m + rows_span (drop (i + 1) rows) = ap rows_span next in
        record {
          same = s.same ∙ (ap (rewritable long start to) next ∙ (fit_next long start to m (drop (i + 1) rows) a b
              ∙ rw (f, e) refl));
          span = omega (arith, s.span);
          small = k;
        }

-- where n bytes behind others end
pub end_is : (size n long end : ℕ) → Some end ≡ end_behind size n long → (end ≡ size + n) × (size + n ≤ long)
unfolding end_behind
end_is size n long end e = at (leb (size + n) long) refl
  where
    at : (t : Bool) → leb (size + n) long ≡ t → (end ≡ size + n) × (size + n ≤ long)
    at true p = (cc, leb-true (size + n) long p)
    at false p = absurd (cc)

pub no_end : (size n long : ℕ) → None ≡ end_behind size n long → long < size + n
unfolding end_behind
no_end size n long e = at (leb (size + n) long) refl
  where
    at : (t : Bool) → leb (size + n) long ≡ t → long < size + n
    at true p = absurd (cc)
    at false p = leb-false (size + n) long p

-- the measured length
pub record Told (long n : ℕ) (rs : List (List ℕ)) : Type 0 where
  pub can : rewritable long 0 0 rs ≡ true
  pub is : n ≡ rows_span rs

pub told_len : (long n : ℕ) (rs : List (List ℕ)) → Some n ≡ image_len long rs → Told long n rs
told_len long n rs e = at (rewritable long 0 0 rs) refl
  where
    at : (t : Bool) → rewritable long 0 0 rs ≡ t → Told long n rs
    at true p = let q : Some n ≡ Some (rows_span rs) = e ∙ image_len_lem long rs p in record { can = p; is = cc }
    at false p =
        let q : Some n ≡ None = e ∙ image_over long rs p in
        let z : ◌≡◌ {A = ℕ} 0 1 = cc in absurd (omega arith)

pub told_over : (long : ℕ) (rs : List (List ℕ)) → None ≡ image_len long rs → rewritable long 0 0 rs ≡ false
told_over long rs e = at (rewritable long 0 0 rs) refl
  where
    at : (t : Bool) → rewritable long 0 0 rs ≡ t → rewritable long 0 0 rs ≡ false
    at true p =
        let q : None ≡ Some (rows_span rs) = e ∙ image_len_lem long rs p in
        let z : ◌≡◌ {A = ℕ} 0 1 = cc in absurd (omega arith)
    at false p = p

-- the records are being packed: those left, packed from `to` on, give the whole; they stand from `start` on, where the
-- log is as it was
pub record Packing (log₀ : List ℕ) (rows₀ : List (List ℕ)) (count : ℕ) (log : List ℕ) (rows : List (List ℕ))
    (to i : ℕ) : Type 0 where
  pub start : ℕ
  pub low : to ≤ start
  pub stand : Packable (length log₀) start (drop i (take count rows₀))
  pub unmoved : drop start log ≡ drop start log₀
  pub long : length log ≡ length log₀
  pub many : length rows ≡ length rows₀
  pub bytes : write log to (packed log₀ (drop i (take count rows₀))) ≡ write log₀ 0 (packed log₀ (take count rows₀))
  pub table : write rows i (rows_packed to (drop i (take count rows₀)))
      ≡ write rows₀ 0 (rows_packed 0 (take count rows₀))
  pub fresh : drop i rows ≡ drop i rows₀

module _ {log₀ : List ℕ} {rows₀ : List (List ℕ)} {count : ℕ} {log : List ℕ} {rows : List (List ℕ)} {to i : ℕ}
    (s : Packing log₀ rows₀ count log rows to i) where
  pub packing_ends : drop i (take count rows₀) ≡ [] → (log ≡ write log₀ 0 (packed log₀ (take count rows₀)))
      × (rows ≡ write rows₀ 0 (rows_packed 0 (take count rows₀)))
  unfolding packed rows_packed
  packing_ends e =
      let b : write log to (packed log₀ (drop i (take count rows₀))) ≡ log
      = ap (λ l. write log to (packed log₀ l)) e ∙ write_none log to in
      let t : write rows i (rows_packed to (drop i (take count rows₀))) ≡ rows
      = ap (λ l. write rows i (rows_packed to l)) e ∙ write_none rows i in
      (sym b ∙ s.bytes, sym t ∙ s.table)

  module _ (h : i < count) (l : i < length rows) where
    abbrev p : List ℕ
    p = get_or rows i []

    abbrev rest : List (List ℕ)
    rest = drop (i + 1) (take count rows₀)

    here : drop i (take count rows₀) ≡ p ∷ rest
    here = next_row [] rows₀ count i h (omega (arith, s.many)) ∙ ap (λ x. x ∷ rest)
        (sym (get_d_alike rows rows₀ i [] s.fresh))

    standing : Packable (length log₀) s.start (p ∷ rest)
    standing = subst (Packable (length log₀) s.start) here s.stand

    pub to_be_moved : (to ≤ row_at p) × (row_at p + row_len p ≤ length log)
    to_be_moved = (omega (arith, s.low, standing.0), omega (arith, s.long, standing.1))

    -- one more is packed
    pub packed_on : (log' : List ℕ) → log' ≡ write log to (part log (row_at p) (row_at p + row_len p))
        → Packing log₀ rows₀ count log' (set rows i (row (row_id p) to (row_len p) (row_tried p))) (to + row_len p) (i + 1)
    unfolding packed rows_packed
    packed_on log' e =
        let x : List ℕ = part log (row_at p) (row_at p + row_len p) in
        let new : List ℕ = row (row_id p) to (row_len p) (row_tried p) in
        let a : s.start ≤ row_at p = standing.0 in
        let b : row_at p + row_len p ≤ length log = to_be_moved.1 in
        let c : to ≤ row_at p = to_be_moved.0 in
        let n : length x ≡ row_len p = length_part log (row_at p) (row_at p + row_len p) (omega arith) b
        ∙ sum_less (row_at p) (row_len p) in
        let old : x ≡ part log₀ (row_at p) (row_at p + row_len p) = ap (take (row_at p + row_len p - row_at p))
        (drop_later log log₀ s.start (row_at p) a s.unmoved) in
        let fits : to + length x ≤ length log = omega arith in
        let more : packed log₀ (drop i (take count rows₀)) ≡ x ++ packed log₀ rest = ap (packed log₀) here
        ∙ ap (λ y. y ++ packed log₀ rest) (sym old) in
        record {
          start = row_at p + row_len p;
          low = omega arith;
          stand = standing.2;
          unmoved = ap (drop (row_at p + row_len p)) e
              ∙ (drop_write log to (row_at p + row_len p) x (omega arith) (omega arith)
              ∙ drop_later log log₀ s.start (row_at p + row_len p) (omega arith) s.unmoved);
          long = ap length e ∙ (length_write log to x fits ∙ s.long);
          many = length-set rows i new ∙ s.many;
          bytes = ap (λ d. write d (to + row_len p) (packed log₀ rest)) e
              ∙ (ap (λ k. write (write log to x) (to + k) (packed log₀ rest)) (sym n)
              ∙ (write_write log to x (packed log₀ rest) fits
              ∙ (ap (write log to) (sym more) ∙ s.bytes)));
          table = write_cons rows i new (rows_packed (to + row_len p) rest) l
              ∙ (ap (λ y. write rows i (rows_packed to y)) (sym here) ∙ s.table);
          fresh = drop-set-lt (i + 1) rows i new (omega arith)
              ∙ drop_later rows rows₀ i (i + 1) (omega arith) s.fresh;
        }

-- how long the rows are, by places
spans_next : (rs : List (List ℕ)) (k : ℕ) → k < length rs
    → rows_span (take (suc k) rs) ≡ rows_span (take k rs) + row_span (get_or rs k [])
unfolding rows_span
spans_next [] k h = absurd (omega arith)
spans_next (r ∷ rs) zero h = omega arith
spans_next (r ∷ rs) (suc k) h = omega (arith, spans_next rs k (omega arith))

spans_split : (rs : List (List ℕ)) (k : ℕ) → rows_span rs ≡ rows_span (take k rs) + rows_span (drop k rs)
unfolding rows_span
spans_split [] zero = omega arith
spans_split [] (suc k) = omega arith
spans_split (r ∷ rs) zero = omega arith
spans_split (r ∷ rs) (suc k) = omega (arith, spans_split rs k)

no_higher_from : (rs : List (List ℕ)) (to k : ℕ) → NoHigher to rs → NoHigher (to + rows_span (take k rs)) (drop k rs)
unfolding rows_span
no_higher_from [] to zero h = tt
no_higher_from [] to (suc k) h = tt
no_higher_from (r ∷ rs) to zero h =
    let z : to ≡ to + 0 = omega arith in
    subst (λ n. NoHigher n (r ∷ rs)) z h
no_higher_from (r ∷ rs) to (suc k) h =
    let z : to + row_span r + rows_span (take k rs) ≡ to + (row_span r + rows_span (take k rs)) = omega arith in
    subst (λ n. NoHigher n (drop k rs)) z (no_higher_from rs (to + row_span r) k h.1)

-- what rows stand for is as long as they say, where their records lie inside the bytes
image_length : (bytes : List ℕ) (rs : List (List ℕ)) (to : ℕ) → NoHigher to rs → to + rows_span rs ≤ length bytes
    → length (rows_image bytes rs) ≡ rows_span rs
unfolding rows_span rows_image
image_length bytes [] to h l = refl
image_length bytes (r ∷ rs) to h l =
    let n : length (part bytes (row_at r) (row_at r + row_len r)) ≡ row_len r
    = length_part bytes (row_at r) (row_at r + row_len r) (omega arith) (omega (arith, h.0))
    ∙ sum_less (row_at r) (row_len r) in
    let k : length (rows_image bytes rs) ≡ rows_span rs = image_length bytes rs (to + row_span r) h.1 (omega arith) in
    simp (length-append, n, k)

placed_length : (rs : List (List ℕ)) (to : ℕ) → length (rows_placed to rs) ≡ length rs
unfolding rows_placed
placed_length [] to = refl
placed_length (r ∷ rs) to = ap suc (placed_length rs (to + row_span r))

-- the records are being spread: those from place i on stand where they are to stand, from `to` on
pub record Spreading (log₀ : List ℕ) (rows₀ : List (List ℕ)) (count : ℕ) (log : List ℕ) (rows : List (List ℕ))
    (to i : ℕ) : Type 0 where
  pub few : i ≤ count
  pub span : to ≡ rows_span (take i (take count rows₀))
  pub long : length log ≡ length log₀
  pub many : length rows ≡ length rows₀
  pub bytes : log ≡ write log₀ to (rows_image log₀ (drop i (take count rows₀)))
  pub table : rows ≡ write rows₀ i (rows_placed to (drop i (take count rows₀)))

-- what a spread asks for
module _ (log₀ : List ℕ) (rows₀ : List (List ℕ)) (count : ℕ) (enough : count ≤ length rows₀)
    (room : rows_span (take count rows₀) ≤ length log₀) (below : NoHigher 0 (take count rows₀)) where
  abbrev all : List (List ℕ)
  all = take count rows₀

  rows_count : length all ≡ count
  rows_count = length-take-le count rows₀ enough

  pub spreading_begins : (end : ℕ) → end ≡ rows_span all → Spreading log₀ rows₀ count log₀ rows₀ end count
  unfolding rows_image rows_placed
  spreading_begins end e =
      let none : drop count all ≡ [] = last_row [] rows₀ count count (omega arith) in
      record {
        few = omega arith;
        span = e ∙ ap rows_span (sym (take_all count all (omega (arith, rows_count))));
        long = refl;
        many = refl;
        bytes = sym (ap (λ x. write log₀ end (rows_image log₀ x)) none ∙ write_none log₀ end);
        table = sym (ap (λ x. write rows₀ count (rows_placed end x)) none ∙ write_none rows₀ count);
      }

  pub spreading_ends : {log : List ℕ} {rows : List (List ℕ)} {to i : ℕ} → Spreading log₀ rows₀ count log rows to i
      → i ≡ 0 → (log ≡ write log₀ 0 (rows_image log₀ all)) × (rows ≡ write rows₀ 0 (rows_placed 0 all))
  unfolding rows_span
  spreading_ends {log} {rows} {to} {i} s e =
      let z : to ≡ 0 = s.span ∙ ap (λ k. rows_span (take k all)) e in (
        s.bytes ∙ (ap (λ k. write log₀ to (rows_image log₀ (drop k all))) e
            ∙ ap (λ k. write log₀ k (rows_image log₀ all)) z),
        s.table
            ∙ (ap (λ k. write rows₀ k (rows_placed to (drop k all))) e ∙ ap (λ k. write rows₀ 0 (rows_placed k all)) z),
      )

  module _ {log : List ℕ} {rows : List (List ℕ)} {to i : ℕ} (s : Spreading log₀ rows₀ count log rows to i)
      (h : 0 < i) where
    abbrev u : List ℕ
    u = get_or rows (i - 1) []

    abbrev later : List (List ℕ)
    later = drop i all

    abbrev foot : ℕ
    foot = rows_span (take (i - 1) all)

    same_row : u ≡ get_or rows₀ (i - 1) []
    same_row =
        let t : take i rows ≡ take i rows₀ = ap (take i) s.table
        ∙ take_write rows₀ i i (rows_placed to later) (omega arith) (omega (arith, s.few)) in
        sym (get_or-take i rows (i - 1) [] (omega arith)) ∙ (ap (λ x. get_or x (i - 1) []) t
        ∙ get_or-take i rows₀ (i - 1) [] (omega arith))

    from_here : drop (i - 1) all ≡ u ∷ later
    from_here =
        let z : i - 1 + 1 ≡ i = omega arith in
        next_row [] rows₀ count (i - 1) (omega (arith, s.few)) (omega (arith, s.few))
        ∙ (ap (λ x. x ∷ drop (i - 1 + 1) all) (sym same_row) ∙ ap (λ k. u ∷ drop k all) z)

    foot_is : to ≡ foot + row_span u
    foot_is =
        let z : i ≡ suc (i - 1) = omega arith in
        let same : get_or all (i - 1) [] ≡ u = get_or-take count rows₀ (i - 1) [] (omega (arith, s.few)) ∙ sym same_row in
        s.span ∙ (ap (λ k. rows_span (take k all)) z
        ∙ (spans_next all (i - 1) (omega (arith, rows_count, s.few)) ∙ ap (λ x. foot + row_span x) same))

    not_higher : NoHigher foot (u ∷ later)
    not_higher =
        let z : 0 + foot ≡ foot = omega arith in
        subst (NoHigher foot) from_here (subst (λ n. NoHigher n (drop (i - 1) all)) z
        (no_higher_from all 0 (i - 1) below))

    later_length : length (rows_image log₀ later) ≡ rows_span later
    later_length = image_length log₀ later to (subst (λ n. NoHigher n later) (sym foot_is) not_higher.1)
        (omega (arith, s.span, spans_split all i))

    pub to_be_spread : (row_at u + row_span u ≤ to) × (to ≤ length log)
    to_be_spread = (omega (arith, foot_is, not_higher.0), omega (arith, s.span, s.long, spans_split all i))

    -- one more is spread: its retry line, then its record
    pub spread_on : (mid to' : ℕ) (log₁ log₂ : List ℕ) → mid ≡ to - length (row_tries u) → to' ≡ mid - row_len u
        → log₁ ≡ write log mid (row_tries u) → log₂ ≡ write log₁ to' (part log₁ (row_at u) (row_at u + row_len u))
        → Spreading log₀ rows₀ count log₂ (set rows (i - 1) (row (row_id u) to' (row_len u) (row_tried u))) to' (i - 1)
    unfolding rows_image rows_placed
    spread_on mid to' log₁ log₂ e₁ e₂ b₁ b₂ =
        let x : List ℕ = rows_image log₀ later in
        let y : List (List ℕ) = rows_placed to later in
        let new : List ℕ = row (row_id u) to' (row_len u) (row_tried u) in
        let rec : List ℕ = part log₀ (row_at u) (row_at u + row_len u) in
        let f : to ≡ foot + row_span u = foot_is in
        let a : row_at u ≤ foot = not_higher.0 in
        let t : to' ≡ foot = omega arith in
        let m : mid ≡ to' + row_len u = omega arith in
        let k : to ≡ mid + length (row_tries u) = omega arith in
        let n : length x ≡ rows_span later = later_length in
        let z : to + rows_span later ≤ length log₀ = omega (arith, s.span, spans_split all i) in
        let w : length rec ≡ row_len u = length_part log₀ (row_at u) (row_at u + row_len u) (omega arith) (omega arith)
        ∙ sum_less (row_at u) (row_len u) in
        let one : log₁ ≡ write log₀ mid (row_tries u ++ x) = b₁ ∙ (ap (λ d. write d mid (row_tries u)) s.bytes
        ∙ write_before log₀ mid to (row_tries u) x k (omega arith)) in
        let room₁ : mid + length (row_tries u ++ x) ≤ length log₀ = simp length-append (omega arith) in
        let old : part log₁ (row_at u) (row_at u + row_len u) ≡ rec
        = ap (λ d. part d (row_at u) (row_at u + row_len u)) one
        ∙ part_below log₀ mid (row_at u) (row_at u + row_len u) (row_tries u ++ x) (omega arith) (omega arith) room₁ in
        let two : log₂ ≡ write log₀ to' (rec ++ (row_tries u ++ x)) = b₂ ∙ (ap (write log₁ to') old
        ∙ (ap (λ d. write d to' rec) one ∙ write_before log₀ to' mid rec (row_tries u ++ x) (omega arith) (omega arith)))
        in
        let more : rows_image log₀ (drop (i - 1) all) ≡ rec ++ (row_tries u ++ x) = ap (rows_image log₀) from_here
        ∙ append_assoc rec (row_tries u) x in
        let placed : rows_placed to' (drop (i - 1) all) ≡ new ∷ y = ap (rows_placed to') from_here
        ∙ ap (λ q. new ∷ rows_placed q later) (omega arith) in
        let j : length later ≡ count - i = length-drop i all ∙ ap (λ q. q - i) rows_count in
        let q : length y ≡ length later = placed_length later to in
        record {
          few = omega (arith, s.few);
          span = t;
          long = ap length two ∙ length_write log₀ to' (rec ++ (row_tries u ++ x)) (simp length-append (omega arith));
          many = length-set rows (i - 1) new ∙ s.many;
          bytes = two ∙ ap (write log₀ to') (sym more);
          table = ap (λ d. set d (i - 1) new) s.table
              ∙ (set_before rows₀ (i - 1) i new y (omega arith) (omega (arith, s.few))
              ∙ ap (write rows₀ (i - 1)) (sym placed));
        }

-- The rows after the packing.
packed_count : (rs : List (List ℕ)) (to : ℕ) → length (rows_packed to rs) ≡ length rs
unfolding rows_packed
packed_count [] to = refl
packed_count (r ∷ rs) to = ap suc (packed_count rs (to + row_len r))

packed_span : (rs : List (List ℕ)) (to : ℕ) → rows_span (rows_packed to rs) ≡ rows_span rs
unfolding rows_packed rows_span
packed_span [] to = refl
packed_span (r ∷ rs) to = ap (λ n. row_span r + n) (packed_span rs (to + row_len r))

packed_no_higher : (rs : List (List ℕ)) (low to : ℕ) → low ≤ to → NoHigher to (rows_packed low rs)
unfolding rows_packed
packed_no_higher [] low to h = tt
packed_no_higher (r ∷ rs) low to h = (h, packed_no_higher rs (low + row_len r) (to + row_span r) (omega arith))

packed_placed : (rs : List (List ℕ)) (low to : ℕ) → rows_placed to (rows_packed low rs) ≡ rows_placed to rs
unfolding rows_packed rows_placed
packed_placed [] low to = refl
packed_placed (r ∷ rs) low to = ap (λ x. row (row_id r) to (row_len r) (row_tried r) ∷ x)
    (packed_placed rs (low + row_len r) (to + row_span r))

packed_shorter : (bytes : List ℕ) (rs : List (List ℕ)) → length (packed bytes rs) ≤ length (rows_image bytes rs)
unfolding packed rows_image
packed_shorter bytes [] = omega arith
packed_shorter bytes (r ∷ rs) = simp length-append (omega (arith, packed_shorter bytes rs))

-- packed records are what they were
packed_image : (bytes new : List ℕ) (rs : List (List ℕ)) (start to : ℕ) (more : List ℕ)
    → Packable (length bytes) start rs → drop to new ≡ packed bytes rs ++ more
    → rows_image new (rows_packed to rs) ≡ rows_image bytes rs
unfolding packed rows_packed rows_image
packed_image bytes new [] start to more h e = refl
packed_image bytes new (r ∷ rs) start to more h e =
    let rec : List ℕ = part bytes (row_at r) (row_at r + row_len r) in
    let n : length rec ≡ row_len r = length_part bytes (row_at r) (row_at r + row_len r) (omega arith) h.1
    ∙ sum_less (row_at r) (row_len r) in
    let g : drop to new ≡ rec ++ (packed bytes rs ++ more) = e ∙ append_assoc rec (packed bytes rs) more in
    let same : part new to (to + row_len r) ≡ rec = ap (λ k. take k (drop to new)) (sum_less to (row_len r))
    ∙ (ap (take (row_len r)) g ∙ take_at rec (packed bytes rs ++ more) (row_len r) n) in
    let on : drop (to + row_len r) new ≡ packed bytes rs ++ more = sym (drop-drop (row_len r) to new)
    ∙ (ap (drop (row_len r)) g ∙ drop_at rec (packed bytes rs ++ more) (row_len r) n) in
    let others : rows_image new (rows_packed (to + row_len r) rs) ≡ rows_image bytes rs
    = packed_image bytes new rs (row_at r + row_len r) (to + row_len r) more h.2 on in
    ap (λ x. (x ++ row_tries r) ++ rows_image new (rows_packed (to + row_len r) rs)) same
    ∙ ap (λ x. (rec ++ row_tries r) ++ x) others

pub not_rewritten : (bytes : List ℕ) (table rows : List (List ℕ)) → rewritable (length bytes) 0 0 rows ≡ false
    → ◌≡◌ {A = Rewritten} (record { bytes = bytes; table = table }) (rewrite bytes table rows)
unfolding rewrite
not_rewritten bytes table rows e = cc

rewritten : (bytes : List ℕ) (table rows : List (List ℕ)) → rewritable (length bytes) 0 0 rows ≡ true
    → rewrite bytes table rows
    ≡ record { bytes = write bytes 0 (rows_image bytes rows); table = write table 0 (rows_placed 0 rows) }
unfolding rewrite
rewritten bytes table rows e = cc

-- the rows of a whole rewrite: the first n of the table, packed and then spread
module _ (bytes : List ℕ) (table : List (List ℕ)) (n : ℕ) (enough : n ≤ length table)
    (can : rewritable (length bytes) 0 0 (take n table) ≡ true) where
  abbrev rs : List (List ℕ)
  rs = take n table

  module _ (bytes₁ : List ℕ) (table₁ : List (List ℕ)) (b₁ : bytes₁ ≡ write bytes 0 (packed bytes rs))
      (t₁ : table₁ ≡ write table 0 (rows_packed 0 rs)) where
    pub after_pack : take n table₁ ≡ rows_packed 0 rs
    after_pack =
        let k : 0 + length (rows_packed 0 rs) ≡ n = omega (arith, packed_count rs 0, length-take-le n table enough) in
        ap (take n) t₁ ∙ (ap (λ j. take j (write table 0 (rows_packed 0 rs))) (sym k)
        ∙ take_written table 0 (rows_packed 0 rs) (omega arith))

    pub spread_span : rows_span (take n table₁) ≡ rows_span rs
    spread_span = ap rows_span after_pack ∙ packed_span rs 0

    pub spread_no_higher : NoHigher 0 (take n table₁)
    spread_no_higher = subst (NoHigher 0) (sym after_pack) (packed_no_higher rs 0 0 (omega arith))

    spread_image : rows_image bytes₁ (take n table₁) ≡ rows_image bytes rs
    spread_image = ap (rows_image bytes₁) after_pack
        ∙ packed_image bytes bytes₁ rs 0 0 (drop (0 + length (packed bytes rs)) bytes)
        (can_pack (length bytes) 0 0 rs can) (b₁ ∙ drop_front bytes 0 (packed bytes rs) (omega arith))

    pub packed_and_spread : (bytes₂ : List ℕ) (table₂ : List (List ℕ))
        → bytes₂ ≡ write bytes₁ 0 (rows_image bytes₁ (take n table₁))
        → table₂ ≡ write table₁ 0 (rows_placed 0 (take n table₁))
        → ◌≡◌ {A = Rewritten} (record { bytes = bytes₂; table = table₂ }) (rewrite bytes table rs)
    packed_and_spread bytes₂ table₂ b₂ t₂ =
        let b : bytes₂ ≡ write bytes 0 (rows_image bytes rs) = b₂ ∙ (ap (write bytes₁ 0) spread_image
        ∙ (ap (λ d. write d 0 (rows_image bytes rs)) b₁
        ∙ write_over bytes 0 (packed bytes rs) (rows_image bytes rs) (omega arith) (packed_shorter bytes rs))) in
        let p : rows_placed 0 (take n table₁) ≡ rows_placed 0 rs = ap (rows_placed 0) after_pack ∙ packed_placed rs 0 0 in
        let t : table₂ ≡ write table 0 (rows_placed 0 rs) = t₂ ∙ (ap (write table₁ 0) p
        ∙ (ap (λ d. write d 0 (rows_placed 0 rs)) t₁
        ∙ write_over table 0 (rows_packed 0 rs) (rows_placed 0 rs) (omega arith)
        (omega (arith, packed_count rs 0, placed_length rs 0)))) in
        cc (rewritten bytes table rs can)
