-- Laws of the search by halving: what a turn of it leaves, on any rows; and that on rows in rising id order it finds
-- what `find_row` finds.
use Rattle.std.specs.Prelude.{Some, None}
use mathlib.Core.Path.{◌≡◌, refl, ap, sym, ◌∙◌}
use mathlib.Core.Bool.{Bool, true, false}
use mathlib.Core.List.{List, [], ◌∷◌}
use Prim.Native.Nat.{ℕ, zero, suc, ◌+◌, ◌-◌, ◌≤◌, ◌<◌}
use native.Mathlib.Omega.{arith}
use borrow.Author.Tests.{lt-ltb, le-ltb, ltb-true, ltb-false, eq-eqb, ne_eqb, eqb-true, eqb-false}
use lib.Dec.{eqb, ltb}
use lib.ListN.{length, take, get_or, length-take}
use lib.Seq.{get_or-take}
use Rattle.text.specs.Format.{Message, record_line}
use Rattle.message_log.specs.Opening.{Rising}
use Rattle.message_log.specs.Log.{row_id, row_at, Wal, open_rows, find_row, middle, halved, search_row}
use Rattle.message_log.specs.Scan.{RowsRise}
use Rattle.message_log.specs.Stands.{Stands, Tabled}
use Rattle.message_log.proofs.RowLaws.{rise_at}

-- ---- on any rows

-- the search that is left, from place lo on and below place hi, finds what the whole search finds
pub record Left (id : ℕ) (rs : List (List ℕ)) (lo hi : ℕ) : Type 0 where
  pub within : hi ≤ length rs
  pub turns : ℕ
  pub enough : hi - lo ≤ turns
  pub same : halved turns id rs lo hi ≡ search_row id rs

pub left_all : (id : ℕ) (rs : List (List ℕ)) (hi : ℕ) → hi ≡ length rs → Left id rs 0 hi
unfolding search_row
left_all id rs hi e = record { within = omega arith; turns = length rs; enough = omega arith; same = rw e refl }

-- nothing is left
halved_over : (n id : ℕ) (rs : List (List ℕ)) (lo hi : ℕ) → hi ≤ lo → halved n id rs lo hi ≡ None
unfolding halved
halved_over zero id rs lo hi h = refl
halved_over (suc n) id rs lo hi h = cc (le-ltb lo hi h)

pub left_none : (id : ℕ) (rs : List (List ℕ)) (lo hi : ℕ) → Left id rs lo hi → hi ≤ lo → search_row id rs ≡ None
left_none id rs lo hi l h = sym l.same ∙ halved_over l.turns id rs lo hi h

-- a turn, by the id in the middle
module _ (n id : ℕ) (rs : List (List ℕ)) (lo hi : ℕ) (h : lo < hi) where
  halved_here : row_id (get_or rs (middle lo hi) []) ≡ id → halved (suc n) id rs lo hi ≡ Some (middle lo hi)
  unfolding halved
  halved_here e = cc (lt-ltb lo hi h, eq-eqb (row_id (get_or rs (middle lo hi) [])) id e)

  halved_above : row_id (get_or rs (middle lo hi) []) < id → halved (suc n) id rs lo hi
      ≡ halved n id rs (middle lo hi + 1) hi
  unfolding halved
  halved_above l = cc (
    lt-ltb lo hi h,
    ne_eqb (row_id (get_or rs (middle lo hi) [])) id (omega arith),
    lt-ltb (row_id (get_or rs (middle lo hi) [])) id l,
  )

  halved_below : id < row_id (get_or rs (middle lo hi) []) → halved (suc n) id rs lo hi ≡ halved n id rs lo (middle lo hi)
  unfolding halved
  halved_below l = cc (
    lt-ltb lo hi h,
    ne_eqb (row_id (get_or rs (middle lo hi) [])) id (omega arith),
    le-ltb (row_id (get_or rs (middle lo hi) [])) id (omega arith),
  )

-- the same of a search that is left, in a table whose first `count` rows are searched
module _ (rows : List (List ℕ)) (count id lo hi : ℕ) (h : lo < hi) where
  own : hi ≤ length (take count rows) → get_or (take count rows) (middle lo hi) [] ≡ get_or rows (middle lo hi) []
  own l = get_or-take count rows (middle lo hi) [] (omega (arith, length-take count rows))

  pub left_here : Left id (take count rows) lo hi → row_id (get_or rows (middle lo hi) []) ≡ id
      → search_row id (take count rows) ≡ Some (middle lo hi)
  left_here l e = at l.turns l.enough l.same
    where
      at : (n : ℕ) → hi - lo ≤ n → halved n id (take count rows) lo hi ≡ search_row id (take count rows)
          → search_row id (take count rows) ≡ Some (middle lo hi)
      at zero f s = absurd (omega arith)
      at (suc n) f s = sym s ∙ halved_here n id (take count rows) lo hi h (ap row_id (own l.within) ∙ e)

  pub left_above : Left id (take count rows) lo hi → row_id (get_or rows (middle lo hi) []) < id
      → Left id (take count rows) (middle lo hi + 1) hi
  left_above l e = at l.turns l.enough l.same
    where
      at : (n : ℕ) → hi - lo ≤ n → halved n id (take count rows) lo hi ≡ search_row id (take count rows)
          → Left id (take count rows) (middle lo hi + 1) hi
      at zero f s = absurd (omega arith)
      at (suc n) f s = record {
        within = l.within;
        turns = n;
        enough = omega arith;
        same = sym (halved_above n id (take count rows) lo hi h (rw (own l.within) e)) ∙ s;
      }

  pub left_below : Left id (take count rows) lo hi → id < row_id (get_or rows (middle lo hi) [])
      → Left id (take count rows) lo (middle lo hi)
  left_below l e = at l.turns l.enough l.same
    where
      at : (n : ℕ) → hi - lo ≤ n → halved n id (take count rows) lo hi ≡ search_row id (take count rows)
          → Left id (take count rows) lo (middle lo hi)
      at zero f s = absurd (omega arith)
      at (suc n) f s = record {
        within = omega (arith, l.within);
        turns = n;
        enough = omega arith;
        same = sym (halved_below n id (take count rows) lo hi h (rw (own l.within) e)) ∙ s;
      }

-- ---- on rows in rising id order

-- a later id is not smaller
rise_upto : (rs : List (List ℕ)) (low high i k : ℕ) → RowsRise low rs high → i ≤ k → k < length rs
    → row_id (get_or rs i []) ≤ row_id (get_or rs k [])
rise_upto [] low high i k r h l = absurd (omega arith)
rise_upto (x ∷ rs) low high zero zero r h l = omega arith
rise_upto (x ∷ rs) low high zero (suc k) r h l = omega (arith, rise_at rs (suc (row_id x)) high k r.1 (omega arith))
rise_upto (x ∷ rs) low high (suc i) zero r h l = absurd (omega arith)
rise_upto (x ∷ rs) low high (suc i) (suc k) r h l = rise_upto rs (suc (row_id x)) high i k r.1 (omega arith)
    (omega arith)

-- a row of the id is the one that is found
find_there : (id j k low high : ℕ) (rs : List (List ℕ)) → RowsRise low rs high → k < length rs
    → row_id (get_or rs k []) ≡ id → find_row j id rs ≡ Some (j + k)
unfolding find_row
find_there id j k low high [] r h e = absurd (omega arith)
find_there id j zero low high (x ∷ rs) r h e =
    let z : j + 0 ≡ j = omega arith in
    rw z (cc (eq-eqb (row_id x) id e))
find_there id j (suc k) low high (x ∷ rs) r h e =
    let more = rise_at rs (suc (row_id x)) high k r.1 (omega arith) in
    let z : suc j + k ≡ j + suc k = omega arith in
    let later = find_there id (suc j) k (suc (row_id x)) high rs r.1 (omega arith) e in
    cc (ne_eqb (row_id x) id (omega (arith, more)), later)

-- no row has the id
find_nowhere : (id j : ℕ) (rs : List (List ℕ)) → ((k : ℕ) → k < length rs → row_id (get_or rs k []) ≡ id → ⊥)
    → find_row j id rs ≡ None
unfolding find_row
find_nowhere id j [] f = refl
find_nowhere id j (x ∷ rs) f = cc (
  ne_eqb (row_id x) id (f 0 (omega arith)),
  find_nowhere id (suc j) rs (λ k h. f (suc k) (omega arith)),
)

module _ (id low high : ℕ) (rs : List (List ℕ)) (r : RowsRise low rs high) where
  -- the ids before place lo are smaller, and those from place hi on are larger
  record Apart (lo hi : ℕ) : Type 0 where
    pub below : (k : ℕ) → k < lo → k < length rs → row_id (get_or rs k []) < id
    pub above : (k : ℕ) → hi ≤ k → k < length rs → id < row_id (get_or rs k [])

  apart_none : (lo hi : ℕ) → Apart lo hi → hi ≤ lo → find_row 0 id rs ≡ None
  apart_none lo hi a h = find_nowhere id 0 rs (λ k l e. at k l e (ltb k lo) refl)
    where
      at : (k : ℕ) → k < length rs → row_id (get_or rs k []) ≡ id → (t : Bool) → ltb k lo ≡ t → ⊥
      at k l e true t = omega (arith, a.below k (ltb-true k lo t) l)
      at k l e false t = omega (arith, a.above k (omega (arith, ltb-false k lo t)) l)

  -- n turns find what `find_row` finds
  abbrev Finds : ℕ → Type 0
  Finds n = (lo hi : ℕ) → hi ≤ length rs → hi - lo ≤ n → Apart lo hi → halved n id rs lo hi ≡ find_row 0 id rs

  finds_more : (n : ℕ) → Finds n → Finds (suc n)
  finds_more n again lo hi l f a = at (ltb lo hi) refl
    where
      here : ℕ
      here = row_id (get_or rs (middle lo hi) [])

      at_less : lo < hi → (here ≡ id → ⊥) → (t : Bool) → ltb here id ≡ t
          → halved (suc n) id rs lo hi ≡ find_row 0 id rs
      at_less h ne true t =
          let less : here < id = ltb-true here id t in
          halved_above n id rs lo hi h less ∙ again (middle lo hi + 1) hi l (omega arith) (record {
            below = λ k b c. omega (arith, rise_upto rs low high k (middle lo hi) r (omega arith) (omega arith));
            above = a.above;
          })
      at_less h ne false t =
          let more : id < here = omega (arith, ne, ltb-false here id t) in
          halved_below n id rs lo hi h more ∙ again lo (middle lo hi) (omega arith) (omega arith) (record {
            below = a.below;
            above = λ k b c. omega (arith, rise_upto rs low high (middle lo hi) k r b c);
          })

      at_here : lo < hi → (t : Bool) → eqb here id ≡ t → halved (suc n) id rs lo hi ≡ find_row 0 id rs
      at_here h true t =
          let e : here ≡ id = eqb-true here id t in
          let z : 0 + middle lo hi ≡ middle lo hi = omega arith in
          halved_here n id rs lo hi h e
          ∙ sym (find_there id 0 (middle lo hi) low high rs r (omega arith) e ∙ ap Some z)
      at_here h false t = at_less h (eqb-false here id t) (ltb here id) refl

      at : (t : Bool) → ltb lo hi ≡ t → halved (suc n) id rs lo hi ≡ find_row 0 id rs
      at true t = at_here (ltb-true lo hi t) (eqb here id) refl
      at false t = let h : hi ≤ lo = ltb-false lo hi t in
          halved_over (suc n) id rs lo hi h ∙ sym (apart_none lo hi a h)

  finds : (n : ℕ) → Finds n
  finds zero lo hi l f a = halved_over zero id rs lo hi (omega arith) ∙ sym (apart_none lo hi a (omega arith))
  finds (suc n) lo hi l f a = finds_more n (finds n) lo hi l f a

-- Of rows in rising id order the search by halving finds the row that has the id, and none where no row has it.
pub search_finds : (id low high : ℕ) (rs : List (List ℕ)) → RowsRise low rs high → search_row id rs ≡ find_row 0 id rs
unfolding search_row
search_finds id low high rs r = finds id low high rs r (length rs) 0 (length rs) (omega arith) (omega arith) (record {
  below = λ k b c. absurd (omega arith);
  above = λ k b c. absurd (omega arith);
})

-- the rows of messages in rising id order
pub tabled_rise : (bytes : List ℕ) (start : ℕ) (ms : List Message) (rs : List (List ℕ)) (size low high : ℕ)
    → Tabled bytes start ms rs size → Rising low ms high → RowsRise low rs high
tabled_rise bytes start [] [] size low high t r = r
tabled_rise bytes start [] (x ∷ rs) size low high t r = absurd t
tabled_rise bytes start (m ∷ ms) [] size low high t r = absurd t
tabled_rise bytes start (m ∷ ms) (x ∷ rs) size low high t r =
    let named : row_id x ≡ m.id = ap row_id t.0 in
    rw named (r.0, tabled_rise bytes (row_at x + length (record_line m)) ms rs size (suc m.id) high t.3 r.1)

-- so it is with the open records of a log that stands for its messages
pub open_finds : (w : Wal) (ms : List Message) → Stands w ms → (id : ℕ) → search_row id (open_rows w)
    ≡ find_row 0 id (open_rows w)
open_finds w ms s id = search_finds id 0 w.counters.next (open_rows w)
    (tabled_rise w.bytes 0 ms (open_rows w) w.counters.size 0 w.counters.next s.tabled s.rising)
