-- Laws of rows in rising id order: the place of an id, a row put in, a row taken out.
use Rattle.std.specs.Prelude.{Option, Some, None, Ok, Err, ok_or}
use mathlib.Core.Path.{◌≡◌, refl, ap, sym, ◌∙◌, subst}
use mathlib.Core.Bool.{Bool, true, false, ◌&&◌}
use mathlib.Core.List.{List, [], ◌∷◌, ◌++◌, append_assoc}
use Prim.Native.Nat.{ℕ, zero, suc, ◌+◌, ◌-◌, ◌^◌, ◌≤◌, ◌<◌}
use native.Mathlib.Omega.{arith}
use borrow.Author.Tests.{lt-ltb, le-ltb, ltb-true, ltb-false, eq-eqb, ne_eqb, eqb-true, eqb-false}
use lib.Dec.{eqb, ltb}
use lib.ListN.{length, take, drop, get_or, set, length-append, drop_of_length-le}
use lib.Seq.{take_all, take-suc, take-append-le, drop-append-le, length-take-le, get_or-take, take-set-lt, set_split}
use lib.Seq.{drop-cons}
use Rattle.text.specs.Line.{Line}
use Rattle.text.specs.Bytes.{write, part}
use Rattle.message_log.specs.declared.opening.Pass.{Pass}
use Rattle.message_log.specs.declared.Refusal.{Refusal}
use Rattle.message_log.specs.declared.Refusal.TheVariants.{LastId as NoNext}
use Rattle.message_log.specs.Log.{row, row_id, row_at, row_len, find_row}
use Rattle.message_log.specs.Scan.{RowsRise, insert_row, remove_row, PlaceOf, holds, TookNext, TookLine, LastId, Passed}
use Rattle.message_log.specs.Scan.{retry_row, Scanned, LeftIn}
use Rattle.message_log.proofs.OpeningLaws.{and_left, and_right}
use Rattle.message_log.proofs.TableLaws.{taken_out, put_in}

row_step : (e x : List ℕ) (xs : List (List ℕ)) → row_id x < row_id e → insert_row e (x ∷ xs) ≡ x ∷ insert_row e xs
unfolding insert_row
row_step e x xs h = cc (le-ltb (row_id e) (row_id x) (omega arith), ne_eqb (row_id e) (row_id x) (omega arith))

row_same : (e x : List ℕ) (xs : List (List ℕ)) → row_id x ≡ row_id e → insert_row e (x ∷ xs) ≡ e ∷ xs
unfolding insert_row
row_same e x xs h = cc (le-ltb (row_id e) (row_id x) (omega arith), eq-eqb (row_id e) (row_id x) (omega arith))

row_before : (e x : List ℕ) (xs : List (List ℕ)) → row_id e < row_id x → insert_row e (x ∷ xs) ≡ e ∷ x ∷ xs
unfolding insert_row
row_before e x xs h = cc (lt-ltb (row_id e) (row_id x) h)

row_alone : (e : List ℕ) (xs : List (List ℕ)) → xs ≡ [] → insert_row e xs ≡ e ∷ []
unfolding insert_row
row_alone e xs h = rw h refl

pub rise_low : (rs : List (List ℕ)) (low low' high : ℕ) → low' ≤ low → RowsRise low rs high → RowsRise low' rs high
rise_low [] low low' high h r = omega (arith, r)
rise_low (x ∷ rs) low low' high h r = (omega (arith, r.0), r.1)

pub rise_high : (rs : List (List ℕ)) (low high high' : ℕ) → high ≤ high' → RowsRise low rs high → RowsRise low rs high'
rise_high [] low high high' h r = omega (arith, r)
rise_high (x ∷ rs) low high high' h r = (r.0, rise_high rs (suc (row_id x)) high high' h r.1)

pub rise_wide : (rs : List (List ℕ)) (low high : ℕ) → high ≤ 2 ^ 64 → RowsRise low rs high → RowsRise 0 rs (2 ^ 64)
rise_wide rs low high h r = rise_low rs low 0 (2 ^ 64) (omega arith) (rise_high rs low high (2 ^ 64) h r)

pub rise_at : (rs : List (List ℕ)) (low high k : ℕ) → RowsRise low rs high → k < length rs → low ≤ row_id (get_or rs k [])
rise_at [] low high k r h = absurd (omega arith)
rise_at (x ∷ rs) low high zero r h = r.0
rise_at (x ∷ rs) low high (suc k) r h = omega (arith, r.0, rise_at rs (suc (row_id x)) high k r.1 (omega arith))

-- rows whose ids are below that of e stay before it
place_stays : (rs : List (List ℕ)) (i low high : ℕ) (e : List ℕ) → RowsRise low rs high → i ≤ length rs
    → (0 < i → row_id (get_or rs (i - 1) []) < row_id e) → insert_row e rs ≡ take i rs ++ insert_row e (drop i rs)
place_stays rs zero low high e r h b = refl
place_stays [] (suc k) low high e r h b = absurd (omega arith)
place_stays (x ∷ rs) (suc k) low high e r h b =
    let below : row_id x < row_id e = first k h b in
    row_step e x rs below ∙ ap (λ l. x ∷ l) (place_stays rs k (suc (row_id x)) high e r.1 (omega arith) (next k b))
  where
    first : (k : ℕ) → suc k ≤ length (x ∷ rs) → (0 < suc k → row_id (get_or (x ∷ rs) (suc k - 1) []) < row_id e)
        → row_id x < row_id e
    first zero h b = b (omega arith)
    first (suc j) h b = let s : suc (suc j) - 1 ≡ suc j = omega arith in let last : row_id (get_or rs j []) < row_id e =
        rw s at (b (omega arith)) in omega (arith, rise_at rs (suc (row_id x)) high j r.1 (omega arith))

    next : (k : ℕ) → (0 < suc k → row_id (get_or (x ∷ rs) (suc k - 1) []) < row_id e) → 0 < k
        → row_id (get_or rs (k - 1) []) < row_id e
    next zero b l = absurd (omega arith)
    next (suc j) b l = let s : suc (suc j) - 1 ≡ suc j = omega arith in let t : suc j - 1 ≡ j = omega arith in
        rw t (rw s at (b (omega arith)))

-- the place that the search from the end finds
pub found_place : (rows : List (List ℕ)) (count i id : ℕ) → count ≤ length rows → RowsRise 0 (take count rows) (2 ^ 64)
    → i ≤ count → (0 < i → row_id (get_or rows (i - 1) []) < id) → (i < count → id ≤ row_id (get_or rows i []))
    → PlaceOf (take count rows) id i
found_place rows count i id h r l below there =
    let n : length (take count rows) ≡ count = length-take-le count rows h in
    record {
      within = omega arith;
      stays = λ e q. place_stays (take count rows) i 0 (2 ^ 64) e r (omega arith)
          (λ p. subst (λ x. row_id (get_or (take count rows) (i - 1) []) < x) (sym q) (subst (λ x. row_id x < id)
          (sym (get_or-take count rows (i - 1) [] (before p))) (below p)));
      there = λ p. subst (λ x. id ≤ row_id x) (sym (get_or-take count rows i [] (short p n))) (there (short p n));
    }
  where
    before : 0 < i → i - 1 < count
    before p = omega arith

    short : i < length (take count rows) → length (take count rows) ≡ count → i < count
    short p n = omega arith

pub holds_is : (rows : List (List ℕ)) (count i id : ℕ) → count ≤ length rows → i < count → eqb (row_id (get_or rows i []))
    id ≡ holds (take count rows) i id
unfolding holds
holds_is rows count i id h l =
    let n : length (take count rows) ≡ count = length-take-le count rows h in
    sym (ap (λ b. b && eqb (row_id (get_or (take count rows) i [])) id) (lt-ltb i (length (take count rows))
    (omega arith)) ∙ ap (λ x. eqb (row_id x) id) (get_or-take count rows i [] l))

pub holds_not : (rows : List (List ℕ)) (count i id : ℕ) → count ≤ length rows → count ≤ i → false
    ≡ holds (take count rows) i id
unfolding holds
holds_not rows count i id h l =
    let n : length (take count rows) ≡ count = length-take-le count rows h in
    sym (ap (λ b. b && eqb (row_id (get_or (take count rows) i [])) id) (le-ltb i (length (take count rows))
    (omega arith)))

-- the row at the place of an id
pub record Held (rows : List (List ℕ)) (count i id : ℕ) : Type 0 where
  pub short : i < count
  pub same : row_id (get_or rows i []) ≡ id

pub held : (rows : List (List ℕ)) (count i id : ℕ) → count ≤ length rows → holds (take count rows) i id ≡ true
    → Held rows count i id
unfolding holds
held rows count i id h e =
    let n : length (take count rows) ≡ count = length-take-le count rows h in
    let l : i < length (take count rows) = ltb-true i (length (take count rows))
    (and_left (ltb i (length (take count rows))) (eqb (row_id (get_or (take count rows) i [])) id) e) in
    let q : row_id (get_or (take count rows) i []) ≡ id = eqb-true (row_id (get_or (take count rows) i [])) id
    (and_right (ltb i (length (take count rows))) (eqb (row_id (get_or (take count rows) i [])) id) e) in
    record { short = omega arith; same = subst (λ x. row_id x ≡ id) (get_or-take count rows i [] (less l n)) q }
  where
    less : i < length (take count rows) → length (take count rows) ≡ count → i < count
    less l n = omega arith

module _ (rows : List (List ℕ)) (count i : ℕ) (e : List ℕ) (h : count ≤ length rows) (p : PlaceOf (take count rows)
    (row_id e) i) where
  n : length (take count rows) ≡ count
  n = length-take-le count rows h

  -- a row with the same id is replaced
  pub placed_same : Held rows count i (row_id e) → take count (set rows i e) ≡ insert_row e (take count rows)
  placed_same q =
      let l : i < length (take count rows) = omega (arith, n, q.short) in
      let here : drop i (take count rows) ≡ get_or rows i [] ∷ drop (suc i) (take count rows) =
      drop-cons (take count rows) i [] l ∙ ap (λ x. x ∷ drop (suc i) (take count rows)) (get_or-take count rows i []
      q.short) in
      sym (p.stays e refl ∙ (ap (λ r. take i (take count rows) ++ insert_row e r) here
      ∙ (ap (λ r. take i (take count rows) ++ r) (row_same e (get_or rows i []) (drop (suc i) (take count rows))
      q.same) ∙ (sym (set_split (take count rows) i e l) ∙ sym (take-set-lt count rows i e q.short)))))

  -- else a row comes in before the first one that is not below
  pub placed_in : holds (take count rows) i (row_id e) ≡ false → insert_row e (take count rows)
      ≡ take i (take count rows) ++ e ∷ drop i (take count rows)
  unfolding holds
  placed_in q = p.stays e refl ∙ ap (λ r. take i (take count rows) ++ r) (at (ltb i (length (take count rows))) refl)
    where
      at : (t : Bool) → ltb i (length (take count rows)) ≡ t → insert_row e (drop i (take count rows))
          ≡ e ∷ drop i (take count rows)
      at true l =
          let less : i < length (take count rows) = ltb-true i (length (take count rows)) l in
          let here : drop i (take count rows) ≡ get_or (take count rows) i [] ∷ drop (suc i) (take count rows) =
          drop-cons (take count rows) i [] less in
          let other : eqb (row_id (get_or (take count rows) i [])) (row_id e) ≡ false =
          sym (ap (λ b. b && eqb (row_id (get_or (take count rows) i [])) (row_id e)) l) ∙ q in
          ap (insert_row e) here ∙ (row_before e (get_or (take count rows) i []) (drop (suc i) (take count rows))
          (omega (arith, p.there less, eqb-false (row_id (get_or (take count rows) i [])) (row_id e) other))
          ∙ ap (λ x. e ∷ x) (sym here))
      at false l =
          let end : length (take count rows) ≤ i = ltb-false i (length (take count rows)) l in
          let None : drop i (take count rows) ≡ [] = drop_of_length-le (take count rows) end in
          row_alone e (drop i (take count rows)) None ∙ ap (λ x. e ∷ x) (sym None)

  -- a full table: the new row is the last ..
  pub placed_last : holds (take count rows) i (row_id e) ≡ false → count ≤ i → insert_row e (take count rows)
      ≡ take count rows ++ (e ∷ [])
  placed_last q l =
      let end : length (take count rows) ≤ i = omega (arith, n) in
      placed_in q ∙ (ap (λ x. x ++ e ∷ drop i (take count rows)) (take_all i (take count rows) end)
      ∙ ap (λ x. take count rows ++ e ∷ x) (drop_of_length-le (take count rows) end))

  -- .. or the last one goes
  pub placed_full : holds (take count rows) i (row_id e) ≡ false → (last : ℕ) → count ≡ suc last → i ≤ last
      → insert_row e (take count rows) ≡ (take i (take last rows) ++ e ∷ drop i (take last rows)) ++
      (get_or rows last [] ∷ [])
  placed_full q last c l =
      let y = get_or rows last [] in
      let m : length (take last rows) ≡ last = length-take-le last rows (omega arith) in
      let t : take count rows ≡ take last rows ++ (y ∷ []) = ap (λ j. take j rows) c
      ∙ take-suc rows last [] (omega arith) in
      let a : take i (take last rows ++ (y ∷ [])) ≡ take i (take last rows) = take-append-le i (take last rows)
      (y ∷ []) (omega arith) in
      let b : drop i (take last rows ++ (y ∷ [])) ≡ drop i (take last rows) ++ (y ∷ []) =
      drop-append-le i (take last rows) (y ∷ []) (omega arith) in
      placed_in q ∙ rw (t, a, b) (sym (append_assoc (take i (take last rows)) (e ∷ drop i (take last rows)) (y ∷ [])))

-- the rows of an id taken out
remove_above : (id : ℕ) (rs : List (List ℕ)) (high : ℕ) → RowsRise (suc id) rs high → remove_row id rs ≡ rs
unfolding remove_row
remove_above id [] high r = refl
remove_above id (x ∷ rs) high r = cc (
  ne_eqb (row_id x) id (omega (arith, r.0)),
  remove_above id rs high
      (rise_low rs (suc (row_id x)) (suc id) high (omega (arith, r.0)) r.1),
)

pub remove_missing : (id j : ℕ) (rs : List (List ℕ)) → find_row j id rs ≡ None → remove_row id rs ≡ rs
unfolding find_row remove_row
remove_missing id j [] e = refl
remove_missing id j (x ∷ rs) e = at (eqb (row_id x) id) refl (remove_missing id (suc j) rs)
  where
    at : (t : Bool) → eqb (row_id x) id ≡ t → (find_row (suc j) id rs ≡ None → remove_row id rs ≡ rs)
        → remove_row id (x ∷ rs) ≡ x ∷ rs
    at true p ih = let z : ◌≡◌ {A = ℕ} 0 1 = cc in absurd (omega arith)
    at false p ih = let q : remove_row id rs ≡ rs = ih (cc) in cc

pub record Removed (id : ℕ) (rs : List (List ℕ)) (j k : ℕ) : Type 0 where
  pub low : j ≤ k
  pub within : k < j + length rs
  pub out : remove_row id rs ≡ take (k - j) rs ++ drop (suc (k - j)) rs

pub remove_found : (id j k low high : ℕ) (rs : List (List ℕ)) → RowsRise low rs high → find_row j id rs ≡ Some k
    → Removed id rs j k
unfolding find_row remove_row
remove_found id j k low high [] r e = let z : ◌≡◌ {A = ℕ} 0 1 = cc in absurd (omega arith)
remove_found id j k low high (x ∷ rs) r e = at (eqb (row_id x) id) refl (remove_found id (suc j) k (suc (row_id x)) high
    rs r.1)
  where
    at : (t : Bool) → eqb (row_id x) id ≡ t → (find_row (suc j) id rs ≡ Some k → Removed id rs (suc j) k)
        → Removed id (x ∷ rs) j k
    at true p ih =
        let here : j ≡ k = cc in
        let zero : k - j ≡ 0 = omega arith in
        let others : remove_row id rs ≡ rs = remove_above id rs high (rw (eqb-true (row_id x) id p) at r.1) in
        let gone : remove_row id (x ∷ rs) ≡ rs = cc in
        record { low = omega arith; within = omega arith; out = rw zero gone }
    at false p ih =
        let f = ih (cc) in
        let kept : remove_row id (x ∷ rs) ≡ x ∷ remove_row id rs = cc in
        let one : k - j ≡ suc (k - suc j) = omega (arith, f.low) in
        record {
          low = omega (arith, f.low);
          within = omega (arith, f.within);
          out =
              rw one (kept ∙ ap (λ l. x ∷ l) f.out);
        }

-- the attempts of an id set in its row
retry_above : (id n : ℕ) (rs : List (List ℕ)) (high : ℕ) → RowsRise (suc id) rs high → retry_row id n rs ≡ rs
unfolding retry_row
retry_above id n [] high r = refl
retry_above id n (x ∷ rs) high r = cc (
  ne_eqb (row_id x) id (omega (arith, r.0)),
  retry_above id n rs high (rise_low rs (suc (row_id x)) (suc id) high (omega (arith, r.0)) r.1),
)

pub retry_missing : (id n j : ℕ) (rs : List (List ℕ)) → find_row j id rs ≡ None → retry_row id n rs ≡ rs
unfolding find_row retry_row
retry_missing id n j [] e = refl
retry_missing id n j (x ∷ rs) e = at (eqb (row_id x) id) refl (retry_missing id n (suc j) rs)
  where
    at : (t : Bool) → eqb (row_id x) id ≡ t → (find_row (suc j) id rs ≡ None → retry_row id n rs ≡ rs)
        → retry_row id n (x ∷ rs) ≡ x ∷ rs
    at true p ih = let z : ◌≡◌ {A = ℕ} 0 1 = cc in absurd (omega arith)
    at false p ih = let q : retry_row id n rs ≡ rs = ih (cc) in cc

-- a row with these attempts
abbrev pub tried_row : ℕ → ℕ → List ℕ → List ℕ
tried_row id n r = row id (row_at r) (row_len r) n

pub record RetriedAt (id n : ℕ) (rs : List (List ℕ)) (j k : ℕ) : Type 0 where
  pub low : j ≤ k
  pub within : k < j + length rs
  pub own : row_id (get_or rs (k - j) []) ≡ id
  pub is : retry_row id n rs ≡ set rs (k - j) (tried_row id n (get_or rs (k - j) []))

pub retry_found_lem : (id n j k low high : ℕ) (rs : List (List ℕ)) → RowsRise low rs high → find_row j id rs ≡ Some k
    → RetriedAt id n rs j k
unfolding find_row retry_row
retry_found_lem id n j k low high [] r e = let z : ◌≡◌ {A = ℕ} 0 1 = cc in absurd (omega arith)
retry_found_lem id n j k low high (x ∷ rs) r e =
    at (eqb (row_id x) id) refl (retry_found_lem id n (suc j) k (suc (row_id x)) high rs r.1)
  where
    at : (t : Bool) → eqb (row_id x) id ≡ t → (find_row (suc j) id rs ≡ Some k → RetriedAt id n rs (suc j) k)
        → RetriedAt id n (x ∷ rs) j k
    at true p ih =
        let here : j ≡ k = cc in
        let zero : k - j ≡ 0 = omega arith in
        let same : row_id x ≡ id = eqb-true (row_id x) id p in
        let others : retry_row id n rs ≡ rs = retry_above id n rs high (rw same at r.1) in
        let now : retry_row id n (x ∷ rs) ≡ tried_row id n x ∷ rs = cc in
        record { low = omega arith; within = omega arith; own = rw zero same; is = rw zero now }
    at false p ih =
        let f = ih (cc) in
        let kept : retry_row id n (x ∷ rs) ≡ x ∷ retry_row id n rs = cc in
        let one : k - j ≡ suc (k - suc j) = omega (arith, f.low) in
        record {
          low = omega (arith, f.low);
          within = omega (arith, f.within);
          own = rw one f.own;
          is = rw one (kept ∙ ap (λ l. x ∷ l) f.is);
        }

-- a row found and taken out of a table in rising order
pub record Out (rows : List (List ℕ)) (count id i : ℕ) : Type 0 where
  pub short : i < count
  pub gone : take (count - 1) (write rows i (part rows (i + 1) count)) ≡ remove_row id (take count rows)

pub row_out : (rows : List (List ℕ)) (count id i : ℕ) → count ≤ length rows → RowsRise 0 (take count rows) (2 ^ 64)
    → find_row 0 id (take count rows) ≡ Some i → Out rows count id i
row_out rows count id i h r e =
    let f = remove_found id 0 i 0 (2 ^ 64) (take count rows) r e in
    let l : i < count = omega (arith, f.within, length-take-le count rows h) in
    let z : i - 0 ≡ i = omega arith in
    record {
      short = l;
      gone = taken_out rows i count l h
          ∙ sym (f.out ∙ ap (λ k. take k (take count rows) ++ drop (suc k) (take count rows)) z);
    }

-- a row found in a table in rising order, with other attempts
pub record InPlace (rows : List (List ℕ)) (count id n i : ℕ) : Type 0 where
  pub short : i < count
  pub now : take count (set rows i (tried_row (row_id (get_or rows i [])) n (get_or rows i []))) ≡ retry_row id n
      (take count rows)

pub row_tried_lem : (rows : List (List ℕ)) (count id n i : ℕ) → count ≤ length rows → RowsRise 0 (take count rows) (2 ^ 64)
    → find_row 0 id (take count rows) ≡ Some i → InPlace rows count id n i
row_tried_lem rows count id n i h r e =
    let f = retry_found_lem id n 0 i 0 (2 ^ 64) (take count rows) r e in
    let l : i < count = omega (arith, f.within, length-take-le count rows h) in
    let z : i - 0 ≡ i = omega arith in
    let here : get_or (take count rows) i [] ≡ get_or rows i [] = get_or-take count rows i [] l in
    let own : row_id (get_or rows i []) ≡ id = ap row_id (sym here) ∙ rw z at f.own in
    let is : retry_row id n (take count rows) ≡ set (take count rows) i (tried_row id n (get_or (take count rows) i [])) =
    rw z at f.is in
    record {
      short = l;
      now = take-set-lt count rows i _ l
          ∙ (ap (λ k. set (take count rows) i (tried_row k n (get_or rows i []))) own
          ∙ (ap (λ (x : List ℕ). set (take count rows) i (tried_row id n x)) (sym here) ∙ sym is));
    }

-- a row put into a full table, from which the last one goes
pub in_full : (rows : List (List ℕ)) (count last i : ℕ) (e : List ℕ) → count ≤ length rows
    → PlaceOf (take count rows) (row_id e) i → holds (take count rows) i (row_id e) ≡ false → count ≡ suc last → i ≤ last
    → (rows' : List (List ℕ)) → rows' ≡ write rows i (e ∷ part rows i last) → (insert_row e (take count rows)
    ≡ take count rows' ++ (get_or rows last [] ∷ [])) × (0 < length (take count rows'))
in_full rows count last i e h p q c l rows' w =
    let s : count ≡ last + 1 = omega arith in
    let now : take count rows' ≡ take i (take last rows) ++ e ∷ drop i (take last rows) = ap (λ k. take k rows') s
    ∙ (ap (take (last + 1)) w ∙ put_in rows i last e l (omega arith)) in (
      placed_full rows count i e h p q last c l ∙ ap (λ x. x ++ (get_or rows last [] ∷ [])) (sym now),
      rw now (simp length-append (omega arith)),
    )

-- what a line does, by what the line says
pub took_line : (lo : ℕ) (p : Pass) (rows : List (List ℕ)) (l l' : Line) (at : ℕ) (r : Option Pass) (rows' : List (List ℕ))
    → l ≡ l' → TookLine lo p rows l at r rows' → TookLine lo p rows l' at r rows'
took_line lo p rows l l' at r rows' e t = subst (λ k. TookLine lo p rows k at r rows') e t

pub took_next : (lo : ℕ) (p : Pass) (rows : List (List ℕ)) (l : Line) (at : ℕ) (r : Option Pass) (rows' : List (List ℕ))
    (q : Pass) → r ≡ Some q → TookLine lo p rows l at r rows' → (q.count ≤ length rows')
    × TookNext lo p rows l at q rows'
took_next lo p rows l at r rows' q e t = subst (λ k. TookLine lo p rows l at k rows') e t

pub took_over : (lo : ℕ) (p : Pass) (rows : List (List ℕ)) (l : Line) (at : ℕ) (r : Option Pass) (rows' : List (List ℕ)) → r
    ≡ None → TookLine lo p rows l at r rows' → LastId l
took_over lo p rows l at r rows' e t = subst (λ k. TookLine lo p rows l at k rows') e t

pub scanned_ok : (file : List ℕ) (lo : ℕ) (r : Option Pass) (rows : List (List ℕ)) (p : Pass) → ok_or r NoNext ≡ Ok p
    → Scanned file lo r rows → Passed file lo p rows
scanned_ok file lo (Some q) rows p e s = let same : q ≡ p = cc in subst (λ k. Passed file lo k rows) same s
scanned_ok file lo None rows p e s = absurd (cc)

pub scanned_err : (file : List ℕ) (lo : ℕ) (r : Option Pass) (rows table : List (List ℕ)) (e : Refusal)
    → ok_or r NoNext ≡ Err e → Scanned file lo r rows → LeftIn file (Err e) table
scanned_err file lo (Some q) rows table e is s = absurd (cc)
scanned_err file lo None rows table e is s =
    let same : NoNext ≡ e = cc in subst (λ k. LeftIn file (Err k) table) same s
