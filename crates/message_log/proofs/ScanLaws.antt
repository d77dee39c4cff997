-- Laws of reading a file with a window of ids: what has been read is parted by ids, and a line changes one part.
use mathlib.Core.Path.{◌≡◌, refl, ap, sym, ◌∙◌, subst}
use mathlib.Core.Bool.{Bool, true, false}
use mathlib.Core.List.{List, [], ◌∷◌, ◌++◌, append_assoc}
use Prim.Native.Nat.{ℕ, suc, ◌^◌, ◌≤◌, ◌<◌, max}
use native.Mathlib.Omega.{arith}
use borrow.Author.Tests.{lt-ltb, le-ltb, ne_eqb}
use lib.Dec.{eqb, ltb}
use lib.ListN.{length, drop}
use Rattle.text.specs.Format.{Message, lines}
use Rattle.text.specs.Line.{Line, put, done, retry, other, read_line, first_text, line_at}
use Rattle.text.proofs.Spelling.{line_spelled}
use Rattle.message_log.specs.declared.opening.Pass.{Pass}
use Rattle.message_log.specs.Opening.{insert, remove, tried_times, retried, Rising, Read, read_lines, read_file, take_in}
use Rattle.message_log.specs.Opening.{nothing_read}
use Rattle.message_log.specs.Log.{row, row_id}
use Rattle.message_log.specs.Scan.{row_message, row_messages, RowsRise, insert_row, remove_row, retry_row}
use Rattle.message_log.specs.Scan.{Took, beneath, beyond}
use Rattle.message_log.specs.Scan.{set_in, evicted, pass_rows, TookNext, LastId, Window}
use Rattle.message_log.proofs.OpeningLaws.{Rising-low, Rising-le, Rising-insert, Rising-remove, Rising-retried}
use Rattle.message_log.proofs.OpeningLaws.{retried_append}

pub rows_rise : (file : List ℕ) (rs : List (List ℕ)) (low high : ℕ) → Rising low (row_messages file rs) high
    → RowsRise low rs high
rows_rise file [] low high r = r
rows_rise file (x ∷ rs) low high r = (r.0, rows_rise file rs (suc (row_id x)) high r.1)

-- rows as messages
pub map_insert : (file : List ℕ) (e : List ℕ) (es : List (List ℕ)) → row_messages file (insert_row e es)
    ≡ insert (row_message file e) (row_messages file es)
unfolding insert_row insert
map_insert file e [] = refl
map_insert file e (x ∷ xs) = at (ltb (row_id e) (row_id x)) refl (eqb (row_id e) (row_id x)) refl (map_insert file e xs)
  where
    at : (p : Bool) → ltb (row_id e) (row_id x) ≡ p → (q : Bool) → eqb (row_id e) (row_id x) ≡ q
        → row_messages file (insert_row e xs) ≡ insert (row_message file e) (row_messages file xs)
        → row_messages file (insert_row e (x ∷ xs)) ≡ insert (row_message file e) (row_messages file (x ∷ xs))
    at true f q g ih = rw (f, insert_row, insert) refl
    at false f true g ih = rw (f, insert_row, insert) (rw g refl)
    at false f false g ih = rw (f, insert_row, insert) (rw g (ap (λ r. row_message file x ∷ r) ih))

pub map_remove : (file : List ℕ) (id : ℕ) (es : List (List ℕ)) → row_messages file (remove_row id es)
    ≡ remove id (row_messages file es)
unfolding remove_row remove
map_remove file id [] = refl
map_remove file id (x ∷ xs) = at (eqb (row_id x) id) refl (map_remove file id xs)
  where
    at : (p : Bool) → eqb (row_id x) id ≡ p → row_messages file (remove_row id xs) ≡ remove id (row_messages file xs)
        → row_messages file (remove_row id (x ∷ xs)) ≡ remove id (row_messages file (x ∷ xs))
    at true f ih = rw (f, remove_row, remove) ih
    at false f ih = rw (f, remove_row, remove) (ap (λ r. row_message file x ∷ r) ih)

pub map_retry : (file : List ℕ) (id n : ℕ) (es : List (List ℕ)) → row_messages file (retry_row id n es)
    ≡ retried id n (row_messages file es)
unfolding retry_row retried
map_retry file id n [] = refl
map_retry file id n (x ∷ xs) = at (eqb (row_id x) id) refl (map_retry file id n xs)
  where
    at : (p : Bool) → eqb (row_id x) id ≡ p → row_messages file (retry_row id n xs) ≡ retried id n (row_messages file xs)
        → row_messages file (retry_row id n (x ∷ xs)) ≡ retried id n (row_messages file (x ∷ xs))
    at true f ih = rw (f, retry_row, retried) (ap (λ r. tried_times (row_message file x) n ∷ r) ih)
    at false f ih = rw (f, retry_row, retried) (ap (λ r. row_message file x ∷ r) ih)

pub map_append : (file : List ℕ) (x y : List (List ℕ)) → row_messages file (x ++ y) ≡ row_messages file x ++ row_messages
    file y
map_append file [] y = refl
map_append file (e ∷ x) y = ap (λ r. row_message file e ∷ r) (map_append file x y)

-- insert and remove in a part
pub insert_front : (m : Message) (x y : List Message) (b top : ℕ) → Rising b y top → m.id < b → insert m (x ++ y)
    ≡ insert m x ++ y
unfolding insert
insert_front m [] [] b top r h = refl
insert_front m [] (y ∷ ys) b top r h = cc (lt-ltb m.id y.id (omega (arith, r.0)))
insert_front m (x ∷ xs) y b top r h = at (ltb m.id x.id) refl (eqb m.id x.id) refl
    (insert_front m xs y b top r h)
  where
    at : (p : Bool) → ltb m.id x.id ≡ p → (q : Bool) → eqb m.id x.id ≡ q → insert m (xs ++ y)
        ≡ insert m xs ++ y → insert m (x ∷ (xs ++ y)) ≡ insert m (x ∷ xs) ++ y
    at true f q g ih = cc
    at false f true g ih = cc
    at false f false g ih = cc

pub insert_back : (m : Message) (x y : List Message) (a b : ℕ) → Rising a x b → b ≤ m.id → insert m (x ++ y)
    ≡ x ++ insert m y
unfolding insert
insert_back m [] y a b r h = refl
insert_back m (x ∷ xs) y a b r h =
    let l : suc x.id ≤ b = Rising-le xs (suc x.id) b r.1 in
    cc (
      le-ltb m.id x.id (omega arith),
      ne_eqb m.id x.id (omega arith),
      insert_back m xs y (suc x.id) b
          r.1 h,
    )

pub remove_append : (id : ℕ) (x y : List Message) → remove id (x ++ y) ≡ remove id x ++ remove id y
unfolding remove
remove_append id [] y = refl
remove_append id (x ∷ xs) y = at (eqb x.id id) refl (remove_append id xs y)
  where
    at : (p : Bool) → eqb x.id id ≡ p → remove id (xs ++ y) ≡ remove id xs ++ remove id y
        → remove id (x ∷ (xs ++ y)) ≡ remove id (x ∷ xs) ++ remove id y
    at true f ih = cc
    at false f ih = cc

Rising-set : (m : Message) (ms : List Message) (low high : ℕ) → low ≤ m.id → m.id < high → Rising low ms high
    → Rising low (insert m ms) high
Rising-set m ms low high a b r = let e : max high (suc m.id) ≡ high = omega arith in
    subst (Rising low (insert m ms)) e (Rising-insert m ms low high a r)

-- the last of rising messages
Rising-split : (x : List Message) (m : Message) (low high : ℕ) → Rising low (x ++ (m ∷ [])) high → Rising low x m.id
    × (suc m.id ≤ high)
Rising-split [] m low high r = (r.0, r.1)
Rising-split (y ∷ ys) m low high r = let s = Rising-split ys m (suc y.id) high r.1 in ((r.0, s.0), s.1)

Rising-more : (x : List Message) (low high : ℕ) → 0 < length x → Rising low x high → low < high
Rising-more [] low high h r = absurd (omega arith)
Rising-more (y ∷ ys) low high h r = omega (arith, r.0, Rising-le ys (suc y.id) high r.1)

-- what has been read of the file, by ids; what is still to be read goes on from there
pub record Tracked (file : List ℕ) (lo hi : ℕ) (these : List (List ℕ)) (rest : List (List ℕ)) : Type 0 where
  pub read : Read
  pub goes : read_lines read rest ≡ read_file file
  pub below : List Message
  pub above : List Message
  pub are : read.left ≡ below ++ (row_messages file these ++ above)
  pub low : Rising 0 below lo
  pub mid : Rising lo (row_messages file these) hi
  pub high : Rising hi above (2 ^ 64)
  pub wide : lo < hi

pub tracked_begin : (file : List ℕ) (lo hi : ℕ) → lo < hi → hi ≤ 2 ^ 64 → Tracked file lo hi [] (lines file)
unfolding read_file
tracked_begin file lo hi h t = record {
  read = nothing_read;
  goes = refl;
  below = [];
  above = [];
  are = refl;
  low =
      omega arith;
  mid = omega arith;
  high = t;
  wide = h;
}

pub tracked_end : {file : List ℕ} {lo hi : ℕ} {these : List (List ℕ)} {rest : List (List ℕ)}
    → Tracked file lo hi these rest → rest ≡ [] → Window file lo hi these
unfolding read_lines
tracked_end {file} w e = record {
  below = w.below;
  above = w.above;
  are = ap (λ r. r.left) (sym (sym (ap (read_lines w.read) e) ∙ w.goes)) ∙ w.are;
  low = w.low;
  mid = w.mid;
  high = w.high;
  wide = w.wide;
}

one_more : (r : Read) (l : List ℕ) (ls : List (List ℕ)) (k : Line) → read_line l ≡ k → read_lines r (l ∷ ls)
    ≡ read_lines (take_in r k) ls
unfolding read_lines
one_more r l ls k e = ap (λ j. read_lines (take_in r j) ls) e

-- the row of a record's line, which has no attempts, is its message
is_message_lem : (file : List ℕ) (at : ℕ) (m : Message) → line_at file at ≡ put m → row_message file (row m.id at 0 0) ≡ m
unfolding line_at
is_message_lem file at m e =
    let fresh : m.attempts ≡ 0 = ((line_spelled (first_text (lines (drop at file)))).is_record m e).fresh in
    rw e (ap (tried_times m) (sym fresh))

module _ {file : List ℕ} {lo hi : ℕ} {these : List (List ℕ)} {l : List ℕ} {ls : List (List ℕ)}
    (w : Tracked file lo hi these (l ∷ ls)) where
  unmoved : read_line l ≡ other → Tracked file lo hi these ls
  unfolding take_in
  unmoved e = record {
    read = w.read;
    goes = sym (one_more w.read l ls other e) ∙ w.goes;
    below = w.below;
    above = w.above;
    are = w.are;
    low = w.low;
    mid = w.mid;
    high = w.high;
    wide = w.wide;
  }

  taken_out : (id : ℕ) → read_line l ≡ done id → Tracked file lo hi (remove_row id these) ls
  unfolding take_in
  taken_out id e =
      let r : Read = take_in w.read (done id) in
      record {
        read = r;
        goes = sym (one_more w.read l ls (done id) e) ∙ w.goes;
        below = remove id w.below;
        above = remove id w.above;
        are = ap (remove id) w.are ∙ (remove_append id w.below (row_messages file these ++ w.above)
            ∙ ap (λ y. remove id w.below ++ y) (remove_append id (row_messages file these) w.above
            ∙ ap (λ y. y ++ remove id w.above) (sym (map_remove file id these))));
        low = Rising-remove id w.below 0 lo w.low;
        mid = subst (λ y. Rising lo y hi) (sym (map_remove file id these)) (Rising-remove id (row_messages file these) lo
            hi w.mid);
        high = Rising-remove id w.above hi (2 ^ 64) w.high;
        wide = w.wide;
      }

  tried_again_lem : (id n : ℕ) → read_line l ≡ retry id n → Tracked file lo hi (retry_row id n these) ls
  unfolding take_in
  tried_again_lem id n e =
      let r : Read = take_in w.read (retry id n) in
      record {
        read = r;
        goes = sym (one_more w.read l ls (retry id n) e) ∙ w.goes;
        below = retried id n w.below;
        above = retried id n w.above;
        are = ap (retried id n) w.are ∙ (retried_append id n w.below (row_messages file these ++ w.above)
            ∙ ap (λ y. retried id n w.below ++ y) (retried_append id n (row_messages file these) w.above
            ∙ ap (λ y. y ++ retried id n w.above) (sym (map_retry file id n these))));
        low = Rising-retried id n w.below 0 lo w.low;
        mid = subst (λ y. Rising lo y hi) (sym (map_retry file id n these)) (Rising-retried id n
            (row_messages file these) lo hi w.mid);
        high = Rising-retried id n w.above hi (2 ^ 64) w.high;
        wide = w.wide;
      }

  module _ (m : Message) (e : read_line l ≡ put m) (f : m.id < 2 ^ 64) where
    after : Read
    after = take_in w.read (put m)

    onward : read_lines after ls ≡ read_file file
    unfolding after
    onward = sym (one_more w.read l ls (put m) e) ∙ w.goes

    after_left : after.left ≡ insert m (w.below ++ (row_messages file these ++ w.above))
    unfolding take_in after
    after_left = ap (insert m) w.are

    Rising-both : Rising lo (row_messages file these ++ w.above) (2 ^ 64)
    Rising-both = join (row_messages file these) lo w.mid
      where
        join : (x : List Message) (b : ℕ) → Rising b x hi → Rising b (x ++ w.above) (2 ^ 64)
        join [] b r = Rising-low w.above hi b (2 ^ 64) r w.high
        join (y ∷ ys) b r = (r.0, join ys (suc y.id) r.1)

    put_beneath : m.id < lo → Tracked file lo hi these ls
    put_beneath h = record {
      read = after;
      goes = onward;
      below = insert m w.below;
      above = w.above;
      are = after_left ∙ insert_front m w.below (row_messages file these ++ w.above) lo (2 ^ 64) Rising-both h;
      low = Rising-set m w.below 0 lo (omega arith) h w.low;
      mid = w.mid;
      high = w.high;
      wide = w.wide;
    }

    put_beyond : hi ≤ m.id → Tracked file lo hi these ls
    put_beyond h = record {
      read = after;
      goes = onward;
      below = w.below;
      above = insert m w.above;
      are = after_left ∙ (insert_back m w.below (row_messages file these ++ w.above) 0 lo w.low
          (omega (arith, w.wide)) ∙ ap (λ y. w.below ++ y) (insert_back m (row_messages file these) w.above lo hi
          w.mid h));
      low = w.low;
      mid = w.mid;
      high = Rising-set m w.above hi (2 ^ 64) h f w.high;
      wide = w.wide;
    }

    module _ (a : lo ≤ m.id) (b : m.id < hi) (at : ℕ) (g : line_at file at ≡ put m) where
      abbrev new : List ℕ
      new = row m.id at 0 0

      inserted : row_messages file (insert_row new these) ≡ insert m (row_messages file these)
      inserted = map_insert file new these ∙ ap (λ n. insert n (row_messages file these)) (is_message_lem file at m g)

      now_left : after.left ≡ w.below ++ (row_messages file (insert_row new these) ++ w.above)
      now_left = after_left ∙ (insert_back m w.below (row_messages file these ++ w.above) 0 lo w.low a
          ∙ ap (λ y. w.below ++ y) (insert_front m (row_messages file these) w.above hi (2 ^ 64) w.high b
          ∙ ap (λ y. y ++ w.above) (sym inserted)))

      now_mid : Rising lo (row_messages file (insert_row new these)) hi
      now_mid = subst (λ y. Rising lo y hi) (sym inserted) (Rising-set m (row_messages file these) lo hi a b w.mid)

      put_within : Tracked file lo hi (insert_row new these) ls
      put_within = record {
        read = after;
        goes = onward;
        below = w.below;
        above = w.above;
        are = now_left;
        low =
            w.low;
        mid = now_mid;
        high = w.high;
        wide = w.wide;
      }

      put_evicted : (y : List ℕ) (these' : List (List ℕ)) → insert_row new these ≡ these' ++ (y ∷ [])
          → 0 < length these' → Tracked file lo (row_id y) these' ls
      put_evicted y these' q h =
          let split : row_messages file (insert_row new these) ≡ row_messages file these' ++ (row_message file y ∷ []) =
          ap (row_messages file) q ∙ map_append file these' (y ∷ []) in
          let s = Rising-split (row_messages file these') (row_message file y) lo hi (subst (λ z. Rising lo z hi) split
          now_mid) in
          record {
            read = after;
            goes = onward;
            below = w.below;
            above = row_message file y ∷ w.above;
            are = now_left ∙ ap (λ z. w.below ++ z) (ap (λ z. z ++ w.above) split
                ∙ append_assoc (row_messages file these') (row_message file y ∷ []) w.above);
            low = w.low;
            mid = s.0;
            high = (omega arith, Rising-low w.above hi (suc (row_id y)) (2 ^ 64) s.1 w.high);
            wide = Rising-more (row_messages file these') lo (row_id y) (map_some these' h) s.0;
          }
        where
          map_some : (x : List (List ℕ)) → 0 < length x → 0 < length (row_messages file x)
          map_some [] k = absurd (omega arith)
          map_some (x ∷ xs) k = omega arith

-- a line taken in
pub tracked_line : (file : List ℕ) (lo : ℕ) (p : Pass) (table : List (List ℕ)) (at : ℕ) (l : List ℕ)
    (ls : List (List ℕ)) (q : Pass) (table' : List (List ℕ))
    → Tracked file lo p.hi (pass_rows p table) (lines (drop at file)) → lines (drop at file) ≡ l ∷ ls
    → TookNext lo p table (read_line l) at q table' → Tracked file lo q.hi (pass_rows q table') ls
unfolding line_at
tracked_line file lo p table at l ls q table' w₀ e t = by (read_line l) refl t
  where
    w : Tracked file lo p.hi (pass_rows p table) (l ∷ ls)
    w = subst (Tracked file lo p.hi (pass_rows p table)) e w₀

    same : q.hi ≡ p.hi → (x : List (List ℕ)) → pass_rows q table' ≡ x → Tracked file lo p.hi x ls
        → Tracked file lo q.hi (pass_rows q table') ls
    same a x b v = subst (λ h. Tracked file lo h (pass_rows q table') ls) (sym a)
        (subst (λ y. Tracked file lo p.hi y ls) (sym b) v)

    here : (m : Message) → read_line l ≡ put m → line_at file at ≡ put m
    here m k = ap (λ x. read_line (first_text x)) e ∙ k

    record_in : (m : Message) → read_line l ≡ put m → m.id < 2 ^ 64 → Took lo p.hi (pass_rows p table)
        (row m.id at 0 0) q.hi (pass_rows q table') → Tracked file lo q.hi (pass_rows q table') ls
    record_in m k f (beneath a b r) = same b (pass_rows p table) r (put_beneath w m k f a)
    record_in m k f (beyond a b r) = same b (pass_rows p table) r (put_beyond w m k f a)
    record_in m k f (set_in a b c r) = same c _ r (put_within w m k f a b at (here m k))
    record_in m k f (evicted a b y c r h) = subst (λ z. Tracked file lo z (pass_rows q table') ls) (sym r)
        (put_evicted w m k f a b at (here m k) y (pass_rows q table') c h)

    by : (k : Line) → read_line l ≡ k → TookNext lo p table k at q table' → Tracked file lo q.hi (pass_rows q table')
        ls
    by (put m) k x = record_in m k (omega (arith, x.2)) x.0
    by (done id) k x = same x.1 (remove_row id (pass_rows p table)) x.0 (taken_out w id k)
    by (retry id n) k x = same x.1 (retry_row id n (pass_rows p table)) x.0 (tried_again_lem w id n k)
    by other k x = same x.1 (pass_rows p table) x.0 (unmoved w k)

-- the next id, line by line
unfoldable pub next_of : ℕ → Line → ℕ
next_of n (put m) = max n (suc m.id)
next_of n (done id) = n
next_of n (retry id k) = n
next_of n other = n

unfoldable pub next_lines_lem : ℕ → List (List ℕ) → ℕ
next_lines_lem n [] = n
next_lines_lem n (l ∷ ls) = next_lines_lem (next_of n (read_line l)) ls

next_take : (r : Read) (l : Line) → (take_in r l).next ≡ next_of r.next l
unfolding take_in next_of
next_take r (put m) = refl
next_take r (done id) = refl
next_take r (retry id n) = refl
next_take r other = refl

next_lines : (ls : List (List ℕ)) (r : Read) → (read_lines r ls).next ≡ next_lines_lem r.next ls
unfolding read_lines next_lines_lem
next_lines [] r = refl
next_lines (l ∷ ls) r = next_lines ls (take_in r (read_line l)) ∙ ap (λ n. next_lines_lem n ls) (next_take r (read_line l))

pub next_file : (file : List ℕ) → next_lines_lem 0 (lines file) ≡ (read_file file).next
unfolding read_file
next_file file = sym (next_lines (lines file) nothing_read)

pub next_none : (n : ℕ) (ls : List (List ℕ)) → ls ≡ [] → next_lines_lem n ls ≡ n
unfolding next_lines_lem
next_none n ls e = rw e refl

next_up : (n : ℕ) (l : Line) → n ≤ next_of n l
unfolding next_of
next_up n (put m) = omega arith
next_up n (done id) = omega arith
next_up n (retry id k) = omega arith
next_up n other = omega arith

next_grows : (ls : List (List ℕ)) (n : ℕ) → n ≤ next_lines_lem n ls
unfolding next_lines_lem
next_grows [] n = omega arith
next_grows (l ∷ ls) n = omega (arith, next_up n (read_line l), next_grows ls (next_of n (read_line l)))

pub next_line : (lo : ℕ) (p : Pass) (table : List (List ℕ)) (at : ℕ) (q : Pass) (table' : List (List ℕ))
    (all : List (List ℕ)) (l : List ℕ) (ls : List (List ℕ)) → all ≡ l ∷ ls → TookNext lo p table (read_line l) at q
    table'
    → next_lines_lem q.next ls ≡ next_lines_lem p.next all
unfolding next_lines_lem next_of
next_line lo p table at q table' all l ls e t = sym (ap (next_lines_lem p.next) e
    ∙ ap (λ n. next_lines_lem n ls) (by (read_line l) t))
  where
    by : (k : Line) → TookNext lo p table k at q table' → next_of p.next k ≡ q.next
    by (put m) x = sym x.1
    by (done id) x = sym x.2
    by (retry id n) x = sym x.2
    by other x = sym x.2

pub next_over : (n : ℕ) (all : List (List ℕ)) (l : List ℕ) (ls : List (List ℕ)) → all ≡ l ∷ ls → LastId (read_line l)
    → 2 ^ 64 ≤ next_lines_lem n all
unfolding next_lines_lem next_of
next_over n all l ls e x = subst (λ k. 2 ^ 64 ≤ next_lines_lem n k) (sym e) (omega (
  arith,
  by (read_line l) x,
  next_grows ls (next_of n (read_line l)),
))
  where
    by : (k : Line) → LastId k → 2 ^ 64 ≤ next_of n k
    by (put m) y = omega arith
    by (done id) y = absurd y
    by (retry id k) y = absurd y
    by other y = absurd y
