-- Laws of opening: what canonical lines say, what whole and torn lines are read as, and that the messages left stand
-- in rising id order.
use mathlib.Core.Path.{◌≡◌, refl, sym, ap, ◌∙◌}
use mathlib.Core.Bool.{Bool, true, false, ◌&&◌}
use mathlib.Core.List.{List, [], ◌∷◌, ◌++◌, append_assoc, append-nil, Memᴰ}
use Prim.Native.Nat.{ℕ, zero, suc, ◌+◌, ◌-◌, ◌^◌, ◌≤◌, ◌<◌, max}
use native.Mathlib.Omega.{arith}
use borrow.Author.Tests.{ltb-true, ltb-false, leb-true, leb-false, eqb-true, eqb-false, lt-ltb, le-ltb, le-leb, ne_eqb}
use borrow.Author.Tests.{eq-eqb}
use lib.Dec.{eqb, leb, ltb}
use lib.ListN.{length, take, length-append}
use lib.Seq.{take-append-le, take-append-add}
use Rattle.text.specs.Format.{LF, ATTEMPTS, Message, record_text, record_line, line, print_id, lines, retry_text}
use Rattle.text.specs.Format.{retry_line, attempts_line, message_lines}
use Rattle.text.specs.Bytes.{Free}
use Rattle.text.specs.Line.{Line, put, done, retry, other, put_of, done_of, attempts_of, read_fields, read_line}
use Rattle.text.proofs.FormatLaws.{unescape_escape, fields_record, fields_done, fields_retry, record_text_free}
use Rattle.text.proofs.FormatLaws.{retry_text_free}
use Rattle.text.proofs.FormatLaws.{lines_line, lines_torn}
use Rattle.text.proofs.Spelling.{read_id_print_id, line_spelled}
use Rattle.message_log.specs.Stands.{Small, Tries}
use Rattle.message_log.specs.Opening.{insert, remove, tried_times, retried, Read, take_in, read_lines, fits, all_fit, Rising}
use Rattle.message_log.specs.Opening.{opened, judge, image}

pub read_line_record : (m : Message) → m.id < 2 ^ 64 → read_line (record_text m) ≡ put (tried_times m 0)
unfolding read_line read_fields put_of
read_line_record m h = rw (fields_record m) (rw (read_id_print_id m.id h) (rw (
  unescape_escape m.name,
  unescape_escape m.body,
)))

pub read_line_done : (n : ℕ) → n < 2 ^ 64 → read_line (print_id n) ≡ done n
unfolding read_line read_fields done_of
read_line_done n h = cc (fields_done n, read_id_print_id n h)

pub read_line_retry : (id n : ℕ) → id < 2 ^ 64 → n ≤ ATTEMPTS → read_line (retry_text id n) ≡ retry id n
unfolding read_line read_fields attempts_of
read_line_retry id n h l =
    cc (
      fields_retry id n,
      read_id_print_id id h,
      read_id_print_id n (omega arith),
      le-leb n ATTEMPTS l,
    )

-- whole lines
unfoldable pub joined : List (List ℕ) → List ℕ
joined [] = []
joined (t ∷ ts) = line t ++ joined ts

abbrev pub FreeAll : List (List ℕ) → Type 0
FreeAll [] = Unit
FreeAll (t ∷ ts) = Free LF t × FreeAll ts

pub lines_joined : (ts : List (List ℕ)) (x : List ℕ) → FreeAll ts → lines (joined ts ++ x) ≡ ts ++ lines x
unfolding joined
lines_joined [] x f = refl
lines_joined (t ∷ ts) x f = rw append_assoc (cc (lines_line t (joined ts ++ x) f.0, lines_joined ts x f.1))

pub joined_snoc : (ts : List (List ℕ)) (t : List ℕ) → joined (ts ++ (t ∷ [])) ≡ joined ts ++ line t
unfolding joined
joined_snoc [] t = append-nil (line t)
joined_snoc (u ∷ ts) t = rw append_assoc (cc (joined_snoc ts t))

pub FreeAll-snoc : (ts : List (List ℕ)) (t : List ℕ) → FreeAll ts → Free LF t → FreeAll (ts ++ (t ∷ []))
FreeAll-snoc [] t f g = (g, tt)
FreeAll-snoc (u ∷ ts) t f g = (f.0, FreeAll-snoc ts t f.1 g)

pub read_lines_append : (r : Read) (ts us : List (List ℕ)) → read_lines r (ts ++ us) ≡ read_lines (read_lines r ts) us
unfolding read_lines
read_lines_append r [] us = refl
read_lines_append r (t ∷ ts) us = read_lines_append (take_in r (read_line t)) ts us

-- whole lines are read first, then what follows them
pub read_joined : (r : Read) (ts : List (List ℕ)) (x : List ℕ) → FreeAll ts → read_lines r (lines (joined ts ++ x))
    ≡ read_lines (read_lines r ts) (lines x)
read_joined r ts x f = cc (lines_joined ts x f, read_lines_append r ts (lines x))

-- the messages left after each of the lines, the first before any
unfoldable pub lefts : Read → List (List ℕ) → List (List Message)
lefts r [] = r.left ∷ []
lefts r (t ∷ ts) = r.left ∷ lefts (take_in r (read_line t)) ts

pub lefts_snoc : (r : Read) (ts : List (List ℕ)) (t : List ℕ) → lefts r (ts ++ (t ∷ []))
    ≡ lefts r ts ++ ((take_in (read_lines r ts) (read_line t)).left ∷ [])
unfolding lefts read_lines
lefts_snoc r [] t = refl
lefts_snoc r (u ∷ ts) t = ap {B = List (List Message)} (λ l. r.left ∷ l) (lefts_snoc (take_in r (read_line u)) ts t)

-- what has been read is accepted after each of the lines
abbrev pub Accepted : Read → List (List ℕ) → Type 0
Accepted r [] = judge r ≡ opened r
Accepted r (t ∷ ts) = (judge r ≡ opened r) × Accepted (take_in r (read_line t)) ts

pub Accepted-snoc : (r : Read) (ts : List (List ℕ)) (t : List ℕ) → Accepted r ts
    → judge (take_in (read_lines r ts) (read_line t)) ≡ opened (take_in (read_lines r ts) (read_line t))
    → Accepted r (ts ++ (t ∷ []))
unfolding read_lines
Accepted-snoc r [] t a g = (a, g)
Accepted-snoc r (u ∷ ts) t a g = (a.0, Accepted-snoc (take_in r (read_line u)) ts t a.1 g)

-- a file that was cut anywhere in its whole lines is read as some of them
pub record Prefixed (r : Read) (ts : List (List ℕ)) (x : List ℕ) : Type 0 where
  pub found : Read
  pub reads : read_lines r (lines x) ≡ found
  pub good : judge found ≡ opened found
  pub among : Memᴰ found.left (lefts r ts)

Free-take : (k : ℕ) (t : List ℕ) → Free LF t → Free LF (take k t)
Free-take zero t f = tt
Free-take (suc k) [] f = tt
Free-take (suc k) (b ∷ t) f = (f.0, Free-take k t f.1)

take_torn : (t rest : List ℕ) (k : ℕ) → k ≤ length t → take k (line t ++ rest) ≡ take k t
unfolding line
take_torn t rest k h = rw append_assoc (take-append-le k t (LF ∷ rest) h)

pub length_line : (t : List ℕ) → length (line t) ≡ length t + 1
unfolding line
length_line t = length-append t (LF ∷ [])

take_whole : (t rest : List ℕ) (k : ℕ) → length t < k → take k (line t ++ rest) ≡ line t ++ take (k - (length t + 1))
    rest
take_whole t rest k h =
    let e : k ≡ length (line t) + (k - (length t + 1)) = omega (arith, length_line t) in
    ap (λ n. take n (line t ++ rest)) e ∙ take-append-add (line t) rest (k - (length t + 1))

pub take_lines : (ts : List (List ℕ)) (r : Read) (k : ℕ) → FreeAll ts → Accepted r ts
    → Prefixed r ts (take k (joined ts))
unfolding joined lefts read_lines
take_lines [] r zero f a = record { found = r; reads = rw (lines_torn [] tt); good = a; among = Memᴰ.head refl }
take_lines [] r (suc k) f a = record {
  found = r;
  reads = rw (lines_torn [] tt);
  good = a;
  among =
      Memᴰ.head refl;
}
take_lines (t ∷ ts) r k f a = at (leb k (length t)) refl (λ j. take_lines ts (take_in r (read_line t)) j f.1 a.1)
  where
    at : (c : Bool) → leb k (length t) ≡ c → ((j : ℕ) → Prefixed (take_in r (read_line t)) ts (take j (joined ts)))
        → Prefixed r (t ∷ ts) (take k (line t ++ joined ts))
    at true e ih = rw (take_torn t (joined ts) k (leb-true k (length t) e))
        record {
          found = r;
          reads = rw (lines_torn (take k t) (Free-take k t f.0));
          good = a.0;
          among =
              Memᴰ.head refl;
        }
    at false e ih = let p = ih (k - (length t + 1)) in rw (take_whole t (joined ts) k (leb-false k (length t) e))
        record {
          found = p.found;
          reads = rw (lines_line t (take (k - (length t + 1)) (joined ts)) f.0) p.reads;
          good = p.good;
          among = Memᴰ.tail p.among;
        }

pub Rising-low : (ms : List Message) (low low' high : ℕ) → low' ≤ low → Rising low ms high → Rising low' ms high
Rising-low [] low low' high h r = omega arith
Rising-low (m ∷ ms) low low' high h r = (omega arith, r.1)

pub Rising-high : (ms : List Message) (low high high' : ℕ) → high ≤ high' → Rising low ms high → Rising low ms high'
Rising-high [] low high high' h r = omega arith
Rising-high (m ∷ ms) low high high' h r = (r.0, Rising-high ms (suc m.id) high high' h r.1)

pub Rising-le : (ms : List Message) (low high : ℕ) → Rising low ms high → low ≤ high
Rising-le [] low high r = r
Rising-le (m ∷ ms) low high r = omega (arith, Rising-le ms (suc m.id) high r.1)

pub Rising-insert : (m : Message) (ms : List Message) (low high : ℕ) → low ≤ m.id → Rising low ms high
    → Rising low (insert m ms) (max high (suc m.id))
unfolding insert
Rising-insert m [] low high h r = (h, omega arith)
Rising-insert m (x ∷ xs) low high h r = at_less (ltb m.id x.id) refl (Rising-insert m xs (suc x.id) high)
  where
    at_same : (t : Bool) → eqb m.id x.id ≡ t → ltb m.id x.id ≡ false
        → (suc x.id ≤ m.id → Rising (suc x.id) xs high → Rising (suc x.id) (insert m xs)
        (max high (suc m.id))) → Rising low (insert m (x ∷ xs)) (max high (suc m.id))
    at_same true e p ih = rw (p, insert) (rw e (
      h,
      Rising-high xs (suc m.id) high (max high (suc m.id))
          (omega arith) (rw (eqb-true m.id x.id e) r.1),
    ))
    at_same false e p ih =
        rw (p, insert) (rw e (
          r.0,
          ih (omega (arith, ltb-false m.id x.id p, eqb-false m.id x.id e))
              r.1,
        ))

    at_less : (t : Bool) → ltb m.id x.id ≡ t → (suc x.id ≤ m.id → Rising (suc x.id) xs high
        → Rising (suc x.id) (insert m xs) (max high (suc m.id))) → Rising low (insert m (x ∷ xs))
        (max high (suc m.id))
    at_less true e ih = rw (e, insert) (
      h,
      (
        ltb-true m.id x.id e,
        Rising-high xs (suc x.id) high
            (max high (suc m.id)) (omega arith) r.1,
      ),
    )
    at_less false e ih = at_same (eqb m.id x.id) refl e ih

pub insert_last : (m : Message) (ms : List Message) (low high : ℕ) → high ≤ m.id → Rising low ms high → insert m ms
    ≡ ms ++ (m ∷ [])
unfolding insert
insert_last m [] low high h r = refl
insert_last m (x ∷ xs) low high h r =
    let b : suc x.id ≤ high = Rising-le xs (suc x.id) high r.1 in
    cc (
      le-ltb m.id x.id (omega arith),
      ne_eqb m.id x.id (omega arith),
      insert_last m xs (suc x.id) high
          h r.1,
    )

pub Rising-snoc : (m : Message) (ms : List Message) (low high : ℕ) → high ≤ m.id → Rising low ms high
    → Rising low (ms ++ (m ∷ [])) (suc m.id)
Rising-snoc m [] low high h r = (omega arith, omega arith)
Rising-snoc m (x ∷ xs) low high h r = (r.0, Rising-snoc m xs (suc x.id) high h r.1)

pub Rising-remove : (i : ℕ) (ms : List Message) (low high : ℕ) → Rising low ms high → Rising low (remove i ms) high
unfolding remove
Rising-remove i [] low high r = r
Rising-remove i (x ∷ xs) low high r = at (eqb x.id i) refl (Rising-remove i xs (suc x.id) high r.1)
  where
    at : (t : Bool) → eqb x.id i ≡ t → Rising (suc x.id) (remove i xs) high → Rising low (remove i (x ∷ xs)) high
    at true e ih = rw (e, remove) (Rising-low (remove i xs) (suc x.id) low high (omega (arith, r.0)) ih)
    at false e ih = rw (e, remove) (r.0, ih)

-- the attempts of an id set
pub retried_append : (id n : ℕ) (x y : List Message) → retried id n (x ++ y) ≡ retried id n x ++ retried id n y
unfolding retried
retried_append id n [] y = refl
retried_append id n (x ∷ xs) y = at (eqb x.id id) refl (retried_append id n xs y)
  where
    at : (p : Bool) → eqb x.id id ≡ p → retried id n (xs ++ y) ≡ retried id n xs ++ retried id n y
        → retried id n (x ∷ (xs ++ y)) ≡ retried id n (x ∷ xs) ++ retried id n y
    at true f ih = cc
    at false f ih = cc

pub retried_below : (id n : ℕ) (ms : List Message) (low high : ℕ) → high ≤ id → Rising low ms high
    → retried id n ms ≡ ms
unfolding retried
retried_below id n [] low high h r = refl
retried_below id n (x ∷ xs) low high h r =
    let b : suc x.id ≤ high = Rising-le xs (suc x.id) high r.1 in
    cc (ne_eqb x.id id (omega arith), retried_below id n xs (suc x.id) high h r.1)

pub retried_above : (id n : ℕ) (ms : List Message) (high : ℕ) → Rising (suc id) ms high → retried id n ms ≡ ms
unfolding retried
retried_above id n [] high r = refl
retried_above id n (x ∷ xs) high r =
    cc (
      ne_eqb x.id id (omega (arith, r.0)),
      retried_above id n xs high (Rising-low xs (suc x.id) (suc id) high (omega (arith, r.0)) r.1),
    )

pub Rising-retried : (id n : ℕ) (ms : List Message) (low high : ℕ) → Rising low ms high
    → Rising low (retried id n ms) high
unfolding retried
Rising-retried id n [] low high r = r
Rising-retried id n (x ∷ xs) low high r = at (eqb x.id id) refl (Rising-retried id n xs (suc x.id) high r.1)
  where
    at : (t : Bool) → eqb x.id id ≡ t → Rising (suc x.id) (retried id n xs) high
        → Rising low (retried id n (x ∷ xs)) high
    at true e ih = rw (e, retried) (r.0, ih)
    at false e ih = rw (e, retried) (r.0, ih)

pub length_retried : (id n : ℕ) (ms : List Message) → length (retried id n ms) ≡ length ms
unfolding retried
length_retried id n [] = refl
length_retried id n (x ∷ xs) = at (eqb x.id id) refl (length_retried id n xs)
  where
    at : (t : Bool) → eqb x.id id ≡ t → length (retried id n xs) ≡ length xs
        → length (retried id n (x ∷ xs)) ≡ suc (length xs)
    at true e ih = rw (e, retried) (ap suc ih)
    at false e ih = rw (e, retried) (ap suc ih)

-- every message's attempts can be written in a line
Tries-insert : (m : Message) (ms : List Message) → m.attempts ≤ ATTEMPTS → Tries ms → Tries (insert m ms)
unfolding insert
Tries-insert m [] l t = (l, tt)
Tries-insert m (x ∷ xs) l t = at (ltb m.id x.id) refl (eqb m.id x.id) refl (Tries-insert m xs l t.1)
  where
    at : (p : Bool) → ltb m.id x.id ≡ p → (q : Bool) → eqb m.id x.id ≡ q → Tries (insert m xs)
        → Tries (insert m (x ∷ xs))
    at true e q f ih = rw (e, insert) (l, t)
    at false e true f ih = rw (e, insert) (rw f (l, t.1))
    at false e false f ih = rw (e, insert) (rw f (t.0, ih))

pub Tries-remove : (i : ℕ) (ms : List Message) → Tries ms → Tries (remove i ms)
unfolding remove
Tries-remove i [] t = tt
Tries-remove i (x ∷ xs) t = at (eqb x.id i) refl (Tries-remove i xs t.1)
  where
    at : (p : Bool) → eqb x.id i ≡ p → Tries (remove i xs) → Tries (remove i (x ∷ xs))
    at true e ih = rw (e, remove) ih
    at false e ih = rw (e, remove) (t.0, ih)

pub Tries-retried : (id n : ℕ) (ms : List Message) → n ≤ ATTEMPTS → Tries ms → Tries (retried id n ms)
unfolding retried
Tries-retried id n [] l t = tt
Tries-retried id n (x ∷ xs) l t = at (eqb x.id id) refl (Tries-retried id n xs l t.1)
  where
    at : (p : Bool) → eqb x.id id ≡ p → Tries (retried id n xs) → Tries (retried id n (x ∷ xs))
    at true e ih = rw (e, retried) (l, ih)
    at false e ih = rw (e, retried) (t.0, ih)

pub Tries-snoc : (m : Message) (ms : List Message) → m.attempts ≤ ATTEMPTS → Tries ms → Tries (ms ++ (m ∷ []))
Tries-snoc m [] l t = (l, tt)
Tries-snoc m (x ∷ xs) l t = (t.0, Tries-snoc m xs l t.1)

take_in_tries : (r : Read) (text : List ℕ) → Tries r.left → Tries (take_in r (read_line text)).left
unfolding take_in
take_in_tries r text t = at (read_line text) refl
  where
    at : (l : Line) → read_line text ≡ l → Tries (take_in r l).left
    at (put m) e =
        let fresh : m.attempts ≡ 0 = ((line_spelled text).is_record m e).fresh in
        Tries-insert m r.left (omega arith) t
    at (done i) e = Tries-remove i r.left t
    at (retry id n) e = Tries-retried id n r.left ((line_spelled text).is_retry id n e).few t
    at other e = t

pub read_lines_tries : (ts : List (List ℕ)) (r : Read) → Tries r.left → Tries (read_lines r ts).left
unfolding read_lines
read_lines_tries [] r t = t
read_lines_tries (x ∷ xs) r t = read_lines_tries xs (take_in r (read_line x)) (take_in_tries r x t)

-- what has been read is in rising order below the next id
abbrev pub InOrder : Read → Type 0
InOrder r = Rising 0 r.left r.next

pub take_in_in_order : (r : Read) (l : Line) → InOrder r → InOrder (take_in r l)
unfolding take_in
take_in_in_order r (put m) o = Rising-insert m r.left 0 r.next (omega arith) o
take_in_in_order r (done i) o = Rising-remove i r.left 0 r.next o
take_in_in_order r (retry id n) o = Rising-retried id n r.left 0 r.next o
take_in_in_order r other o = o

pub read_lines_in_order : (ts : List (List ℕ)) (r : Read) → InOrder r → InOrder (read_lines r ts)
unfolding read_lines
read_lines_in_order [] r o = o
read_lines_in_order (t ∷ ts) r o = read_lines_in_order ts (take_in r (read_line t)) (take_in_in_order r (read_line t) o)

-- both parts of a test
pub and_left : (a b : Bool) → (a && b) ≡ true → a ≡ true
and_left true b e = refl
and_left false b e = e

pub and_right : (a b : Bool) → (a && b) ≡ true → b ≡ true
and_right true b e = e
and_right false b e = cc

pub judge_good : (r : Read) → r.next < 2 ^ 64 → Small r.left → judge r ≡ opened r
unfolding judge
judge_good r h s = cc (lt-ltb r.next (2 ^ 64) h)

pub record Good (q r : Read) : Type 0 where
  pub same : q ≡ r
  pub next : q.next < 2 ^ 64
  pub small : Small q.left

pub judge_opened : (q r : Read) → judge q ≡ opened r → Good q r
unfolding judge
judge_opened q r e = at_next (ltb q.next (2 ^ 64)) refl
  where
    at_small : (t : Bool) → (leb (length q.left) 256 && all_fit q.left) ≡ t → ltb q.next (2 ^ 64) ≡ true
        → Good q r
    at_small true s p = record { same = cc; next = ltb-true q.next (2 ^ 64) p; small = s }
    at_small false s p = let z : ◌≡◌ {A = ℕ} 0 1 = cc in absurd (omega arith)

    at_next : (t : Bool) → ltb q.next (2 ^ 64) ≡ t → Good q r
    at_next true p = at_small (leb (length q.left) 256 && all_fit q.left) refl p
    at_next false p = let z : ◌≡◌ {A = ℕ} 0 1 = cc in absurd (omega arith)

pub length_remove : (i : ℕ) (ms : List Message) → length (remove i ms) ≤ length ms
unfolding remove
length_remove i [] = omega arith
length_remove i (x ∷ xs) = at (eqb x.id i) refl (length_remove i xs)
  where
    at : (t : Bool) → eqb x.id i ≡ t → length (remove i xs) ≤ length xs → length (remove i (x ∷ xs)) ≤ suc
        (length xs)
    at true e ih = rw (e, remove) (omega arith)
    at false e ih = rw (e, remove) (omega arith)

all_fit_remove : (i : ℕ) (ms : List Message) → all_fit ms ≡ true → all_fit (remove i ms) ≡ true
unfolding all_fit remove
all_fit_remove i [] f = refl
all_fit_remove i (x ∷ xs) f = at (eqb x.id i) refl (all_fit_remove i xs (and_right (fits x) (all_fit xs) f))
  where
    at : (t : Bool) → eqb x.id i ≡ t → all_fit (remove i xs) ≡ true → all_fit (remove i (x ∷ xs)) ≡ true
    at true e ih = cc
    at false e ih = cc (and_left (fits x) (all_fit xs) f)

all_fit_snoc : (m : Message) (ms : List Message) → all_fit ms ≡ true → fits m ≡ true → all_fit (ms ++ (m ∷ [])) ≡ true
unfolding all_fit
all_fit_snoc m [] f g = cc
all_fit_snoc m (x ∷ xs) f g = cc (
  and_left (fits x) (all_fit xs) f,
  all_fit_snoc m xs (and_right (fits x) (all_fit xs) f)
      g,
)

pub Small-remove : (i : ℕ) (ms : List Message) → Small ms → Small (remove i ms)
Small-remove i ms s =
    cc (
      all_fit_remove i ms (and_right (leb (length ms) 256) (all_fit ms) s),
      le-leb (length (remove i ms)) 256 (omega (
        arith,
        length_remove i ms,
        leb-true (length ms) 256
            (and_left (leb (length ms) 256) (all_fit ms) s),
      )),
    )

pub Small-snoc : (m : Message) (ms : List Message) → Small ms → length ms < 256 → fits m ≡ true
    → Small (ms ++ (m ∷ []))
Small-snoc m ms s h g =
    cc (
      all_fit_snoc m ms (and_right (leb (length ms) 256) (all_fit ms) s) g,
      le-leb (length (ms ++ (m ∷ []))) 256 (omega (arith, length-append ms (m ∷ []))),
    )

all_fit_retried : (id n : ℕ) (ms : List Message) → all_fit ms ≡ true → all_fit (retried id n ms) ≡ true
unfolding all_fit retried fits
all_fit_retried id n [] f = refl
all_fit_retried id n (x ∷ xs) f = at (eqb x.id id) refl (all_fit_retried id n xs (and_right (fits x) (all_fit xs) f))
  where
    at : (t : Bool) → eqb x.id id ≡ t → all_fit (retried id n xs) ≡ true → all_fit (retried id n (x ∷ xs)) ≡ true
    at true e ih = rw (e, retried) (ap (λ b. fits x && b) ih ∙ cc (and_left (fits x) (all_fit xs) f))
    at false e ih = rw (e, retried) (ap (λ b. fits x && b) ih ∙ cc (and_left (fits x) (all_fit xs) f))

pub Small-retried : (id n : ℕ) (ms : List Message) → Small ms → Small (retried id n ms)
Small-retried id n ms s =
    cc (
      all_fit_retried id n ms (and_right (leb (length ms) 256) (all_fit ms) s),
      ap (λ k. leb k 256) (length_retried id n ms),
      and_left (leb (length ms) 256) (all_fit ms) s,
    )

-- a message's retry line, as a list of lines
unfoldable pub attempts_texts : ℕ → ℕ → List (List ℕ)
attempts_texts id n = elim (eqb n 0) [ true ↦ [] | false ↦ retry_text id n ∷ [] ]

-- the image of messages in rising order is read as those messages
unfoldable pub texts : List Message → List (List ℕ)
texts [] = []
texts (m ∷ ms) = record_text m ∷ (attempts_texts m.id m.attempts ++ texts ms)

attempts_joined : (id n : ℕ) (us : List (List ℕ)) → joined (attempts_texts id n ++ us) ≡ attempts_line id n ++ joined us
unfolding attempts_texts attempts_line joined retry_line
attempts_joined id n us = at (eqb n 0)
  where
    at : (b : Bool) → joined (elim b [ true ↦ [] | false ↦ retry_text id n ∷ [] ] ++ us)
        ≡ elim b [ true ↦ [] | false ↦ line (retry_text id n) ] ++ joined us
    at true = refl
    at false = refl

attempts_free : (id n : ℕ) (us : List (List ℕ)) → FreeAll us → FreeAll (attempts_texts id n ++ us)
unfolding attempts_texts
attempts_free id n us f = at (eqb n 0)
  where
    at : (b : Bool) → FreeAll (elim b [ true ↦ [] | false ↦ retry_text id n ∷ [] ] ++ us)
    at true = f
    at false = (retry_text_free id n, f)

pub image_joined : (ms : List Message) → image ms ≡ joined (texts ms)
unfolding image joined texts record_line message_lines
image_joined [] = refl
image_joined (m ∷ ms) =
    append_assoc (line (record_text m)) (attempts_line m.id m.attempts) (image ms)
    ∙ ap (λ r. line (record_text m) ++ r)
    (ap (λ r. attempts_line m.id m.attempts ++ r) (image_joined ms)
    ∙ sym (attempts_joined m.id m.attempts (texts ms)))

pub image_snoc : (ms : List Message) (m : Message) → image (ms ++ (m ∷ [])) ≡ image ms ++ message_lines m
unfolding image
image_snoc [] m = append-nil (message_lines m)
image_snoc (x ∷ ms) m = rw append_assoc (cc (image_snoc ms m))

-- a message that was not tried is its record
pub untried_lines : (m : Message) → m.attempts ≡ 0 → message_lines m ≡ record_line m
unfolding message_lines attempts_line
untried_lines m e = ap (λ n. record_line m ++ attempts_line m.id n) e ∙ append-nil (record_line m)

pub texts_free : (ms : List Message) → FreeAll (texts ms)
unfolding texts
texts_free [] = tt
texts_free (m ∷ ms) =
    (record_text_free m, attempts_free m.id m.attempts (texts ms) (texts_free ms))

-- a message read behind those with smaller ids: its record, then its retry line, if it has one
unfoldable pub behind_read : Read → Message → Read
behind_read r m = record { left = r.left ++ (m ∷ []); next = max r.next (suc m.id) }

retried_last_lem : (m : Message) (ms : List Message) (low : ℕ) → Rising 0 ms low → low ≤ m.id
    → retried m.id m.attempts (ms ++ (tried_times m 0 ∷ [])) ≡ ms ++ (m ∷ [])
unfolding retried
retried_last_lem m ms low r l =
    retried_append m.id m.attempts ms (tried_times m 0 ∷ [])
    ∙ cc (retried_below m.id m.attempts ms 0 low l r, eq-eqb m.id m.id refl)

read_message : (m : Message) (r : Read) (us : List (List ℕ)) (low : ℕ) → m.id < 2 ^ 64 → m.attempts ≤ ATTEMPTS
    → Rising 0 r.left low → low ≤ m.id
    → read_lines r (record_text m ∷ (attempts_texts m.id m.attempts ++ us)) ≡ read_lines (behind_read r m) us
unfolding read_lines take_in attempts_texts behind_read
read_message m r us low h l o b = at (eqb m.attempts 0) refl
  where
    first : insert (tried_times m 0) r.left ≡ r.left ++ (tried_times m 0 ∷ [])
    first = insert_last (tried_times m 0) r.left 0 low b o

    at : (t : Bool) → eqb m.attempts 0 ≡ t
        → read_lines (take_in r (read_line (record_text m)))
        (elim t [ true ↦ [] | false ↦ retry_text m.id m.attempts ∷ [] ] ++ us) ≡ read_lines (behind_read r m) us
    at true e =
        let zero : m.attempts ≡ 0 = eqb-true m.attempts 0 e in
        let same : tried_times m 0 ≡ m = rw (← zero) refl in
        let is : take_in r (read_line (record_text m)) ≡ behind_read r m = rw (read_line_record m h, first, same) refl in
        ap (λ q. read_lines q us) is
    at false e =
        let one : take_in r (read_line (record_text m)) ≡ behind_read r (tried_times m 0) =
        rw (read_line_record m h, first) refl in
        let two : take_in (behind_read r (tried_times m 0)) (read_line (retry_text m.id m.attempts))
        ≡ behind_read r m = rw (read_line_retry m.id m.attempts h l, retried_last_lem m r.left low o b) refl in
        ap (λ q. read_lines (take_in q (read_line (retry_text m.id m.attempts))) us) one
        ∙ ap (λ q. read_lines q us) two

pub read_texts_left : (ms : List Message) (r : Read) (low high : ℕ) → high ≤ 2 ^ 64 → Tries ms → Rising 0 r.left low
    → Rising low ms high → (read_lines r (texts ms)).left ≡ r.left ++ ms
unfolding read_lines texts behind_read
read_texts_left [] r low high h t a b = sym (append-nil r.left)
read_texts_left (m ∷ ms) r low high h t a b =
    let fit : m.id < 2 ^ 64 = omega (arith, Rising-le ms (suc m.id) high b.1) in
    ap (λ s. s.left) (read_message m r (texts ms) low fit t.0 a b.0)
    ∙ (read_texts_left ms (behind_read r m) (suc m.id) high h t.1 (Rising-snoc m r.left 0 low b.0 a) b.1
    ∙ append_assoc r.left (m ∷ []) ms)

pub read_texts_next : (ms : List Message) (r : Read) (low high : ℕ) → high ≤ 2 ^ 64 → Tries ms → Rising 0 r.left low
    → r.next ≤ high → Rising low ms high → (read_lines r (texts ms)).next ≤ high
unfolding read_lines texts behind_read
read_texts_next [] r low high h t a n b = n
read_texts_next (m ∷ ms) r low high h t a n b =
    let top : suc m.id ≤ high = Rising-le ms (suc m.id) high b.1 in
    omega (
      arith,
      ap (λ s. s.next) (read_message m r (texts ms) low (omega arith) t.0 a b.0),
      read_texts_next ms (behind_read r m) (suc m.id) high h t.1 (Rising-snoc m r.left 0 low b.0 a)
          (omega arith) b.1,
    )
