-- One spelling for an id: what is read as a number is exactly what the number is printed as.
use Rattle.std.specs.Prelude.{Option, Some, None}
use mathlib.Core.Path.{◌≡◌, refl, ap, sym, ◌∙◌, subst}
use mathlib.Core.Bool.{Bool, true, false}
use mathlib.Core.List.{List, [], ◌∷◌, ◌++◌, append_assoc, append-nil}
use Prim.Native.Nat.{ℕ, zero, suc, ◌+◌, ◌-◌, ◌*◌, ◌/◌, ◌%◌, ◌^◌, ◌≤◌, ◌<◌}
use native.Mathlib.Omega.{arith}
use borrow.Author.Tests.{ltb-true, ltb-false, leb-true, eqb-false, lt-ltb, le-leb, ne_eqb}
use lib.Dec.{leb, ltb}
use lib.ListN.{length, get_or}
use Rattle.text.specs.Format.{DIGIT0, digits, print_id, decimal, below64, read_digits, leading_zero, read_id}
use Rattle.text.specs.Format.{OneSpelling, Message, ATTEMPTS, fields}
use Rattle.text.specs.Line.{Line, put, done, retry, other, put_of, done_of, attempts_of, read_fields, read_line}
use Rattle.text.specs.Line.{FieldsOf, RetryFields, LineSpelled, Unspelled, first_text}
use Rattle.text.proofs.Bridge.{decimal_head, decimal_grows}
use Rattle.text.proofs.FormatLaws.{digits_say, digits_there}
use Rattle.text.proofs.IdLaws.{read_start, zero_short, zero_first, read_id_digits}
use Rattle.text.proofs.IdLaws.{print_one, print_more, length_one, length_more, print_there}

-- a number above 0 is printed with a first digit above 0
first_of : (d : ℕ) (bs : List ℕ) → 0 < length bs → get_or (bs ++ (d ∷ [])) 0 0 ≡ get_or bs 0 0
first_of d [] h = absurd (omega arith)
first_of d (b ∷ bs) h = refl

digits_first : (places n : ℕ) → 0 < n → n < 10 ^ suc places → DIGIT0 < get_or (digits (suc places) n) 0 0
unfolding digits
digits_first zero n p h = rw (lt-ltb n 10 (omega arith), digits) (omega arith)
digits_first (suc places) n p h = at (ltb n 10) refl (digits_first places (n / 10))
  where
    at : (t : Bool) → ltb n 10 ≡ t
        → (0 < n / 10 → n / 10 < 10 ^ suc places → DIGIT0 < get_or (digits (suc places) (n / 10)) 0 0)
        → DIGIT0 < get_or (digits (suc (suc places)) n) 0 0
    at true e ih = rw (e, digits) (omega arith)
    at false e ih =
        let l : 10 ≤ n = ltb-false n 10 e in
        rw (e, digits) (rw (first_of (DIGIT0 + n % 10) (digits (suc places) (n / 10)) (digits_there places (n / 10)))
        (ih (omega arith) (omega arith)))

print_first : (n : ℕ) → 0 < n → n < 2 ^ 64 → DIGIT0 < get_or (print_id n) 0 0
unfolding print_id
print_first n p l = digits_first 19 n p (omega arith)

print_zero : (n : ℕ) → n < 2 ^ 64 → leading_zero (print_id n) ≡ false
print_zero n l = at (ltb n 10) refl
  where
    at : (t : Bool) → ltb n 10 ≡ t → leading_zero (print_id n) ≡ false
    at true e = zero_short (print_id n) (omega (arith, length_one n (ltb-true n 10 e)))
    at false e =
        let more : 10 ≤ n = ltb-false n 10 e in
        let first : DIGIT0 < get_or (print_id n) 0 0 = print_first n (omega arith) l in
        zero_first (print_id n) (omega (arith, length_more n more l, print_there (n / 10) (omega arith)))
        ∙ ne_eqb (get_or (print_id n) 0 0) DIGIT0 (omega arith)

-- what is printed is read again
pub read_id_print_id : (n : ℕ) → n < 2 ^ 64 → read_id (print_id n) ≡ Some n
unfolding print_id below64
read_id_print_id n l =
    let there : 0 < length (print_id n) = print_there n l in
    let read : below64 (decimal 0 (print_id n)) ≡ read_digits (print_id n) = read_start (print_id n) (λ e. omega arith) in
    read_id_digits (print_id n) (print_zero n l) ∙ cc (read, digits_say 20 n (omega arith), lt-ltb n (2 ^ 64) l)

-- a digit read behind a number above 0 is printed behind it, and so are any number of them
print_digit : (high b : ℕ) → 0 < high → DIGIT0 ≤ b → b < DIGIT0 + 10 → high * 10 + (b - DIGIT0) < 2 ^ 64
    → print_id (high * 10 + (b - DIGIT0)) ≡ print_id high ++ (b ∷ [])
print_digit high b h low top l =
    let n = high * 10 + (b - DIGIT0) in
    let over : n / 10 ≡ high = omega arith in
    let last : DIGIT0 + n % 10 ≡ b = omega arith in
    cc (print_more n (omega arith) l, over, last)

print_behind : (bs : List ℕ) (high n : ℕ) → 0 < high → n < 2 ^ 64 → decimal high bs ≡ Some n
    → print_id n ≡ print_id high ++ bs
unfolding decimal
print_behind [] high n h l e = let same : high ≡ n = cc in cc (append-nil (print_id high))
print_behind (b ∷ bs) high n h l e =
    let d = decimal_head high b bs n e in
    let more = high * 10 + (b - DIGIT0) in
    let below : more < 2 ^ 64 = omega (arith, decimal_grows bs more n d.2) in
    print_behind bs more n (omega arith) l d.2 ∙ ap (λ t. t ++ bs) (print_digit high b h d.0 d.1 below)
    ∙ append_assoc (print_id high) (b ∷ []) bs

print_head : (b : ℕ) → DIGIT0 ≤ b → b < DIGIT0 + 10 → print_id (b - DIGIT0) ≡ b ∷ []
print_head b low top =
    let back : DIGIT0 + (b - DIGIT0) ≡ b = omega arith in cc (print_one (b - DIGIT0) (omega arith), back)

spelled : (text : List ℕ) (n : ℕ) → 0 < length text → leading_zero text ≡ false → decimal 0 text ≡ Some n → n < 2 ^ 64
    → text ≡ print_id n
unfolding decimal
spelled [] n h z e l = absurd (omega arith)
spelled (b ∷ []) n h z e l =
    let d = decimal_head 0 b [] n e in
    let same : 0 * 10 + (b - DIGIT0) ≡ n = cc d.2 in
    let value : b - DIGIT0 ≡ n = omega arith in
    cc (print_head b d.0 d.1)
spelled (b ∷ c ∷ bs) n h z e l =
    let d = decimal_head 0 b (c ∷ bs) n e in
    let value : 0 * 10 + (b - DIGIT0) ≡ b - DIGIT0 = omega arith in
    let rest : decimal (b - DIGIT0) (c ∷ bs) ≡ Some n = cc d.2 in
    let head : print_id (b - DIGIT0) ≡ b ∷ [] = print_head b d.0 d.1 in
    let above : b ≡ DIGIT0 → ⊥ = eqb-false b DIGIT0 z in
    sym (print_behind (c ∷ bs) (b - DIGIT0) n (omega arith) l rest ∙ ap (λ t. t ++ (c ∷ bs)) head)

-- what was read: digits of a value below 2 ^ 64, without a leading zero
below_says : (o : Option ℕ) (n : ℕ) → below64 o ≡ Some n → (o ≡ Some n) × (n < 2 ^ 64)
unfolding below64
below_says None n e = let z : ◌≡◌ {A = ℕ} 0 1 = cc in absurd (omega arith)
below_says (Some k) n e = at (ltb k (2 ^ 64)) refl
  where
    at : (t : Bool) → ltb k (2 ^ 64) ≡ t → (Some k ≡ Some n) × (n < 2 ^ 64)
    at true p = let same : k ≡ n = cc in (cc, omega (arith, ltb-true k (2 ^ 64) p))
    at false p = let z : ◌≡◌ {A = ℕ} 0 1 = cc in absurd (omega arith)

-- what `read_id` has found of a text that it reads as n
record Found (text : List ℕ) (n : ℕ) : Type 0 where
  printed : text ≡ print_id n
  below : n < 2 ^ 64
  says : decimal 0 text ≡ Some n
  plain : leading_zero text ≡ false

digits_found : (text : List ℕ) (n : ℕ) → leading_zero text ≡ false → read_digits text ≡ Some n → Found text n
unfolding read_digits
digits_found [] n h e = let z : ◌≡◌ {A = ℕ} 0 1 = cc in absurd (omega arith)
digits_found (b ∷ bs) n h e =
    let value = below_says (decimal 0 (b ∷ bs)) n e in
    record {
      printed = spelled (b ∷ bs) n (omega arith) h value.0 value.1;
      below = value.1;
      says = value.0;
      plain = h;
    }

found : (text : List ℕ) (n : ℕ) → read_id text ≡ Some n → Found text n
unfolding read_id
found text n e = at (leading_zero text) refl
  where
    at : (t : Bool) → leading_zero text ≡ t → Found text n
    at true p = let z : ◌≡◌ {A = ℕ} 0 1 = cc in absurd (omega arith)
    at false p = digits_found text n p (cc)

pub one_spelling : (text : List ℕ) (n : ℕ) → OneSpelling text n
one_spelling text n = record {
  printed = λ e. (found text n e).printed;
  below = λ e. (found text n e).below;
  read = λ e l. ap read_id e ∙ read_id_print_id n l;
  says = λ e. (found text n e).says;
  plain = λ e. (found text n e).plain;
}

-- so an id is printed as long as the text that it was read from
pub read_id_length : (text : List ℕ) (n : ℕ) → read_id text ≡ Some n → length (print_id n) ≡ length text
read_id_length text n e = ap length (sym ((one_spelling text n).printed e))

-- what one field, and what three fields say
one_done : (o : Option ℕ) (n : ℕ) → done_of o ≡ done n → o ≡ Some n
unfolding done_of
one_done None n e = let z : ◌≡◌ {A = ℕ} 0 1 = cc in absurd (omega arith)
one_done (Some id) n e = let same : id ≡ n = cc in cc

one_put : (o : Option ℕ) (m : Message) → done_of o ≡ put m → ⊥
unfolding done_of
one_put None m e = let z : ◌≡◌ {A = ℕ} 0 1 = cc in omega arith
one_put (Some id) m e = let z : ◌≡◌ {A = ℕ} 0 1 = cc in omega arith

one_retry : (o : Option ℕ) (id n : ℕ) → done_of o ≡ retry id n → ⊥
unfolding done_of
one_retry None id n e = let z : ◌≡◌ {A = ℕ} 0 1 = cc in omega arith
one_retry (Some x) id n e = let z : ◌≡◌ {A = ℕ} 0 1 = cc in omega arith

-- what two fields say: an id's attempts or nothing
two_rule : (P : Line → Type 0) → ((id n : ℕ) → P (retry id n)) → P other → (o p : Option ℕ) → P (attempts_of o p)
unfolding attempts_of
two_rule P told nothing None p = nothing
two_rule P told nothing (Some id) None = nothing
two_rule P told nothing (Some id) (Some n) = at (leb n ATTEMPTS)
  where
    at : (t : Bool) → P (elim t [ true ↦ retry id n | false ↦ other ])
    at true = told id n
    at false = nothing

two_done : (o p : Option ℕ) (n : ℕ) → attempts_of o p ≡ done n → ⊥
two_done o p n =
    two_rule (λ l. l ≡ done n → ⊥) (λ id k e. let z : ◌≡◌ {A = ℕ} 0 1 = cc in omega arith)
    (λ e. let z : ◌≡◌ {A = ℕ} 0 1 = cc in omega arith) o p

pub two_put : (o p : Option ℕ) (m : Message) → attempts_of o p ≡ put m → ⊥
two_put o p m =
    two_rule (λ l. l ≡ put m → ⊥) (λ id k e. let z : ◌≡◌ {A = ℕ} 0 1 = cc in omega arith)
    (λ e. let z : ◌≡◌ {A = ℕ} 0 1 = cc in omega arith) o p

two_retry : (a b : List ℕ) (id n : ℕ) (o p : Option ℕ) → read_id a ≡ o → read_id b ≡ p → attempts_of o p ≡ retry id n
    → RetryFields id n (a ∷ b ∷ [])
unfolding attempts_of
two_retry a b id n None p q r e = let z : ◌≡◌ {A = ℕ} 0 1 = cc in absurd (omega arith)
two_retry a b id n (Some x) None q r e = let z : ◌≡◌ {A = ℕ} 0 1 = cc in absurd (omega arith)
two_retry a b id n (Some x) (Some k) q r e = at (leb k ATTEMPTS) refl
  where
    at : (t : Bool) → leb k ATTEMPTS ≡ t → RetryFields id n (a ∷ b ∷ [])
    at true l =
        let same : x ≡ id = cc in
        let tried : k ≡ n = cc in
        let first : OneSpelling a x = one_spelling a x in
        let second : OneSpelling b k = one_spelling b k in
        record {
          two = cc (first.printed q, second.printed r, same, tried);
          below = subst (λ y. y < 2 ^ 64) same (first.below q);
          few = subst (λ y. y ≤ ATTEMPTS) tried (leb-true k ATTEMPTS l);
        }
    at false l = let z : ◌≡◌ {A = ℕ} 0 1 = cc in absurd (omega arith)

three_retry : (o : Option ℕ) (b c : List ℕ) (id n : ℕ) → put_of o b c ≡ retry id n → ⊥
unfolding put_of
three_retry None b c id n e = let z : ◌≡◌ {A = ℕ} 0 1 = cc in omega arith
three_retry (Some x) b c id n e = let z : ◌≡◌ {A = ℕ} 0 1 = cc in omega arith

three_done : (o : Option ℕ) (b c : List ℕ) (n : ℕ) → put_of o b c ≡ done n → ⊥
unfolding put_of
three_done None b c n e = let z : ◌≡◌ {A = ℕ} 0 1 = cc in omega arith
three_done (Some id) b c n e = let z : ◌≡◌ {A = ℕ} 0 1 = cc in omega arith

three_put : (a b c : List ℕ) (m : Message) (o : Option ℕ) → read_id a ≡ o → put_of o b c ≡ put m
    → FieldsOf m (a ∷ b ∷ c ∷ [])
unfolding put_of
three_put a b c m None p e = let z : ◌≡◌ {A = ℕ} 0 1 = cc in absurd (omega arith)
three_put a b c m (Some id) p e =
    let same : m.id ≡ id = cc in
    let read : OneSpelling a id = one_spelling a id in
    record {
      name = b;
      body = c;
      three = cc (read.printed p, same);
      below = rw same (read.below p);
      named = cc;
      says = cc;
      fresh = cc;
    }

module _ (text : List ℕ) where
  done_fields : (n : ℕ) (fs : List (List ℕ)) → read_fields fs ≡ done n → (fs ≡ print_id n ∷ []) × (n < 2 ^ 64)
  unfolding read_fields
  done_fields n [] e = let z : ◌≡◌ {A = ℕ} 0 1 = cc in absurd (omega arith)
  done_fields n (a ∷ []) e =
      let read = one_spelling a n in
      let is : read_id a ≡ Some n = one_done (read_id a) n e in
      (ap {B = List (List ℕ)} (λ t. t ∷ []) (read.printed is), read.below is)
  done_fields n (a ∷ b ∷ []) e = absurd (two_done (read_id a) (read_id b) n e)
  done_fields n (a ∷ b ∷ c ∷ []) e = absurd (three_done (read_id a) b c n e)
  done_fields n (a ∷ b ∷ c ∷ d ∷ rest) e = let z : ◌≡◌ {A = ℕ} 0 1 = cc in absurd (omega arith)

  record_fields : (m : Message) (fs : List (List ℕ)) → read_fields fs ≡ put m → FieldsOf m fs
  unfolding read_fields
  record_fields m [] e = let z : ◌≡◌ {A = ℕ} 0 1 = cc in absurd (omega arith)
  record_fields m (a ∷ []) e = absurd (one_put (read_id a) m e)
  record_fields m (a ∷ b ∷ []) e = absurd (two_put (read_id a) (read_id b) m e)
  record_fields m (a ∷ b ∷ c ∷ []) e = three_put a b c m (read_id a) refl e
  record_fields m (a ∷ b ∷ c ∷ d ∷ rest) e = let z : ◌≡◌ {A = ℕ} 0 1 = cc in absurd (omega arith)

  retry_fields : (id n : ℕ) (fs : List (List ℕ)) → read_fields fs ≡ retry id n → RetryFields id n fs
  unfolding read_fields
  retry_fields id n [] e = let z : ◌≡◌ {A = ℕ} 0 1 = cc in absurd (omega arith)
  retry_fields id n (a ∷ []) e = absurd (one_retry (read_id a) id n e)
  retry_fields id n (a ∷ b ∷ []) e = two_retry a b id n (read_id a) (read_id b) refl refl e
  retry_fields id n (a ∷ b ∷ c ∷ []) e = absurd (three_retry (read_id a) b c id n e)
  retry_fields id n (a ∷ b ∷ c ∷ d ∷ rest) e = let z : ◌≡◌ {A = ℕ} 0 1 = cc in absurd (omega arith)

  retry_back : (id n : ℕ) → RetryFields id n (fields text) → read_line text ≡ retry id n
  unfolding read_line read_fields attempts_of
  retry_back id n are =
      cc (
        are.two,
        read_id_print_id id are.below,
        read_id_print_id n (omega (arith, are.few)),
        le-leb n ATTEMPTS are.few,
      )

  done_back : (n : ℕ) → fields text ≡ print_id n ∷ [] → n < 2 ^ 64 → read_line text ≡ done n
  unfolding read_line read_fields done_of
  done_back n are l = cc (are, read_id_print_id n l)

  record_back : (m : Message) → FieldsOf m (fields text) → read_line text ≡ put m
  unfolding read_line read_fields put_of
  record_back m are = rw are.three (rw (read_id_print_id m.id are.below) (rw (
    sym are.named,
    sym are.says,
    sym are.fresh,
  ) refl))

  pub line_spelled : LineSpelled text
  unfolding read_line
  line_spelled = record {
    is_done = λ n. done_fields n (fields text);
    done_is = done_back;
    is_retry = λ id n. retry_fields id n (fields text);
    retry_is = retry_back;
    is_record = λ m. record_fields m (fields text);
    record_is = record_back;
  }

-- so a line whose first field is no id's spelling says nothing
pub unspelled : (text : List ℕ) → Unspelled text → read_line text ≡ other
unspelled text strange = at (read_line text) refl
  where
    at : (l : Line) → read_line text ≡ l → read_line text ≡ other
    at (put m) e =
        let are = (line_spelled text).is_record m e in
        absurd (strange m.id are.below (ap first_text are.three))
    at (done n) e =
        let are = (line_spelled text).is_done n e in
        absurd (strange n are.1 (ap first_text are.0))
    at (retry id n) e =
        let are = (line_spelled text).is_retry id n e in
        absurd (strange id are.below (ap first_text are.two))
    at other e = e
