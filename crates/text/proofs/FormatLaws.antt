-- Laws of the log's text.
use Rattle.std.specs.Prelude.{Some}
use mathlib.Core.Path.{◌≡◌, refl, ap, ◌∙◌}
use mathlib.Core.Bool.{Bool, true, false}
use mathlib.Core.List.{List, [], ◌∷◌, ◌++◌, append_assoc}
use Prim.Native.Nat.{ℕ, zero, suc, ◌+◌, ◌-◌, ◌*◌, ◌/◌, ◌%◌, ◌^◌, ◌≤◌, ◌<◌}
use native.Mathlib.Omega.{arith}
use borrow.Author.Tests.{ltb-true, eqb-true, lt-ltb, le-leb, eq-eqb, ne_eqb}
use lib.Dec.{eqb, leb, ltb}
use lib.ListN.{length, length-append}
use Rattle.text.specs.Bytes.{All, Free}
use Rattle.text.specs.Format.{TAB, LF, DIGIT0, BACKSLASH, escape_byte, escape}
use Rattle.text.specs.Format.{Message, record_text, retry_text, escaped}
use Rattle.text.specs.Format.{unescape, digits, print_id, decimal, line, join_head}
use Rattle.text.specs.Format.{split, all_but_last, lines, fields}
use Rattle.text.proofs.Bridge.{decimal_head}

-- unescape gives back what was escaped
unescape_byte : (b : ℕ) (rest : List ℕ) → unescape (escape_byte b ++ rest) ≡ b ∷ unescape rest
unfolding escape_byte unescape escaped
unescape_byte b rest = at_backslash (eqb b BACKSLASH) refl
  where
    at_lf : (t : Bool) → eqb b LF ≡ t → eqb b BACKSLASH ≡ false → eqb b TAB ≡ false → unescape (escape_byte b ++ rest)
        ≡ b ∷ unescape rest
    at_lf true e p q = cc (eqb-true b LF e)
    at_lf false e p q = cc

    at_tab : (t : Bool) → eqb b TAB ≡ t → eqb b BACKSLASH ≡ false → unescape (escape_byte b ++ rest) ≡ b ∷ unescape rest
    at_tab true e p = cc (eqb-true b TAB e)
    at_tab false e p = at_lf (eqb b LF) refl p e

    at_backslash : (t : Bool) → eqb b BACKSLASH ≡ t → unescape (escape_byte b ++ rest) ≡ b ∷ unescape rest
    at_backslash true e = cc (eqb-true b BACKSLASH e)
    at_backslash false e = at_tab (eqb b TAB) refl e

pub unescape_escape : (text : List ℕ) → unescape (escape text) ≡ text
unfolding escape unescape
unescape_escape [] = refl
unescape_escape (b ∷ bs) = unescape_byte b (escape bs) ∙ ap {B = List ℕ} (λ r. b ∷ r) (unescape_escape bs)

pub All-append : (P : ℕ → Type 0) (x y : List ℕ) → All P x → All P y → All P (x ++ y)
All-append P [] y p q = q
All-append P (b ∷ bs) y p q = (p.0, All-append P bs y p.1 q)

pub All-map : (P Q : ℕ → Type 0) → ((b : ℕ) → P b → Q b) → (x : List ℕ) → All P x → All Q x
All-map P Q f [] p = tt
All-map P Q f (b ∷ bs) p = (f b p.0, All-map P Q f bs p.1)

-- a byte that separates neither fields nor lines
abbrev pub Plain : ℕ → Type 0
Plain b = (eqb b TAB ≡ false) × (eqb b LF ≡ false)

escape_byte_plain : (b : ℕ) → All Plain (escape_byte b)
unfolding escape_byte
escape_byte_plain b = at_backslash (eqb b BACKSLASH) refl
  where
    at_lf : (t : Bool) → eqb b LF ≡ t → eqb b BACKSLASH ≡ false → eqb b TAB ≡ false → All Plain (escape_byte b)
    at_lf true e p q = rw (p, escape_byte) (rw q (rw e ((refl, refl), ((refl, refl), tt))))
    at_lf false e p q = rw (p, escape_byte) (rw q (rw e ((q, e), tt)))

    at_tab : (t : Bool) → eqb b TAB ≡ t → eqb b BACKSLASH ≡ false → All Plain (escape_byte b)
    at_tab true e p = rw (p, escape_byte) (rw e ((refl, refl), ((refl, refl), tt)))
    at_tab false e p = at_lf (eqb b LF) refl p e

    at_backslash : (t : Bool) → eqb b BACKSLASH ≡ t → All Plain (escape_byte b)
    at_backslash true e = rw (e, escape_byte) ((refl, refl), ((refl, refl), tt))
    at_backslash false e = at_tab (eqb b TAB) refl e

pub escape_plain : (text : List ℕ) → All Plain (escape text)
unfolding escape
escape_plain [] = tt
escape_plain (b ∷ bs) = All-append Plain (escape_byte b) (escape bs) (escape_byte_plain b) (escape_plain bs)

-- decimal numbers
decimal_digit : (high d : ℕ) (rest : List ℕ) → d < 10 → decimal high ((DIGIT0 + d) ∷ rest)
    ≡ decimal (high * 10 + d) rest
unfolding decimal
decimal_digit high d rest h =
    let p : leb DIGIT0 (DIGIT0 + d) ≡ true = le-leb DIGIT0 (DIGIT0 + d) (omega arith) in
    let q : ltb (DIGIT0 + d) (DIGIT0 + 10) ≡ true = lt-ltb (DIGIT0 + d) (DIGIT0 + 10) (omega arith) in
    let r : (DIGIT0 + d) - DIGIT0 ≡ d = omega arith in
    cc

decimal_snoc : (bs : List ℕ) (high v d : ℕ) → d < 10 → decimal high bs ≡ Some v
    → decimal high (bs ++ ((DIGIT0 + d) ∷ [])) ≡ Some (v * 10 + d)
unfolding decimal
decimal_snoc [] high v d h e = let q : high ≡ v = cc in cc (decimal_digit high d [] h)
decimal_snoc (b ∷ bs) high v d h e =
    let head = decimal_head high b bs v e in
    cc (
      le-leb DIGIT0 b head.0,
      lt-ltb b (DIGIT0 + 10) head.1,
      decimal_snoc bs (high * 10 + (b - DIGIT0)) v d h head.2,
    )

-- the digits say the number, are there, and are digits
abbrev pub Digit : ℕ → Type 0
Digit b = DIGIT0 ≤ b

pub digits_say : (places n : ℕ) → n < 10 ^ places → decimal 0 (digits places n) ≡ Some n
unfolding digits decimal
digits_say zero n h = let z : n ≡ 0 = omega arith in cc
digits_say (suc places) n h = at (ltb n 10) refl (digits_say places (n / 10))
  where
    at : (t : Bool) → ltb n 10 ≡ t → (n / 10 < 10 ^ places → decimal 0 (digits places (n / 10)) ≡ Some (n / 10))
        → decimal 0 (digits (suc places) n) ≡ Some n
    at true e ih = let z : 0 * 10 + n ≡ n = omega arith in cc (decimal_digit 0 n [] (ltb-true n 10 e))
    at false e ih = let s : n / 10 * 10 + n % 10 ≡ n = omega arith in
        cc (decimal_snoc (digits places (n / 10)) 0 (n / 10) (n % 10) (omega arith) (ih (omega arith)))

pub digits_there : (places n : ℕ) → 0 < length (digits (suc places) n)
unfolding digits
digits_there places n = at (ltb n 10) refl
  where
    at : (t : Bool) → ltb n 10 ≡ t → 0 < length (digits (suc places) n)
    at true e = rw (e, digits) (omega arith)
    at false e = rw (e, digits) (simp length-append (omega arith))

digits_digits : (places n : ℕ) → All Digit (digits places n)
unfolding digits
digits_digits zero n = tt
digits_digits (suc places) n = at (ltb n 10) refl (digits_digits places (n / 10))
  where
    at : (t : Bool) → ltb n 10 ≡ t → All Digit (digits places (n / 10)) → All Digit (digits (suc places) n)
    at true e ih = rw (e, digits) (omega arith, tt)
    at false e ih = rw (e, digits) (All-append Digit (digits places (n / 10)) ((DIGIT0 + n % 10) ∷ []) ih (
      omega arith,
      tt,
    ))

Digit-plain : (b : ℕ) → Digit b → Plain b
Digit-plain b h = (ne_eqb b TAB (omega arith), ne_eqb b LF (omega arith))

pub print_id_plain : (n : ℕ) → All Plain (print_id n)
unfolding print_id
print_id_plain n = All-map Digit Plain Digit-plain (digits 20 n) (digits_digits 20 n)

-- pieces: a text without the separator, followed by the separator, is the first piece
pub split_piece : (sep : ℕ) (p rest : List ℕ) → Free sep p → split sep (p ++ sep ∷ rest) ≡ p ∷ split sep rest
unfolding split join_head
split_piece sep [] rest f = cc (eq-eqb sep sep refl)
split_piece sep (b ∷ p) rest f = let e : eqb b sep ≡ false = f.0 in cc (split_piece sep p rest f.1)

pub split_last : (sep : ℕ) (p : List ℕ) → Free sep p → split sep p ≡ p ∷ []
unfolding split join_head
split_last sep [] f = refl
split_last sep (b ∷ p) f = let e : eqb b sep ≡ false = f.0 in cc (split_last sep p f.1)

pub split_some : (sep : ℕ) (t : List ℕ) → 0 < length (split sep t)
unfolding split join_head
split_some sep [] = omega arith
split_some sep (b ∷ t) = at (eqb b sep) refl (split sep t) refl
  where
    at : (c : Bool) → eqb b sep ≡ c → (ps : List (List ℕ)) → split sep t ≡ ps → 0 < length (split sep (b ∷ t))
    at true e ps q = rw (e, split) (omega arith)
    at false e [] q = rw (e, split) (rw q (omega arith))
    at false e (p ∷ ps) q = rw (e, split) (rw q (omega arith))

all_but_last_cons : (p : List ℕ) (ps : List (List ℕ)) → 0 < length ps → all_but_last (p ∷ ps) ≡ p ∷ all_but_last ps
unfolding all_but_last
all_but_last_cons p [] h = absurd (omega arith)
all_but_last_cons p (q ∷ ps) h = refl

-- a line first; and a piece without LF is no line
pub lines_line : (text rest : List ℕ) → Free LF text → lines (line text ++ rest) ≡ text ∷ lines rest
unfolding lines line
lines_line text rest f = rw append_assoc (cc (
  split_piece LF text rest f,
  all_but_last_cons text (split LF rest)
      (split_some LF rest),
))

pub lines_torn : (text : List ℕ) → Free LF text → lines text ≡ []
unfolding lines all_but_last
lines_torn text f = cc (split_last LF text f)

plain_tab : (t : List ℕ) → All Plain t → Free TAB t
plain_tab t p = All-map Plain (λ b. eqb b TAB ≡ false) (λ b h. h.0) t p

plain_lf : (t : List ℕ) → All Plain t → Free LF t
plain_lf t p = All-map Plain (λ b. eqb b LF ≡ false) (λ b h. h.1) t p

-- a record's fields, and a done line's
pub fields_record : (m : Message) → fields (record_text m) ≡ print_id m.id ∷ escape m.name ∷ escape m.body ∷ []
unfolding fields record_text
fields_record m = rw append_assoc (cc (
  split_piece TAB (print_id m.id) (escape m.name ++ TAB ∷ escape m.body) (plain_tab (print_id m.id)
      (print_id_plain m.id)),
  split_piece TAB (escape m.name) (escape m.body) (plain_tab (escape m.name) (escape_plain m.name)),
  split_last TAB (escape m.body) (plain_tab (escape m.body) (escape_plain m.body)),
))

pub fields_done : (n : ℕ) → fields (print_id n) ≡ print_id n ∷ []
unfolding fields
fields_done n = split_last TAB (print_id n) (plain_tab (print_id n) (print_id_plain n))

pub fields_retry : (id n : ℕ) → fields (retry_text id n) ≡ print_id id ∷ print_id n ∷ []
unfolding fields retry_text
fields_retry id n =
    split_piece TAB (print_id id) (print_id n) (plain_tab (print_id id) (print_id_plain id))
    ∙ ap (λ r. print_id id ∷ r) (split_last TAB (print_id n) (plain_tab (print_id n) (print_id_plain n)))

pub retry_text_free : (id n : ℕ) → Free LF (retry_text id n)
unfolding retry_text
retry_text_free id n =
    All-append (λ b. eqb b LF ≡ false) (print_id id) (TAB ∷ print_id n) (plain_lf (print_id id) (print_id_plain id))
    (refl, plain_lf (print_id n) (print_id_plain n))

pub record_text_free : (m : Message) → Free LF (record_text m)
unfolding record_text
record_text_free m = All-append (λ b. eqb b LF ≡ false) (print_id m.id ++ TAB ∷ escape m.name)
    (TAB ∷ escape m.body)
    (All-append (λ b. eqb b LF ≡ false) (print_id m.id) (TAB ∷ escape m.name) (plain_lf (print_id m.id)
    (print_id_plain m.id)) (refl, plain_lf (escape m.name) (escape_plain m.name)))
    (refl, plain_lf (escape m.body) (escape_plain m.body))

pub print_id_free : (n : ℕ) → Free LF (print_id n)
print_id_free n = plain_lf (print_id n) (print_id_plain n)
