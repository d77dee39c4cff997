-- The log that opening writes is no longer than the file that it read, so that it fits where the file did.
use Rattle.std.specs.Prelude.{Option, Some, None}
use mathlib.Core.Path.{◌≡◌, refl, ap, sym, ◌∙◌, subst}
use mathlib.Core.Bool.{Bool, true, false}
use mathlib.Core.List.{List, [], ◌∷◌, ◌++◌}
use Prim.Native.Nat.{ℕ, suc, ◌+◌, ◌≤◌, ◌<◌}
use native.Mathlib.Omega.{arith}
use borrow.Author.Tests.{eqb-true}
use lib.Dec.{eqb, ltb}
use lib.ListN.{length, length-append}
use Rattle.text.specs.Format.{TAB, LF, BACKSLASH, escape_byte, escape, escaped, unescape, unescape_next, print_id}
use Rattle.text.specs.Format.{read_id, Message, record_text, record_line, line}
use Rattle.text.specs.Format.{retry_text, retry_line, attempts_line}
use Rattle.text.specs.Format.{message_lines}
use Rattle.text.specs.Format.{join_head, split, all_but_last, lines, fields}
use Rattle.text.specs.Bytes.{Free}
use Rattle.text.specs.Line.{Line, put, done, retry, other, put_of, done_of, attempts_of, read_fields, read_line}
use Rattle.text.proofs.FormatLaws.{split_some}
use Rattle.text.proofs.Spelling.{read_id_length, line_spelled, two_put}
use Rattle.message_log.specs.Opening.{insert, remove, tried_times, retried, Rising, Read, take_in, read_lines, nothing_read}
use Rattle.message_log.specs.Opening.{read_file, image}
use Rattle.message_log.proofs.OpeningLaws.{InOrder, take_in_in_order, retried_above, untried_lines}

-- escaped bytes
escape_byte_two : (b : ℕ) → length (escape_byte b) ≤ 2
unfolding escape_byte
escape_byte_two b = at_backslash (eqb b BACKSLASH) refl
  where
    at_lf : (t : Bool) → eqb b LF ≡ t → eqb b BACKSLASH ≡ false → eqb b TAB ≡ false → length (escape_byte b) ≤ 2
    at_lf true e p q = rw (p, escape_byte) (rw q (rw e (omega arith)))
    at_lf false e p q = rw (p, escape_byte) (rw q (rw e (omega arith)))

    at_tab : (t : Bool) → eqb b TAB ≡ t → eqb b BACKSLASH ≡ false → length (escape_byte b) ≤ 2
    at_tab true e p = rw (p, escape_byte) (rw e (omega arith))
    at_tab false e p = at_lf (eqb b LF) refl p e

    at_backslash : (t : Bool) → eqb b BACKSLASH ≡ t → length (escape_byte b) ≤ 2
    at_backslash true e = rw (e, escape_byte) (omega arith)
    at_backslash false e = at_tab (eqb b TAB) refl e

escape_byte_one : (b : ℕ) → eqb b BACKSLASH ≡ false → eqb b TAB ≡ false → eqb b LF ≡ false → escape_byte b ≡ b ∷ []
unfolding escape_byte
escape_byte_one b p q r = cc

length_escape : (b : ℕ) (bs : List ℕ) → length (escape (b ∷ bs)) ≡ length (escape_byte b) + length (escape bs)
unfolding escape
length_escape b bs = length-append (escape_byte b) (escape bs)

escape_cons : (b : ℕ) (bs : List ℕ) → Free TAB (b ∷ bs) → Free LF (b ∷ bs) → length (escape (unescape bs)) ≤ length bs
    → length (escape (unescape_next bs)) ≤ suc (length bs)
    → (t : Bool) → eqb b BACKSLASH ≡ t → length (escape (unescape (b ∷ bs))) ≤ suc (length bs)
unfolding unescape
escape_cons b bs f g plain next true e = rw (e, unescape) next
escape_cons b bs f g plain next false e = rw (e, unescape) (omega (
  arith,
  length_escape b (unescape bs),
  ap length (escape_byte_one b e f.0 g.0),
))

mutual
  unfolding escape unescape

  escape_unescape : (x : List ℕ) → Free TAB x → Free LF x → length (escape (unescape x)) ≤ length x
  escape_unescape [] f g = omega arith
  escape_unescape (b ∷ bs) f g = escape_cons b bs f g (escape_unescape bs f.1 g.1) (escape_unescape_next bs
      f.1 g.1) (eqb b BACKSLASH) refl

  escape_unescape_next : (x : List ℕ) → Free TAB x → Free LF x → length (escape (unescape_next x)) ≤ suc (length x)
  escape_unescape_next [] f g = omega arith
  escape_unescape_next (b ∷ bs) f g = omega (
    arith,
    length_escape (escaped b) (unescape bs),
    escape_byte_two (escaped b),
    escape_unescape bs f.1 g.1,
  )

-- the pieces of a text, with a separator for each
unfoldable pub weight : List (List ℕ) → ℕ
weight [] = 0
weight (p ∷ ps) = suc (length p) + weight ps

weight_join_head : (b : ℕ) (ps : List (List ℕ)) → 0 < length ps → weight (join_head b ps) ≡ suc (weight ps)
unfolding weight join_head
weight_join_head b [] h = absurd (omega arith)
weight_join_head b (p ∷ ps) h = omega arith

weight_split : (sep : ℕ) (t : List ℕ) → weight (split sep t) ≡ suc (length t)
unfolding weight split
weight_split sep [] = refl
weight_split sep (b ∷ t) = at (eqb b sep) refl (weight_split sep t)
  where
    at : (c : Bool) → eqb b sep ≡ c → weight (split sep t) ≡ suc (length t) → weight (split sep (b ∷ t))
        ≡ suc (suc (length t))
    at true e ih = rw (e, split) (omega arith)
    at false e ih = rw (e, split) (weight_join_head b (split sep t) (split_some sep t) ∙ ap suc ih)

weight_all_but_last : (ps : List (List ℕ)) → 0 < length ps → weight (all_but_last ps) < weight ps
unfolding weight all_but_last
weight_all_but_last [] h = absurd (omega arith)
weight_all_but_last (p ∷ []) h = omega arith
weight_all_but_last (p ∷ q ∷ ps) h = omega (arith, weight_all_but_last (q ∷ ps) (omega arith))

pub weight_lines : (file : List ℕ) → weight (lines file) ≤ length file
unfolding lines
weight_lines file = omega (arith, weight_all_but_last (split LF file) (split_some LF file), weight_split LF file)

-- no piece has the separator, nor a byte that the text has not
abbrev FreePieces : ℕ → List (List ℕ) → Type 0
FreePieces sep [] = Unit
FreePieces sep (p ∷ ps) = Free sep p × FreePieces sep ps

join_head_free : (sep b : ℕ) (ps : List (List ℕ)) → eqb b sep ≡ false → FreePieces sep ps
    → FreePieces sep (join_head b ps)
unfolding join_head
join_head_free sep b [] e f = ((e, tt), tt)
join_head_free sep b (p ∷ ps) e f = ((e, f.0), f.1)

split_free : (sep : ℕ) (t : List ℕ) → FreePieces sep (split sep t)
unfolding split
split_free sep [] = (tt, tt)
split_free sep (b ∷ t) = at (eqb b sep) refl (split_free sep t)
  where
    at : (c : Bool) → eqb b sep ≡ c → FreePieces sep (split sep t) → FreePieces sep (split sep (b ∷ t))
    at true e ih = rw (e, split) (tt, ih)
    at false e ih = rw (e, split) (join_head_free sep b (split sep t) e ih)

split_still_free : (sep else : ℕ) (t : List ℕ) → Free else t → FreePieces else (split sep t)
unfolding split
split_still_free sep else [] f = (tt, tt)
split_still_free sep else (b ∷ t) f = at (eqb b sep) refl (split_still_free sep else t f.1)
  where
    at : (c : Bool) → eqb b sep ≡ c → FreePieces else (split sep t) → FreePieces else (split sep (b ∷ t))
    at true e ih = rw (e, split) (tt, ih)
    at false e ih = rw (e, split) (join_head_free else b (split sep t) f.0 ih)

pub length_record_line : (m : Message) → length (record_line m) ≡ length (print_id m.id) + length (escape m.name)
    + length (escape m.body) + 3
unfolding record_line line record_text
length_record_line m = simp length-append (omega arith)

-- a line's record is no longer than the line
record_short : (text : List ℕ) (m : Message) → Free LF text → read_line text ≡ put m → length (record_line m) ≤ suc
    (length text)
unfolding read_line fields read_fields put_of done_of weight
record_short text m f e = at (split TAB text) refl (weight_split TAB text) (split_free TAB text)
    (split_still_free TAB LF text f)
  where
    at_id : (a b c : List ℕ) (o : Option ℕ) → read_id a ≡ o → split TAB text ≡ a ∷ b ∷ c ∷ [] → weight (a ∷ b ∷ c ∷ [])
        ≡ suc (length text) → FreePieces TAB (a ∷ b ∷ c ∷ []) → FreePieces LF (a ∷ b ∷ c ∷ [])
        → length (record_line m) ≤ suc (length text)
    at_id a b c None p q w g h = let z : ◌≡◌ {A = ℕ} 0 1 = cc in absurd (omega arith)
    at_id a b c (Some id) p q w g h =
        let i : m.id ≡ id = cc in
        let n : m.name ≡ unescape b = cc in
        let d : m.body ≡ unescape c = cc in
        rw (length_record_line m, i, n, d) (omega (
          arith,
          read_id_length a id p,
          escape_unescape b g.1.0 h.1.0,
          escape_unescape c g.1.1.0 h.1.1.0,
        ))

    at_one : (o : Option ℕ) → done_of o ≡ put m → ⊥
    at_one None p = let z : ◌≡◌ {A = ℕ} 0 1 = cc in omega arith
    at_one (Some id) p = let z : ◌≡◌ {A = ℕ} 0 1 = cc in omega arith

    at_two : (o p : Option ℕ) → attempts_of o p ≡ put m → ⊥
    at_two o p e = two_put o p m e

    at : (ps : List (List ℕ)) → split TAB text ≡ ps → weight ps ≡ suc (length text) → FreePieces TAB ps
        → FreePieces LF ps → length (record_line m) ≤ suc (length text)
    at [] q w g h = let z : ◌≡◌ {A = ℕ} 0 1 = cc in absurd (omega arith)
    at (a ∷ []) q w g h = absurd (at_one (read_id a) (cc))
    at (a ∷ b ∷ []) q w g h = absurd (at_two (read_id a) (read_id b) (cc))
    at (a ∷ b ∷ c ∷ []) q w g h = at_id a b c (read_id a) refl q w g h
    at (a ∷ b ∷ c ∷ d ∷ ps) q w g h = let z : ◌≡◌ {A = ℕ} 0 1 = cc in absurd (omega arith)

-- a retry line is as long as the line that said it
retry_short : (text : List ℕ) (id n : ℕ) → read_line text ≡ retry id n → length (retry_line id n) ≤ suc (length text)
unfolding retry_line line retry_text fields weight
retry_short text id n e =
    let are = ((line_spelled text).is_retry id n e).two in
    let w : weight (print_id id ∷ print_id n ∷ []) ≡ suc (length text) = ap weight (sym are) ∙ weight_split TAB text in
    simp length-append (omega arith)

image_insert : (m : Message) (ms : List Message) → length (image (insert m ms)) ≤ length (image ms) + length
    (message_lines m)
unfolding image insert
image_insert m [] = simp length-append (omega arith)
image_insert m (x ∷ xs) = at (ltb m.id x.id) refl (eqb m.id x.id) refl (image_insert m xs)
  where
    at : (t : Bool) → ltb m.id x.id ≡ t → (u : Bool) → eqb m.id x.id ≡ u → length (image (insert m xs))
        ≤ length (image xs) + length (message_lines m)
        → length (image (insert m (x ∷ xs))) ≤ length (message_lines x ++ image xs) + length (message_lines m)
    at true e u f ih = rw (e, insert) (simp length-append (omega arith))
    at false e true f ih = rw (e, insert) (rw f (simp length-append (omega arith)))
    at false e false f ih = rw (e, insert) (rw f (simp length-append (omega arith)))

image_remove : (i : ℕ) (ms : List Message) → length (image (remove i ms)) ≤ length (image ms)
unfolding image remove
image_remove i [] = omega arith
image_remove i (x ∷ xs) = at (eqb x.id i) refl (image_remove i xs)
  where
    at : (t : Bool) → eqb x.id i ≡ t → length (image (remove i xs)) ≤ length (image xs)
        → length (image (remove i (x ∷ xs))) ≤ length (message_lines x ++ image xs)
    at true e ih = rw (e, remove) (simp length-append (omega arith))
    at false e ih = rw (e, remove) (simp length-append (omega arith))

-- a message's lines with these attempts are no longer than its record and the retry line
tried_short : (m : Message) (n : ℕ) → length (message_lines (tried_times m n))
    ≤ length (message_lines m) + length (retry_line m.id n)
unfolding message_lines attempts_line record_line record_text
tried_short m n = at (eqb n 0)
  where
    at : (b : Bool) → length (record_line m ++ elim b [ true ↦ [] | false ↦ retry_line m.id n ])
        ≤ length (message_lines m) + length (retry_line m.id n)
    at true = simp length-append (omega arith)
    at false = simp length-append (omega arith)

image_retried : (id n : ℕ) (ms : List Message) (low high : ℕ) → Rising low ms high
    → length (image (retried id n ms)) ≤ length (image ms) + length (retry_line id n)
unfolding image retried
image_retried id n [] low high r = omega arith
image_retried id n (x ∷ xs) low high r = at (eqb x.id id) refl (image_retried id n xs (suc x.id) high r.1)
  where
    at : (t : Bool) → eqb x.id id ≡ t
        → length (image (retried id n xs)) ≤ length (image xs) + length (retry_line id n)
        → length (image (retried id n (x ∷ xs))) ≤ length (message_lines x ++ image xs) + length (retry_line id n)
    at true e ih =
        let same : x.id ≡ id = eqb-true x.id id e in
        let rest : retried id n xs ≡ xs = retried_above id n xs high (rw same at r.1) in
        let short : length (message_lines (tried_times x n)) ≤ length (message_lines x) + length (retry_line id n) =
        subst (λ k. length (message_lines (tried_times x n)) ≤ length (message_lines x) + length (retry_line k n)) same
        (tried_short x n) in
        rw (e, retried) (rw rest (simp length-append (omega arith)))
    at false e ih = rw (e, retried) (simp length-append (omega arith))

take_in_short : (r : Read) (text : List ℕ) → Free LF text → InOrder r
    → length (image (take_in r (read_line text)).left) ≤ length (image r.left) + suc (length text)
unfolding take_in
take_in_short r text f o = at (read_line text) refl
  where
    at : (l : Line) → read_line text ≡ l → length (image (take_in r l).left) ≤ length (image r.left) + suc
        (length text)
    at (put m) e =
        let fresh : m.attempts ≡ 0 = ((line_spelled text).is_record m e).fresh in
        omega (
          arith,
          image_insert m r.left,
          record_short text m f e,
          ap length (untried_lines m fresh),
        )
    at (done i) e = omega (arith, image_remove i r.left)
    at (retry id n) e =
        omega (arith, image_retried id n r.left 0 r.next o, retry_short text id n e)
    at other e = omega arith

read_lines_short : (ts : List (List ℕ)) (r : Read) → FreePieces LF ts → InOrder r
    → length (image (read_lines r ts).left) ≤ length (image r.left) + weight ts
unfolding read_lines weight
read_lines_short [] r f o = omega arith
read_lines_short (t ∷ ts) r f o = omega (
  arith,
  take_in_short r t f.0 o,
  read_lines_short ts (take_in r (read_line t)) f.1 (take_in_in_order r (read_line t) o),
)

all_but_last_free : (sep : ℕ) (ps : List (List ℕ)) → FreePieces sep ps → FreePieces sep (all_but_last ps)
unfolding all_but_last
all_but_last_free sep [] f = tt
all_but_last_free sep (p ∷ []) f = tt
all_but_last_free sep (p ∷ q ∷ ps) f = (f.0, all_but_last_free sep (q ∷ ps) f.1)

-- the new log is no longer than the file
pub image_short : (file : List ℕ) → length (image (read_file file).left) ≤ length file
unfolding read_file lines image
image_short file = omega (
  arith,
  read_lines_short (lines file) nothing_read (all_but_last_free LF (split LF file) (split_free LF file)) (omega arith),
  weight_lines file,
)
