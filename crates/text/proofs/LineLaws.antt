-- Laws of pieces: a text up to the first separator.
use Rattle.std.specs.Prelude.{Option, Some, None}
use mathlib.Core.Path.{◌≡◌, refl, ap, sym, ◌∙◌, subst}
use mathlib.Core.List.{List, [], ◌∷◌, ◌++◌, append_assoc}
use mathlib.Core.Bool.{Bool, true, false}
use Prim.Native.Nat.{ℕ, suc, ◌+◌, ◌-◌, ◌≤◌, ◌<◌}
use native.Mathlib.Numerals.{add-one}
use native.Mathlib.Omega.{arith}
use borrow.Author.Tests.{eqb-true, le-leb, lt-leb}
use lib.Dec.{eqb, leb}
use lib.ListN.{length, take, drop, get_or, length-append, length-drop, drop_of_length-le}
use lib.Seq.{take_all, take_at, drop_at, length-take-le, get_or-drop, split_at, drop-drop}
use Rattle.text.specs.Format.{TAB, LF, ATTEMPTS, untried, unescape, join_head, split, lines, line, fields, read_id}
use Rattle.text.specs.Bytes.{Free, part}
use Rattle.text.specs.Line.{Line, put, done, retry, other, read_fields, read_line}
use Rattle.text.specs.Line.{done_of, attempts_of, put_of, name_of}
use Rattle.text.specs.Line.{body_of}
use Rattle.text.specs.Line.{of_record, name_in, body_in, name_field, body_field}
use Rattle.text.specs.Answers.{First, FirstFrom, done_kind, retry_kind, put_kind, line_kind_in, line_kind}
use Rattle.text.specs.declared.line.LineKind.{LineKind}
use Rattle.text.specs.declared.line.LineKind.TheVariants.{Put, Done, Retry, Other}
use Rattle.text.proofs.FormatLaws.{split_piece, split_last, lines_line, lines_torn, split_some}

-- the part of a slice from a place on
pub from : (s : List ℕ) (a : ℕ) → take (length s - a) (drop a s) ≡ drop a s
from s a = take_all (length s - a) (drop a s) (rw length-drop (omega arith))

module _ (text : List ℕ) (sep place : ℕ) (f : First text sep place) where
  -- a whole piece
  pub cut : place < length text → text ≡ take place text ++ sep ∷ drop (place + 1) text
  cut h = rw add-one (split_at text place 0 h ∙ ap (λ b. take place text ++ b ∷ drop (suc place) text) (f.there h))

  pub piece : place < length text → split sep text ≡ take place text ∷ split sep (drop (place + 1) text)
  piece h = ap (split sep) (cut h) ∙ split_piece sep (take place text) (drop (place + 1) text) f.before

  pub no_more : length text ≤ place → Free sep text
  no_more h = rw (take_all place text h) at f.before

  pub piece_last : length text ≤ place → split sep text ≡ text ∷ []
  piece_last h = split_last sep text (no_more h)

whole_line : (p : List ℕ) (sep : ℕ) (r q : List ℕ) → sep ≡ LF → r ≡ q → p ++ sep ∷ r ≡ line p ++ q
unfolding line
whole_line p sep r q e f = rw (e, f, append_assoc)

module _ (text : List ℕ) (start sep place : ℕ) (f : FirstFrom text start sep place) where
  left : length (drop start text) ≡ length text - start
  left = length-drop start text

  beyond : drop (place - start + 1) (drop start text) ≡ drop (place + 1) text
  beyond = let e : start + (place - start + 1) ≡ place + 1 = omega (arith, f.low) in drop-drop (place - start + 1)
      start text ∙ ap (λ k. drop k text) e

  pub piece_from : place < length text → split sep (drop start text) ≡ part text start place ∷ split sep
      (drop (place + 1) text)
  piece_from h = piece (drop start text) sep (place - start) f.first (omega (arith, left, f.low))
      ∙ ap (λ r. part text start place ∷ split sep r) beyond

  pub last_from : length text ≤ place → split sep (drop start text) ≡ drop start text ∷ []
  last_from h = piece_last (drop start text) sep (place - start) f.first (omega (arith, left))

  pub whole_from : sep ≡ LF → place < length text → lines (drop start text) ≡ part text start place ∷ lines
      (drop (place + 1) text)
  whole_from e h =
      let f' = f.first in
      let l : length (drop start text) ≡ length text - start = left in
      let low : start ≤ place = f.low in
      let c : drop start text ≡ line (part text start place) ++ drop (place + 1) text
      = cut (drop start text) sep (place - start) f' (omega arith) ∙ whole_line (part text start place) sep
      (drop (place - start + 1) (drop start text)) (drop (place + 1) text) e beyond in
      ap lines c ∙ lines_line (part text start place) (drop (place + 1) text)
      (subst (λ b. Free b (part text start place)) e f'.before)

  pub torn_from : sep ≡ LF → length text ≤ place → lines (drop start text) ≡ []
  torn_from e h = lines_torn (drop start text) (rw e at (no_more (drop start text) sep (place - start) f.first
      (omega (arith, left))))

-- ---- the kind of a line, by the places of its TABs

-- the length of a part that lies inside
part_length : (text : List ℕ) (a b : ℕ) → a ≤ b → b ≤ length text → length (part text a b) ≡ b - a
part_length text a b p q = length-take-le (b - a) (drop a text) (omega (arith, length-drop a text))

pub kind_one : (text : List ℕ) (a : ℕ) → First text TAB a → length text ≤ a → line_kind text
    ≡ done_kind (read_id text)
unfolding line_kind line_kind_in fields
kind_one text a f l = ap line_kind_in (piece_last text TAB a f l)

module _ (text : List ℕ) (a b : ℕ) (f : First text TAB a) (h : a < length text) (g : FirstFrom text (a + 1) TAB b)
  where
    fields_one : fields text ≡ take a text ∷ split TAB (drop (a + 1) text)
    unfolding fields
    fields_one = piece text TAB a f h

    pub kind_two : length text ≤ b
        → line_kind text ≡ retry_kind (read_id (take a text)) (read_id (drop (a + 1) text))
    unfolding line_kind line_kind_in
    kind_two l = ap line_kind_in (fields_one ∙ ap (λ r. take a text ∷ r) (last_from text (a + 1) TAB b g l))

    module _ (i : b < length text) (c : ℕ) (k : FirstFrom text (b + 1) TAB c) where
      fields_two : fields text ≡ take a text ∷ part text (a + 1) b ∷ split TAB (drop (b + 1) text)
      fields_two = fields_one ∙ ap (λ r. take a text ∷ r) (piece_from text (a + 1) TAB b g i)

      pub kind_more : c < length text → line_kind text ≡ Other
      unfolding line_kind line_kind_in
      kind_more j =
          ap line_kind_in (fields_two ∙ ap (λ r. take a text ∷ part text (a + 1) b ∷ r) (piece_from text (b + 1) TAB c
          k j))
          ∙ four (split TAB (drop (c + 1) text)) (split_some TAB (drop (c + 1) text))
        where
          four : (ps : List (List ℕ)) → 0 < length ps
              → line_kind_in (take a text ∷ part text (a + 1) b ∷ part text (b + 1) c ∷
              ps) ≡ Other
          four [] n = absurd (omega arith)
          four (p ∷ ps) n = refl

      pub kind_three : length text ≤ c → line_kind text ≡ put_kind (read_id (take a text)) (a + 1) b (b + 1)
          (length text)
      unfolding line_kind line_kind_in
      kind_three l =
          let id : length (take a text) ≡ a = length-take-le a text (omega arith) in
          let name : length (part text (a + 1) b) ≡ b - (a + 1) = part_length text (a + 1) b g.low (omega arith) in
          let body : length (drop (b + 1) text) ≡ length text - (b + 1) = length-drop (b + 1) text in
          let low : a + 1 ≤ b = g.low in
          let at_name : length (take a text) + 1 ≡ a + 1 = omega arith in
          let name-ends : length (take a text) + 1 + length (part text (a + 1) b) ≡ b = omega arith in
          let body-ends : b + 1 + length (drop (b + 1) text) ≡ length text = omega arith in
          ap line_kind_in (fields_two ∙ ap (λ r. take a text ∷ part text (a + 1) b ∷ r) (last_from text (b + 1) TAB c k
          l))
          ∙ (ap (λ e. put_kind (read_id (take a text)) (length (take a text) + 1) e (e + 1)
          (e + 1 + length (drop (b + 1) text))) name-ends
          ∙ (ap (λ n. put_kind (read_id (take a text)) n b (b + 1) (b + 1 + length (drop (b + 1) text))) at_name
          ∙ ap (put_kind (read_id (take a text)) (a + 1) b (b + 1)) body-ends))

-- ---- what a kind says of its line

-- the line that a kind stands for, and the two fields at its places
abbrev pub kind_of : List ℕ → LineKind → Line
kind_of line (Put id a b c d) = put (untried id (unescape (part line a b)) (unescape (part line c d)))
kind_of line (Done id) = done id
kind_of line (Retry id n) = retry id n
kind_of line Other = other

abbrev pub name_part : List ℕ → LineKind → List ℕ
name_part line (Put id a b c d) = part line a b
name_part line (Done id) = []
name_part line (Retry id n) = []
name_part line Other = []

abbrev pub body_part : List ℕ → LineKind → List ℕ
body_part line (Put id a b c d) = part line c d
body_part line (Done id) = []
body_part line (Retry id n) = []
body_part line Other = []

-- the places lie inside the line
abbrev pub Inside : List ℕ → LineKind → Type 0
Inside line (Put id a b c d) = (a ≤ b) × (b ≤ c) × (c ≤ d) × (d ≤ length line)
Inside line (Done id) = Unit
Inside line (Retry id n) = Unit
Inside line Other = Unit

-- pieces put together again with their separator are the text
abbrev together : ℕ → List (List ℕ) → List ℕ
together sep [] = []
together sep (p ∷ []) = p
together sep (p ∷ q ∷ ps) = p ++ sep ∷ together sep (q ∷ ps)

together_head : (sep b : ℕ) (ps : List (List ℕ)) → together sep (join_head b ps) ≡ b ∷ together sep ps
unfolding join_head
together_head sep b [] = refl
together_head sep b (p ∷ []) = refl
together_head sep b (p ∷ q ∷ ps) = refl

together_none : (sep : ℕ) (ps : List (List ℕ)) → 0 < length ps → together sep ([] ∷ ps) ≡ sep ∷ together sep ps
together_none sep [] n = absurd (omega arith)
together_none sep (p ∷ ps) n = refl

together_split : (sep : ℕ) (text : List ℕ) → together sep (split sep text) ≡ text
unfolding split
together_split sep [] = refl
together_split sep (b ∷ bs) = at (eqb b sep) refl (together_split sep bs)
  where
    at : (t : Bool) → eqb b sep ≡ t → together sep (split sep bs) ≡ bs → together sep (split sep (b ∷ bs)) ≡ b ∷ bs
    at true e rest =
        rw (e, split) (together_none sep (split sep bs) (split_some sep bs) ∙ (ap (λ r. sep ∷ r) rest
        ∙ ap (λ c. c ∷ bs) (sym (eqb-true b sep e))))
    at false e rest = rw (e, split) (together_head sep b (split sep bs) ∙ ap (λ r. b ∷ r) rest)

behind : (p r : List ℕ) (sep : ℕ) → drop (length p + 1) (p ++ sep ∷ r) ≡ r
behind p r sep = sym (drop-drop 1 (length p) (p ++ sep ∷ r)) ∙ ap (drop 1) (drop_at p (sep ∷ r) (length p) refl)

-- a line of three fields: each stands where the lengths of those before it say
module _ (text a b c : List ℕ) (e : fields text ≡ a ∷ b ∷ c ∷ []) where
  whole : text ≡ a ++ TAB ∷ (b ++ TAB ∷ c)
  unfolding fields
  whole = sym (together_split TAB text) ∙ ap (together TAB) e

  three_long : length text ≡ length a + 1 + length b + 1 + length c
  three_long = ap length whole ∙ simp length-append (omega arith)

  from_name : drop (length a + 1) text ≡ b ++ TAB ∷ c
  from_name = ap (drop (length a + 1)) whole ∙ behind a (b ++ TAB ∷ c) TAB

  from_body : drop (length a + 1 + length b + 1) text ≡ c
  from_body =
      let k : length a + 1 + (length b + 1) ≡ length a + 1 + length b + 1 = omega arith in
      ap (λ n. drop n text) (sym k) ∙ (sym (drop-drop (length b + 1) (length a + 1) text)
      ∙ (ap (drop (length b + 1)) from_name ∙ behind b c TAB))

  name_there : part text (length a + 1) (length a + 1 + length b) ≡ b
  name_there =
      let k : length a + 1 + length b - (length a + 1) ≡ length b = omega arith in
      ap (λ n. take n (drop (length a + 1) text)) k ∙ (ap (take (length b)) from_name ∙ take_at b (TAB ∷ c) (length b)
      refl)

  body_there : part text (length a + 1 + length b + 1) (length a + 1 + length b + 1 + length c) ≡ c
  body_there =
      let k : length a + 1 + length b + 1 + length c - (length a + 1 + length b + 1) ≡ length c = omega arith in
      ap (λ n. take n (drop (length a + 1 + length b + 1) text)) k ∙ (ap (take (length c)) from_body
      ∙ take_all (length c) c (omega arith))

done_says : (line : List ℕ) (o : Option ℕ) → kind_of line (done_kind o) ≡ done_of o
unfolding done_of
done_says line None = refl
done_says line (Some id) = refl

-- what holds of a retry line and of one that says nothing, holds of any line of two fields
retry_rule : (P : LineKind → Type 0) → ((id n : ℕ) → P (Retry id n)) → P Other → (i k : Option ℕ) → P (retry_kind i k)
retry_rule P told nothing (Some id) (Some n) = at (leb n ATTEMPTS)
  where
    at : (t : Bool) → P (elim t [ true ↦ Retry id n | false ↦ Other ])
    at true = told id n
    at false = nothing
retry_rule P told nothing (Some id) None = nothing
retry_rule P told nothing None k = nothing

-- a number up to 255 is the attempts of the id, and with one above the line says nothing
pub kind_tried : (i k : Option ℕ) (id n : ℕ) → i ≡ Some id → k ≡ Some n → n ≤ ATTEMPTS → Retry id n ≡ retry_kind i k
kind_tried i k id n e f l = cc (le-leb n ATTEMPTS l)

pub kind_over : (i k : Option ℕ) (id n : ℕ) → i ≡ Some id → k ≡ Some n → ATTEMPTS < n → Other ≡ retry_kind i k
kind_over i k id n e f l = cc (lt-leb n ATTEMPTS l)

retry_says : (line : List ℕ) (o p : Option ℕ) → kind_of line (retry_kind o p) ≡ attempts_of o p
unfolding attempts_of
retry_says line None None = refl
retry_says line None (Some n) = refl
retry_says line (Some id) None = refl
retry_says line (Some id) (Some n) = at (leb n ATTEMPTS)
  where
    at : (t : Bool) → kind_of line (elim t [ true ↦ Retry id n | false ↦ Other ])
        ≡ elim t [ true ↦ retry id n | false ↦ other ]
    at true = refl
    at false = refl

-- what holds of every retry line, and of a line that says nothing, holds of any line of two fields
attempts_rule : (P : Line → Type 0) → ((id n : ℕ) → P (retry id n)) → P other → (o p : Option ℕ) → P (attempts_of o p)
unfolding attempts_of
attempts_rule P says rest None p = rest
attempts_rule P says rest (Some id) None = rest
attempts_rule P says rest (Some id) (Some n) = at (leb n ATTEMPTS)
  where
    at : (t : Bool) → P (elim t [ true ↦ retry id n | false ↦ other ])
    at true = says id n
    at false = rest

-- a line of two fields has no name, and no body
retry_no_name : (o p : Option ℕ) → [] ≡ name_of (attempts_of o p)
retry_no_name o p = attempts_rule (λ l. [] ≡ name_of l) (λ id n. refl) refl o p

retry_no_body : (o p : Option ℕ) → [] ≡ body_of (attempts_of o p)
retry_no_body o p = attempts_rule (λ l. [] ≡ body_of l) (λ id n. refl) refl o p

put_says : (line name body : List ℕ) (o : Option ℕ) (a b c d : ℕ) → part line a b ≡ name → part line c d ≡ body
    → kind_of line (put_kind o a b c d) ≡ put_of o name body
unfolding put_of
put_says line name body None a b c d e f = refl
put_says line name body (Some id) a b c d e f = rw (e, f) refl

put_name : (line name : List ℕ) (o : Option ℕ) (a b c d : ℕ) → part line a b ≡ name
    → name_part line (put_kind o a b c d) ≡ of_record o name
put_name line name None a b c d e = refl
put_name line name (Some id) a b c d e = e

put_body : (line body : List ℕ) (o : Option ℕ) (a b c d : ℕ) → part line c d ≡ body
    → body_part line (put_kind o a b c d) ≡ of_record o body
put_body line body None a b c d e = refl
put_body line body (Some id) a b c d e = e

done_inside : (line : List ℕ) (o : Option ℕ) → Inside line (done_kind o)
done_inside line (Some id) = tt
done_inside line None = tt

put_inside : (line : List ℕ) (o : Option ℕ) (a b c d : ℕ) → a ≤ b → b ≤ c → c ≤ d → d ≤ length line
    → Inside line (put_kind o a b c d)
put_inside line (Some id) a b c d p q r s = (p, q, r, s)
put_inside line None a b c d p q r s = tt

done_part : (line : List ℕ) (o : Option ℕ) → (name_part line (done_kind o) ≡ []) × (body_part line (done_kind o) ≡ [])
done_part line (Some id) = (refl, refl)
done_part line None = (refl, refl)

module _ (text : List ℕ) where
  pub kind_says : kind_of text (line_kind text) ≡ read_line text
  unfolding line_kind read_line line_kind_in read_fields
  kind_says = at (fields text) refl
    where
      at : (fs : List (List ℕ)) → fields text ≡ fs → kind_of text (line_kind_in fs) ≡ read_fields fs
      at [] e = refl
      at (a ∷ []) e = done_says text (read_id a)
      at (a ∷ b ∷ []) e = retry_says text (read_id a) (read_id b)
      at (a ∷ b ∷ c ∷ []) e = put_says text b c (read_id a) _ _ _ _ (name_there text a b c e) (body_there text a b c e)
      at (a ∷ b ∷ c ∷ d ∷ rest) e = refl

  pub kind_inside : Inside text (line_kind text)
  unfolding line_kind line_kind_in
  kind_inside = at (fields text) refl
    where
      at : (fs : List (List ℕ)) → fields text ≡ fs → Inside text (line_kind_in fs)
      at [] e = tt
      at (a ∷ []) e = done_inside text (read_id a)
      at (a ∷ b ∷ []) e =
          retry_rule (Inside text) (λ id n. tt) tt (read_id a) (read_id b)
      at (a ∷ b ∷ c ∷ []) e = put_inside text (read_id a) _ _ _ _ (omega arith) (omega arith) (omega arith)
          (omega (arith, three_long text a b c e))
      at (a ∷ b ∷ c ∷ d ∷ rest) e = tt

  -- the parts at a kind's places are the fields
  pub kind_name : name_part text (line_kind text) ≡ name_field text
  unfolding line_kind name_field line_kind_in name_in
  kind_name = at (fields text) refl
    where
      at : (fs : List (List ℕ)) → fields text ≡ fs → name_part text (line_kind_in fs) ≡ name_in fs
      at [] e = refl
      at (a ∷ []) e = (done_part text (read_id a)).0
      at (a ∷ b ∷ []) e =
          retry_rule (λ k. name_part text k ≡ []) (λ id n. refl) refl (read_id a) (read_id b)
      at (a ∷ b ∷ c ∷ []) e = put_name text b (read_id a) _ _ _ _ (name_there text a b c e)
      at (a ∷ b ∷ c ∷ d ∷ rest) e = refl

  pub kind_body : body_part text (line_kind text) ≡ body_field text
  unfolding line_kind body_field line_kind_in body_in
  kind_body = at (fields text) refl
    where
      at : (fs : List (List ℕ)) → fields text ≡ fs → body_part text (line_kind_in fs) ≡ body_in fs
      at [] e = refl
      at (a ∷ []) e = (done_part text (read_id a)).1
      at (a ∷ b ∷ []) e =
          retry_rule (λ k. body_part text k ≡ []) (λ id n. refl) refl (read_id a) (read_id b)
      at (a ∷ b ∷ c ∷ []) e = put_body text c (read_id a) _ _ _ _ (body_there text a b c e)
      at (a ∷ b ∷ c ∷ d ∷ rest) e = refl

  -- the same of a line that is a record, and of one that is none
  module _ (id a b c d : ℕ) (is : line_kind text ≡ Put id a b c d) where
    pub places : (a ≤ b) × (b ≤ c) × (c ≤ d) × (d ≤ length text)
    places = subst (Inside text) is kind_inside

    pub put_has_name : part text a b ≡ name_field text
    put_has_name = ap (name_part text) (sym is) ∙ kind_name

    pub put_has_body : part text c d ≡ body_field text
    put_has_body = ap (body_part text) (sym is) ∙ kind_body

  module _ (none : (id a b c d : ℕ) → line_kind text ≡ Put id a b c d → ⊥) where
    no_parts : (k : LineKind) → line_kind text ≡ k → (name_part text k ≡ []) × (body_part text k ≡ [])
    no_parts (Put id a b c d) e = absurd (none id a b c d e)
    no_parts (Done id) e = (refl, refl)
    no_parts (Retry id n) e = (refl, refl)
    no_parts Other e = (refl, refl)

    pub other_no_name : [] ≡ name_field text
    other_no_name = sym (no_parts (line_kind text) refl).0 ∙ kind_name

    pub other_no_body : [] ≡ body_field text
    other_no_body = sym (no_parts (line_kind text) refl).1 ∙ kind_body

  -- a field unescaped is the message's
  pub name_read : unescape (name_field text) ≡ name_of (read_line text)
  unfolding name_field read_line put_of unescape done_of name_in read_fields
  name_read = at (fields text)
    where
      of : (o : Option ℕ) (b c : List ℕ) → unescape (of_record o b) ≡ name_of (put_of o b c)
      of None b c = refl
      of (Some id) b c = refl

      none_done : (o : Option ℕ) → [] ≡ name_of (done_of o)
      none_done None = refl
      none_done (Some id) = refl

      at : (fs : List (List ℕ)) → unescape (name_in fs) ≡ name_of (read_fields fs)
      at [] = refl
      at (a ∷ []) = none_done (read_id a)
      at (a ∷ b ∷ []) = retry_no_name (read_id a) (read_id b)
      at (a ∷ b ∷ c ∷ []) = of (read_id a) b c
      at (a ∷ b ∷ c ∷ d ∷ rest) = refl

  pub body_read : unescape (body_field text) ≡ body_of (read_line text)
  unfolding body_field read_line put_of unescape done_of body_in read_fields
  body_read = at (fields text)
    where
      of : (o : Option ℕ) (b c : List ℕ) → unescape (of_record o c) ≡ body_of (put_of o b c)
      of None b c = refl
      of (Some id) b c = refl

      none_done : (o : Option ℕ) → [] ≡ body_of (done_of o)
      none_done None = refl
      none_done (Some id) = refl

      at : (fs : List (List ℕ)) → unescape (body_in fs) ≡ body_of (read_fields fs)
      at [] = refl
      at (a ∷ []) = none_done (read_id a)
      at (a ∷ b ∷ []) = retry_no_body (read_id a) (read_id b)
      at (a ∷ b ∷ c ∷ []) = of (read_id a) b c
      at (a ∷ b ∷ c ∷ d ∷ rest) = refl

pub first_from : (s : List ℕ) (start sep r : ℕ) → start ≤ length s → First (take (length s - start) (drop start s)) sep
    r → FirstFrom s start sep (start + r)
first_from s start sep r h f =
    let g : First (drop start s) sep r = subst (λ l. First l sep r) (from s start) f in
    let e : start + r - start ≡ r = omega arith in
    record { low = omega arith; within = omega (arith, g.within, length-drop start s); first = rw e g }

pub feed_from : (text : List ℕ) (start sep place : ℕ) → FirstFrom text start sep place → sep ≡ LF → place < length text
    → get_or text place 0 ≡ LF
feed_from text start sep place f e h =
    let l : start ≤ place = f.low in
    let k : start + (place - start) ≡ place = omega arith in
    ap (λ j. get_or text j 0) (sym k) ∙ (sym (get_or-drop start text (place - start) 0)
    ∙ (f.first.there (omega (arith, length-drop start text)) ∙ e))

-- past the file's end there is no line
pub none_past : (file : List ℕ) (at : ℕ) → length file ≤ at → lines (drop at file) ≡ []
none_past file at h = ap lines (drop_of_length-le file h) ∙ lines_torn [] tt
