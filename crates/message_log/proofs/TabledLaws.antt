-- Laws of `Tabled`: what the bytes written, moved and left alone make of the rows.
use mathlib.Core.Path.{◌≡◌, refl, ap, sym, ◌∙◌, subst}
use mathlib.Core.Bool.{Bool, true, false}
use mathlib.Core.List.{List, [], ◌∷◌, ◌++◌, append_assoc}
use Prim.Native.Nat.{ℕ, suc, ◌+◌, ◌≤◌}
use native.Mathlib.Omega.{arith}
use borrow.Author.Tests.{leb-true, le-leb}
use lib.Dec.{eqb, leb}
use lib.ListN.{length, length-append}
use Rattle.text.specs.Format.{Message, record_text, record_line, attempts_line, message_lines}
use Rattle.text.specs.Bytes.{write, part}
use Rattle.text.proofs.WriteLaws.{length_write, write_write, part_below, part_above, part_written}
use Rattle.message_log.specs.Stands.{Small, Tabled}
use Rattle.message_log.specs.Opening.{retried, image}
use Rattle.message_log.specs.Log.{row, row_id, row_at, row_len, row_tried, row_tries, row_span, rewritable, rows_image}
use Rattle.message_log.specs.Log.{rows_placed}
use Rattle.message_log.specs.Scan.{retry_row}
use Rattle.message_log.specs.Opened.{rows_from}
use Rattle.message_log.proofs.OpeningLaws.{and_left}

pub small_few : (ms : List Message) → Small ms → length ms ≤ 256
small_few ms s = leb-true (length ms) 256 (and_left (leb (length ms) 256) _ s)

-- the rows end below the size
pub tabled_end : (bytes : List ℕ) (start : ℕ) (ms : List Message) (rs : List (List ℕ)) (size : ℕ)
    → Tabled bytes start ms rs size → start ≤ size
tabled_end bytes start [] [] size t = t
tabled_end bytes start [] (r ∷ rs) size t = absurd t
tabled_end bytes start (m ∷ ms) [] size t = absurd t
tabled_end bytes start (m ∷ ms) (r ∷ rs) size t =
    omega (arith, t.1, tabled_end bytes (row_at r + length (record_line m)) ms rs size t.3)

pub tabled_start : (bytes : List ℕ) (start start' : ℕ) (ms : List Message) (rs : List (List ℕ)) (size : ℕ)
    → start' ≤ start → Tabled bytes start ms rs size → Tabled bytes start' ms rs size
tabled_start bytes start start' [] [] size h t = omega (arith, t)
tabled_start bytes start start' [] (r ∷ rs) size h t = t
tabled_start bytes start start' (m ∷ ms) [] size h t = t
tabled_start bytes start start' (m ∷ ms) (r ∷ rs) size h t = (t.0, omega (arith, t.1), t.2, t.3)

-- bytes written behind the records, or before them, are none of theirs
module _ (bytes : List ℕ) (at : ℕ) (text : List ℕ) (room : at + length text ≤ length bytes) where
  pub tabled_behind : (start : ℕ) (ms : List Message) (rs : List (List ℕ)) (size : ℕ) → at ≤ size
      → Tabled bytes start ms rs at → Tabled (write bytes at text) start ms rs size
  tabled_behind start [] [] size h t = omega (arith, t)
  tabled_behind start [] (r ∷ rs) size h t = t
  tabled_behind start (m ∷ ms) [] size h t = t
  tabled_behind start (m ∷ ms) (r ∷ rs) size h t =
      let end : row_at r + length (record_line m) ≤ at =
      tabled_end bytes (row_at r + length (record_line m)) ms rs at t.3 in (
        t.0,
        t.1,
        part_below bytes at (row_at r) (row_at r + length (record_line m)) text (omega arith) end room
            ∙ t.2,
        tabled_behind (row_at r + length (record_line m)) ms rs size h t.3,
      )

  pub tabled_before : (start : ℕ) (ms : List Message) (rs : List (List ℕ)) (size : ℕ) → at + length text ≤ start
      → Tabled bytes start ms rs size → Tabled (write bytes at text) start ms rs size
  tabled_before start [] [] size h t = t
  tabled_before start [] (r ∷ rs) size h t = t
  tabled_before start (m ∷ ms) [] size h t = t
  tabled_before start (m ∷ ms) (r ∷ rs) size h t = (
    t.0,
    t.1,
    part_above bytes at (row_at r) (row_at r + length (record_line m)) text (omega (arith, t.1)) (omega arith) ∙ t.2,
    tabled_before (row_at r + length (record_line m)) ms rs size (omega (arith, t.1)) t.3,
  )

-- one record more behind the others
pub tabled_snoc : (bytes : List ℕ) (start : ℕ) (ms : List Message) (rs : List (List ℕ)) (size : ℕ) (m : Message)
    → m.attempts ≡ 0 → part bytes size (size + length (record_line m)) ≡ record_line m
    → Tabled bytes start ms rs size → Tabled bytes start (ms ++ (m ∷ []))
    (rs ++ (row m.id size (length (record_line m)) 0 ∷ [])) (size + length (record_line m))
tabled_snoc bytes start [] [] size m z p t = (
  ap (row m.id size (length (record_line m))) (sym z),
  t,
  p,
  omega arith,
)
tabled_snoc bytes start [] (r ∷ rs) size m z p t = absurd t
tabled_snoc bytes start (x ∷ ms) [] size m z p t = absurd t
tabled_snoc bytes start (x ∷ ms) (r ∷ rs) size m z p t =
    (t.0, t.1, t.2, tabled_snoc bytes (row_at r + length (record_line x)) ms rs size m z p t.3)

-- another message's attempts in its row
pub tabled_retried : (bytes : List ℕ) (id n start : ℕ) (ms : List Message) (rs : List (List ℕ)) (size : ℕ)
    → Tabled bytes start ms rs size → Tabled bytes start (retried id n ms) (retry_row id n rs) size
unfolding retried retry_row record_line record_text
tabled_retried bytes id n start [] [] size t = t
tabled_retried bytes id n start [] (r ∷ rs) size t = absurd t
tabled_retried bytes id n start (m ∷ ms) [] size t = absurd t
tabled_retried bytes id n start (m ∷ ms) (r ∷ rs) size t =
    at (eqb (row_id r) id) refl (tabled_retried bytes id n (row_at r + length (record_line m)) ms rs size t.3)
  where
    named : row_id r ≡ m.id
    named = ap row_id t.0

    at : (c : Bool) → eqb (row_id r) id ≡ c
        → Tabled bytes (row_at r + length (record_line m)) (retried id n ms) (retry_row id n rs) size
        → Tabled bytes start (retried id n (m ∷ ms)) (retry_row id n (r ∷ rs)) size
    at true c rest =
        let mine : eqb m.id id ≡ true = ap (λ k. eqb k id) (sym named) ∙ c in
        let sized : row_len r ≡ length (record_line m) = ap row_len t.0 in
        rw (c, mine, retried, retry_row) (cc, t.1, t.2, rest)
    at false c rest =
        let other : eqb m.id id ≡ false = ap (λ k. eqb k id) (sym named) ∙ c in
        rw (c, other, retried, retry_row) (t.0, t.1, t.2, rest)

-- messages written one behind the other
pub rows_from_lem : (at : ℕ) (ms : List Message) → length (rows_from at ms) ≡ length ms
unfolding rows_from
rows_from_lem at [] = refl
rows_from_lem at (m ∷ ms) = ap suc (rows_from_lem (at + length (message_lines m)) ms)

pub tabled_image : (bytes : List ℕ) (to : ℕ) (ms : List Message) → to + length (image ms) ≤ length bytes
    → Tabled (write bytes to (image ms)) to ms (rows_from to ms) (to + length (image ms))
unfolding image rows_from message_lines
tabled_image bytes to [] h = omega arith
tabled_image bytes to (m ∷ ms) h =
    let tries : List ℕ = attempts_line m.id m.attempts in
    let more : List ℕ = tries ++ image ms in
    let n : length ((record_line m ++ tries) ++ image ms) ≡ length (record_line m) + length tries + length (image ms) =
    simp length-append refl in
    let k : length more ≡ length tries + length (image ms) = length-append tries (image ms) in
    let lines : length (record_line m ++ tries) ≡ length (record_line m) + length tries =
    length-append (record_line m) tries in
    let one : length (write bytes to (record_line m)) ≡ length bytes =
    length_write bytes to (record_line m) (omega arith) in
    let two : length (write bytes to (record_line m ++ tries)) ≡ length bytes =
    length_write bytes to (record_line m ++ tries) (omega arith) in
    let assoc : write bytes to ((record_line m ++ tries) ++ image ms) ≡ write bytes to (record_line m ++ more) =
    ap (write bytes to) (append_assoc (record_line m) tries (image ms)) in
    let mine : part (write bytes to ((record_line m ++ tries) ++ image ms)) to (to + length (record_line m))
    ≡ record_line m
    = ap (λ d. part d to (to + length (record_line m)))
    (assoc ∙ sym (write_write bytes to (record_line m) more (omega arith)))
    ∙ (part_below (write bytes to (record_line m)) (to + length (record_line m)) to (to + length (record_line m))
    more (omega arith) (omega arith) (omega arith)
    ∙ part_written bytes to (record_line m) (omega arith)) in
    let both : write (write bytes to (record_line m ++ tries)) (to + length (record_line m ++ tries)) (image ms)
    ≡ write bytes to ((record_line m ++ tries) ++ image ms) =
    write_write bytes to (record_line m ++ tries) (image ms) (omega arith) in
    let size : to + length (record_line m ++ tries) + length (image ms)
    ≡ to + length ((record_line m ++ tries) ++ image ms) = omega arith in
    let others = tabled_image (write bytes to (record_line m ++ tries)) (to + length (record_line m ++ tries)) ms
    (omega arith) in
    let next : to + length (record_line m) ≤ to + length (record_line m ++ tries) = omega arith in (
      refl,
      omega arith,
      mine,
      tabled_start _ _ _ ms _ _ next
          (subst (λ j. Tabled (write bytes to ((record_line m ++ tries) ++ image ms))
          (to + length (record_line m ++ tries)) ms (rows_from (to + length (record_line m ++ tries)) ms) j) size
          (subst (λ d. Tabled d (to + length (record_line m ++ tries)) ms
          (rows_from (to + length (record_line m ++ tries)) ms) (to + length (record_line m ++ tries) + length (image ms)))
          both others)),
    )

-- a row's record and retry line are as long as the message's
pub span_is : (m : Message) (r : List ℕ) → r ≡ row m.id (row_at r) (length (record_line m)) m.attempts
    → row_span r ≡ length (message_lines m)
unfolding message_lines
span_is m r e =
    let len : row_len r ≡ length (record_line m) = ap row_len e in
    let id : row_id r ≡ m.id = ap row_id e in
    let tried : row_tried r ≡ m.attempts = ap row_tried e in
    let same : length (row_tries r) ≡ length (attempts_line m.id m.attempts) = cc in
    omega (arith, length-append (record_line m) (attempts_line m.id m.attempts))

-- the rewrite: the open messages, in their order, from the first byte on
module _ (bytes : List ℕ) (size : ℕ) (l : size ≤ length bytes) where
  -- what the rows stand for is the messages' image
  pub rows_image_lem : (start : ℕ) (ms : List Message) (rs : List (List ℕ)) → Tabled bytes start ms rs size
      → rows_image bytes rs ≡ image ms
  unfolding rows_image image message_lines
  rows_image_lem start [] [] t = refl
  rows_image_lem start [] (r ∷ rs) t = absurd t
  rows_image_lem start (m ∷ ms) [] t = absurd t
  rows_image_lem start (m ∷ ms) (r ∷ rs) t =
      let len : row_len r ≡ length (record_line m) = ap row_len t.0 in
      let id : row_id r ≡ m.id = ap row_id t.0 in
      let tried : row_tried r ≡ m.attempts = ap row_tried t.0 in
      let mine : part bytes (row_at r) (row_at r + row_len r) ≡ record_line m =
      ap (λ k. part bytes (row_at r) (row_at r + k)) len ∙ t.2 in
      cc (rows_image_lem (row_at r + length (record_line m)) ms rs t.3)

  pub rows_placed_lem : (start to : ℕ) (ms : List Message) (rs : List (List ℕ)) → Tabled bytes start ms rs size
      → rows_placed to rs ≡ rows_from to ms
  unfolding rows_placed rows_from
  rows_placed_lem start to [] [] t = refl
  rows_placed_lem start to [] (r ∷ rs) t = absurd t
  rows_placed_lem start to (m ∷ ms) [] t = absurd t
  rows_placed_lem start to (m ∷ ms) (r ∷ rs) t =
      let len : row_len r ≡ length (record_line m) = ap row_len t.0 in
      let id : row_id r ≡ m.id = ap row_id t.0 in
      let tried : row_tried r ≡ m.attempts = ap row_tried t.0 in
      let span : to + row_span r ≡ to + length (message_lines m) = ap (λ k. to + k) (span_is m r t.0) in
      let rest : rows_placed (to + row_span r) rs ≡ rows_from (to + length (message_lines m)) ms =
      ap (λ k. rows_placed k rs) span
      ∙ rows_placed_lem (row_at r + length (record_line m)) (to + length (message_lines m)) ms rs t.3 in
      cc

  -- rows that stand for messages whose image fits can be rewritten
  pub rows_rewritable : (start to : ℕ) (ms : List Message) (rs : List (List ℕ)) → Tabled bytes start ms rs size
      → to + length (image ms) ≤ length bytes → rewritable (length bytes) start to rs ≡ true
  unfolding rewritable image
  rows_rewritable start to [] [] t h = le-leb to (length bytes) (omega arith)
  rows_rewritable start to [] (r ∷ rs) t h = absurd t
  rows_rewritable start to (m ∷ ms) [] t h = absurd t
  rows_rewritable start to (m ∷ ms) (r ∷ rs) t h =
      let len : row_len r ≡ length (record_line m) = ap row_len t.0 in
      let span : row_span r ≡ length (message_lines m) = span_is m r t.0 in
      let n : length (message_lines m ++ image ms) ≡ length (message_lines m) + length (image ms) =
      length-append (message_lines m) (image ms) in
      let end : row_at r + length (record_line m) ≤ size =
      tabled_end bytes (row_at r + length (record_line m)) ms rs size t.3 in
      let next : Tabled bytes (row_at r + row_len r) ms rs size =
      subst (λ k. Tabled bytes (row_at r + k) ms rs size) (sym len) t.3 in
      cc (
        le-leb start (row_at r) t.1,
        le-leb (row_at r + row_len r) (length bytes) (omega arith),
        rows_rewritable (row_at r + row_len r) (to + row_span r) ms rs next (omega arith),
      )
