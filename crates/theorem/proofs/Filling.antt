-- The messages left, put one by one: after i of them the entries below i stand in pending, each with its message's
-- row. Assumes nothing.
use mathlib.Core.Path.{◌≡◌, refl, sym, ap, ◌∙◌, fun_ext}
use mathlib.Core.Logic.{◌≢◌}
use mathlib.Core.List.{List, [], ◌∷◌, ◌++◌, map}
use Prim.Native.Nat.{ℕ, zero, suc, ◌+◌, ◌-◌, ◌*◌, ◌≤◌, ◌<◌}
use native.Mathlib.Omega.{arith}
use lib.ListN.{length, get_or, drop, length-set}
use lib.Seq.{get_or-drop, drop-drop}
use Rattle.text.specs.Format.{Message}
use Rattle.message_log.specs.Opened.{left_row}
use Rattle.lists.specs.Links.{LISTS, ENTRIES, FREE, Table, start_from, move_first, PENDING}
use Rattle.lists.specs.Family.{up_from, view, Good, Moved}
use Rattle.lists.proofs.Counts.{put, put_one, total_empty, total_single}
use Rattle.lists.proofs.AtStart.{started}
use Rattle.lists.proofs.Moves.{move_first_lem}
use Rattle.actor.specs.Messages.{message_at, put_message}
use Rattle.actor.proofs.Back.{message_put, message_other}
use Rattle.theorem.specs.Places.{id_count, stands, mail_total, Sound}
use Rattle.settings.specs.Tables.{LeftPlaced, left_message, put_left}
use Rattle.settings.specs.Tables as tables

-- ---- lists

-- one more at the end
up_snoc : (h n e : ℕ) → h + n ≡ e → up_from h n ++ (e ∷ []) ≡ up_from h (suc n)
unfolding up_from
up_snoc h zero e p = let same : e ≡ h = omega arith in rw same
up_snoc h (suc n) e p = ap (λ l. h ∷ l) (up_snoc (suc h) n e (omega arith))

-- behind the first i elements stand x and then xs
module _ {A : Type 0} (l : List A) (i : ℕ) (x : A) (xs : List A) (behind : drop i l ≡ x ∷ xs) where
  at_drop : (d : A) → get_or l i d ≡ x
  at_drop d = let z : i + 0 ≡ i = omega arith in ap (λ k. get_or l k d) (sym z) ∙ (sym (get_or-drop i l 0 d)
      ∙ ap (λ r. get_or r 0 d) behind)

  next_drop : drop (suc i) l ≡ xs
  next_drop = let s : i + 1 ≡ suc i = omega arith in ap (λ k. drop k l) (sym s) ∙ (sym (drop-drop 1 i l)
      ∙ ap (drop 1) behind)

-- ---- the lists and the rows after i messages

-- the entries below i are in pending, the others are free, every other list is empty, and every entry has a row
pub record Filled (t rows : Table) (i : ℕ) : Type 0 where
  pub good : Good t
  pub sized : length rows ≡ ENTRIES
  pub free : view t FREE ≡ up_from i (ENTRIES - i)
  pub pending : view t PENDING ≡ up_from 0 i
  pub others : (k : ℕ) → k ≢ FREE → k ≢ PENDING → view t k ≡ []

pub filled_none : (rows : Table) → length rows ≡ ENTRIES → Filled (start_from 0 LISTS) rows 0
unfolding up_from
filled_none rows sized =
    record {
      good = started.good;
      sized = sized;
      free = started.all;
      pending = started.others PENDING
          (λ e. omega arith);
      others = λ k p q. started.others k p;
    }

module _ (t rows : Table) (i : ℕ) (filled : Filled t rows i) (inside : i < ENTRIES) where
  moved : Moved t FREE PENDING 1 (move_first t FREE PENDING)
  moved = move_first_lem (record {
    good = filled.good;
    from_is = omega arith;
    to_is = omega arith;
    apart =
        λ e. omega arith;
  })

  -- the first of the free entries is i
  first_free : view t FREE ≡ i ∷ up_from (suc i) (ENTRIES - suc i)
  unfolding up_from
  first_free = let some : ENTRIES - i ≡ suc (ENTRIES - suc i) = omega arith in rw some at filled.free

  filled_more : (rows' : Table) → length rows' ≡ length rows → Filled (move_first t FREE PENDING) rows' (suc i)
  filled_more rows' same =
      record {
        good = moved.good;
        sized = same ∙ filled.sized;
        free = moved.left ∙ ap (drop 1) first_free;
        pending = moved.joined ∙ rw (first_free, filled.pending) (up_snoc 0 i i (omega arith));
        others = λ k p q. moved.others k p q ∙ filled.others k p q;
      }

-- ---- the rows of messages

-- messages stand in the rows from i on
abbrev pub Stand : Table → ℕ → List Message → Type 0
Stand rows i [] = Unit
Stand rows i (m ∷ ms) = (message_at rows i ≡ left_message (left_row m)) × Stand rows (suc i) ms

put_long : (rows : Table) (e : ℕ) (row : List ℕ) → length (put_message rows e (left_message row)) ≡ length rows
unfolding put_message
put_long rows e row = simp length-set

-- ---- all messages

-- what putting messages from the i-th on makes: n are in, they stand in their rows, and rows below i are as they were
pub record Left (rows : Table) (i n : ℕ) (ms : List Message) (p : LeftPlaced) : Type 0 where
  pub filled : Filled p.links p.rows n
  pub below : (j : ℕ) → j < i → message_at p.rows j ≡ message_at rows j
  pub stand : Stand p.rows i ms

-- one message, and then the others
left_cons : (rows : Table) (i n : ℕ) (m : Message) (ms : List Message) (row : List ℕ) (p : LeftPlaced) → i < length rows
    → row ≡ left_row m
    → Left (put_message rows i (left_message row)) (suc i) n ms p → Left rows i n (m ∷ ms) p
left_cons rows i n m ms row p inside here later =
    record {
      filled = later.filled;
      below = λ j q. later.below j (omega arith) ∙ message_other rows i (left_message row) j (omega arith);
      stand = (
        later.below i (omega arith) ∙ (message_put rows i (left_message row) inside ∙ ap left_message here),
        later.stand,
      );
    }

-- the rows of the messages stand in `left` from row i on
pub put_left_lem : (ms : List Message) (t rows left : Table) (i n : ℕ) (rest : Table) → Filled t rows i → i + length ms ≡ n
    → n ≤ ENTRIES → drop i left ≡ map left_row ms ++ rest
    → Left rows i n ms (put_left t rows left i (length ms))
unfolding put_left
put_left_lem [] t rows left i n rest filled sum room behind = let all : i ≡ n = omega arith in
    record { filled = rw all at filled; below = λ j p. refl; stand = tt }
put_left_lem (m ∷ ms) t rows left i n rest filled sum room behind =
    let row : List ℕ = tables.left_at left i in
    let t' : Table = move_first t FREE PENDING in
    let rows' : Table = put_message rows i (left_message row) in
    let here : row ≡ left_row m = at_drop left i (left_row m) (map left_row ms ++ rest) behind (0 ∷ 0 ∷ 0 ∷ 0 ∷ []) in
    let next : drop (suc i) left ≡ map left_row ms ++ rest = next_drop left i (left_row m) (map left_row ms ++ rest)
    behind in
    let more : Filled t' rows' (suc i) = filled_more t rows i filled (omega arith) rows' (put_long rows i row) in
    left_cons rows i n m ms row (put_left t' rows' left (suc i) (length ms)) (omega (arith, filled.sized)) here
    (put_left_lem ms t' rows' left (suc i) n rest more (omega arith) room next)

-- ---- what the places hold then

module _ (t rows : Table) (n : ℕ) (filled : Filled t rows n) where
  -- no mailbox has an entry
  no_mail : mail_total t ≡ 0
  unfolding mail_total
  no_mail = rw empty (total_empty length 128 refl)
    where
      empty : ◌≡◌ {A = ℕ → List ℕ} (λ slot. view t (6 + 2 * slot)) (λ _. [])
      empty = fun_ext (λ slot. filled.others (6 + 2 * slot) (λ e. omega arith) (λ e. omega arith))

  pub filled_sound : Sound t rows 0
  filled_sound = record { good = filled.good; sized = filled.sized; mail = sym no_mail }

  -- an id stands as often as in pending
  pub filled_stands : (x : ℕ) → stands x t rows ≡ id_count x rows (up_from 0 n)
  unfolding stands id_count
  filled_stands x = rw alone (total_single (id_count x rows) 261 1 (up_from 0 n) (omega arith) refl)
    where
      alone : ◌≡◌ {A = ℕ → List ℕ} (λ k. view t (suc k)) (put (λ _. []) 1 (up_from 0 n))
      alone = put_one (λ k. view t (suc k)) (λ _. []) 1 (up_from 0 n) filled.pending (λ k p. filled.others (suc k)
          (λ e. omega arith) (λ e. p (omega arith)))
