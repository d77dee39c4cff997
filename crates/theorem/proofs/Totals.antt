-- Sums over lists, how often a log id stands in some lists, and the sum of the mailbox lengths. Assumes nothing.
use mathlib.Core.Path.{◌≡◌, refl, sym, ap, ◌∙◌}
use mathlib.Core.Logic.{◌≢◌}
use mathlib.Core.List.{List, [], ◌∷◌, ◌++◌}
use Prim.Native.Nat.{ℕ, zero, suc, ◌+◌, ◌*◌, ◌≤◌, ◌<◌}
use native.Mathlib.Omega.{arith}
use native.Mathlib.Decide.{ℕ_discrete, dec_lt}
use lib.ListN.{length, take, drop, length-set, take-append-drop}
use lib.Seq.{set_out}
use Rattle.lists.specs.Links.{pick, LISTS, ENTRIES, FREE, Table, head_of}
use Rattle.lists.specs.Family.{count, total, view, Good}
use Rattle.lists.proofs.Counts.{put, put_same, put_other, total_put, take_one, count_same}
use Rattle.lists.proofs.Family.{first_view, nowhere_else}
use Rattle.actor.specs.declared.message.Message.{Message}
use Rattle.actor.specs.Messages.{message_cells, message_at, put_message}
use Rattle.actor.proofs.Back.{message_put, message_other}
use Rattle.theorem.specs.Places.{is_id, id_count, stands, mail_total}

-- ---- total

-- lists that weigh the same, one by one
pub total_same : (v w : List ℕ → ℕ) (n : ℕ) (f g : ℕ → List ℕ) → ((k : ℕ) → k < n → v (f k) ≡ w (g k)) → total v n f
    ≡ total w n g
unfolding total
total_same v w zero f g same = refl
total_same v w (suc n) f g same = omega (
  arith,
  total_same v w n f g (λ k k-is. same k (omega arith)),
  same n (omega arith),
)

-- but for one
pub total_at : (w : List ℕ → ℕ) (n : ℕ) (f g : ℕ → List ℕ) (i : ℕ) → i < n → ((k : ℕ) → k < n → k ≢ i → w (g k)
    ≡ w (f k)) → total w n g + w (f i) ≡ total w n f + w (g i)
total_at w n f g i i_is same = omega (
  arith,
  total_put w n f i (g i) i_is,
  total_same w w n g (put f i (g i))
      (λ k k-is. go k k-is (ℕ_discrete k i)),
)
  where
    go : (k : ℕ) → k < n → Dec (k ≡ i) → w (g k) ≡ w (put f i (g i) k)
    go k k-is (yes p) = rw (p, put_same f i (g i))
    go k k-is (no p) = rw (put_other f i (g i) k p) (same k k-is p)

-- the first apart
pub total_first : (w : List ℕ → ℕ) (n : ℕ) (f : ℕ → List ℕ) → total w (suc n) f
    ≡ w (f 0) + total w n (λ (k : ℕ). f (suc k))
unfolding total
total_first w zero f = omega arith
total_first w (suc n) f = omega (arith, total_first w n f)

total_suc : (w : List ℕ → ℕ) (m n : ℕ) (f : ℕ → List ℕ) → m ≡ suc n → total w m f ≡ total w n f + w (f n)
unfolding total
total_suc w m n f is = rw is

-- the mailboxes weigh no more than all the lists
pub total_mail : (w : List ℕ → ℕ) (n : ℕ) (f : ℕ → List ℕ) → total w n (λ (slot : ℕ). f (6 + 2 * slot)) ≤ total w
    (6 + 2 * n) f
unfolding total
total_mail w zero f = omega arith
total_mail w (suc n) f = omega (
  arith,
  total_mail w n f,
  total_suc w (6 + 2 * suc n) (7 + 2 * n) f (omega arith),
  total_suc w (7 + 2 * n) (6 + 2 * n) f (omega arith),
)

-- ---- id_count

module _ (x : ℕ) (rows : Table) where
  pub id_append : (xs ys : List ℕ) → id_count x rows (xs ++ ys) ≡ id_count x rows xs + id_count x rows ys
  unfolding id_count
  id_append [] ys = omega arith
  id_append (e ∷ xs) ys = omega (arith, id_append xs ys)

  pub id_split : (n : ℕ) (xs : List ℕ) → id_count x rows (take n xs) + id_count x rows (drop n xs) ≡ id_count x rows xs
  id_split n xs = sym (id_append (take n xs) (drop n xs)) ∙ ap (id_count x rows) (take-append-drop n xs)

  pub id_none : id_count x rows [] ≡ 0
  unfolding id_count
  id_none = refl

  pub id_single : (e : ℕ) → id_count x rows (e ∷ []) ≡ pick (is_id x (message_at rows e).id) 1 0
  unfolding id_count
  id_single e = omega arith

  -- the first entry of a list
  pub id_first : (t : Table) (k : ℕ) → 0 < length (view t k) → id_count x rows (take 1 (view t k))
      ≡ pick (is_id x (message_at rows (head_of t k)).id) 1 0
  id_first t k some = rw (take_one (view t k) some, first_view t k some) (id_single (head_of t k))

-- ---- a row is written

pub rows_length : (rows : Table) (e : ℕ) (m : Message) → length (put_message rows e m) ≡ length rows
unfolding put_message
rows_length rows e m = simp length-set

-- past the table's end nothing is written
pub row_past : (rows : Table) (e : ℕ) (m : Message) → length rows ≤ e → put_message rows e m ≡ rows
unfolding put_message
row_past rows e m out = set_out rows e (message_cells m) out

-- under the same log id
pub row_id_lem : (rows : Table) (e : ℕ) (m : Message) → m.id ≡ (message_at rows e).id → (j : ℕ)
    → (message_at (put_message rows e m) j).id ≡ (message_at rows j).id
row_id_lem rows e m same j = go (ℕ_discrete j e) (dec_lt e (length rows))
  where
    go : Dec (j ≡ e) → Dec (e < length rows) → (message_at (put_message rows e m) j).id ≡ (message_at rows j).id
    go (no other) d = rw (message_other rows e m j other)
    go (yes here) (yes e-is) = rw (here, message_put rows e m e-is) same
    go (yes here) (no out) = rw (row_past rows e m (omega arith))

-- with no fewer attempts
pub row_tried_lem : (rows : Table) (e : ℕ) (m : Message) (j n : ℕ) → (n ≤ (message_at rows e).attempts → n ≤ m.attempts)
    → n ≤ (message_at rows j).attempts → n ≤ (message_at (put_message rows e m) j).attempts
row_tried_lem rows e m j n more most = go (ℕ_discrete j e) (dec_lt e (length rows))
  where
    go : Dec (j ≡ e) → Dec (e < length rows) → n ≤ (message_at (put_message rows e m) j).attempts
    go (no other) d = rw (message_other rows e m j other) most
    go (yes here) (yes e-is) = rw (here, message_put rows e m e-is) (more (rw here at most))
    go (yes here) (no out) = rw (row_past rows e m (omega arith)) most

pub id_same : (x : ℕ) (rows : Table) (e : ℕ) (m : Message) → m.id ≡ (message_at rows e).id → (xs : List ℕ)
    → id_count x (put_message rows e m) xs ≡ id_count x rows xs
unfolding id_count
id_same x rows e m same [] = refl
id_same x rows e m same (j ∷ xs) = rw (row_id_lem rows e m same j, id_same x rows e m same xs)

-- of an entry that does not stand in a list
pub id_other : (x : ℕ) (rows : Table) (e : ℕ) (m : Message) (xs : List ℕ) → count e xs ≡ 0
    → id_count x (put_message rows e m) xs ≡ id_count x rows xs
unfolding id_count count
id_other x rows e m [] nowhere = refl
id_other x rows e m (j ∷ xs) nowhere = rw (message_other rows e m j other, id_other x rows e m xs (omega arith))
  where
    other : j ≢ e
    other here = omega (arith, count_same e j xs here)

-- ---- stands

-- the six places and what is free are all the lists
pub stands_all : (x : ℕ) (t rows : Table) → stands x t rows + id_count x rows (view t FREE)
    ≡ total (id_count x rows) LISTS (view t)
unfolding stands
stands_all x t rows = omega (arith, total_first (id_count x rows) 261 (view t))

-- a row is written under the same log id
pub stands_row : (x : ℕ) (t rows : Table) (e : ℕ) (m : Message) → m.id ≡ (message_at rows e).id
    → stands x t (put_message rows e m) ≡ stands x t rows
unfolding stands
stands_row x t rows e m same = total_same (id_count x (put_message rows e m)) (id_count x rows) 261 _ _
    (λ k k-is. id_same x rows e m same (view t (suc k)))

-- the row of a free entry is written
pub stands_free : (x : ℕ) (t rows : Table) (e : ℕ) (m : Message) → Good t → 0 < count e (view t FREE)
    → stands x t (put_message rows e m) ≡ stands x t rows
unfolding stands
stands_free x t rows e m good free =
    total_same (id_count x (put_message rows e m)) (id_count x rows) 261 _ _
    (λ k k-is. id_other x rows e m (view t (suc k)) (nowhere_else t good e FREE (suc k) (omega arith) free
    (λ z. omega arith)))

-- ---- mail_total

pub mail_few : (t : Table) → Good t → mail_total t ≤ ENTRIES
unfolding mail_total
mail_few t good = omega (arith, total_mail length 128 (view t), good.whole)
