-- The mailboxes of well-formed links are chained. Assumes nothing.
use mathlib.Core.Path.{◌≡◌, refl, sym, ap, ◌∙◌}
use mathlib.Core.List.{List, [], ◌∷◌}
use Prim.Native.Nat.{ℕ, suc, ◌-◌, ◌<◌}
use native.Mathlib.Omega.{arith}
use lib.ListN.{length, get_or}
use lib.Seq.{take_all}
use Rattle.lists.specs.Links.{LISTS, Table, link_at, tail_of, len_of, head_of, next_of}
use Rattle.lists.specs.Family.{last_d, chain, view, Good}
use Rattle.lists.proofs.Counts.{last_d_take}
use Rattle.lists.proofs.Family.{length_view, first_view, after_is, no_circle, nowhere_else, entry}
use Rattle.theorem.specs.Mailboxes.{cell, IsChain, mail_list, Chained}

-- a list along whose links each one's next is the following one is what the links lead to from its first on
chain_only : (t : Table) (es : List ℕ) (h : ℕ) → (0 < length es → h ≡ get_or es 0 0)
    → ((i : ℕ) → suc i < length es → next_of t (get_or es i 0) ≡ get_or es (suc i) 0) → es ≡ chain t (length es) h
unfolding chain
chain_only t [] h first following = refl
chain_only t (e ∷ es) h first following =
    let here : h ≡ e = first (omega arith) in
    rw here (ap (λ rest. e ∷ rest) (chain_only t es (next_of t e) (λ some. following 0 (omega arith))
    (λ i more. following (suc i) (omega arith))))

-- the last of a list
last_at : (d : ℕ) (xs : List ℕ) → 0 < length xs → last_d d xs ≡ get_or xs (length xs - 1) 0
last_at d xs some =
    ap (last_d d) (sym (take_all (length xs) xs (omega arith))) ∙ last_d_take d (length xs) xs some (omega arith)

-- the links by their cells
module _ (t : Table) (k : ℕ) where
  many_cell : cell t k 2 ≡ len_of t k
  unfolding link_at
  many_cell = refl

  first_cell : cell t k 0 ≡ head_of t k
  unfolding link_at
  first_cell = refl

  last_cell : cell t k 1 ≡ tail_of t k
  unfolding link_at
  last_cell = refl

  next_cell : cell t k 3 ≡ next_of t k
  unfolding link_at
  next_cell = refl

-- of a list of well-formed links
view_is_chain : (t : Table) → Good t → (k : ℕ) → IsChain t k (view t k)
view_is_chain t good k = record {
  many = many_cell t k ∙ sym (length_view t k);
  first = λ some. first_cell t k ∙ sym (first_view t k some);
  following = λ i more. next_cell t (get_or (view t k) i 0) ∙ after_is t (get_or (view t k) i 0) k i more refl;
  last = λ some. last_cell t k ∙ (sym (good.lasts k) ∙ last_at (tail_of t k) (view t k) some);
}

chain_is_view : (t : Table) (k : ℕ) (es : List ℕ) → IsChain t k es → es ≡ view t k
unfolding view
chain_is_view t k es is =
    chain_only t es (head_of t k) (λ some. sym (first_cell t k) ∙ is.first some)
    (λ i more. sym (next_cell t (get_or es i 0)) ∙ is.following i more)
    ∙ ap (λ n. chain t n (head_of t k)) (sym is.many ∙ many_cell t k)

pub good_chained : (t : Table) → Good t → Chained t
good_chained t good slot slot_is = record {
  reads = view_is_chain t good (mail_list slot);
  only = chain_is_view t (mail_list slot);
  once = λ i j before in-it. no_circle t good (mail_list slot) i j in_lists before in-it;
  alone = λ e there k other. nowhere_else t good e (mail_list slot) k in_lists there other;
  inside = λ e there. entry t good e (mail_list slot) in_lists there;
}
  where
    in_lists : mail_list slot < LISTS
    in_lists = omega arith
