-- What each operation does to every list of a well-formed family, and that it keeps it well formed. Assumes nothing.
use mathlib.Core.Path.{◌≡◌, refl, sym, ap, ap₂, ◌∙◌}
use mathlib.Core.Logic.{◌≢◌}
use mathlib.Core.List.{List, [], ◌++◌, append-nil}
use Prim.Native.Nat.{ℕ, ◌+◌, ◌-◌, ◌≤◌, ◌<◌}
use native.Mathlib.Nat.{zero-add, add_comm}
use native.Mathlib.Omega.{arith}
use native.Mathlib.Decide.{ℕ_discrete, dec_lt}
use borrow.Author.Tests.{eq-eqb, ne_eqb, le-leb, lt-leb}
use lib.ListN.{length, take, drop, length-append}
use lib.Seq.{length-take-le, take_all, take-nil, drop-nil, drop-length}
use Rattle.lists.specs.Links.{LISTS, ENTRIES, Table, head_of, tail_of, len_of, next_of, set_ends, set_next}
use Rattle.lists.specs.Links.{capped, leave_of, join_end, join_front, if_moves, move_first, move_first_to_front, move_all}
use Rattle.lists.specs.Family.{count, last_d, chain, view, Good, Pair, Run, Moved, MovedAll, MovedToFront}
use Rattle.lists.proofs.Counts.{count_append, count_split, length_split, last_d_append, last_d_default}
use Rattle.lists.proofs.Counts.{last_d_drop, last_d_take, last_in_lem}
use Rattle.lists.proofs.Cells.{capped_small, ends_length, ends_head, ends_tail, ends_len, ends_other_head}
use Rattle.lists.proofs.Cells.{ends_other_tail, ends_other_len, next_length, next_head, next_tail, next_len}
use Rattle.lists.proofs.Chains.{take_chain, drop_chain, chain_ends, chain_frame, chain_join}
use Rattle.lists.proofs.Family.{length_view, view_none, first_view, len_past, single, nowhere_else, entry, room}
use Rattle.lists.proofs.Family.{tail_in, Change, change_good}

-- ---- a list's ends are stored

module _ (u : Table) (k h a n : ℕ) (k-is : k < length u) where
  view_ends : view (set_ends u k h a n) k ≡ chain u n h
  unfolding view
  view_ends = rw (ends_len u k h a n k-is, ends_head u k h a n k-is) (chain_ends u k h a n n h)

module _ (u : Table) (k h a n : ℕ) (j : ℕ) (other : j ≢ k) where
  view_ends_other : view (set_ends u k h a n) j ≡ view u j
  unfolding view
  view_ends_other = rw (ends_other_len u k h a n j other, ends_other_head u k h a n j other)
      (chain_ends u k h a n (len_of u j) (head_of u j))

-- the link of an entry that is not in a list does not matter to it
view_frame : (u : Table) (e v k : ℕ) → count e (view u k) ≡ 0 → view (set_next u e v) k ≡ view u k
unfolding view
view_frame u e v k nowhere = rw (next_len u e v k, next_head u e v k) (chain_frame u e v (len_of u k) (head_of u k)
    nowhere)

-- ---- a run of entries

module _ {t : Table} {from to n last : ℕ} (run : Run t from to n last) where
  good : Good t
  good = run.pair.good

  apart : from ≢ to
  apart = run.pair.apart

  apart' : to ≢ from
  apart' e = apart (sym e)

  from_row : from < length t
  from_row = omega (arith, run.pair.from_is, good.sized)

  enough : n ≤ len_of t from
  enough = omega (arith, run.enough, length_view t from)

  fits : capped (len_of t to + n) ≡ len_of t to + n
  fits = capped_small (len_of t to + n) (omega (
    arith,
    enough,
    room t good from to run.pair.from_is
        run.pair.to_is apart,
  ))

  -- what moves, along the links
  moves_chain : chain t n (head_of t from) ≡ take n (view t from)
  unfolding view
  moves_chain = sym (take_chain t n (len_of t from) (head_of t from) enough)

  moves_last : (d : ℕ) → last_d d (take n (view t from)) ≡ last
  moves_last d = last_d_take d n (view t from) run.some run.enough ∙ sym run.last_is

  -- what stays
  stays_chain : chain t (len_of t from - n) (next_of t last) ≡ drop n (view t from)
  unfolding view
  stays_chain = rw run.last_is (sym (drop_chain t n (len_of t from) (head_of t from) run.some enough))

  -- the run's last entry stands in `from` alone, and there once
  last_moves : 0 < count last (take n (view t from))
  last_moves = last_in_lem last (take n (view t from)) (omega (
    arith,
    length-take-le n (view t from) run.enough,
    run.some,
  )) (moves_last last)

  last_here : 0 < count last (view t from)
  last_here = omega (arith, last_moves, count_split last n (view t from))

  last_entry : last < ENTRIES
  last_entry = entry t good last from run.pair.from_is last_here

  last_once : count last (take n (view t from)) ≡ 1
  last_once = omega (arith, last_moves, single t good last from run.pair.from_is, count_split last n (view t from))

  last_not_stays : count last (drop n (view t from)) ≡ 0
  last_not_stays = omega (
    arith,
    last_moves,
    single t good last from run.pair.from_is,
    count_split last n (view t from),
  )

  last_elsewhere : (k : ℕ) → k ≢ from → count last (view t k) ≡ 0
  last_elsewhere k other = nowhere_else t good last from k run.pair.from_is last_here other

  -- the tail of `to`, where there is one, stands in `to` alone, and there once
  module _ (some : 0 < len_of t to) where
    tail_here : 0 < count (tail_of t to) (view t to)
    tail_here = tail_in t good to (omega (arith, length_view t to))

    tail_entry : tail_of t to < ENTRIES
    tail_entry = entry t good (tail_of t to) to run.pair.to_is tail_here

    tail_once : count (tail_of t to) (view t to) ≡ 1
    tail_once = omega (arith, tail_here, single t good (tail_of t to) to run.pair.to_is)

    tail_elsewhere : (k : ℕ) → k ≢ to → count (tail_of t to) (view t k) ≡ 0
    tail_elsewhere k other = nowhere_else t good (tail_of t to) to k run.pair.to_is tail_here other

    tail_not_moves : count (tail_of t to) (take n (view t from)) ≡ 0
    tail_not_moves = omega (arith, tail_elsewhere from apart, count_split (tail_of t to) n (view t from))

    tail_not_stays : count (tail_of t to) (drop n (view t from)) ≡ 0
    tail_not_stays = omega (arith, tail_elsewhere from apart, count_split (tail_of t to) n (view t from))

  -- ---- it leaves `from`

  abbrev left : Table
  left = leave_of t from n last

  left_length : length left ≡ LISTS
  unfolding leave_of
  left_length = ends_length t from (next_of t last) (tail_of t from) (len_of t from - n) ∙ good.sized

  left_len : len_of left to ≡ len_of t to
  unfolding leave_of
  left_len = ends_other_len t from (next_of t last) (tail_of t from) (len_of t from - n) to apart'

  left_head : head_of left to ≡ head_of t to
  unfolding leave_of
  left_head = ends_other_head t from (next_of t last) (tail_of t from) (len_of t from - n) to apart'

  left_chain : (m h : ℕ) → chain left m h ≡ chain t m h
  unfolding leave_of
  left_chain = chain_ends t from (next_of t last) (tail_of t from) (len_of t from - n)

  left_from : view left from ≡ drop n (view t from)
  unfolding leave_of
  left_from = view_ends t from (next_of t last) (tail_of t from) (len_of t from - n) from_row ∙ stays_chain

  left_others : (k : ℕ) → k ≢ from → view left k ≡ view t k
  unfolding leave_of
  left_others = view_ends_other t from (next_of t last) (tail_of t from) (len_of t from - n)

  left_tail : (k : ℕ) → tail_of left k ≡ tail_of t k
  unfolding leave_of
  left_tail k = go (ℕ_discrete k from)
    where
      go : Dec (k ≡ from) → tail_of (set_ends t from (next_of t last) (tail_of t from) (len_of t from - n)) k ≡ tail_of t k
      go (yes p) = rw p (ends_tail t from (next_of t last) (tail_of t from) (len_of t from - n) from_row)
      go (no p) = ends_other_tail t from (next_of t last) (tail_of t from) (len_of t from - n) k p

  -- ---- it joins `to`: u is the table once the run is linked, and `all` what `to` then is, from h to a

  module _ (u : Table) (h a : ℕ) (all : List ℕ) (long : length u ≡ LISTS) (tails : (k : ℕ) → tail_of u k
      ≡ tail_of left k)
      (others : (k : ℕ) → k ≢ to → view u k ≡ view left k) (at_to : chain u (len_of t to + n) h ≡ all)
      (a-last : last_d a all ≡ a)
      (counts : (e : ℕ) → count e all ≡ count e (view t to) + count e (take n (view t from)))
      (lengths : length all ≡ length (view t to) + length (take n (view t from))) where
    abbrev joined : Table
    joined = set_ends u to h a (len_of t to + n)

    to_row : to < length u
    to_row = omega (arith, run.pair.to_is)

    tail_kept : (k : ℕ) → k ≢ to → tail_of joined k ≡ tail_of t k
    tail_kept k other = ends_other_tail u to h a (len_of t to + n) k other ∙ (tails k ∙ left_tail k)

    join_change : Change t joined from to (drop n (view t from)) all
    join_change =
        record {
          sized = ends_length u to h a (len_of t to + n) ∙ long;
          i_is = run.pair.from_is;
          j_is = run.pair.to_is;
          apart = apart;
          at_i = view_ends_other u to h a (len_of t to + n) from apart ∙ (others from apart ∙ left_from);
          at_j = view_ends u to h a (len_of t to + n) to_row ∙ at_to;
          others = λ k p q. view_ends_other u to h a (len_of t to + n) k q ∙ (others k q ∙ left_others k p);
          last_i = rw (tail_kept from apart) (last_d_drop (tail_of t from) n (view t from) (good.lasts from));
          last_j = rw (ends_tail u to h a (len_of t to + n) to_row) a-last;
          last_others = λ k p q. tail_kept k q;
          counts = λ e. omega (arith, counts e, count_split e n (view t from));
          lengths = omega (arith, lengths, length_split n (view t from));
        }

    join_good : Good joined
    join_good = change_good t good joined from to (drop n (view t from)) all join_change

  -- ---- at its end

  end_counts : (e : ℕ) → count e (view t to ++ take n (view t from)) ≡ count e (view t to) + count e
      (take n (view t from))
  end_counts e = count_append e (view t to) (take n (view t from))

  end_lengths : length (view t to ++ take n (view t from)) ≡ length (view t to) + length (take n (view t from))
  end_lengths = length-append (view t to) (take n (view t from))

  end_last : last_d last (view t to ++ take n (view t from)) ≡ last
  end_last = last_d_append last (view t to) (take n (view t from)) ∙ moves_last (last_d last (view t to))

  end_empty : len_of t to ≡ 0 → Moved t from to n (join_end left to (head_of t from) n last)
  end_empty none = rw form (record {
    good = join_good left h last all long tails others at_to end_last end_counts
        end_lengths;
    left = change.at_i;
    joined = change.at_j;
    others = change.others;
  })
    where
      h : ℕ
      h = head_of t from

      all : List ℕ
      all = view t to ++ take n (view t from)

      long : length left ≡ LISTS
      long = left_length

      tails : (k : ℕ) → tail_of left k ≡ tail_of left k
      tails k = refl

      others : (k : ℕ) → k ≢ to → view left k ≡ view left k
      others k p = refl

      at_to : chain left (len_of t to + n) h ≡ all
      at_to = rw (view_none t to none, none, zero-add n) (left_chain n h ∙ moves_chain)

      form : join_end left to h n last ≡ set_ends left to h last (len_of t to + n)
      form = unfold join_end in rw (left_len, eq-eqb (len_of t to) 0 none, fits)

      change : Change t (set_ends left to h last (len_of t to + n)) from to (drop n (view t from)) all
      change = join_change left h last all long tails others at_to end_last end_counts end_lengths

  end_more : 0 < len_of t to → Moved t from to n (join_end left to (head_of t from) n last)
  end_more some = rw form (record {
    good = join_good u (head_of t to) last all long tails others at_to end_last
        end_counts end_lengths;
    left = change.at_i;
    joined = change.at_j;
    others = change.others;
  })
    where
      h : ℕ
      h = head_of t from

      e : ℕ
      e = tail_of t to

      u : Table
      u = set_next left (tail_of left to) h

      all : List ℕ
      all = view t to ++ take n (view t from)

      long : length u ≡ LISTS
      long = next_length left (tail_of left to) h ∙ left_length

      tails : (k : ℕ) → tail_of u k ≡ tail_of left k
      tails = next_tail left (tail_of left to) h

      -- the entry that links to the run stands in no list but `to`
      absent : (k : ℕ) → k ≢ to → count (tail_of left to) (view left k) ≡ 0
      absent k other = rw (left_tail to) (go (ℕ_discrete k from))
        where
          go : Dec (k ≡ from) → count e (view left k) ≡ 0
          go (yes p) = rw (p, left_from) (tail_not_stays some)
          go (no p) = rw (left_others k p) (tail_elsewhere some k other)

      others : (k : ℕ) → k ≢ to → view u k ≡ view left k
      others k other = view_frame left (tail_of left to) h k (absent k other)

      to_chain : chain left (len_of t to) (head_of t to) ≡ view t to
      to_chain = unfold view in left_chain (len_of t to) (head_of t to)

      run_chain : chain u n h ≡ take n (view t from)
      run_chain = chain_frame left (tail_of left to) h n h (rw (left_chain n h, moves_chain, left_tail to)
          (tail_not_moves some)) ∙ (left_chain n h ∙ moves_chain)

      at_to : chain u (len_of t to + n) (head_of t to) ≡ all
      at_to =
          chain_join left (tail_of left to) h n (tail_of t to) (len_of t to) (head_of t to) some
          (rw (left_tail to) (omega (arith, tail_entry some, left_length)))
          (rw (to_chain, left_tail to) (good.lasts to))
          (rw (to_chain, left_tail to) (tail_once some))
          ∙ ap₂ ◌++◌ to_chain run_chain

      form : join_end left to h n last ≡ set_ends u to (head_of t to) last (len_of t to + n)
      form = unfold join_end in rw (left_len, ne_eqb (len_of t to) 0 (λ z. omega arith), fits, left_head)

      change : Change t (set_ends u to (head_of t to) last (len_of t to + n)) from to (drop n (view t from)) all
      change = join_change u (head_of t to) last all long tails others at_to end_last end_counts end_lengths

  pub end_moved : Moved t from to n (join_end left to (head_of t from) n last)
  end_moved = go (dec_lt 0 (len_of t to))
    where
      go : Dec (0 < len_of t to) → Moved t from to n (join_end left to (head_of t from) n last)
      go (yes p) = end_more p
      go (no p) = end_empty (omega arith)

  -- ---- at its front

  front_counts : (e : ℕ) → count e (take n (view t from) ++ view t to) ≡ count e (view t to) + count e
      (take n (view t from))
  front_counts e = omega (arith, count_append e (take n (view t from)) (view t to))

  front_lengths : length (take n (view t from) ++ view t to) ≡ length (view t to) + length (take n (view t from))
  front_lengths = omega (arith, length-append (take n (view t from)) (view t to))

  -- the table once the run's last entry links to the first of `to`: that entry stands in no list of `left`
  abbrev linked : Table
  linked = set_next left last (head_of left to)

  linked_others : (k : ℕ) → view linked k ≡ view left k
  linked_others k = view_frame left last (head_of left to) k (go (ℕ_discrete k from))
    where
      go : Dec (k ≡ from) → count last (view left k) ≡ 0
      go (yes p) = rw (p, left_from) last_not_stays
      go (no p) = rw (left_others k p) (last_elsewhere k p)

  linked_to : chain linked (len_of t to) (head_of left to) ≡ view t to
  linked_to = rw left_head (frame ∙ (left_chain (len_of t to) (head_of t to) ∙ unfold view in refl))
    where
      frame : chain (set_next left last (head_of t to)) (len_of t to) (head_of t to)
          ≡ chain left (len_of t to) (head_of t to)
      frame = chain_frame left last (head_of t to) (len_of t to) (head_of t to) (rw left_chain (unfold view in
          last_elsewhere to apart'))

  run_chain : chain left n (head_of t from) ≡ take n (view t from)
  run_chain = left_chain n (head_of t from) ∙ moves_chain

  linked_all : chain linked (len_of t to + n) (head_of t from) ≡ take n (view t from) ++ view t to
  linked_all =
      rw (add_comm (len_of t to) n)
      (chain_join left last (head_of left to) (len_of t to) last n (head_of t from) run.some
      (omega (arith, last_entry, left_length))
      (rw run_chain (moves_last last)) (rw run_chain last_once)
      ∙ ap₂ ◌++◌ run_chain linked_to)

  -- a is the end of `to` afterwards
  module _ (a : ℕ) (a-last : last_d a (take n (view t from) ++ view t to) ≡ a) where
    front_by : MovedToFront t from to n (set_ends linked to (head_of t from) a (len_of t to + n))
    front_by =
        record {
          good = join_good linked (head_of t from) a (take n (view t from) ++ view t to) long tails others linked_all
              a-last front_counts front_lengths;
          left = change.at_i;
          joined = change.at_j;
          others = change.others;
        }
      where
        long : length linked ≡ LISTS
        long = next_length left last (head_of left to) ∙ left_length

        tails : (k : ℕ) → tail_of linked k ≡ tail_of left k
        tails = next_tail left last (head_of left to)

        others : (k : ℕ) → k ≢ to → view linked k ≡ view left k
        others k p = linked_others k

        change : Change t (set_ends linked to (head_of t from) a (len_of t to + n)) from to (drop n (view t from))
            (take n (view t from) ++ view t to)
        change = join_change linked (head_of t from) a (take n (view t from) ++ view t to) long tails others linked_all
            a-last front_counts front_lengths

  pub front_moved : MovedToFront t from to n (join_front left to (head_of t from) n last)
  front_moved = go (dec_lt 0 (len_of t to))
    where
      more_last : 0 < len_of t to → last_d (tail_of t to) (take n (view t from) ++ view t to) ≡ tail_of t to
      more_last some =
          last_d_append (tail_of t to) (take n (view t from)) (view t to)
          ∙ (last_d_default (last_d (tail_of t to) (take n (view t from))) (tail_of t to) (view t to)
          (omega (arith, length_view t to)) ∙ good.lasts to)

      empty_last : len_of t to ≡ 0 → last_d last (take n (view t from) ++ view t to) ≡ last
      empty_last none = rw (view_none t to none, append-nil) (moves_last last)

      more_form : 0 < len_of t to → join_front left to (head_of t from) n last ≡ set_ends linked to (head_of t from)
          (tail_of t to) (len_of t to + n)
      more_form some = unfold join_front in rw (left_len, ne_eqb (len_of t to) 0 (λ z. omega arith), fits, left_tail to)

      empty_form : len_of t to ≡ 0 → join_front left to (head_of t from) n last ≡ set_ends linked to (head_of t from) last
          (len_of t to + n)
      empty_form none = unfold join_front in rw (left_len, eq-eqb (len_of t to) 0 none, fits)

      go : Dec (0 < len_of t to) → MovedToFront t from to n (join_front left to (head_of t from) n last)
      go (yes p) = rw (more_form p) (front_by (tail_of t to) (more_last p))
      go (no p) = let none : len_of t to ≡ 0 = omega arith in rw (empty_form none) (front_by last (empty_last none))

-- ---- the operations

module _ {t : Table} {from to : ℕ} (pair : Pair t from to) where
  -- the first entry, and all of them, as runs
  first_run : 0 < len_of t from → Run t from to 1 (head_of t from)
  first_run some =
      record {
        pair = pair;
        some = omega arith;
        enough = omega (arith, length_view t from);
        last_is =
            sym (first_view t from (omega (arith, length_view t from)));
      }

  take_whole : take (len_of t from) (view t from) ≡ view t from
  take_whole = take_all (len_of t from) (view t from) (omega (arith, length_view t from))

  drop_whole : drop (len_of t from) (view t from) ≡ []
  drop_whole = rw (← length_view t from) (drop-length (view t from))

  all_run : 0 < len_of t from → Run t from to (len_of t from) (tail_of t from)
  all_run some =
      record {
        pair = pair;
        some = some;
        enough = enough;
        last_is = sym (pair.good.lasts from)
            ∙ ap (last_d (tail_of t from)) (sym take_whole)
            ∙ last_d_take (tail_of t from) (len_of t from) (view t from) some
            enough;
      }
    where
      enough : len_of t from ≤ length (view t from)
      enough = omega (arith, length_view t from)

  -- of two lists, the first of which has an entry, `if_moves` moves
  moves : (r : Table) → 0 < len_of t from → if_moves t from to r ≡ r
  moves r some =
      rw (
        ne_eqb from to pair.apart,
        lt-leb (length t) to (omega (arith, pair.to_is, pair.good.sized)),
        ne_eqb (len_of t from) 0 (λ z. omega arith),
      )

  -- of an empty one nothing moves
  stays : (r : Table) → len_of t from ≡ 0 → if_moves t from to r ≡ t
  stays r none =
      rw (
        ne_eqb from to pair.apart,
        lt-leb (length t) to (omega (arith, pair.to_is, pair.good.sized)),
        eq-eqb (len_of t from) 0 none,
      )

  -- `move_first`: the first entry of `from`, where it has one, stands at the end of `to`
  pub move_first_lem : Moved t from to 1 (move_first t from to)
  unfolding move_first
  move_first_lem = go (dec_lt 0 (len_of t from))
    where
      none_moved : view t from ≡ [] → Moved t from to 1 t
      none_moved empty = record {
        good = pair.good;
        left = rw (empty, drop-nil 1);
        joined =
            rw (empty, take-nil 1, append-nil (view t to));
        others = λ k p q. refl;
      }

      go : Dec (0 < len_of t from) → Moved t from to 1 (if_moves t from to (join_end (leave_of t from 1 (head_of t from)) to
          (head_of t from) 1 (head_of t from)))
      go (yes some) = rw (moves (join_end (leave_of t from 1 (head_of t from)) to (head_of t from) 1 (head_of t from)) some)
          (end_moved (first_run some))
      go (no p) = rw (stays (join_end (leave_of t from 1 (head_of t from)) to (head_of t from) 1 (head_of t from))
          (omega arith)) (none_moved (view_none t from (omega arith)))

  -- `move_first_to_front`: it stands at the front of `to`
  pub move_first_to_front_lem : MovedToFront t from to 1 (move_first_to_front t from to)
  unfolding move_first_to_front
  move_first_to_front_lem = go (dec_lt 0 (len_of t from))
    where
      none_moved : view t from ≡ [] → MovedToFront t from to 1 t
      none_moved empty = record {
        good = pair.good;
        left = rw (empty, drop-nil 1);
        joined = rw empty;
        others =
            λ k p q. refl;
      }

      go : Dec (0 < len_of t from)
          → MovedToFront t from to 1 (if_moves t from to (join_front (leave_of t from 1 (head_of t from)) to
          (head_of t from) 1 (head_of t from)))
      go (yes some) = rw (moves (join_front (leave_of t from 1 (head_of t from)) to (head_of t from) 1 (head_of t from))
          some) (front_moved (first_run some))
      go (no p) = rw (stays (join_front (leave_of t from 1 (head_of t from)) to (head_of t from) 1 (head_of t from))
          (omega arith)) (none_moved (view_none t from (omega arith)))

  -- `move_all_lem`: all of `from` stands at the end of `to`
  pub move_all_lem : MovedAll t from to (move_all t from to)
  unfolding move_all
  move_all_lem = go (dec_lt 0 (len_of t from))
    where
      none_moved : view t from ≡ [] → MovedAll t from to t
      none_moved empty = record {
        good = pair.good;
        left = empty;
        joined = rw (empty, append-nil (view t to));
        others = λ k p q. refl;
      }

      all_moved : (r : Table) → Moved t from to (len_of t from) r → MovedAll t from to r
      all_moved r m = record {
        good = m.good;
        left = m.left ∙ drop_whole;
        joined = rw take_whole at m.joined;
        others = m.others;
      }

      go : Dec (0 < len_of t from)
          → MovedAll t from to (if_moves t from to (join_end (leave_of t from (len_of t from) (tail_of t from)) to
          (head_of t from) (len_of t from) (tail_of t from)))
      go (yes some) =
          rw (moves (join_end (leave_of t from (len_of t from) (tail_of t from)) to (head_of t from) (len_of t from)
          (tail_of t from)) some)
          (all_moved _ (end_moved (all_run some)))
      go (no p) =
          rw (stays (join_end (leave_of t from (len_of t from) (tail_of t from)) to (head_of t from) (len_of t from)
          (tail_of t from)) (omega arith))
          (none_moved (view_none t from (omega arith)))

-- ---- whatever the numbers

-- of one list, or of a number that no list has, nothing moves
module _ (t : Table) (good : Good t) (from to : ℕ) (r : Table) where
  pub same_list : from ≡ to → if_moves t from to r ≡ t
  same_list same = rw (eq-eqb from to same)

  pub no_such_to : LISTS ≤ to → if_moves t from to r ≡ t
  no_such_to out = go (ℕ_discrete from to)
    where
      go : Dec (from ≡ to) → if_moves t from to r ≡ t
      go (yes p) = same_list p
      go (no p) = rw (ne_eqb from to p, le-leb (length t) to (omega (arith, good.sized)))

  pub no_such_from : LISTS ≤ from → if_moves t from to r ≡ t
  no_such_from out = go (ℕ_discrete from to) (dec_lt to LISTS)
    where
      empty : len_of t from ≡ 0
      empty = len_past t from (omega (arith, good.sized))

      go : Dec (from ≡ to) → Dec (to < LISTS) → if_moves t from to r ≡ t
      go (yes p) d = same_list p
      go (no p) (no q) = no_such_to (omega arith)
      go (no p) (yes q) = rw (
        ne_eqb from to p,
        lt-leb (length t) to (omega (arith, good.sized)),
        eq-eqb (len_of t from) 0 empty,
      )

  kept : (Pair t from to → Good (if_moves t from to r)) → Good (if_moves t from to r)
  kept moved = go (ℕ_discrete from to) (dec_lt to LISTS) (dec_lt from LISTS)
    where
      go : Dec (from ≡ to) → Dec (to < LISTS) → Dec (from < LISTS) → Good (if_moves t from to r)
      go (yes p) d e = rw (same_list p) good
      go (no p) (no q) e = rw (no_such_to (omega arith)) good
      go (no p) (yes q) (no e) = rw (no_such_from (omega arith)) good
      go (no p) (yes q) (yes e) = moved (record { good = good; from_is = e; to_is = q; apart = p })

-- so every operation keeps a family well formed
module _ (t : Table) (good : Good t) (from to : ℕ) where
  pub move_first_good : Good (move_first t from to)
  unfolding move_first
  move_first_good = kept t good from to _ (λ pair. (move_first_lem pair).good)

  pub move_all_good : Good (move_all t from to)
  unfolding move_all
  move_all_good = kept t good from to _ (λ pair. (move_all_lem pair).good)
