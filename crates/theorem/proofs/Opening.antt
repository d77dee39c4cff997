-- An accepted opening: the invariant holds, and what it hands back. Assumes nothing.
use mathlib.Core.Path.{◌≡◌, refl, sym, ap, ◌∙◌, subst}
use mathlib.Core.List.{List, [], ◌∷◌}
use Prim.Native.Nat.{ℕ, zero, suc, ◌+◌, ◌*◌, ◌≤◌}
use native.Mathlib.Omega.{arith}
use lib.Dec.{leb}
use lib.ListN.{length, drop, replicate, length-replicate}
use Rattle.text.specs.Format.{Message, lines}
use Rattle.lists.specs.Links.{Table, FREE, len_of, move_first, start_from, PENDING}
use Rattle.lists.specs.Family.{count, Good}
use Rattle.lists.specs.KeyLists.{blank_row, keys_at}
use Rattle.lists.proofs.Family.{length_view}
use Rattle.lists.proofs.Moves.{move_first_good}
use Rattle.lists.proofs.AtStart.{started}
use Rattle.lists.proofs.Slabs.{sound_blank}
use Rattle.settings.specs.Tables.{put_left}
use Rattle.theorem.specs.Living.{step_hand, Lives}
use Rattle.theorem.proofs.Living.{Less, less_same, less_then, less_at, first_less}
use Rattle.message_log.specs.Opening.{all_fit, opening, opened, Read, Rising, read_file, nothing_read, image}
use Rattle.message_log.specs.declared.Order.TheVariants.{Replace}
use Rattle.message_log.specs.Opened as log
use Rattle.message_log.specs.Recovery as disk
use Rattle.message_log.specs.Stands.{Stands}
use Rattle.message_log.proofs.OpeningLaws.{and_right, judge_opened, read_lines_in_order}
use Rattle.message_log.proofs.TabledLaws.{small_few}
use Rattle.message_log.proofs.StoreLaws.{stored_long}
use Rattle.message_log.proofs.OpenLaws.{Sized, sized_all, sized_true, opened_stands}
use Rattle.message_log.proofs.Recovery.{open_tail}
use Rattle.message_log.proofs.RecoveryLaws.{ReadBack, sound_reads}
use Rattle.theorem.specs.Handing.{ids_of, Hands}
use Rattle.theorem.proofs.Handing.{hands}
use Rattle.settings.specs.declared.ranges.Settings.{Settings}
use Rattle.settings.specs.Ranges.{settings_fit}
use Rattle.turn.specs.declared.state.Limits.{Limits}
use Rattle.turn.specs.State.{wal_of}
use Rattle.answers.specs.Answers.{Did}
use Rattle.answers.specs.Refusals.{Lent, file_in}
use Rattle.pool.specs.Open.{limits_from, no_left, open_of}
use Rattle.theorem.specs.Rail.{World, accepted, left_by, next_from, start_status, order_shown, shows, begin, Accepts}
use Rattle.theorem.specs.Rail.{handed_back, NextOpening, Reopens, KeepsTail}
use Rattle.theorem.proofs.Invariant.{Working, Ledger, Steady}
use Rattle.theorem.proofs.Ids.{rising_once, rising_top}
use Rattle.theorem.proofs.Refusals.{Taken, log_opens}
use Rattle.theorem.proofs.Opened.{tables_are, tables_true, accepted_taken, opens_as_lem, opens_as, start_sound}

-- the world at the start, with the messages left by the file
abbrev begin_at : Did → List ℕ → ℕ → List Message → World
begin_at d file next left = record {
  state = d.state;
  journal = record {
    wal = wal_of d.state;
    disk = record { sure = file; since = []; status = start_status d.state.bytes (order_shown d.answer) };
    moments = left ∷ [];
    now = left;
    firm = 0;
  };
  next = next;
  logged = ids_of left;
  done = [];
}

-- ---- nobody is there yet, and no mailbox or hand has a message

put_less : (n : ℕ) (t rows left : Table) (i : ℕ) → Good t → Less t (put_left t rows left i n).links
unfolding put_left
put_less zero t rows left i good = less_same t
put_less (suc n) t rows left i good =
    less_then t (move_first t FREE PENDING) _ (first_less t good FREE PENDING (omega arith))
    (put_less n (move_first t FREE PENDING) _ left (suc i) (move_first_good t good FREE PENDING))

start_empty : (rows left : Table) (n j : ℕ) → 5 ≤ j → len_of (put_left (start_from 0 262) rows left 0 n).links j ≡ 0
start_empty rows left n j high =
    omega (
      arith,
      less_at (start_from 0 262) _ (put_less n (start_from 0 262) rows left 0 started.good) j high,
      length_view (start_from 0 262) j,
      ap length (started.others j (λ e. omega arith)),
    )

start_hand : (rows left : Table) (n : ℕ) → step_hand (put_left (start_from 0 262) rows left 0 n).links ≤ 0
start_hand rows left n = omega (arith, start_empty rows left n 5 (omega arith))

blank_at : (n i : ℕ) → keys_at (replicate n blank_row) i ≡ blank_row
blank_at zero i = refl
blank_at (suc n) zero = refl
blank_at (suc n) (suc i) = blank_at n i

start_lives : (n : ℕ) (rows left : Table) (m : ℕ) (actors : Table) → n ≡ 34 → length actors ≡ 128
    → Lives (put_left (start_from 0 262) rows left 0 m).links (replicate n blank_row) actors
start_lives n rows left m actors n-is long = record {
  keys_are = length-replicate n blank_row ∙ n-is;
  actors_are = long;
  slabs = λ g g-is. rw (blank_at n (4 * g)) sound_blank;
  dead = λ g k g-is k-is d. (
    start_empty rows left m (6 + 2 * (16 * g + k)) (omega arith),
    start_empty rows left m
        (7 + 2 * (16 * g + k)) (omega arith),
  );
  one = λ g k g-is k-is. omega (arith, start_empty rows left m (7 + 2 * (16 * g + k)) (omega arith));
  runs = λ g k g-is k-is e f. start_empty rows left m (7 + 2 * (16 * g + k)) (omega arith);
}

-- the limits of the pool that an opening makes
abbrev pub limits_of : Lent → Limits
limits_of l = limits_from l.settings (length l.groups_given)

-- an opening that the log takes
module _ (l : Lent) (t : Taken l) where
  abbrev left : List Message
  left = t.found.left

  abbrev start : World
  start = begin_at (opens_as_lem l t.found) (file_in l) t.found.next left

  stands : Stands (disk.opened_wal (log.opened_log_by l.bytes l.store l.records no_left t.found)) left
  stands = opened_stands l.bytes l.size l.store l.records no_left t.found t.sizes t.reads

  pub lent : Sized (length l.bytes) l.size (length l.store) (length l.records) 256
  lent = sized_all (length l.bytes) l.size (length l.store) (length l.records) 256 t.sizes

  sizes : ((length l.links ≡ 262) × (length l.rows ≡ 256)) × ((length l.keys ≡ 34)
      × (length l.actors ≡ 128))
  sizes = tables_are l t.tables

  given_back : Hands l.rows l.store left
  given_back =
      hands l.rows l.store left sizes.0.1 lent.store_is (small_few left stands.small)
      (and_right (leb (length left) 256) (all_fit left) stands.small)

  start_works : Working (length l.bytes) start.journal start.state
  unfolding disk.begin_log disk.sent
  start_works = record {
    sound = given_back.sound;
    ids = given_back.same;
    ok = omega arith;
    lives = start_lives (length l.keys) l.rows _ (length left) l.actors sizes.1.0 sizes.1.1;
    here = start_hand l.rows _ (length left);
    tried = given_back.tried;
    wal = refl;
    agrees = refl;
    journal = start_sound l.bytes l.size l.store l.records no_left t.found t.sizes t.reads;
  }

  start_ledger : Ledger start.journal start.next start.logged start.done
  unfolding count
  start_ledger = record {
    next_is = refl;
    adds = λ x. omega arith;
    once = λ x. rising_once left 0 t.found.next x stands.rising;
    below = λ x there. rising_top left 0 t.found.next x stands.rising there;
  }

  start_steady : Steady (length l.bytes) (limits_of l) start
  start_steady = record { works = start_works; ledger = start_ledger; limits_are = refl }

  pub is_accepted : Accepts l
  is_accepted = ap (λ (d : Did). accepted d.answer) (opens_as l t)

  pub hands_back : handed_back (open_of l).state ≡ left
  hands_back = ap (λ (d : Did). handed_back d.state) (opens_as l t) ∙ given_back.back

  -- the body store is as long as it was lent
  pub opens_long : length (open_of l).state.store ≡ 40960
  opens_long =
      ap (λ (d : Did). length d.state.store) (opens_as l t)
      ∙ (stored_long left 0 l.store (and_right (leb (length left) 256) (all_fit left) stands.small)
      (omega (arith, lent.store_is, small_few left stands.small))
      ∙ lent.store_is)

  -- its order is a replace
  pub opens_replacing : order_shown (open_of l).answer ≡ shows (Replace (length (image left)))
  opens_replacing = ap (λ (d : Did). order_shown d.answer) (opens_as l t)

  -- the log's bytes at and after the new size are as they were
  pub opens_tail : KeepsTail (open_of l).state.pool.turn.counters.size l.bytes (open_of l).state.bytes
  opens_tail =
      subst (λ (d : Did). KeepsTail d.state.pool.turn.counters.size l.bytes d.state.bytes)
      (sym (opens_as l t))
      (subst (λ (o : log.Opened). KeepsTail o.step.counters.size l.bytes o.log) (log_opens l t)
      (open_tail l.bytes l.size l.store l.records no_left))

-- what an accepted file leaves has rising ids
rising_left : (file : List ℕ) (r : Read) → opening file ≡ opened r → Rising 0 r.left r.next
unfolding opening read_file
rising_left file r ok =
    let g = judge_opened (read_file file) r ok in
    rw g.same at (read_lines_in_order (lines file) nothing_read (omega arith))

-- a file that opening accepts, and that fits: the next opening
module _ (l : Lent) (t : Taken l) (file : List ℕ) (moments : List (List Message))
    (back : ReadBack (length l.bytes) file moments) where
  next_taken : (next : Lent) → NextOpening l next file → Taken next
  next_taken next f = record {
    fit = ap (λ (s : Settings). settings_fit s next.groups_given) f.settings
        ∙ (ap (settings_fit l.settings) f.groups_given ∙ t.fit);
    tables =
        tables_true next f.groups f.links f.rows f.keys f.actors;
    sizes =
        sized_true (length next.bytes) next.size (length next.store) (length next.records) 256
        (record {
          least = omega (arith, f.bytes, (lent l t).least);
          most = omega (arith, f.bytes, (lent l t).most);
          file = omega (arith, f.bytes, f.size, back.short);
          store_is = f.store;
          table_is = f.records;
          left_is = refl;
        });
    found = back.found;
    reads = ap opening f.begins ∙ back.accepted;
  }

  next_opening : Reopens l file moments
  unfolding next_taken
  next_opening = record {
    fits = back.short;
    found = back.found.left;
    rises = (back.found.next, rising_left file back.found back.accepted);
    among = back.among;
    accepts = λ next f. is_accepted next (next_taken next f);
    back = λ next f. hands_back next (next_taken next f);
  }

module _ (l : Lent) (ok : Accepts l) where
  taken : Taken l
  taken = accepted_taken l ok

  pub open_steady : Steady (length l.bytes) (limits_of l) (begin (open_of l) (file_in l))
  open_steady =
      subst (λ d. Steady (length l.bytes) (limits_of l) (begin d (file_in l))) (sym (opens_as l taken))
      (subst
      (λ r. Steady (length l.bytes) (limits_of l)
      (begin_at (opens_as_lem l taken.found) (file_in l) (next_from r) (left_by r)))
      (sym taken.reads) (start_steady l taken))

  -- whatever file a cut may leave, the next opening finds a moment no earlier than the last confirmed flush or replace
  pub reopens : (w : World) → Steady (length l.bytes) (limits_of l) w → (file : List ℕ)
      → disk.Possible w.journal.disk file → Reopens l file (drop w.journal.firm w.journal.moments)
  reopens w steady file possible =
      next_opening l taken file (drop w.journal.firm w.journal.moments)
      (sound_reads (length l.bytes) w.journal steady.works.journal file possible)
