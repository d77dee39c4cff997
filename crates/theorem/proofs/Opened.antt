-- What an accepted opening is: its table refuses nothing, the log takes the file, and the messages left are in
-- pending; any other leaves all that it was lent as it was. Assumes nothing.
use Rattle.std.specs.Prelude.{Result, Err, Ok}
use Rattle.answers.specs.declared.answer.Refusal.{Refusal}
use mathlib.Core.Path.{◌≡◌, refl, sym, ap, ◌∙◌, subst}
use mathlib.Core.Bool.{true, false, false≢true, ◌&&◌}
use mathlib.Core.Logic.{◌⊎◌, inl, inr}
use mathlib.Core.List.Memᴰ
use mathlib.Core.List.{List, [], ◌∷◌, append-nil}
use Prim.Native.Nat.{ℕ}
use native.Mathlib.Omega.{arith}
use borrow.Author.Tests.{eqb-true, eq-eqb}
use lib.Dec.{eqb}
use lib.ListN.{length, take}
use lib.Seq.{take-nil, length-take-le}
use Rattle.lists.specs.Links.{Table, start_from}
use Rattle.message_log.specs.declared.Order.TheVariants.{Replace}
use Rattle.message_log.specs.Opening.{Read, opened, opening, image}
use Rattle.message_log.specs.Opened as log
use Rattle.message_log.specs.Recovery as disk
use Rattle.message_log.proofs.OpeningLaws.{and_left, and_right}
use Rattle.message_log.proofs.OpenLaws.{sized_all, image_fits, opened_long, opened_stands, opened_sent}
use Rattle.message_log.specs.Stands.{Stands}
use Rattle.message_log.proofs.RecoveryLaws.{ReadBack, stands_fit, stored_replace, whole_image, Sound, waiting}
use Rattle.theorem.specs.Handing.{put_messages}
use Rattle.settings.specs.Tables.{LeftPlaced, put_left}
use Rattle.answers.specs.Answers.{Did}
use Rattle.answers.specs.Refusals.{Lent, judged, by_table, tables_sized, tables_fit, open_refusals}
use Rattle.pool.specs.Open.{unopened, no_left, tables_in, fill_from, filled_with, filled_by, opened_with, opened_by}
use Rattle.pool.specs.Open.{open_effect, open_of}
use Rattle.theorem.specs.Rail.{accepted, Accepts, Untouched}
use Rattle.theorem.proofs.Refusals.{Taken, fine_taken, taken_fine, log_opens, judged_stays, by_the_table}

-- ---- the lent tables

-- the lists, the messages, the keys and the actors
pub tables_are : (l : Lent) → tables_fit l ≡ true
    → ((length l.links ≡ 262) × (length l.rows ≡ 256)) × ((length l.keys ≡ 34) × (length l.actors ≡ 128))
unfolding tables_sized
tables_are l e =
    let ofGroups = eqb (length l.groups) 8 in
    let ofLinks = eqb (length l.links) 262 in
    let ofRows = eqb (length l.rows) 256 in
    let ofKeys = eqb (length l.keys) 34 in
    let ofActors = eqb (length l.actors) 128 in
    let four = and_left (ofGroups && ofLinks && ofRows && ofKeys) ofActors e in
    let three = and_left (ofGroups && ofLinks && ofRows) ofKeys four in (
      (
        eqb-true (length l.links) 262
            (and_right ofGroups ofLinks (and_left (ofGroups && ofLinks) ofRows three)),
        eqb-true (length l.rows) 256 (and_right (ofGroups && ofLinks) ofRows three),
      ),
      (
        eqb-true (length l.keys) 34 (and_right (ofGroups && ofLinks && ofRows) ofKeys four),
        eqb-true (length l.actors) 128 (and_right (ofGroups && ofLinks && ofRows && ofKeys) ofActors e),
      ),
    )

pub tables_true : (l : Lent) → length l.groups ≡ 8 → length l.links ≡ 262 → length l.rows ≡ 256
    → length l.keys ≡ 34 → length l.actors ≡ 128 → tables_fit l ≡ true
unfolding tables_sized
tables_true l groups links rows keys actors =
    rw (
      eq-eqb (length l.groups) 8 groups,
      eq-eqb (length l.links) 262 links,
      eq-eqb (length l.rows) 256 rows,
      eq-eqb (length l.keys) 34 keys,
      eq-eqb (length l.actors) 128 actors,
    )

-- ---- what an accepted opening had, and what it makes

module _ (l : Lent) where
  -- an opening that is accepted has a table that refuses nothing
  pub accepted_taken : Accepts l → Taken l
  accepted_taken ok = go (judged (open_refusals l)) refl
    where
      go : (c : Result Unit Refusal) → judged (open_refusals l) ≡ c → Taken l
      go (Err r) is =
          let turned = ap (λ (d : Did). accepted d.answer) ((by_the_table.openings l).refuses r is) in
          absurd (false≢true (sym turned ∙ ok))
      go (Ok tt) is = fine_taken l is

  abbrev log_made : Read → log.Opened
  log_made r = log.opened_log_by l.bytes l.store l.records no_left r

  abbrev made_with : Read → LeftPlaced → Did
  made_with r placed =
      opened_with l (log_made r)
      (filled_with (fill_from l (log_made r)) (Replace (length (image r.left))) (tables_in l) placed)

  -- the messages left are put into pending
  abbrev pub opens_as_lem : Read → Did
  opens_as_lem r = made_with r (put_messages l.rows r.left)

  made_as : (t : Taken l) → opened_by l (log_made t.found) ≡ opens_as_lem t.found
  unfolding opened_by filled_by
  made_as t =
      ap
      (λ k. made_with t.found
      (put_left (start_from 0 k) l.rows (log_made t.found).left 0 (length t.found.left)))
      (tables_are l t.tables).0.0

  pub opens_as : (t : Taken l) → open_of l ≡ opens_as_lem t.found
  unfolding open_of open_effect
  opens_as t =
      ap (λ c. by_table (unopened l) c (open_effect l)) (taken_fine l t)
      ∙ (ap (opened_by l) (log_opens l t) ∙ made_as t)

  -- an opening that is turned away changes nothing
  pub refused_untouched : accepted (open_of l).answer ≡ false → Untouched l (open_of l).state
  refused_untouched turned =
      subst (Untouched l) (sym (judged_stays _ (unopened l) (open_of l) (by_the_table.openings l) turned)) refl

-- ---- the log at the start

module _ (bytes : List ℕ) (n : ℕ) (store : List ℕ) (records left : Table) (r : Read)
    (s : log.sized (length bytes) n (length store) (length records) (length left) ≡ true) (ok : opening (take n bytes)
    ≡ opened r) where
  abbrev pub start_log : disk.LogWorld
  start_log = disk.begin_log (log.opened_log_by bytes store records left r) (take n bytes) r.left

  start_stands : Stands (disk.opened_wal (log.opened_log_by bytes store records left r)) r.left
  start_stands = opened_stands bytes n store records left r s ok

  -- whatever a cut leaves of the file given, or of the opening's replace, is read as the messages left
  start_reads : (file : List ℕ) → disk.Cut (take n bytes) [] file ⊎ (file ≡ image r.left)
      → ReadBack (length bytes) file (r.left ∷ [])
  unfolding disk.begin_log
  start_reads file (inl c) =
      let lent = sized_all (length bytes) n (length store) (length records) (length left) s in
      let same : file ≡ take n bytes = cc (c.1, take-nil {A = ℕ} c.0, append-nil (take n bytes)) in
      record {
        short = omega (arith, ap length same, length-take-le n bytes lent.file, lent.file);
        found = r;
        accepted = ap opening same ∙ ok;
        among = Memᴰ.head refl;
      }
  start_reads file (inr e) =
      whole_image (length bytes) start_log.disk r (stands_fit start_log.wal r.left start_stands)
      (image_fits bytes n store records left r s ok) file e

  pub start_sound : Sound (length bytes) start_log
  unfolding disk.begin_log disk.stored_order disk.failed_order disk.firm_moment disk.confirm
  start_sound =
      waiting (disk.replacing (image r.left)) (ap disk.waits (opened_sent bytes n store records left r s ok))
      (record {
        stands = start_stands;
        bytes = opened_long bytes n store records left r s ok;
        on_disk = stored_replace (length bytes) start_log.disk r (stands_fit start_log.wal r.left start_stands);
        firm = omega arith;
      })
      start_reads
