-- The theorem speaks of something: openings that are accepted, with one group, of any file that the log takes; and one
-- of them, of an empty file in the smallest log. Assumes nothing.
use mathlib.Core.Path.{◌≡◌, refl}
use mathlib.Core.List.{List, [], ◌∷◌}
use Prim.Native.Nat.{ℕ, ◌≤◌}
use native.Mathlib.Omega.{arith}
use lib.ListN.{length, take, replicate, length-replicate}
use Rattle.text.specs.Format.{lines, all_but_last, split}
use Rattle.lists.specs.Links.{Table}
use Rattle.message_log.specs.Opening.{all_fit, Read, opening, opened, nothing_read, read_file, read_lines, judge}
use Rattle.message_log.proofs.OpenLaws.{sized_true}
use Rattle.settings.specs.Ranges.{settings_fit, numbers_fit, within, rows_fit, row_fits, all_bytes}
use Rattle.answers.specs.Refusals.{Lent}
use Rattle.theorem.specs.Rail.{Accepts}
use Rattle.theorem.proofs.Refusals.{Taken}
use Rattle.theorem.proofs.Opened.{tables_true}
use Rattle.theorem.proofs.Opening.{is_accepted}

-- a table of n rows
abbrev pub rows_of : ℕ → Table
rows_of n = replicate n (0 ∷ [])

pub rows_are : (n : ℕ) → length (rows_of n) ≡ n
rows_are n = length-replicate n (0 ∷ [])

-- one fixed group of one replica, with an empty name; and this lent log, whose first `size` bytes are the file
abbrev pub lent_with : List ℕ → ℕ → Lent
lent_with bytes size = record {
  settings = record { max_actors = 1; inbox = 1; backlog = 1; compact_at = 1; tick = 1 };
  groups_given = (1 ∷ 0 ∷ 0 ∷ 0 ∷ 0 ∷ []) ∷ [];
  bytes = bytes;
  size = size;
  store = replicate 40960 0;
  records = rows_of 256;
  groups = rows_of 8;
  links = rows_of 262;
  rows = rows_of 256;
  keys = rows_of 34;
  actors = rows_of 128;
}

-- it is taken where the log has a length that it may have and takes the file
unfoldable pub taken_with : (bytes : List ℕ) (size : ℕ) (r : Read) → 16 ≤ length bytes → length bytes ≤ 65536
    → size ≤ length bytes → opening (take size bytes) ≡ opened r → Taken (lent_with bytes size)
unfolding settings_fit numbers_fit within rows_fit row_fits all_bytes
taken_with bytes size r least most file reads =
    let l = lent_with bytes size in
    record {
      fit = refl;
      tables =
          tables_true l (rows_are 8) (rows_are 262) (rows_are 256) (rows_are 34) (rows_are 128);
      sizes =
          sized_true (length bytes) size (length l.store) (length l.records) 256
          (record {
            least = least;
            most = most;
            file = file;
            store_is = length-replicate {A = ℕ} 40960 0;
            table_is = rows_are 256;
            left_is = refl;
          });
      found = r;
      reads = reads;
    }

-- an empty file leaves nothing
pub nothing_left : opening [] ≡ opened nothing_read
unfolding opening read_file lines read_lines judge all_fit all_but_last split
nothing_left = refl

pub some_accepted : Accepts (lent_with (replicate 16 0) 0)
some_accepted =
    is_accepted (lent_with (replicate 16 0) 0)
    (taken_with (replicate 16 0) 0 nothing_read (omega arith) (omega arith) (omega arith) nothing_left)
