-- What the log reader makes of a log.
use Rattle.std.specs.Prelude.{◌≡◌, List, [], ◌∷◌, ◌++◌, ℕ, min, length, take, replicate, codes, decimal, Option, Result, Ok, Err}
use Rattle.message_log.specs.declared.Refusal.{Refusal}
use Rattle.message_log.specs.declared.Order.{Order}
use Rattle.std.specs.Io.KnownBytes.{Appends, Consumes}
use Rattle.message_log.specs.Log.{log_number_of}
use Rattle.message_log.specs.Opened.{Opened, open_log}
use Rattle.message_log.specs.declared.Order.TheVariants.{Append, Replace, Flush}
use Rattle.message_log.specs.Opening.{RECORDS, STORE}

-- the length of the new log, or the refusal
abbrev pub Reopened : Type 0
Reopened = Result ℕ Refusal

-- the length of the new log, or the refusal; opening orders nothing but a replace
abbrev pub reopened_by : Result Order Refusal → Reopened
reopened_by (Ok (Append a b)) = Ok 0
reopened_by (Ok (Replace n)) = Ok n
reopened_by (Ok Flush) = Ok 0
reopened_by (Err r) = Err r

-- the lent log after it was opened, and the length of the new log or the refusal
pub record Reopening : Type 0 where
  pub log : List ℕ
  pub answer : Reopened

-- opening with a store and tables that hold zeros
unfoldable pub freshly : List ℕ → ℕ → Opened
freshly log n =
    open_log log n (replicate STORE 0) (replicate RECORDS (0 ∷ 0 ∷ 0 ∷ 0 ∷ [])) (replicate RECORDS (0 ∷ 0 ∷ 0 ∷ 0 ∷ []))

-- what a lent log becomes when its first n bytes are opened, and the answer; store and tables are not kept
abbrev pub reopen_of : List ℕ → ℕ → Reopening
reopen_of log n = record { log = (freshly log n).log; answer = reopened_by (freshly log n).step.answer }

-- an answer that opening gives of a log of 65,536 bytes, whatever was read into it
pub record OfSomeFile (r : Reopened) : Type 0 where
  pub log : List ℕ
  pub n : ℕ
  pub long : length log ≡ 65536
  pub is : r ≡ (reopen_of log n).answer

-- what is printed of an outcome: the new log, which is the first bytes of the lent one; or `refused=N` and an LF
abbrev pub printed_of : List ℕ → Reopened → List ℕ
printed_of log (Ok n) = take n log
printed_of log (Err r) = codes "refused=" ++ decimal (log_number_of r) ++ (10 ∷ [])

-- what opening a file of these bytes answers and prints, with whatever behind them in the lent log; of a longer file
-- than the log, as many are read as show that it is longer
pub record ReopensFile (file : List ℕ) (r : Reopened) (printed : List ℕ) : Type 0 where
  pub log : List ℕ
  pub long : length log ≡ 65536
  pub begins : take (length file) log ≡ take 65536 file
  pub is : r ≡ (reopen_of log (min (length file) 65537)).answer
  pub prints : printed ≡ printed_of (reopen_of log (min (length file) 65537)).log r

-- the same, with what was printed added to what a writer held before, as far as that is known
abbrev pub PrintsFile : List ℕ → Reopened → Option (List ℕ) → Option (List ℕ) → Type 0
PrintsFile file r old new = (printed : List ℕ) × ReopensFile file r printed × Appends old new printed

-- of what a reader had left, as far as that is known, it gave some first bytes and has the others
abbrev pub HasTheRest : Option (List ℕ) → Option (List ℕ) → Type 0
HasTheRest old new = (given : List ℕ) × Consumes old new given
