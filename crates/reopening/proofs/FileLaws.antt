-- What was read is the file, as far as the space goes.
use Rattle.std.proofs.Common.{◌≡◌, ℕ, ◌+◌, ◌≤◌, ◌<◌, List, ◌++◌, None, Some, IfSome, inl, inr, arith, length}
use Rattle.std.proofs.Common.{take, min, sym, ap, ◌∙◌, subst, length-append, append-nil, take_all, length-take-le}
use Rattle.std.specs.Prelude.{Option, ◌⊎◌}
use Rattle.std.proofs.lemmas.Bool.{cases_lt}
use Rattle.std.proofs.lemmas.List.{take-append-le, take-take}
use Rattle.std.specs.Io.KnownBytes.{Appends, Consumes, IsAtEnd}
use Rattle.reopening.specs.Reopened.{Reopened, reopen_of, printed_of, ReopensFile, PrintsFile}

-- of the file of a reader that gave n bytes, and fewer than there is space only at its end: the first `most` bytes of
-- the space begin with it, and n is its length, or that of the space
pub record FileOf (most : ℕ) (file space : List ℕ) (n : ℕ) : Type 0 where
  pub begins : take (length file) (take most space) ≡ take most file
  pub counts : min (length file) (most + 1) ≡ n

-- the file was read to its end
whole : (most : ℕ) (space : List ℕ) (n : ℕ) → length space ≡ most + 1 → n < length space
    → FileOf most (take n space) space n
whole most space n long h =
    let part = take n space in
    let size : length part ≡ n = length-take-le n space (omega arith) in
    let front : take n (take most space) ≡ part = take-take n most space (omega arith) in
    record {
      begins = ap (λ k. take k (take most space)) size ∙ front ∙ sym (take_all most part (omega arith));
      counts = omega arith;
    }

-- the space was filled
filled : (most : ℕ) (space rest : List ℕ) → length space ≡ most + 1 → FileOf most (space ++ rest) space (most + 1)
filled most space rest long =
    let size : length (space ++ rest) ≡ length space + length rest = length-append space rest in
    let part : length (take most space) ≡ most = length-take-le most space (omega arith) in
    let all = take_all (length (space ++ rest)) (take most space) (omega arith) in
    record { begins = all ∙ sym (take-append-le most space rest (omega arith)); counts = omega arith }

-- where the reader's bytes are known, they are the file
pub known_file : (most : ℕ) (space : List ℕ) (n : ℕ) (old new : Option (List ℕ))
    → length space ≡ most + 1 → n ≤ length space
    → Consumes old new (take n space) → (n < length space → IsAtEnd new)
    → IfSome old (λ file. FileOf most file space n)
known_file most space n None new long within read end = tt
known_file most space n (Some xs) None long within read end = absurd read
known_file most space n (Some xs) (Some ys) long within read end = at (cases_lt n (length space))
  where
    at : (n < length space) ⊎ (length space ≤ n) → FileOf most xs space n
    at (inl h) =
        let part = take n space in
        let all : part ≡ xs = sym (read ∙ ap (λ l. part ++ l) (end h) ∙ append-nil part) in
        subst (λ l. FileOf most l space n) all (whole most space n long h)
    at (inr h) =
        let same : n ≡ most + 1 = omega arith in
        let all : space ++ ys ≡ xs = sym (read ∙ ap (λ l. l ++ ys) (take_all n space h)) in
        let full : FileOf most (space ++ ys) space (most + 1) = filled most space ys long in
        subst (λ k. FileOf most xs space k) (sym same) (subst (λ l. FileOf most l space (most + 1)) all full)

-- where they are known, opening what was read is opening the file, and what is printed then is printed of it
pub prints_file : (space log : List ℕ) (n : ℕ) (r : Reopened) (file old new : Option (List ℕ)) → length space ≡ 65537
    → record { log = log; answer = r } ≡ reopen_of (take 65536 space) n → Appends old new (printed_of log r)
    → IfSome file (λ bytes. FileOf 65536 bytes space n) → IfSome file (λ bytes. PrintsFile bytes r old new)
prints_file space log n r None old new long opened prints known = tt
prints_file space log n r (Some bytes) old new long opened prints known =
    let part = take 65536 space in
    let read = min (length bytes) 65537 in
    let same : n ≡ read = sym known.counts in
    let is : record { log = log; answer = r } ≡ reopen_of part read = opened ∙ ap (reopen_of part) same in
    let reopens : ReopensFile bytes r (printed_of log r) = record {
      log = part;
      long = length-take-le 65536 space (omega arith);
      begins = known.begins;
      is = ap (λ x. x.answer) is;
      prints = ap (λ x. printed_of x.log r) is;
    } in
    (printed_of log r, reopens, prints)
