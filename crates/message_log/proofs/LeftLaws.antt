-- Laws of the rows left: each pass adds those of a further window of ids, until all are there.
use mathlib.Core.Path.{◌≡◌, refl, ap, sym, ◌∙◌, subst}
use mathlib.Core.List.{List, [], ◌∷◌, ◌++◌, append_assoc, append-nil}
use Prim.Native.Nat.{ℕ, suc, ◌+◌, ◌-◌, ◌^◌, ◌≤◌}
use native.Mathlib.Omega.{arith}
use borrow.Rule.Slice.PartMut.{put_mid, same_len_mid}
use lib.ListN.{length, take, drop, length-append, length-map}
use lib.Seq.{length-take-le, take-append-add, take-append-le}
use Rattle.text.specs.Format.{Message, lines}
use Rattle.message_log.specs.declared.opening.Pass.{Pass}
use Rattle.message_log.specs.Opening.{Rising, read_file, nothing_read}
use Rattle.message_log.specs.Scan.{row_message, row_messages, Window, Passed}
use Rattle.message_log.proofs.OpeningLaws.{Rising-low, Rising-le, read_lines_in_order}
use Rattle.message_log.proofs.ScanLaws.{map_append}

-- two ways to part a rising list at the same id are one
parted : (x x' y y' : List Message) (a b top top' : ℕ) → Rising a x b → Rising a x' b → Rising b y top
    → Rising b y' top' → x ++ y ≡ x' ++ y' → x ≡ x'
parted [] [] y y' a b top top' r r' s s' e = refl
parted [] (m ∷ x') [] y' a b top top' r r' s s' e = let z : ◌≡◌ {A = ℕ} 0 1 = cc in absurd (omega arith)
parted [] (m ∷ x') (k ∷ y) y' a b top top' r r' s s' e =
    let q : k ≡ m = cc in
    let w : b ≤ m.id = subst (λ (n : Message). b ≤ n.id) q s.0 in
    absurd (omega (arith, Rising-le x' (suc m.id) b r'.1))
parted (m ∷ x) [] y [] a b top top' r r' s s' e = let z : ◌≡◌ {A = ℕ} 0 1 = cc in absurd (omega arith)
parted (m ∷ x) [] y (k ∷ y') a b top top' r r' s s' e =
    let q : k ≡ m = cc in
    let w : b ≤ m.id = subst (λ (n : Message). b ≤ n.id) q s'.0 in
    absurd (omega (arith, Rising-le x (suc m.id) b r.1))
parted (m ∷ x) (m' ∷ x') y y' a b top top' r r' s s' e =
    let q : m' ≡ m = cc in
    let t : x ++ y ≡ x' ++ y' = cc in
    let r'' : Rising (suc m.id) x' b = subst (λ (n : Message). Rising (suc n.id) x' b) q r'.1 in
    let ih : x ≡ x' = parted x x' y y' (suc m.id) b top top' r.1 r'' s s' t in
    cc

join : (x y : List Message) (a b c : ℕ) → Rising a x b → Rising b y c → Rising a (x ++ y) c
join [] y a b c r s = Rising-low y b a c r s
join (m ∷ x) y a b c r s = (r.0, join x y (suc m.id) b c r.1 s)

-- the rows so far are the messages left with ids below lo
pub record Below (file : List ℕ) (lo : ℕ) (these : List (List ℕ)) : Type 0 where
  pub above : List Message
  pub are : (read_file file).left ≡ row_messages file these ++ above
  pub low : Rising 0 (row_messages file these) lo
  pub top : ℕ
  pub high : Rising lo above top

in_order : (file : List ℕ) → Rising 0 (read_file file).left (read_file file).next
unfolding read_file
in_order file = read_lines_in_order (lines file) nothing_read (omega arith)

-- all of them are from 0 on
pub below_begin : (file : List ℕ) → Below file 0 []
below_begin file = record {
  above = (read_file file).left;
  are = refl;
  low = omega arith;
  top = (read_file file).next;
  high = in_order file;
}

module _ (file : List ℕ) (lo hi : ℕ) (these ws : List (List ℕ)) (p : Below file lo these) (w : Window file lo hi ws)
  where
    same : w.below ≡ row_messages file these
    same = parted w.below (row_messages file these) (row_messages file ws ++ w.above) p.above 0 lo (2 ^ 64)
        p.top
        w.low p.low
        (join (row_messages file ws) w.above lo hi (2 ^ 64) w.mid w.high) p.high (sym w.are ∙ p.are)

    all_left : (read_file file).left ≡ row_messages file (these ++ ws) ++ w.above
    all_left = w.are ∙ (ap (λ x. x ++ (row_messages file ws ++ w.above)) same
        ∙ (sym (append_assoc (row_messages file these) (row_messages file ws) w.above)
        ∙ ap (λ x. x ++ w.above) (sym (map_append file these ws))))

    pub below_more : (all : List (List ℕ)) → all ≡ these ++ ws → Below file hi all
    below_more all e = subst (Below file hi) (sym e) (record {
      above = w.above;
      are = all_left;
      low = subst (λ x. Rising 0 x hi) (sym (map_append file these ws)) (join (row_messages file these)
          (row_messages file ws) 0 lo hi p.low w.mid);
      top = 2 ^ 64;
      high = w.high;
    })

    pub left_many : length these + length ws ≤ length (read_file file).left
    left_many =
        let a : length (row_messages file these) ≡ length these = length-map these (row_message file) in
        let b : length (row_messages file ws) ≡ length ws = length-map ws (row_message file) in
        rw (w.are, same) (simp length-append (omega arith))

pub left_all : (file : List ℕ) (hi : ℕ) (these : List (List ℕ)) → Below file hi these → (read_file file).next ≤ hi
    → (read_file file).left ≡ row_messages file these
left_all file hi these p h = p.are
    ∙ (ap (λ y. row_messages file these ++ y) (none p.above p.high (subst (λ x. Rising 0 x (read_file file).next)
    p.are (in_order file))) ∙ append-nil (row_messages file these))
  where
    after : (x : List Message) (m : Message) (ms : List Message) (a c : ℕ) → Rising a (x ++ m ∷ ms) c → suc m.id ≤ c
    after [] m ms a c r = Rising-le ms (suc m.id) c r.1
    after (k ∷ x) m ms a c r = after x m ms (suc k.id) c r.1

    none : (y : List Message) → Rising hi y p.top → Rising 0 (row_messages file these ++ y) (read_file file).next → y
        ≡ []
    none [] s r = refl
    none (m ∷ y) s r = absurd (omega (arith, s.0, after (row_messages file these) m y 0 (read_file file).next r))

-- the rows of a pass that went into the part of the table behind those that are there
pub rows_behind : (table : List (List ℕ)) (count n : ℕ) (last : List (List ℕ)) → count ≤ length table → length last
    ≡ length (take (length table - count) (drop count table)) → n ≤ length last
    → take (count + n) (put_mid count (length table - count) table last) ≡ take count table ++ take n last
rows_behind table count n last h e l =
    let k : length (take count table) ≡ count = length-take-le count table h in
    let c : count + n ≡ length (take count table) + n = omega arith in
    ap (λ j. take j (put_mid count (length table - count) table last)) c
    ∙ (take-append-add (take count table) (last ++ drop (length table - count) (drop count table)) n
    ∙ ap (λ x. take count table ++ x) (take-append-le n last (drop (length table - count) (drop count table)) l))

-- one pass more
pub record Further (file : List ℕ) (rows last : List (List ℕ)) (count : ℕ) (p : Pass) : Type 0 where
  pub many : count + p.count ≤ length (read_file file).left
  pub below : Below file p.hi (take (count + p.count) (put_mid count (length rows - count) rows last))
  pub long : length (put_mid count (length rows - count) rows last) ≡ length rows

pub further : (file : List ℕ) (rows last : List (List ℕ)) (count lo : ℕ) (p : Pass) → count ≤ length rows → length last
    ≡ length (take (length rows - count) (drop count rows))
    → Below file lo (take count rows) → Passed file lo p last → Further file rows last count p
further file rows last count lo p h e b w =
    let a : length (take count rows) ≡ count = length-take-le count rows h in
    let c : length (take p.count last) ≡ p.count = length-take-le p.count last w.room in
    record {
      many = omega (arith, left_many file lo p.hi (take count rows) (take p.count last) b w.window);
      below = below_more file lo p.hi (take count rows) (take p.count last) b w.window
          (take (count + p.count) (put_mid count (length rows - count) rows last)) (rows_behind rows count p.count
          last h e w.room);
      long = same_len_mid count (length rows - count) rows last e;
    }
