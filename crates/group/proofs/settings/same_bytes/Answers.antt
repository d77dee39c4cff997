-- The bytes are compared one by one.
use Rattle.std.proofs.Common.{◌+◌, ℕ, Bool, [], get_or, eqb, ◌∙◌, refl, arith, rules, tests}
use Rattle.std.proofs.lemmas.Iterator.Search.{all_from_yields_List}
use Rattle.std.proofs.lemmas.Iterator.{YieldsList-from_range}
use Rattle.group.proofs.Loops.{agrees_all}
use Rattle.group.proofs.settings.same_bytes.Goals as goal

pub returns : goal.returns
returns c =
    let a = c.args in
    let same : ℕ → Bool = λ j. eqb (get_or (get_or a.groups.now a.g []) (5 + j) 0) (get_or a.store.now (a.from + j) 0) in
    all_from_yields_List same _ _ _ c.all.ensures.ran (YieldsList-from_range 0 a.n a.n refl (omega arith)) (λ x b q k. search (rules, tests)) ∙ agrees_all _ _ _ _ _
