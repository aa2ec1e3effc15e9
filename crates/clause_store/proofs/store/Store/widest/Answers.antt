use Rattle.std.proofs.Common.{◌≡◌, ℕ, max, List, [], ◌∷◌, ℤ, rules, tests, arith, ◌∙◌, sym, ap, unwrap_or}
use Rattle.std.specs.List.{fold}
use Rattle.std.proofs.lemmas.Iterator.{YieldsList-from_slice, YieldsList-from_map}
use Rattle.std.proofs.lemmas.Iterator.Consumers.{reduce_from_yields_List}
use Rattle.std.proofs.lemmas.List.Folds.{max_of_map}
use Rattle.holder.specs.Widest.{variable, widest_of}
use Rattle.clause_store.proofs.Named.{widest-cut_up}
use Rattle.clause_store.proofs.store.Store.widest.Goals as goal

widest_on : (n : ℕ) (xs : List ℤ) → fold (λ a x. max a (variable x)) n xs ≡ max n (widest_of xs)
unfolding widest_of
widest_on n [] = omega arith
widest_on n (x ∷ xs) = let h = widest_on (max n (variable x)) xs in omega arith

pub returns : goal.returns
returns c =
    let s = c.args.self.now in
    let xs = s.literals.items in
    let w : fold (λ a x. max a (variable x)) 0 xs ≡ widest_of xs = let h = widest_on 0 xs in omega arith in
    c.unwrap_or.ensures
    ∙ ap (λ o. unwrap_or o 0) (reduce_from_yields_List _ c.map-variables.result _ c.max.ensures.ran (YieldsList-from_map _ variable (YieldsList-from_slice xs cc) c.map-variables.ensures.closure (λ x r q k. search (rules, tests))))
    ∙ max_of_map variable xs
    ∙ w
    ∙ sym (widest-cut_up 0 s.ends.items xs s.in_order)
