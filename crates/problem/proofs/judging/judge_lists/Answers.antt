use Rattle.std.proofs.Common.{◌≡◌, ℕ, List, Bor, ◌∙◌, rules, tests}
use Rattle.std.proofs.lemmas.Iterator.{YieldsList-from_slice}
use Rattle.std.proofs.lemmas.Iterator.Search.{all_from_yields_List}
use Rattle.problem.specs.Lists.{every, fact_of, rises}
use Rattle.problem.specs.Faults.{short}
use Rattle.problem.proofs.Tests.{every_is}
use Rattle.problem.proofs.judging.judge_lists.Goals as goal

pub returns : goal.returns
returns c =
    let lists = c.args.lists.now in
    let facts = λ (l : Bor (List ℕ)). every (fact_of c.args.facts) l.now in
    let order = λ (l : Bor (List ℕ)). rises 0 l.now in
    let few = λ (l : Bor (List ℕ)). short l.now in
    let a : c.all-in_range.result ≡ every facts lists = all_from_yields_List facts _ _ _ c.all-in_range.ensures.ran (YieldsList-from_slice lists cc) (λ x b q k. search (rules, tests)) ∙ every_is facts lists in
    let b : c.all-rising.result ≡ every order lists = all_from_yields_List order _ _ _ c.all-rising.ensures.ran (YieldsList-from_slice lists cc) (λ x b q k. search (rules, tests)) ∙ every_is order lists in
    let d : c.all-lengths.result ≡ every few lists = all_from_yields_List few _ _ _ c.all-lengths.ensures.ran (YieldsList-from_slice lists cc) (λ x b q k. search (rules, tests)) ∙ every_is few lists in
    rw (← a, ← b, ← d) c.judge_shape.ensures
