use Rattle.std.proofs.Common.{rules, arith, tests}
use Rattle.std.proofs.lemmas.Bool.Decides.{nat_tests}
use Rattle.std.proofs.lemmas.Iterator.{YieldsList-from_slice}
use Rattle.std.proofs.lemmas.Iterator.Search.{all_from_yields_List}
use Rattle.holder.specs.Clauses.{literal_fine}
use Rattle.clause_store.proofs.Named.{all_fine_is}
use Rattle.clause_store.proofs.flat.is_proper.Goals as goal

pub returns-then-contains : goal.returns-then-contains
returns-then-contains c =
    let xs = c.args.clause.now in
    let r = all_from_yields_List literal_fine _ _ c.all.result c.all.ensures.ran (YieldsList-from_slice xs cc) (λ x b q k. search (rules, tests)) in
    grind (arith, nat_tests, r, all_fine_is xs)
