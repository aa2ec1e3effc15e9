use Rattle.std.proofs.Common.{◌≡◌, length, arith}
use Rattle.clause_store.proofs.Cuts.{ordered_take, end_between}
use Rattle.clause_store.proofs.Named.{fine_take}
use Rattle.clause_store.proofs.work.StoreHolder.cut.Goals as goal

pub invariant_of-self-clause-in_order : goal.invariant_of-self-clause-in_order
invariant_of-self-clause-in_order c =
    let s = c.args.self.now in
    let w = end_between 0 c.args.n s.ends.items (length s.literals.items) s.in_order in
    let m : length c.truncate-2.new.self.items ≡ c.end_of-end.result = omega arith in
    cc (ordered_take 0 c.args.n s.ends.items (length s.literals.items) s.in_order)

pub invariant_of-self-clause-fine : goal.invariant_of-self-clause-fine
invariant_of-self-clause-fine c =
    let s = c.args.self.now in
    cc (fine_take c.end_of-end.result s.literals.items s.fine)
