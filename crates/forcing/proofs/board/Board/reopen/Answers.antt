use Rattle.std.proofs.Common.{vec_items, arith}
use Rattle.forcing.proofs.Backs.{opens_reset}
use Rattle.forcing.proofs.board.Board.reopen.Goals as goal

pub invariant_of-self-clause-few : goal.invariant_of-self-clause-few
invariant_of-self-clause-few c = let o = opens_reset (vec_items c.args.self.now.values) c.in-Some.v in omega (arith, c.args.self.now.few, c.in-Some.ensures.cases)
