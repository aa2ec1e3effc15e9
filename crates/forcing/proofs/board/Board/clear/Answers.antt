use Rattle.std.proofs.Common.{ap, arith}
use Rattle.trials.specs.Values.{opens}
use Rattle.forcing.proofs.Backs.{opens_all}
use Rattle.forcing.proofs.board.Board.clear.Goals as goal

pub invariant_of-self-clause-few : goal.invariant_of-self-clause-few
invariant_of-self-clause-few c = omega (arith, ap opens c.fill.ensures.items, opens_all, c.clear.ensures.len, c.min.ensures)
