use Rattle.std.proofs.Common.{ap, arith}
use Rattle.trials.specs.Values.{opens}
use Rattle.forcing.proofs.Backs.{opens_none}
use Rattle.forcing.proofs.board.Board.new.Goals as goal

pub invariant_of-result : goal.invariant_of-result
invariant_of-result c =
    let v = c.in_ok-values.ensures in
    let t = c.in_ok-trail.ensures in
    record { values_room = v.capacity; trail_room = t.capacity; few = omega (arith, opens_none, ap opens v.items, t.len) }
