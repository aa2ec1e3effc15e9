use Rattle.std.proofs.Common.{None, arith}
use Rattle.std.proofs.lemmas.List.{get_or_past}
use Rattle.forcing.proofs.pick.first_open.Goals as goal

pub returns-then-past-n : goal.returns-then-past-n
returns-then-past-n c =
    let a = c.args.values.now in
    let p = c.max-past.ensures in
    record {
      low = omega arith;
      high = omega arith;
      opened = get_or_past a c.max-past.result None (omega arith);
      before = λ w l h o. c.loop-v.invariant w l (omega arith) o;
    }
