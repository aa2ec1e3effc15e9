use Rattle.forcing.specs.Picks.{SetBetween}
use Rattle.forcing.proofs.pick.first_open.Given as goal

abbrev pub invariant-loop-v : goal.invariant-loop-v
invariant-loop-v l = SetBetween l.from l.v l.values
