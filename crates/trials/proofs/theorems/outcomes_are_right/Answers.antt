use Rattle.std.proofs.Common.{suc, max, arith}
use Rattle.holder.specs.Widest.{widest}
use Rattle.trials.specs.Trials.{whole, outcome}
use Rattle.trials.proofs.Models.{all_proper, says}
use Rattle.trials.proofs.theorems.outcomes_are_right.Goals as goal

pub returns : goal.returns
unfolding outcome
returns c = λ cs n fine wide. says cs n (all_proper cs n fine wide) (suc (max n (widest cs))) (omega arith) (whole cs n)
