use Rattle.trials.specs.Trials.{whole, trials}
use Rattle.trials.proofs.Unique.{one_course}
use Rattle.trials.proofs.theorems.any_course_counts.Goals as goal

pub returns : goal.returns
unfolding trials
returns c = λ cs n p. (one_course cs n p (whole cs n)).1
