use Rattle.trials.proofs.Unique.{one_course}
use Rattle.trials.proofs.theorems.courses_agree.Goals as goal

pub returns : goal.returns
returns c = λ cs n a p q. one_course cs n p q
