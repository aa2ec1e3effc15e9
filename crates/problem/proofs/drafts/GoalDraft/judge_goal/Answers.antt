use Rattle.std.proofs.Common.{◌∙◌, arith}
use Rattle.std.proofs.Math.Bool.{and-true}
use Rattle.std.proofs.lemmas.Grind.{common_steps}
use Rattle.problem.proofs.drafts.GoalDraft.judge_goal.Goals as goal

pub returns : goal.returns
returns c = simp and-true at c.judge_lists.ensures ∙ grind (arith, common_steps)
