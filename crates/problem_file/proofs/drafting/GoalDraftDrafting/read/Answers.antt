use Rattle.std.proofs.Common.{sym, ap, ◌∙◌, inr}
use Rattle.std.proofs.lemmas.Result.{err_from_is_err_and}
use Rattle.problem.specs.Faults.{goal_shape}
use Rattle.problem.specs.Tables.{goals_drafted}
use Rattle.problem_file.specs.Lists.{goal_listed}
use Rattle.problem_file.proofs.Taking.{goal_wrong}
use Rattle.problem_file.proofs.drafting.GoalDraftDrafting.read.Goals as goal

pub returns-in_err-judge_goal : goal.returns-in_err-judge_goal
returns-in_err-judge_goal c =
    let q = err_from_is_err_and c.from_residual-in_err-judge_goal.result c.from_residual-in_err-judge_goal.ensures.1 in
    let p = goals_drafted c.args.self.now in
    rw (q.1, q.2) (inr (goal_wrong p c.args.value.now _ (goal_listed c.in_ok-lists.lists) c.in_ok-lists.ensures (ap (goal_shape p) (sym c.lent.ensures) ∙ sym c.in_err-judge_goal.ensures)))
