use Rattle.std.proofs.Common.{sym, ap, ◌∙◌, inr}
use Rattle.std.proofs.lemmas.Result.{err_from_is_err_and}
use Rattle.problem.specs.Faults.{rule_shape}
use Rattle.problem.specs.Tables.{rules_drafted}
use Rattle.problem_file.specs.Lists.{rule_listed}
use Rattle.problem_file.proofs.Taking.{rule_wrong}
use Rattle.problem_file.proofs.drafting.RuleDraftDrafting.read.Goals as goal

pub returns-in_err-judge_rule : goal.returns-in_err-judge_rule
returns-in_err-judge_rule c =
    let q = err_from_is_err_and c.from_residual-in_err-judge_rule.result c.from_residual-in_err-judge_rule.ensures.1 in
    let p = rules_drafted c.args.self.now in
    let x = c.in_ok-labelled.labelled in
    rw (q.1, q.2) (inr (rule_wrong p c.args.value.now _ (rule_listed x.rule) x.label.now c.in_ok-labelled.ensures (ap (rule_shape p) (sym c.lent.ensures) ∙ sym c.in_err-judge_rule.ensures)))
