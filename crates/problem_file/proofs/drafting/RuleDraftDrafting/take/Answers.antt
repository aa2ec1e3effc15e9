use Rattle.std.proofs.Common.{rules}
use Rattle.problem.specs.Faults.{Says, rule_fault}
use Rattle.problem.specs.Tables.{rules_drafted, with_rule}
use Rattle.problem_file.specs.Lists.{rule_listed}
use Rattle.problem_file.proofs.Taking.{rule_drafts}
use Rattle.problem_file.proofs.drafting.RuleDraftDrafting.take.Goals as goal

pub returns : goal.returns
returns c = λ v h d.
    let p = rules_drafted c.args.self.now in
    let q = rules_drafted c.rule.new.self in
    let x = rule_listed c.args.given.now.rule in
    let says : Says (rule_fault p x) (with_rule p x) p q c.rule.result = search rules in
    rule_drafts p q v x c.args.given.now.label.now c.rule.result h d says
