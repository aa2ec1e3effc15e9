use Rattle.std.proofs.Common.{◌≡◌, drop, ◌∙◌, arith, rules}
use Rattle.std.proofs.lemmas.Grind.{common_steps}
use Rattle.problem.specs.Tables.{axioms_drafted, rules_drafted, goals_drafted}
use Rattle.file_format.specs.Reading.{read, all_fields}
use Rattle.file_reader.proofs.Opening.{opening_read}
use Rattle.file_reader.proofs.Steps.{next_table, all_read, file_says}
use Rattle.file_reader.proofs.read_problem.Goals as goal
use Rattle.file_reader.proofs.read_problem.Goals.{After-filled, After-filled-2, After-filled-3}

-- what the bytes say at the end of the opening fields, of the axioms and of the rules
begun : (c : goal.After-filled) → read c.args.file.now ≡ all_fields 3 (axioms_drafted c.in_ok-axioms.axioms) c.next_start.new.place.at (drop c.next_start.new.place.at c.args.file.now)
begun c = opening_read _ c.in_ok-facts.facts c.next_facts.new.place.at c.next_start.new.place.at c.in_ok-axioms.axioms c.in_ok-facts.ensures c.in_ok-axioms.ensures

ruled : (c : goal.After-filled-2) → all_fields 3 (axioms_drafted c.in_ok-axioms.axioms) c.next_start.new.place.at (drop c.next_start.new.place.at c.args.file.now) ≡ all_fields 4 (rules_drafted c.rules.result) c.filled.new.place.at (drop c.filled.new.place.at c.args.file.now)
ruled c = next_table 3 (axioms_drafted c.in_ok-axioms.axioms) (axioms_drafted c.in_ok-axioms-2.axioms) _ _ _ c.filled.new.place.at c.in_ok-axioms-2.ensures c.rules.ensures

aimed : (c : goal.After-filled-3) → all_fields 4 (rules_drafted c.rules.result) c.filled.new.place.at (drop c.filled.new.place.at c.args.file.now) ≡ all_fields 5 (goals_drafted c.goals.result) c.filled-2.new.place.at (drop c.filled-2.new.place.at c.args.file.now)
aimed c = next_table 4 (rules_drafted c.rules.result) (rules_drafted c.in_ok-rules.rules) _ _ _ c.filled-2.new.place.at c.in_ok-rules.ensures c.goals.ensures

pub returns-in_err-facts : goal.returns-in_err-facts
returns-in_err-facts c = grind (arith, common_steps)

pub returns-in_err-axioms : goal.returns-in_err-axioms
returns-in_err-axioms c = grind (arith, common_steps)

pub returns-in_err-axioms-2 : goal.returns-in_err-axioms-2
returns-in_err-axioms-2 c = file_says c.from_residual-in_err-axioms-2.result (begun (goal.at.returns-in_err-axioms-2 c).After-filled) (search rules)

pub returns-in_err-rules : goal.returns-in_err-rules
returns-in_err-rules c =
    let s = goal.at.returns-in_err-rules c in
    file_says c.from_residual-in_err-rules.result (begun s.After-filled ∙ ruled s.After-filled-2) (search rules)

pub returns-in_err-goals : goal.returns-in_err-goals
returns-in_err-goals c =
    let s = goal.at.returns-in_err-goals c in
    file_says c.from_residual-in_err-goals.result (begun s.After-filled ∙ ruled s.After-filled-2 ∙ aimed s.After-filled-3) (search rules)

pub returns : goal.returns
returns c =
    let s = goal.at.returns c in
    let place = c.filled-3.new.place.at in
    let end = all_read (goals_drafted c.in_ok-goals.goals) place (drop place c.args.file.now) c.in_ok-goals.ensures.1 in
    file_says c.finished.result (begun s.After-filled ∙ ruled s.After-filled-2 ∙ aimed s.After-filled-3 ∙ c.in_ok-goals.ensures.0 ∙ end) c.finished.ensures
