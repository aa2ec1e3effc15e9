use Rattle.std.proofs.Common.{rules}
use Rattle.problem_file.proofs.Layered.{facts_layer}
use Rattle.problem_file.proofs.file.ProblemFile.next_facts.Goals as goal

pub returns-in_err-facts : goal.returns-in_err-facts
returns-in_err-facts c = search (rules, facts_layer)
