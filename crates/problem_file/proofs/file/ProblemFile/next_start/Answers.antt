use Rattle.std.proofs.Common.{rules}
use Rattle.problem_file.proofs.Layered.{start_layer}
use Rattle.problem_file.proofs.file.ProblemFile.next_start.Goals as goal

pub returns-in_err-draft : goal.returns-in_err-draft
returns-in_err-draft c = search (rules, start_layer)
