-- The records that callers give as those of the theory. Assumes nothing.
use Rattle.runs.specs.Problems.{Axiom, Rule, Goal}
use Rattle.problem.specs.declared.given.GivenAxiom.{GivenAxiom}
use Rattle.problem.specs.declared.given.GivenRule.{GivenRule}
use Rattle.problem.specs.declared.given.GivenGoal.{GivenGoal}

abbrev pub given_axiom : GivenAxiom → Axiom
given_axiom a = record { premises = a.premises.now; conclusion = a.conclusion }

abbrev pub given_rule : GivenRule → Rule
given_rule r = record { needed = r.needed.now; forbidden = r.forbidden.now; left = r.left.now }

abbrev pub given_goal : GivenGoal → Goal
given_goal g = record { wanted = g.wanted.now; unwanted = g.unwanted.now }
