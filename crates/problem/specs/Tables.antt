-- The tables of a draft and of a problem, as the subject's problem; and the properties of every problem.
use Rattle.std.specs.Prelude.{◌+◌, ◌<◌, ◌≤◌, [], ◌∷◌, ◌++◌, map, length, vec_items}
use Rattle.runs.specs.Problems as runs
use Rattle.runs.specs.Problems.{Each, WellFormed, Ascending}
use Rattle.refusals.specs.Limits.{most_facts, most_axioms, most_rules, most_goals, longest_list}
use Rattle.problem.specs.declared.drafts.AxiomDraft.{AxiomDraft}
use Rattle.problem.specs.declared.drafts.RuleDraft.{RuleDraft}
use Rattle.problem.specs.declared.drafts.GoalDraft.{GoalDraft}
use Rattle.problem.specs.declared.drafts.Problem.{Problem}
use Rattle.problem.specs.Views.{axiom_view, rule_view, goal_view}

-- what a draft has so far
abbrev pub axioms_drafted : AxiomDraft → runs.Problem
axioms_drafted d = record { facts = d.facts; start = vec_items d.start.items; axioms = map axiom_view (vec_items d.axioms); rules = []; goals = [] }

abbrev pub rules_drafted : RuleDraft → runs.Problem
rules_drafted d = record {
  facts = d.ground.facts;
  start = vec_items d.ground.start.items;
  axioms = map axiom_view (vec_items d.ground.axioms);
  rules = map rule_view (vec_items d.rules);
  goals = [];
}

abbrev pub goals_drafted : GoalDraft → runs.Problem
goals_drafted d = record {
  facts = d.ground.ground.facts;
  start = vec_items d.ground.ground.start.items;
  axioms = map axiom_view (vec_items d.ground.ground.axioms);
  rules = map rule_view (vec_items d.ground.rules);
  goals = map goal_view (vec_items d.goals);
}

abbrev pub view : Problem → runs.Problem
view p = goals_drafted p.tables

-- one record more
abbrev pub with_axiom : runs.Problem → runs.Axiom → runs.Problem
with_axiom p a = record { facts = p.facts; start = p.start; axioms = p.axioms ++ a ∷ []; rules = p.rules; goals = p.goals }

abbrev pub with_rule : runs.Problem → runs.Rule → runs.Problem
with_rule p r = record { facts = p.facts; start = p.start; axioms = p.axioms; rules = p.rules ++ r ∷ []; goals = p.goals }

abbrev pub with_goal : runs.Problem → runs.Goal → runs.Problem
with_goal p g = record { facts = p.facts; start = p.start; axioms = p.axioms; rules = p.rules; goals = p.goals ++ g ∷ [] }

-- the limits, and what must not be empty
pub record Limited (p : runs.Problem) : Type 0 where
  pub some_facts : 0 < p.facts
  pub facts : p.facts ≤ most_facts
  pub axioms : length p.axioms ≤ most_axioms
  pub rules : length p.rules ≤ most_rules
  pub some_goals : 0 < length p.goals
  pub goals : length p.goals ≤ most_goals
  pub some_premises : Each (λ a. 0 < length a.premises) p.axioms
  pub premises : Each (λ a. length a.premises ≤ longest_list) p.axioms
  pub rule_lists : Each (λ r. (length r.needed ≤ longest_list) × (length r.forbidden ≤ longest_list) × (length r.left ≤ longest_list)) p.rules
  pub goal_lists : Each (λ g. (length g.wanted ≤ longest_list) × (length g.unwanted ≤ longest_list)) p.goals
  pub some_goal : Each (λ g. 0 < length g.wanted + length g.unwanted) p.goals

-- every property that every problem has
pub record Proper (p : runs.Problem) : Type 0 where
  pub formed : WellFormed p
  pub ascending : Ascending p
  pub limited : Limited p
