-- Tables that have every property of a problem's but perhaps a goal, and stay so with one record more. Assumes nothing.
use Rattle.std.proofs.Common.{◌≡◌, ℕ, ◌+◌, ◌<◌, ◌≤◌, ◌↔◌, List, [], ◌∷◌, ◌++◌, length, None, arith}
use Rattle.std.proofs.lemmas.List.{length_push}
use Rattle.refusals.specs.Limits.{most_facts, most_axioms, most_rules, most_goals, longest_list}
use Rattle.runs.specs.Problems.{Axiom, Rule, Goal, Problem, Each, Facts, AxiomFacts, RuleFacts, GoalFacts, Spares}
use Rattle.runs.proofs.Built.{each-++}
use Rattle.problem.specs.Faults.{axiom_fault, goal_fault}
use Rattle.problem.specs.Tables.{with_axiom, with_rule, with_goal, Proper}
use Rattle.file_format.specs.Reading.{labelled_fault}
use Rattle.file_format.proofs.Faults.{FineAxiom, FineRule, FineGoal, axiom_iff, rule_iff, goal_iff}

pub record Fit (p : Problem) : Type 0 where
  pub some_facts : 0 < p.facts
  pub facts : p.facts ≤ most_facts
  pub start : Facts p.facts p.start
  pub axioms : Each (FineAxiom p.facts) p.axioms
  pub rules : Each (FineRule p.facts p.axioms) p.rules
  pub goals : Each (FineGoal p.facts) p.goals
  pub few_axioms : length p.axioms ≤ most_axioms
  pub few_rules : length p.rules ≤ most_rules
  pub few_goals : length p.goals ≤ most_goals

-- a table's entries have all that is asked of one, or each has each of it
axioms_iff : (n : ℕ) (axs : List Axiom) → Each (FineAxiom n) axs ↔ (Each (AxiomFacts n) axs × Each (λ a. Each (λ f. f < a.conclusion) a.premises) axs × Each (λ a. 0 < length a.premises) axs × Each (λ a. length a.premises ≤ longest_list) axs)
axioms_iff n [] = grind arith
axioms_iff n (a ∷ axs) = grind (arith, axioms_iff n axs)

rules_iff : (n : ℕ) (axs : List Axiom) (rs : List Rule) → Each (FineRule n axs) rs ↔ (Each (RuleFacts n) rs × Each (λ r. (length r.needed ≤ longest_list) × (length r.forbidden ≤ longest_list) × (length r.left ≤ longest_list)) rs × Each (λ r. Each (Spares r) axs) rs)
rules_iff n axs [] = grind arith
rules_iff n axs (r ∷ rs) = grind (arith, rules_iff n axs rs)

goals_iff : (n : ℕ) (gs : List Goal) → Each (FineGoal n) gs ↔ (Each (GoalFacts n) gs × Each (λ g. (length g.wanted ≤ longest_list) × (length g.unwanted ≤ longest_list)) gs × Each (λ g. 0 < length g.wanted + length g.unwanted) gs)
goals_iff n [] = grind arith
goals_iff n (g ∷ gs) = grind (arith, goals_iff n gs)

-- with a goal they are a problem's
pub proper_iff : (p : Problem) → (Fit p × (0 < length p.goals)) ↔ Proper p
proper_iff p = grind (arith, axioms_iff p.facts p.axioms, rules_iff p.facts p.axioms p.rules, goals_iff p.facts p.goals)

each_push : {A : Type 0} (P : A → Type 0) (xs : List A) (x : A) → Each P xs → P x → Each P (xs ++ x ∷ [])
each_push P xs x h k = (each-++ P xs (x ∷ [])).1 (h, (k, tt))

one_more : {A : Type 0} (xs : List A) (x : A) (most : ℕ) → length xs < most → length (xs ++ x ∷ []) ≤ most
one_more xs x most h = omega (arith, length_push xs x)

module _ (p : Problem) (f : Fit p) where
  -- an axiom comes before every rule, since a rule is judged by the axioms before it
  pub fit_axiom : (a : Axiom) → p.rules ≡ [] → axiom_fault p a ≡ None → Fit (with_axiom p a)
  fit_axiom a e h =
      let k = (axiom_iff p a).0 h in
      let more = each_push (FineAxiom p.facts) p.axioms a f.axioms k.0 in
      let none : Each (FineRule p.facts (p.axioms ++ a ∷ [])) p.rules = rw e tt in
      grind (arith, length_push p.axioms a)

  pub fit_rule : (r : Rule) (l : List ℕ) → labelled_fault p r l ≡ None → Fit (with_rule p r)
  fit_rule r l h =
      let k = (rule_iff p r l).0 h in
      let more = each_push (FineRule p.facts p.axioms) p.rules r f.rules k.0 in
      grind (arith, length_push p.rules r)

  pub fit_goal : (g : Goal) → goal_fault p g ≡ None → Fit (with_goal p g)
  fit_goal g h =
      let k = (goal_iff p g).0 h in
      let more = each_push (FineGoal p.facts) p.goals g f.goals k.0 in
      grind (arith, length_push p.goals g)
