-- No fault is found in a record exactly if it has the properties that a table asks of it. Assumes nothing.
use Rattle.std.proofs.Common.{◌≡◌, ℕ, ◌+◌, ◌<◌, ◌≤◌, Bool, true, false, ◌&&◌, ltb, ◌↔◌, List, [], ◌∷◌, length, None, Option, arith}
use Rattle.std.proofs.lemmas.Bool.Decides.{nat_tests}
use Rattle.refusals.specs.Limits.{most_facts, most_axioms, most_rules, most_goals, longest_list}
use Rattle.refusals.specs.declared.refusal.Refusal.{Refusal}
use Rattle.runs.specs.Problems.{Axiom, Rule, Goal, Problem, Each, Rising, Facts, AxiomFacts, RuleFacts, GoalFacts, Spares, removes}
use Rattle.runs.specs.Steps.{any}
use Rattle.problem.specs.Lists.{every, fact_of, rises, below}
use Rattle.problem.specs.Views.{takes_from, bars}
use Rattle.problem.specs.Faults.{unless, first, shape, start_fault, axiom_fault, goal_fault}
use Rattle.file_format.specs.Fields.{label_fine}
use Rattle.file_format.specs.Reading.{labelled_fault}

-- what the tables of a problem ask of an axiom, of a rule and of a goal
pub record FineAxiom (n : ℕ) (a : Axiom) : Type 0 where
  pub facts : AxiomFacts n a
  pub ascending : Each (λ f. f < a.conclusion) a.premises
  pub some_premises : 0 < length a.premises
  pub premises : length a.premises ≤ longest_list

pub record FineRule (n : ℕ) (axs : List Axiom) (r : Rule) : Type 0 where
  pub facts : RuleFacts n r
  pub lists : (length r.needed ≤ longest_list) × (length r.forbidden ≤ longest_list) × (length r.left ≤ longest_list)
  pub spared : Each (Spares r) axs

pub record FineGoal (n : ℕ) (g : Goal) : Type 0 where
  pub facts : GoalFacts n g
  pub lists : (length g.wanted ≤ longest_list) × (length g.unwanted ≤ longest_list)
  pub some_goal : 0 < length g.wanted + length g.unwanted

-- from what never holds
pub no : {A : Type 0} → ◌≡◌ {A = ℕ} 0 1 → A
no z = absurd (omega arith)

unless_none : (b : Bool) (r : Refusal) (rest : Option Refusal) → (unless b r rest ≡ None) ↔ ((b ≡ true) × (rest ≡ None))
unless_none b r rest = grind arith

first_none : (x y : Option Refusal) → (first x y ≡ None) ↔ ((x ≡ None) × (y ≡ None))
first_none x y = grind arith

module _ {A : Type 0} where
  every_iff : (P : A → Bool) (Q : A → Type 0) → ((x : A) → (P x ≡ true) ↔ Q x) → (xs : List A) → (every P xs ≡ true) ↔ Each Q xs
  every_iff P Q h [] = grind arith
  every_iff P Q h (x ∷ xs) = grind (arith, h x, every_iff P Q h xs)

  -- none passes
  none_iff : (P : A → Bool) (xs : List A) → (any P xs ≡ false) ↔ Each (λ x. P x ≡ false) xs
  none_iff P [] = grind arith
  none_iff P (x ∷ xs) = grind (arith, none_iff P xs)

pub fact_iff : (n f : ℕ) → (fact_of n f ≡ true) ↔ ((0 < f) × (f ≤ n))
fact_iff n f = grind (arith, nat_tests)

-- a list that rises, of facts
rising_iff : (low n : ℕ) (fs : List ℕ) → ((every (fact_of n) fs ≡ true) × (rises low fs ≡ true)) ↔ Rising low n fs
rising_iff low n [] = grind arith
rising_iff low n (f ∷ fs) = grind (arith, nat_tests, rising_iff f n fs)

below_iff : (n : ℕ) (fs : List ℕ) → (below n fs ≡ true) ↔ Each (λ f. f < n) fs
below_iff n fs = every_iff (λ f. ltb f n) (λ f. f < n) (λ f. grind (arith, nat_tests)) fs

spares_iff : (r : Rule) (axs : List Axiom) → ((any (takes_from r) axs ≡ false) × (any (bars r) axs ≡ false)) ↔ Each (Spares r) axs
spares_iff r [] = grind arith
spares_iff r (a ∷ axs) = grind (arith, none_iff (removes r) a.premises, spares_iff r axs)

shape_iff : (x y z u : Bool) → (shape x y z u ≡ None) ↔ ((x ≡ true) × (y ≡ true) × (z ≡ true) × (u ≡ true))
shape_iff x y z u = grind arith

and_three : (x y z : Bool) → ((x && (y && z)) ≡ true) ↔ ((x ≡ true) × (y ≡ true) × (z ≡ true))
and_three x y z = grind arith

shaped : (x y z u : Bool) (rest : Option Refusal) → (first (shape x y z u) rest ≡ None) ↔ ((x ≡ true) × (y ≡ true) × (z ≡ true) × (u ≡ true) × (rest ≡ None))
shaped x y z u rest = grind arith

pub start_iff : (n : ℕ) (fs : List ℕ) → (start_fault n fs ≡ None) ↔ ((fact_of most_facts n ≡ true) × Facts n fs)
start_iff n fs = grind (arith, rising_iff 0 n fs)

module _ (p : Problem) where
  pub axiom_iff : (a : Axiom) → (axiom_fault p a ≡ None) ↔ (FineAxiom p.facts a × (length p.axioms < most_axioms))
  axiom_iff a = grind (arith, nat_tests, rising_iff 0 p.facts a.premises, below_iff a.conclusion a.premises)

  -- a rule with its label
  pub rule_iff : (r : Rule) (l : List ℕ) → (labelled_fault p r l ≡ None) ↔ (FineRule p.facts p.axioms r × (length p.rules < most_rules) × (label_fine l ≡ true))
  rule_iff r l =
      simp shaped (grind (arith, nat_tests, rising_iff 0 p.facts r.needed, rising_iff 0 p.facts r.forbidden, rising_iff 0 p.facts r.left, spares_iff r p.axioms))

  pub goal_iff : (g : Goal) → (goal_fault p g ≡ None) ↔ (FineGoal p.facts g × (length p.goals < most_goals))
  goal_iff g = grind (arith, nat_tests, rising_iff 0 p.facts g.wanted, rising_iff 0 p.facts g.unwanted)
