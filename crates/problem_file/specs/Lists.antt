-- Records as plain lists, and what reading one from a value answers.
use Rattle.std.specs.Prelude.{◌≡◌, ℕ, ◌⊎◌, List, Some, None, Ok, Err, vec_items, Option, Result}
use Rattle.std.specs.Borrow.{Bor}
use Rattle.refusals.specs.declared.refusal.Refusal.{Refusal}
use Rattle.refusals.specs.declared.refusal.Refusal.TheVariants.{WrongLength, OutOfMemory}
use Rattle.runs.specs.Problems.{Axiom, Rule, Goal}
use Rattle.problem_file.specs.declared.records.AxiomLists.{AxiomLists}
use Rattle.problem_file.specs.declared.records.RuleLists.{RuleLists}
use Rattle.problem_file.specs.declared.records.LabelledRule.{LabelledRule}
use Rattle.problem_file.specs.declared.records.GoalLists.{GoalLists}

abbrev pub axiom_listed : AxiomLists → Axiom
axiom_listed a = record { premises = vec_items a.premises; conclusion = a.conclusion }

abbrev pub rule_listed : RuleLists → Rule
rule_listed r = record { needed = vec_items r.needed; forbidden = vec_items r.forbidden; left = vec_items r.left }

abbrev pub labelled : LabelledRule → Rule × List ℕ
labelled r = (rule_listed r.rule, r.label.now)

abbrev pub goal_listed : GoalLists → Goal
goal_listed g = record { wanted = vec_items g.wanted; unwanted = vec_items g.unwanted }

-- the same two parts
abbrev pub Parts : Option (List ℕ × List ℕ) → Option (Bor (List ℕ) × Bor (List ℕ)) → Type 0
Parts o None = o ≡ None
Parts o (Some x) = o ≡ Some (x.0.now, x.1.now)

-- the value does not hold such a record; or memory was short
abbrev pub Unread : {A : Type 0} → Option A → Refusal → Type 0
Unread o e = ((o ≡ None) × (e ≡ WrongLength)) ⊎ (e ≡ OutOfMemory)

-- a record in a value, read as lists
abbrev pub ListsSay : {X A : Type 0} → (X → A) → Option A → Result X Refusal → Type 0
ListsSay listed o (Ok x) = o ≡ Some (listed x)
ListsSay listed o (Err e) = Unread o e
