-- What the two upper layers of the reader answer at one field.
use Rattle.std.specs.Prelude.{◌≡◌, ℕ, ◌⊎◌, List, Some, None, Ok, Err, Option, Result}
use Rattle.runs.specs.Problems.{Problem}
use Rattle.file_format.specs.Fields.{Found, axiom_in_value, rule_in_value, goal_in_value}
use Rattle.file_format.specs.Reading.{Taken, refused, grown, take_value}
use Rattle.refusals.specs.declared.refusal.Refusal.{Refusal}
use Rattle.refusals.specs.declared.refusal.Refusal.TheVariants.{OutOfMemory}
use Rattle.problem_file.specs.declared.faults.Layer.TheVariants.{Record as AtRecord, Problem as AtProblem}
use Rattle.problem_file.specs.Layers.{of_record, layer_of}
use Rattle.problem_file.specs.Lists.{axiom_listed, labelled, goal_listed}
use Rattle.problem_file.specs.Next.{Next, over, goes, with_value, next_record, Faulty, Took}
use Rattle.problem_file.specs.declared.faults.RecordFault.{RecordFault}
use Rattle.problem_file.specs.declared.faults.ProblemFault.{ProblemFault}
use Rattle.problem_file.specs.declared.records.Placed.{Placed}
use Rattle.problem_file.specs.declared.records.AxiomLists.{AxiomLists}
use Rattle.problem_file.specs.declared.records.LabelledRule.{LabelledRule}
use Rattle.problem_file.specs.declared.records.GoalLists.{GoalLists}

-- the value holds the record; of a rule, also its label
abbrev pub HoldsAxiom : List ℕ → AxiomLists → Type 0
HoldsAxiom v a = axiom_in_value v ≡ Some (axiom_listed a)

abbrev pub HoldsRule : List ℕ → LabelledRule → Type 0
HoldsRule v r = rule_in_value v ≡ Some (labelled r)

abbrev pub HoldsGoal : List ℕ → GoalLists → Type 0
HoldsGoal v g = goal_in_value v ≡ Some (goal_listed g)

-- a value, read and judged by itself: the record, and no refusal is due; or the one that is due, at the record layer; or memory was short
abbrev pub Reads : {X : Type 0} → Option Refusal → Taken → (X → Type 0) → Result X Refusal → Type 0
Reads due taken holds (Ok x) = holds x × (due ≡ None)
Reads due taken holds (Err e) = (e ≡ OutOfMemory) ⊎ ((due ≡ Some e) × (taken ≡ refused e) × (AtRecord ≡ layer_of e))

-- a record that is fine by itself, given to the draft: in its tables; or refused, at the problem layer, or memory was short, and the tables are as before
abbrev pub Drafts : Taken → Problem → Result (Unit {0}) Refusal → Problem → Type 0
Drafts taken p (Ok _) q = taken ≡ grown q
Drafts taken p (Err e) q = ((e ≡ OutOfMemory) ⊎ ((taken ≡ refused e) × (AtProblem ≡ layer_of e))) × (q ≡ p)

module _ {X : Type 0} (holds : List ℕ → X → Type 0) (file : List ℕ) (at : ℕ) where
  -- read under the tag t, and judged by itself: the place is past its field
  abbrev pub Judges : ℕ → Problem → (List ℕ → Option Refusal) → Found → Result (Option (Placed X)) RecordFault → ℕ → Type 0
  Judges t p due found (Ok None) after = next_record t p found ≡ over
  Judges t p due found (Ok (Some x)) after = (v : List ℕ) × (next_record t p found ≡ with_value v (take_value t p v)) × (due v ≡ None) × Took holds file at v x after
  Judges t p due found (Err e) after = Faulty at (next_record t p found) (of_record e)

  -- taken by the draft: with its tables before and after, and the place afterwards
  abbrev pub Takes : Next (Problem × List ℕ) → Problem → Result (Option (Placed X)) ProblemFault → Problem → ℕ → Type 0
  Takes next p (Ok None) q after = (next ≡ over) × (q ≡ p) × (after ≡ at)
  Takes next p (Ok (Some x)) q after = (v : List ℕ) × (next ≡ goes (q, v)) × Took holds file at v x after
  Takes next p (Err e) q after = Faulty at next e × (q ≡ p) × (after ≡ at)
