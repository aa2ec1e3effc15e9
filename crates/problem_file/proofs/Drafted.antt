-- What the draft makes of a judged record of each kind, as the reader tells it.
use Rattle.std.proofs.Common.{◌≡◌, ℕ, ◌⊎◌, List, Some, None, Ok, Option, unwrap_or, sym, ap, ◌∙◌, subst, inl, inr}
use Rattle.refusals.specs.declared.refusal.Refusal.{Refusal}
use Rattle.refusals.specs.declared.refusal.Refusal.TheVariants.{OutOfMemory}
use Rattle.runs.specs.Problems.{Axiom, Rule, Goal, Problem}
use Rattle.problem.specs.Faults.{axiom_fault, rule_fault, goal_fault}
use Rattle.problem.specs.Tables.{with_axiom, with_rule, with_goal}
use Rattle.file_format.specs.Fields.{Found, axiom_in_value, rule_in_value, goal_in_value}
use Rattle.problem_file.specs.declared.faults.Layer.TheVariants.{Problem as AtProblem}
use Rattle.problem_file.specs.declared.faults.ProblemFault.{ProblemFault}
use Rattle.problem_file.specs.declared.records.Placed.{Placed}
use Rattle.problem_file.specs.declared.records.AxiomLists.{AxiomLists}
use Rattle.problem_file.specs.declared.records.LabelledRule.{LabelledRule}
use Rattle.problem_file.specs.declared.records.GoalLists.{GoalLists}
use Rattle.problem_file.specs.Layers.{layer_of}
use Rattle.problem_file.specs.Lists.{axiom_listed, rule_listed, goal_listed}
use Rattle.problem_file.specs.Next.{Next, stopped, goes, axiom_due, rule_due, goal_due, next_record, Faulty, Took}
use Rattle.problem_file.specs.Records.{HoldsAxiom, HoldsRule, HoldsGoal, Judges, Takes}
use Rattle.problem_file.proofs.Judged.{axiom_taken, axiom_not, rule_taken, rule_not, goal_taken, goal_not}

-- a refusal of the draft, as a fault of the problem layer
told : {A : Type 0} {next : Next A} (at : ℕ) (e : Refusal) (f : ProblemFault) → (f.refusal ≡ e) × (f.layer ≡ AtProblem) × (f.at ≡ at) → (e ≡ OutOfMemory) ⊎ ((next ≡ stopped e) × (AtProblem ≡ layer_of e)) → Faulty at next f
told at e f is why = record { stands = is.2; due = elim why [ inl m ↦ inl (is.0 ∙ m) | inr s ↦ inr (s.0 ∙ ap stopped (sym is.0), is.1 ∙ s.1 ∙ ap layer_of (sym is.0)) ] }

module _ (file : List ℕ) (at : ℕ) (p : Problem) (found : Found) (after : ℕ) where
  pub axiom_goes : (o : Option (Placed AxiomLists)) (x : Placed AxiomLists) (a : Axiom) (q : Problem) (place : ℕ) → o ≡ Some x → a ≡ axiom_listed x.«record» → Judges HoldsAxiom file at 3 p (λ v. axiom_due p (axiom_in_value v)) found (Ok o) after → axiom_fault p a ≡ None → q ≡ with_axiom p a → place ≡ after → Takes HoldsAxiom file at (next_record 3 p found) p (Ok (Some x)) q place
  axiom_goes o x a q place one is j f grown there =
      let s = subst (λ z. Judges HoldsAxiom file at 3 p (λ v. axiom_due p (axiom_in_value v)) found (Ok z) after) one j in
      let v = s.0 in
      let i : axiom_in_value v ≡ Some a = s.3.holds ∙ ap Some (sym is) in
      (v, s.1 ∙ axiom_taken p v a i f ∙ ap (λ z. goes (z, v)) (sym grown), subst (Took HoldsAxiom file at v x) (sym there) s.3)

  pub axiom_stays : (o : Option (Placed AxiomLists)) (x : Placed AxiomLists) (a : Axiom) (e : Refusal) (t : ProblemFault) → o ≡ Some x → a ≡ axiom_listed x.«record» → Judges HoldsAxiom file at 3 p (λ v. axiom_due p (axiom_in_value v)) found (Ok o) after → e ≡ unwrap_or (axiom_fault p a) OutOfMemory → (t.refusal ≡ e) × (t.layer ≡ AtProblem) × (t.at ≡ at) → Faulty at (next_record 3 p found) t
  axiom_stays o x a e t one is j k told-as =
      let s = subst (λ z. Judges HoldsAxiom file at 3 p (λ v. axiom_due p (axiom_in_value v)) found (Ok z) after) one j in
      let v = s.0 in
      let i : axiom_in_value v ≡ Some a = s.3.holds ∙ ap Some (sym is) in
      told at e t told-as (elim (axiom_not p v a e i s.2 k) [ inl m ↦ inl m | inr n ↦ inr (s.1 ∙ n.0, n.1) ])

  pub rule_goes : (o : Option (Placed LabelledRule)) (x : Placed LabelledRule) (a : Rule) (q : Problem) (place : ℕ) → o ≡ Some x → a ≡ rule_listed x.«record».rule → Judges HoldsRule file at 4 p (λ v. rule_due p (rule_in_value v)) found (Ok o) after → rule_fault p a ≡ None → q ≡ with_rule p a → place ≡ after → Takes HoldsRule file at (next_record 4 p found) p (Ok (Some x)) q place
  rule_goes o x a q place one is j f grown there =
      let s = subst (λ z. Judges HoldsRule file at 4 p (λ v. rule_due p (rule_in_value v)) found (Ok z) after) one j in
      let v = s.0 in
      let i : rule_in_value v ≡ Some (a, x.«record».label.now) = s.3.holds ∙ ap (λ y. Some (y, x.«record».label.now)) (sym is) in
      (v, s.1 ∙ rule_taken p v a x.«record».label.now i s.2 f ∙ ap (λ z. goes (z, v)) (sym grown), subst (Took HoldsRule file at v x) (sym there) s.3)

  pub rule_stays : (o : Option (Placed LabelledRule)) (x : Placed LabelledRule) (a : Rule) (e : Refusal) (t : ProblemFault) → o ≡ Some x → a ≡ rule_listed x.«record».rule → Judges HoldsRule file at 4 p (λ v. rule_due p (rule_in_value v)) found (Ok o) after → e ≡ unwrap_or (rule_fault p a) OutOfMemory → (t.refusal ≡ e) × (t.layer ≡ AtProblem) × (t.at ≡ at) → Faulty at (next_record 4 p found) t
  rule_stays o x a e t one is j k told-as =
      let s = subst (λ z. Judges HoldsRule file at 4 p (λ v. rule_due p (rule_in_value v)) found (Ok z) after) one j in
      let v = s.0 in
      let i : rule_in_value v ≡ Some (a, x.«record».label.now) = s.3.holds ∙ ap (λ y. Some (y, x.«record».label.now)) (sym is) in
      told at e t told-as (elim (rule_not p v a x.«record».label.now e i s.2 k) [ inl m ↦ inl m | inr n ↦ inr (s.1 ∙ n.0, n.1) ])

  pub goal_goes : (o : Option (Placed GoalLists)) (x : Placed GoalLists) (a : Goal) (q : Problem) (place : ℕ) → o ≡ Some x → a ≡ goal_listed x.«record» → Judges HoldsGoal file at 5 p (λ v. goal_due p (goal_in_value v)) found (Ok o) after → goal_fault p a ≡ None → q ≡ with_goal p a → place ≡ after → Takes HoldsGoal file at (next_record 5 p found) p (Ok (Some x)) q place
  goal_goes o x a q place one is j f grown there =
      let s = subst (λ z. Judges HoldsGoal file at 5 p (λ v. goal_due p (goal_in_value v)) found (Ok z) after) one j in
      let v = s.0 in
      let i : goal_in_value v ≡ Some a = s.3.holds ∙ ap Some (sym is) in
      (v, s.1 ∙ goal_taken p v a i f ∙ ap (λ z. goes (z, v)) (sym grown), subst (Took HoldsGoal file at v x) (sym there) s.3)

  pub goal_stays : (o : Option (Placed GoalLists)) (x : Placed GoalLists) (a : Goal) (e : Refusal) (t : ProblemFault) → o ≡ Some x → a ≡ goal_listed x.«record» → Judges HoldsGoal file at 5 p (λ v. goal_due p (goal_in_value v)) found (Ok o) after → e ≡ unwrap_or (goal_fault p a) OutOfMemory → (t.refusal ≡ e) × (t.layer ≡ AtProblem) × (t.at ≡ at) → Faulty at (next_record 5 p found) t
  goal_stays o x a e t one is j k told-as =
      let s = subst (λ z. Judges HoldsGoal file at 5 p (λ v. goal_due p (goal_in_value v)) found (Ok z) after) one j in
      let v = s.0 in
      let i : goal_in_value v ≡ Some a = s.3.holds ∙ ap Some (sym is) in
      told at e t told-as (elim (goal_not p v a e i s.2 k) [ inl m ↦ inl m | inr n ↦ inr (s.1 ∙ n.0, n.1) ])
