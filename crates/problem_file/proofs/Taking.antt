-- From a record judged by itself to what the draft makes of it.
use Rattle.std.proofs.Common.{◌≡◌, ℕ, Bool, true, false, not, ◌⊎◌, List, Some, None, Ok, Err, Option, Result, unwrap_or, sym, refl, ap, ◌∙◌, inl, inr}
use Rattle.refusals.specs.declared.refusal.Refusal.{Refusal}
use Rattle.refusals.specs.declared.refusal.Refusal.TheVariants.{BadLabel, RemovesAxiomFact, ForbidsConclusion, OutOfMemory}
use Rattle.runs.specs.Problems.{Axiom, Rule, Goal, Problem}
use Rattle.problem.specs.Faults.{Says, unless, first, axiom_shape, rule_shape, rule_law, rule_fault, goal_shape}
use Rattle.runs.specs.Steps.{any}
use Rattle.problem.specs.Views.{takes_from, bars}
use Rattle.problem.specs.Tables.{with_rule}
use Rattle.file_format.specs.Fields.{label_fine, axiom_in_value, rule_in_value, goal_in_value}
use Rattle.file_format.specs.Reading.{refused, grown, unless_refused, take_axiom, take_rule, take_goal, labelled_fault}
use Rattle.problem_file.specs.declared.faults.Layer.TheVariants.{Record as AtRecord, Problem as AtProblem}
use Rattle.problem_file.specs.Layers.{layer_of}
use Rattle.problem_file.specs.Next.{axiom_due, rule_due, goal_due}
use Rattle.problem_file.specs.Records.{Drafts}
use Rattle.problem_file.proofs.Layered.{some_same, none_some, axiom_layer, rule_layer, goal_layer}

pub first_some : (a b : Option Refusal) (r : Refusal) → a ≡ Some r → first a b ≡ Some r
first_some (Some x) b r e = e
first_some None b r e = none_some e

pub refused_some : (o : Option Refusal) (q : Problem) (r : Refusal) → o ≡ Some r → unless_refused o q ≡ refused r
refused_some (Some x) q r e = ap refused (some_same e)
refused_some None q r e = none_some e

-- a value that is refused by itself is refused by the draft too, at the record layer
module _ (p : Problem) (v : List ℕ) (r : Refusal) where
  pub axiom_wrong : (a : Axiom) → axiom_in_value v ≡ Some a → axiom_shape p a ≡ Some r → (axiom_due p (axiom_in_value v) ≡ Some r) × (take_axiom p (axiom_in_value v) ≡ refused r) × (AtRecord ≡ layer_of r)
  axiom_wrong a i s = (ap (axiom_due p) i ∙ s, ap (take_axiom p) i ∙ refused_some _ _ r (first_some _ _ r s), axiom_layer p r a s)

  pub goal_wrong : (g : Goal) → goal_in_value v ≡ Some g → goal_shape p g ≡ Some r → (goal_due p (goal_in_value v) ≡ Some r) × (take_goal p (goal_in_value v) ≡ refused r) × (AtRecord ≡ layer_of r)
  goal_wrong g i s = (ap (goal_due p) i ∙ s, ap (take_goal p) i ∙ refused_some _ _ r (first_some _ _ r s), goal_layer p r g s)

  pub rule_wrong : (x : Rule) (label : List ℕ) → rule_in_value v ≡ Some (x, label) → rule_shape p x ≡ Some r → (rule_due p (rule_in_value v) ≡ Some r) × (take_rule p (rule_in_value v) ≡ refused r) × (AtRecord ≡ layer_of r)
  rule_wrong x label i s = (ap (rule_due p) i ∙ first_some _ _ r s, ap (take_rule p) i ∙ refused_some _ _ r (first_some _ _ r s), rule_layer p r x s)

-- a rule that is fine by itself, with its label, is judged by its own laws
pub first_none : (a b : Option Refusal) → first a b ≡ None → (a ≡ None) × (b ≡ None)
first_none None b e = (refl, e)
first_none (Some r) b e = none_some (sym e)

pub label_passed : (b : Bool) (law : Option Refusal) → unless b BadLabel None ≡ None → unless b BadLabel law ≡ law
label_passed true law e = refl
label_passed false law e = none_some (sym e)

pub rule_fine : (p : Problem) (v : List ℕ) (x : Rule) (label : List ℕ) → rule_in_value v ≡ Some (x, label) → rule_due p (rule_in_value v) ≡ None → (rule_shape p x ≡ None) × (take_rule p (rule_in_value v) ≡ unless_refused (rule_law p x) (with_rule p x))
rule_fine p v x label i d =
    let n = first_none (rule_shape p x) (unless (label_fine label) BadLabel None) (ap (rule_due p) (sym i) ∙ d) in
    let law : labelled_fault p x label ≡ rule_law p x = ap (λ o. first o (unless (label_fine label) BadLabel (rule_law p x))) n.0 ∙ label_passed (label_fine label) (rule_law p x) n.1 in
    (n.0, ap (take_rule p) i ∙ ap (λ o. unless_refused o (with_rule p x)) law)

law_layer : (a b : Bool) (e : Refusal) → e ≡ unwrap_or (unless a RemovesAxiomFact (unless b ForbidsConclusion None)) OutOfMemory → (e ≡ OutOfMemory) ⊎ ((unless a RemovesAxiomFact (unless b ForbidsConclusion None) ≡ Some e) × (AtProblem ≡ layer_of e))
law_layer false b e k = inr (ap Some (sym k), ap layer_of (sym k))
law_layer true false e k = inr (ap Some (sym k), ap layer_of (sym k))
law_layer true true e k = inl k

-- what such a rule becomes
pub rule_drafts : (p q : Problem) (v : List ℕ) (x : Rule) (label : List ℕ) (r : Result (Unit {0}) Refusal) → rule_in_value v ≡ Some (x, label) → rule_due p (rule_in_value v) ≡ None → Says (rule_fault p x) (with_rule p x) p q r → Drafts (take_rule p (rule_in_value v)) p r q
rule_drafts p q v x label (Ok u) i d s =
    let f = rule_fine p v x label i d in
    let law : rule_law p x ≡ None = ap (λ o. first o (rule_law p x)) (sym f.0) ∙ s.0 in
    f.1 ∙ ap (λ o. unless_refused o (with_rule p x)) law ∙ ap grown (sym s.1)
rule_drafts p q v x label (Err e) i d s =
    let f = rule_fine p v x label i d in
    let why = law_layer (not (any (takes_from x) p.axioms)) (not (any (bars x) p.axioms)) e (s.0 ∙ ap (λ o. unwrap_or (first o (rule_law p x)) OutOfMemory) f.0) in
    (elim why [ inl m ↦ inl m | inr t ↦ inr (f.1 ∙ ap (λ o. unless_refused o (with_rule p x)) t.0, t.1) ], s.1)
