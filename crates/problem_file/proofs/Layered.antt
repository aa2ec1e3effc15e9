-- The layers that find refusals.
use Rattle.std.proofs.Common.{◌≡◌, ℕ, Bool, true, false, ◌&&◌, ltb, ◌⊎◌, List, [], ◌∷◌, length, Some, None, Option, sym, ap, ◌∙◌, inr}
use Rattle.refusals.specs.declared.refusal.Refusal.{Refusal}
use Rattle.runs.specs.Problems.{Axiom, Rule, Goal, Problem}
use Rattle.refusals.specs.Limits.{most_facts, most_axioms, most_rules, most_goals}
use Rattle.problem.specs.Lists.{every, fact_of, rises}
use Rattle.problem.specs.Faults.{unless, short as briefly, shape, start_fault, axiom_shape, rule_shape, goal_shape}
use Rattle.refusals.specs.declared.refusal.Refusal.TheVariants.{OutOfRange, Unordered, OutOfMemory}
use Rattle.problem.specs.Views.{axiom_in, rule_in, goal_in}
use Rattle.problem_file.specs.declared.faults.Layer.TheVariants.{Record}
use Rattle.file_format.specs.Fields.{Found, ended, short, wrong, field}
use Rattle.problem_file.specs.declared.faults.FieldFault.{FieldFault}
use Rattle.problem_file.specs.declared.faults.RecordFault.{RecordFault}
use Rattle.problem_file.specs.Layers.{of_field, of_record, layer_of}
use Rattle.problem_file.specs.Says.{field_refusal}
use Rattle.problem_file.specs.Next.{Next, stopped, tagged_next, Faulty}
use Rattle.problem_file.specs.Opens.{facts_due}

pub some_same : {A : Type 0} {x y : A} → Some x ≡ Some y → x ≡ y
some_same e = cc

pub none_some : {A B : Type 0} {x : A} → None ≡ Some x → B
none_some e = absurd (cc)

-- what a record by itself is refused with
shape_layer : (a b c d : Bool) (r : Refusal) → shape a b c d ≡ Some r → Record ≡ layer_of r
shape_layer false b c d r h = ap layer_of (some_same h)
shape_layer true false c d r h = ap layer_of (some_same h)
shape_layer true true false d r h = ap layer_of (some_same h)
shape_layer true true true false r h = ap layer_of (some_same h)
shape_layer true true true true r h = none_some h

module _ (p : Problem) (r : Refusal) where
  pub axiom_layer : (a : Axiom) → axiom_shape p a ≡ Some r → Record ≡ layer_of r
  axiom_layer a = shape_layer (axiom_in p.facts a) (rises 0 a.premises) (ltb 0 (length a.premises) && briefly a.premises) (ltb (length p.axioms) most_axioms) r

  pub rule_layer : (x : Rule) → rule_shape p x ≡ Some r → Record ≡ layer_of r
  rule_layer x = shape_layer (rule_in p.facts x) (rises 0 x.needed && (rises 0 x.forbidden && rises 0 x.left)) (briefly x.needed && (briefly x.forbidden && briefly x.left)) (ltb (length p.rules) most_rules) r

  pub goal_layer : (g : Goal) → goal_shape p g ≡ Some r → Record ≡ layer_of r
  goal_layer g = shape_layer (goal_in p.facts g) (rises 0 g.wanted && rises 0 g.unwanted) (briefly g.wanted && briefly g.unwanted) (ltb (length p.goals) most_goals) r

-- and a number of facts, and a start list
facts_test : (b : Bool) (r : Refusal) → unless b OutOfRange None ≡ Some r → Record ≡ layer_of r
facts_test true r h = none_some h
facts_test false r h = ap layer_of (some_same h)

pub facts_layer : (v : List ℕ) (r : Refusal) → facts_due v ≡ Some r → Record ≡ layer_of r
facts_layer [] r h = ap layer_of (some_same h)
facts_layer (n ∷ []) r h = facts_test (fact_of most_facts n) r h
facts_layer (n ∷ m ∷ v) r h = ap layer_of (some_same h)

start_tests : (a b : Bool) (r : Refusal) → unless a OutOfRange (unless b Unordered None) ≡ Some r → Record ≡ layer_of r
start_tests false b r h = ap layer_of (some_same h)
start_tests true false r h = ap layer_of (some_same h)
start_tests true true r h = none_some h

pub start_layer : (n : ℕ) (fs : List ℕ) (r : Refusal) → start_fault n fs ≡ Some r → Record ≡ layer_of r
start_layer n fs r = start_tests (fact_of most_facts n && every (fact_of n) fs) (rises 0 fs) r

-- a fault of the field is one of the record
pub field_faulty : {A : Type 0} (t : ℕ) (use_of : List ℕ → Next A) (at : ℕ) (found : Found) (e : FieldFault) → field_refusal found ≡ Some e.refusal → e.at ≡ at → Faulty at (tagged_next t use_of found) (of_record (of_field e))
field_faulty t use_of at ended e h k = none_some h
field_faulty t use_of at (field u v bs) e h k = none_some h
field_faulty t use_of at short e h k = record { stands = k; due = inr (ap stopped (some_same h), ap layer_of (some_same h)) }
field_faulty t use_of at wrong e h k = record { stands = k; due = inr (ap stopped (some_same h), ap layer_of (some_same h)) }

-- a refusal that is due, at the layer that finds it; or memory was short
pub record Refuses (due : Option Refusal) (at : ℕ) (e : RecordFault) : Type 0 where
  pub stands : e.at ≡ at
  pub why : (e.refusal ≡ OutOfMemory) ⊎ ((due ≡ Some e.refusal) × (e.layer ≡ layer_of e.refusal))

-- a refusal that is due at the record layer
pub refuses : {due : Option Refusal} {at : ℕ} (e : RecordFault) (r : Refusal) → (e.refusal ≡ r) × (e.layer ≡ Record) × (e.at ≡ at) → due ≡ Some r → Record ≡ layer_of r → Refuses due at e
refuses e r is d l = record { stands = is.2; why = inr (d ∙ ap Some (sym is.0), is.1 ∙ l ∙ ap layer_of (sym is.0)) }
