-- A value judged by itself, and what the draft makes of it then: what holds of the one holds of the other.
use Rattle.std.proofs.Common.{◌≡◌, ℕ, Bool, true, false, cond, not, eqb, ◌⊎◌, List, Some, None, Option, unwrap_or, sym, refl, ap, ◌∙◌, inl, inr, arith}
use Rattle.refusals.specs.declared.refusal.Refusal.{Refusal}
use Rattle.refusals.specs.declared.refusal.Refusal.TheVariants.{BadLabel, LowConclusion, RemovesAxiomFact, ForbidsConclusion, EmptyGoal, OutOfMemory}
use Rattle.runs.specs.Problems.{Axiom, Rule, Goal, Problem}
use Rattle.problem.specs.Faults.{unless, first, axiom_shape, axiom_law, axiom_fault, rule_shape, rule_law, rule_fault, goal_shape, goal_law, goal_fault}
use Rattle.runs.specs.Steps.{any}
use Rattle.problem.specs.Views.{takes_from, bars}
use Rattle.problem.specs.Tables.{with_axiom, with_rule, with_goal}
use Rattle.file_format.specs.Fields.{Found, ended, short, wrong, field, label_fine, axiom_in_value, rule_in_value, goal_in_value}
use Rattle.file_format.specs.Reading.{refused, unless_refused, take_axiom, take_rule, take_goal, take_value, labelled_fault}
use Rattle.problem_file.specs.declared.faults.Layer.TheVariants.{Problem as AtProblem}
use Rattle.problem_file.specs.declared.faults.ProblemFault.{ProblemFault}
use Rattle.problem_file.specs.Layers.{layer_of}
use Rattle.problem_file.specs.Next.{Next, over, stopped, goes, tagged_next, axiom_due, rule_due, goal_due, with_value, next_record, Faulty}
use Rattle.problem_file.proofs.Layered.{some_same, none_some}
use Rattle.problem_file.proofs.Taking.{first_some, refused_some, first_none, label_passed}

abbrev pub unless_due : {A : Type 0} → Option Refusal → A → Next A
unless_due None a = goes a
unless_due (Some r) a = stopped r

-- the value of a field with the tag t, judged by itself
abbrev pub judged : ℕ → (List ℕ → Option Refusal) → Found → Next (List ℕ)
judged t due found = tagged_next t (λ v. unless_due (due v) v) found

clash : {A : Type 0} → ◌≡◌ {A = ℕ} 0 1 → A
clash e = absurd (omega arith)

-- a reader of records with the tag t, where a value that is refused by itself is refused by the draft too
module _ (t : ℕ) (p : Problem) (due : List ℕ → Option Refusal) (agrees : (v : List ℕ) (r : Refusal) → due v ≡ Some r → take_value t p v ≡ refused r) where
  stops_value : (v : List ℕ) (o : Option Refusal) (r : Refusal) → due v ≡ o → unless_due o v ≡ stopped r → with_value v (take_value t p v) ≡ stopped r
  stops_value v None r d e = clash (cc)
  stops_value v (Some x) r d e = let same : x ≡ r = cc in ap (with_value v) (agrees v x d) ∙ ap stopped same

  stops_tag : (b : Bool) (v : List ℕ) (r : Refusal) → cond b (unless_due (due v) v) over ≡ stopped r → cond b (with_value v (take_value t p v)) over ≡ stopped r
  stops_tag true v r e = stops_value v (due v) r refl e
  stops_tag false v r e = clash (cc)

  pub stops : (found : Found) (r : Refusal) → judged t due found ≡ stopped r → next_record t p found ≡ stopped r
  stops ended r e = clash (cc)
  stops short r e = cc
  stops wrong r e = cc
  stops (field u v bs) r e = stops_tag (eqb u t) v r e

  over_value : (v : List ℕ) (o : Option Refusal) → unless_due o v ≡ over → ◌≡◌ {A = ℕ} 0 1
  over_value v None e = cc
  over_value v (Some x) e = cc

  overs_tag : (b : Bool) (v : List ℕ) → cond b (unless_due (due v) v) over ≡ over → cond b (with_value v (take_value t p v)) over ≡ over
  overs_tag true v e = clash (over_value v (due v) e)
  overs_tag false v e = refl

  pub overs : (found : Found) → judged t due found ≡ over → next_record t p found ≡ over
  overs ended e = refl
  overs short e = clash (cc)
  overs wrong e = clash (cc)
  overs (field u v bs) e = overs_tag (eqb u t) v e

  goes_value : (v w : List ℕ) (o : Option Refusal) → due v ≡ o → unless_due o v ≡ goes w → (v ≡ w) × (due v ≡ None)
  goes_value v w None d e = (cc, d)
  goes_value v w (Some x) d e = clash (cc)

  goes_tag : (b : Bool) (v w : List ℕ) → cond b (unless_due (due v) v) over ≡ goes w → (cond b (with_value v (take_value t p v)) over ≡ with_value w (take_value t p w)) × (due w ≡ None)
  goes_tag true v w e = let s = goes_value v w (due v) refl e in (ap (λ x. with_value x (take_value t p x)) s.0, ap due (sym s.0) ∙ s.1)
  goes_tag false v w e = clash (cc)

  -- what became of a value that is fine by itself
  pub gone_on : (found : Found) (w : List ℕ) → judged t due found ≡ goes w → (next_record t p found ≡ with_value w (take_value t p w)) × (due w ≡ None)
  gone_on ended w e = clash (cc)
  gone_on short w e = clash (cc)
  gone_on wrong w e = clash (cc)
  gone_on (field u v bs) w e = goes_tag (eqb u t) v w e

  pub faulty_still : (at : ℕ) (found : Found) (e : ProblemFault) → Faulty at (judged t due found) e → Faulty at (next_record t p found) e
  faulty_still at found e f = record { stands = f.stands; due = elim f.due [ inl m ↦ inl m | inr s ↦ inr (stops found e.refusal s.0, s.1) ] }

module _ (p : Problem) where
  axiom_refused : (o : Option Axiom) (r : Refusal) → axiom_due p o ≡ Some r → take_axiom p o ≡ refused r
  axiom_refused None r e = ap refused (some_same e)
  axiom_refused (Some a) r e = refused_some _ _ r (first_some (axiom_shape p a) (axiom_law p a) r e)

  pub axiom_agrees : (v : List ℕ) (r : Refusal) → axiom_due p (axiom_in_value v) ≡ Some r → take_value 3 p v ≡ refused r
  axiom_agrees v r = axiom_refused (axiom_in_value v) r

  goal_refused : (o : Option Goal) (r : Refusal) → goal_due p o ≡ Some r → take_goal p o ≡ refused r
  goal_refused None r e = ap refused (some_same e)
  goal_refused (Some g) r e = refused_some _ _ r (first_some (goal_shape p g) (goal_law p g) r e)

  pub goal_agrees : (v : List ℕ) (r : Refusal) → goal_due p (goal_in_value v) ≡ Some r → take_value 5 p v ≡ refused r
  goal_agrees v r = goal_refused (goal_in_value v) r

  label_first : (a : Option Refusal) (b : Bool) (law : Option Refusal) (r : Refusal) → first a (unless b BadLabel None) ≡ Some r → first a (unless b BadLabel law) ≡ Some r
  label_first (Some x) b law r e = e
  label_first None true law r e = none_some e
  label_first None false law r e = e

  rule_refused : (o : Option (Rule × List ℕ)) (r : Refusal) → rule_due p o ≡ Some r → take_rule p o ≡ refused r
  rule_refused None r e = ap refused (some_same e)
  rule_refused (Some x) r e = refused_some _ _ r (label_first (rule_shape p x.0) (label_fine x.1) (rule_law p x.0) r e)

  pub rule_agrees : (v : List ℕ) (r : Refusal) → rule_due p (rule_in_value v) ≡ Some r → take_value 4 p v ≡ refused r
  rule_agrees v r = rule_refused (rule_in_value v) r

-- what a law is refused with, after the record by itself was fine
law_layer : (fault : Option Refusal) (e : Refusal) → ((r : Refusal) → fault ≡ Some r → AtProblem ≡ layer_of r) → e ≡ unwrap_or fault OutOfMemory → (e ≡ OutOfMemory) ⊎ ((fault ≡ Some e) × (AtProblem ≡ layer_of e))
law_layer None e h k = inl k
law_layer (Some r) e h k = inr (ap Some (sym k), h r refl ∙ ap layer_of (sym k))

first_law : (a b : Option Refusal) → a ≡ None → first a b ≡ b
first_law None b e = refl
first_law (Some r) b e = none_some (sym e)

one_law : (b : Bool) (f r : Refusal) → AtProblem ≡ layer_of f → unless b f None ≡ Some r → AtProblem ≡ layer_of r
one_law true f r l e = none_some e
one_law false f r l e = l ∙ ap layer_of (some_same e)

two_laws : (a b : Bool) (r : Refusal) → unless a RemovesAxiomFact (unless b ForbidsConclusion None) ≡ Some r → AtProblem ≡ layer_of r
two_laws true b r e = one_law b ForbidsConclusion r refl e
two_laws false b r e = ap layer_of (some_same e)

-- what an axiom, a rule and a goal that were fine by themselves become
module _ (p : Problem) (v : List ℕ) where
  pub axiom_taken : (a : Axiom) → axiom_in_value v ≡ Some a → axiom_fault p a ≡ None → with_value v (take_value 3 p v) ≡ goes (with_axiom p a, v)
  axiom_taken a i f = ap (λ o. with_value v (take_axiom p o)) i ∙ ap (λ o. with_value v (unless_refused o (with_axiom p a))) f

  pub axiom_not : (a : Axiom) (e : Refusal) → axiom_in_value v ≡ Some a → axiom_due p (axiom_in_value v) ≡ None → e ≡ unwrap_or (axiom_fault p a) OutOfMemory → (e ≡ OutOfMemory) ⊎ ((with_value v (take_value 3 p v) ≡ stopped e) × (AtProblem ≡ layer_of e))
  axiom_not a e i d k =
      let law = first_law (axiom_shape p a) (axiom_law p a) (ap (axiom_due p) (sym i) ∙ d) in
      elim (law_layer (axiom_fault p a) e (λ r h. one_law _ LowConclusion r refl (sym law ∙ h)) k) [ inl m ↦ inl m | inr s ↦ inr (ap (λ o. with_value v (take_axiom p o)) i ∙ ap (λ o. with_value v (unless_refused o (with_axiom p a))) s.0, s.1) ]

  pub goal_taken : (g : Goal) → goal_in_value v ≡ Some g → goal_fault p g ≡ None → with_value v (take_value 5 p v) ≡ goes (with_goal p g, v)
  goal_taken g i f = ap (λ o. with_value v (take_goal p o)) i ∙ ap (λ o. with_value v (unless_refused o (with_goal p g))) f

  pub goal_not : (g : Goal) (e : Refusal) → goal_in_value v ≡ Some g → goal_due p (goal_in_value v) ≡ None → e ≡ unwrap_or (goal_fault p g) OutOfMemory → (e ≡ OutOfMemory) ⊎ ((with_value v (take_value 5 p v) ≡ stopped e) × (AtProblem ≡ layer_of e))
  goal_not g e i d k =
      let law = first_law (goal_shape p g) (goal_law p g) (ap (goal_due p) (sym i) ∙ d) in
      elim (law_layer (goal_fault p g) e (λ r h. one_law _ EmptyGoal r refl (sym law ∙ h)) k) [ inl m ↦ inl m | inr s ↦ inr (ap (λ o. with_value v (take_goal p o)) i ∙ ap (λ o. with_value v (unless_refused o (with_goal p g))) s.0, s.1) ]

  -- the label being fine, it is the rule's own fault that counts
  labelled_is : (x : Rule) (label : List ℕ) → rule_in_value v ≡ Some (x, label) → rule_due p (rule_in_value v) ≡ None → (rule_shape p x ≡ None) × (labelled_fault p x label ≡ rule_fault p x)
  labelled_is x label i d =
      let n = first_none (rule_shape p x) (unless (label_fine label) BadLabel None) (ap (rule_due p) (sym i) ∙ d) in
      (n.0, ap (first (rule_shape p x)) (label_passed (label_fine label) (rule_law p x) n.1))

  pub rule_taken : (x : Rule) (label : List ℕ) → rule_in_value v ≡ Some (x, label) → rule_due p (rule_in_value v) ≡ None → rule_fault p x ≡ None → with_value v (take_value 4 p v) ≡ goes (with_rule p x, v)
  rule_taken x label i d f = ap (λ o. with_value v (take_rule p o)) i ∙ ap (λ o. with_value v (unless_refused o (with_rule p x))) ((labelled_is x label i d).1 ∙ f)

  pub rule_not : (x : Rule) (label : List ℕ) (e : Refusal) → rule_in_value v ≡ Some (x, label) → rule_due p (rule_in_value v) ≡ None → e ≡ unwrap_or (rule_fault p x) OutOfMemory → (e ≡ OutOfMemory) ⊎ ((with_value v (take_value 4 p v) ≡ stopped e) × (AtProblem ≡ layer_of e))
  rule_not x label e i d k =
      let s = labelled_is x label i d in
      let law = first_law (rule_shape p x) (rule_law p x) s.0 in
      elim (law_layer (rule_fault p x) e (λ r h. two_laws (not (any (takes_from x) p.axioms)) (not (any (bars x) p.axioms)) r (sym law ∙ h)) k) [ inl m ↦ inl m | inr t ↦ inr (ap (λ o. with_value v (take_rule p o)) i ∙ ap (λ o. with_value v (unless_refused o (with_rule p x))) (s.1 ∙ t.0), t.1) ]
