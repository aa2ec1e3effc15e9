-- One row more of a table, and what its tests have shown.
use Rattle.std.proofs.Common.{◌≡◌, ◌<◌, Bool, true, false, cond, ◌&&◌, ltb, List, [], ◌∷◌, ◌++◌, map, length, is_ok, IfErr, Some, None, Ok, Err, Option, Result, sym, refl, ap, ◌∙◌, subst, arith}
use Rattle.std.proofs.lemmas.List.{map_push}
use Rattle.std.proofs.lemmas.Bool.{and_from, and_parts, ltb-true}
use Rattle.refusals.specs.declared.refusal.Refusal.{Refusal}
use Rattle.refusals.specs.declared.refusal.Refusal.TheVariants.{OutOfMemory}
use Rattle.refusals.specs.Limits.{most_axioms, most_rules, most_goals}
use Rattle.runs.specs.Problems.{Axiom, Rule, Goal, Problem}
use Rattle.runs.specs.Steps.{any}
use Rattle.problem.specs.Lists.{every, rises}
use Rattle.problem.specs.Views.{axiom_in, rule_in, goal_in, takes_from, bars}
use Rattle.problem.specs.Faults.{unless, first, shape, short, axiom_shape, rule_shape, rule_law, goal_shape, Says}

-- a table, before and after a row was put at its end: it is there, or memory was short and the table is as before
pub record Put {X : Type 0} (x : X) (before after : List X) (r : Result (Unit {0}) Refusal) : Type 0 where
  pub items : after ≡ cond (is_ok r) (before ++ x ∷ []) before
  pub refused : IfErr r (λ e. e ≡ OutOfMemory)

module _ {X Y : Type 0} (v : X → Y) {x : X} {before after : List X} {r : Result (Unit {0}) Refusal} (put : Put x before after r) where
  -- where the row stands for y, and `make` is the problem that has such a table
  pub says_put : (make : List Y → Problem) (y : Y) (fault : Option Refusal) → v x ≡ y → fault ≡ None → Says fault (make (map v before ++ y ∷ [])) (make (map v before)) (make (map v after)) r
  says_put make y fault is fine = by_case r put.items put.refused
    where
      by_case : (r : Result (Unit {0}) Refusal) → after ≡ cond (is_ok r) (before ++ x ∷ []) before → IfErr r (λ e. e ≡ OutOfMemory) → Says fault (make (map v before ++ y ∷ [])) (make (map v before)) (make (map v after)) r
      by_case (Ok u) i m = (fine, ap (λ t. make (map v t)) i ∙ ap make (map_push v before x) ∙ ap (λ z. make (map v before ++ z ∷ [])) is)
      by_case (Err e) i m = (rw fine m, ap (λ t. make (map v t)) i)

  every_push : (P : Y → Bool) (xs : List X) → every P (map v xs) ≡ true → P (v x) ≡ true → every P (map v (xs ++ x ∷ [])) ≡ true
  every_push P [] h p = and_from _ _ p refl
  every_push P (y ∷ xs) h p = let t = and_parts _ _ h in and_from _ _ t.0 (every_push P xs t.1 p)

  -- what holds of each row still does
  pub every_put : (P : Y → Bool) → every P (map v before) ≡ true → P (v x) ≡ true → every P (map v after) ≡ true
  every_put P h p = subst (λ l. every P (map v l) ≡ true) (sym put.items) (either (is_ok r))
    where
      either : (b : Bool) → every P (map v (cond b (before ++ x ∷ []) before)) ≡ true
      either true = every_push P before h p
      either false = h

some_none : (f : Refusal) {A : Type 0} → Some f ≡ None → A
some_none f e = cc

-- a test that gave no refusal held
pub unless_none : (b : Bool) (f : Refusal) (rest : Option Refusal) → unless b f rest ≡ None → (b ≡ true) × (rest ≡ None)
unless_none b f rest e = grind arith

pub unless_fine : (b : Bool) (f : Refusal) → b ≡ true → unless b f None ≡ None
unless_fine b f e = grind arith

pub first_fine : (a b : Option Refusal) → a ≡ None → b ≡ None → first a b ≡ None
first_fine a b p q = grind arith

pub shape_none : (a b c d : Bool) → shape a b c d ≡ None → (a ≡ true) × (b ≡ true) × (c ≡ true) × (d ≡ true)
shape_none a b c d e = grind arith

-- what a record that passed its tests is
module _ (p : Problem) where
  pub axiom_tests : (a : Axiom) → axiom_shape p a ≡ None → (axiom_in p.facts a ≡ true) × (rises 0 a.premises ≡ true) × ((ltb 0 (length a.premises) && short a.premises) ≡ true) × (length p.axioms < most_axioms)
  axiom_tests a e = let t = shape_none (axiom_in p.facts a) _ _ _ e in (t.0, t.1, t.2, ltb-true _ _ t.3)

  pub rule_tests : (r : Rule) → rule_shape p r ≡ None → (rule_in p.facts r ≡ true) × ((rises 0 r.needed && (rises 0 r.forbidden && rises 0 r.left)) ≡ true) × ((short r.needed && (short r.forbidden && short r.left)) ≡ true) × (length p.rules < most_rules)
  rule_tests r e = let t = shape_none (rule_in p.facts r) _ _ _ e in (t.0, t.1, t.2, ltb-true _ _ t.3)

  pub goal_tests : (g : Goal) → goal_shape p g ≡ None → (goal_in p.facts g ≡ true) × ((rises 0 g.wanted && rises 0 g.unwanted) ≡ true) × ((short g.wanted && short g.unwanted) ≡ true) × (length p.goals < most_goals)
  goal_tests g e = let t = shape_none (goal_in p.facts g) _ _ _ e in (t.0, t.1, t.2, ltb-true _ _ t.3)

  pub rule_lawful : (r : Rule) → any (takes_from r) p.axioms ≡ false → any (bars r) p.axioms ≡ false → rule_law p r ≡ None
  rule_lawful r t b = rw (t, b) refl
