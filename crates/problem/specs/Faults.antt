-- What is wrong with a record that a draft is given: the first refusal whose condition holds.
use Rattle.std.specs.Prelude.{◌≡◌, ℕ, ◌+◌, Bool, cond, not, ◌&&◌, List, length, Some, None, Ok, Err, Option, Result, nat_le, nat_lt}
use Rattle.std.specs.Option.{unwrap_or}
use Rattle.runs.specs.Problems.{Axiom, Rule, Goal, Problem}
use Rattle.runs.specs.Steps.{any}
use Rattle.refusals.specs.Limits.{most_facts, most_axioms, most_rules, most_goals, longest_list}
use Rattle.refusals.specs.declared.refusal.Refusal.{Refusal}
use Rattle.refusals.specs.declared.refusal.Refusal.TheVariants.{OutOfRange, Unordered, WrongCount, TableFull, LowConclusion, RemovesAxiomFact, ForbidsConclusion, EmptyGoal, OutOfMemory}
use Rattle.problem.specs.Lists.{every, fact_of, rises, below}
use Rattle.problem.specs.Views.{axiom_in, rule_in, goal_in, takes_from, bars}

-- the refusal, unless the test holds; and else what comes after
abbrev pub unless : Bool → Refusal → Option Refusal → Option Refusal
unless fine refusal rest = cond fine rest (Some refusal)

-- the first of two
abbrev pub first : Option Refusal → Option Refusal → Option Refusal
first (Some r) rest = Some r
first None rest = rest

-- by itself and by the table's room: every fact in range, every list rising, every list's length right, room for one more
abbrev pub shape : Bool → Bool → Bool → Bool → Option Refusal
shape in_range rising lengths room = unless in_range OutOfRange (unless rising Unordered (unless lengths WrongCount (unless room TableFull None)))

abbrev pub short : List ℕ → Bool
short fs = nat_le (length fs) longest_list

-- of a number of facts and a start list
abbrev pub start_fault : ℕ → List ℕ → Option Refusal
start_fault n fs = unless (fact_of most_facts n && every (fact_of n) fs) OutOfRange (unless (rises 0 fs) Unordered None)

module _ (p : Problem) where
  abbrev pub axiom_shape : Axiom → Option Refusal
  axiom_shape a = shape (axiom_in p.facts a) (rises 0 a.premises) (nat_lt 0 (length a.premises) && short a.premises) (nat_lt (length p.axioms) most_axioms)

  -- by what holds between the facts of a problem
  abbrev pub axiom_law : Axiom → Option Refusal
  axiom_law a = unless (below a.conclusion a.premises) LowConclusion None

  abbrev pub axiom_fault : Axiom → Option Refusal
  axiom_fault a = first (axiom_shape a) (axiom_law a)

  abbrev pub rule_shape : Rule → Option Refusal
  rule_shape r =
      shape (rule_in p.facts r) (rises 0 r.needed && (rises 0 r.forbidden && rises 0 r.left))
      (short r.needed && (short r.forbidden && short r.left))
      (nat_lt (length p.rules) most_rules)

  abbrev pub rule_law : Rule → Option Refusal
  rule_law r = unless (not (any (takes_from r) p.axioms)) RemovesAxiomFact (unless (not (any (bars r) p.axioms)) ForbidsConclusion None)

  abbrev pub rule_fault : Rule → Option Refusal
  rule_fault r = first (rule_shape r) (rule_law r)

  abbrev pub goal_shape : Goal → Option Refusal
  goal_shape g =
      shape (goal_in p.facts g) (rises 0 g.wanted && rises 0 g.unwanted) (short g.wanted && short g.unwanted)
      (nat_lt (length p.goals) most_goals)

  abbrev pub goal_law : Goal → Option Refusal
  goal_law g = unless (nat_lt 0 (length g.wanted + length g.unwanted)) EmptyGoal None

  abbrev pub goal_fault : Goal → Option Refusal
  goal_fault g = first (goal_shape g) (goal_law g)

-- a draft's tables, before and after it was given a record: grown if nothing is wrong; and else refused, or short of memory, and as before
abbrev pub Says : Option Refusal → Problem → Problem → Problem → Result (Unit {0}) Refusal → Type 0
Says fault grown before after (Ok _) = (fault ≡ None) × (after ≡ grown)
Says fault grown before after (Err e) = (e ≡ unwrap_or fault OutOfMemory) × (after ≡ before)
