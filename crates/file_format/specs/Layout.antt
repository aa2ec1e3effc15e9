-- The bytes that lay out a problem, written in the order of its tables.
use Rattle.std.specs.Prelude.{◌≡◌, ℕ, ◌/◌, ◌%◌, true, List, [], ◌∷◌, ◌++◌, length}
use Rattle.runs.specs.Problems.{Axiom, Rule, Goal, Problem, Each}
use Rattle.runs.specs.Clauses.{joined}
use Rattle.problem.specs.Tables.{Proper}
use Rattle.file_format.specs.Fields.{label_fine}

abbrev pub field_bytes : ℕ → List ℕ → List ℕ
field_bytes t v = t ∷ length v / 256 ∷ length v % 256 ∷ v

abbrev pub list_bytes : List ℕ → List ℕ
list_bytes fs = length fs ∷ fs

abbrev pub axiom_bytes : Axiom → List ℕ
axiom_bytes a = field_bytes 3 (list_bytes a.premises ++ a.conclusion ∷ [])

abbrev pub rule_bytes : Rule → List ℕ → List ℕ
rule_bytes r label = field_bytes 4 (list_bytes r.needed ++ list_bytes r.forbidden ++ list_bytes r.left ++ label)

abbrev pub goal_bytes : Goal → List ℕ
goal_bytes g = field_bytes 5 (list_bytes g.wanted ++ list_bytes g.unwanted)

-- each rule with its label
abbrev pub rules_bytes : List Rule → List (List ℕ) → List ℕ
rules_bytes [] labels = []
rules_bytes (r ∷ rs) [] = rule_bytes r [] ++ rules_bytes rs []
rules_bytes (r ∷ rs) (l ∷ labels) = rule_bytes r l ++ rules_bytes rs labels

abbrev pub file_bytes : Problem → List (List ℕ) → List ℕ
file_bytes p labels =
    field_bytes 1 (p.facts ∷ [])
    ++ field_bytes 2 p.start
    ++ joined axiom_bytes p.axioms
    ++ rules_bytes p.rules labels
    ++ joined goal_bytes p.goals

-- the bytes lay out the problem, with some label for each rule
pub record LaysOut (bs : List ℕ) (p : Problem) : Type 0 where
  pub labels : List (List ℕ)
  pub a_label_each : length labels ≡ length p.rules
  pub fine : Each (λ l. label_fine l ≡ true) labels
  pub proper : Proper p
  pub bytes : bs ≡ file_bytes p labels
