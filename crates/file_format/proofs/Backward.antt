-- The bytes that lay out a problem's tables grow them from none, record by record. Assumes nothing.
use Rattle.std.proofs.Common.{◌≡◌, ℕ, ◌<◌, ◌≤◌, true, List, [], ◌∷◌, ◌++◌, length, sym, refl, ap, ◌∙◌, subst, append_assoc, append-nil, arith}
use Rattle.std.proofs.lemmas.List.{length-append}
use Rattle.runs.specs.Problems.{Axiom, Rule, Goal, Problem, Each}
use Rattle.runs.specs.Clauses.{joined}
use Rattle.runs.proofs.Built.{each-++}
use Rattle.file_format.specs.Fields.{label_fine}
use Rattle.file_format.specs.Layout.{goal_bytes, rules_bytes}
use Rattle.file_format.proofs.Growth.{Grows}
use Rattle.file_format.proofs.Fit.{Fit}
use Rattle.file_format.proofs.Laid.{same, table_bytes, grows_laid}

-- an entry of a list, of which the part before it is done
module _ {A : Type 0} {xs : List A} (done : List A) (x : A) (ys : List A) (e : xs ≡ done ++ x ∷ ys) where
  entry : (P : A → Type 0) → Each P xs → P x
  entry P h = ((each-++ P done (x ∷ ys)).0 (subst (Each P) e h)).1.0

  room : (most : ℕ) → length xs ≤ most → length done < most
  room most h = omega (arith, ap length e, length-append done (x ∷ ys))

  moved : xs ≡ done ++ x ∷ [] ++ ys
  moved = e ∙ sym (append_assoc done (x ∷ []) ys)

module _ (q : Problem) (f : Fit q) (some : 0 < length q.goals) where
  -- the tables before a goal, a rule and an axiom
  abbrev pub at_goals : List Goal → Problem
  at_goals gs = record { facts = q.facts; start = q.start; axioms = q.axioms; rules = q.rules; goals = gs }

  abbrev pub at_rules : List Rule → Problem
  at_rules rs = record { facts = q.facts; start = q.start; axioms = q.axioms; rules = rs; goals = [] }

  abbrev pub at_axioms : List Axiom → Problem
  at_axioms axs = record { facts = q.facts; start = q.start; axioms = axs; rules = []; goals = [] }

  goals_grow : (low : ℕ) (done gs : List Goal) → low ≤ 5 → q.goals ≡ done ++ gs → Grows q low (at_goals done) (joined goal_bytes gs)
  goals_grow low done gs h e =
      grows_laid q f some low (at_goals done) (joined goal_bytes gs) [] [] [] gs h
      (record { a_label_each = refl; fine = tt; no_axioms = λ l. refl; no_rules = λ l. refl; all = same q.facts q.start (sym (append-nil q.axioms)) (sym (append-nil q.rules)) e; bytes = refl })

  rules_grow : (low : ℕ) (done rs : List Rule) (labels : List (List ℕ)) → low ≤ 4 → q.rules ≡ done ++ rs → length labels ≡ length rs → Each (λ l. label_fine l ≡ true) labels → Grows q low (at_rules done) (rules_bytes rs labels ++ joined goal_bytes q.goals)
  rules_grow low done rs labels h e k m =
      grows_laid q f some low (at_rules done) (rules_bytes rs labels ++ joined goal_bytes q.goals) [] rs labels q.goals (omega arith)
      (record { a_label_each = k; fine = m; no_axioms = λ l. refl; no_rules = λ l. absurd (omega arith); all = same q.facts q.start (sym (append-nil q.axioms)) e refl; bytes = refl })

  pub axioms_grow : (done axs : List Axiom) (labels : List (List ℕ)) → q.axioms ≡ done ++ axs → length labels ≡ length q.rules → Each (λ l. label_fine l ≡ true) labels → Grows q 3 (at_axioms done) (table_bytes axs q.rules labels q.goals)
  axioms_grow done axs labels e k m =
      grows_laid q f some 3 (at_axioms done) (table_bytes axs q.rules labels q.goals) axs q.rules labels q.goals (omega arith)
      (record { a_label_each = k; fine = m; no_axioms = λ l. absurd (omega arith); no_rules = λ l. absurd (omega arith); all = same q.facts q.start e refl refl; bytes = refl })
