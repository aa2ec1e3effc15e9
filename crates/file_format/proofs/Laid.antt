-- Fields grow tables to a problem's exactly if they lay out, record by record, what its tables have beyond those. Assumes nothing.
use Rattle.std.proofs.Common.{◌≡◌, ℕ, ◌<◌, ◌≤◌, true, List, [], ◌∷◌, ◌++◌, length, None, subst, append_assoc, append-nil, arith}
use Rattle.std.proofs.lemmas.List.{length-append}
use Rattle.runs.specs.Problems.{Axiom, Rule, Goal, Problem, Each}
use Rattle.runs.specs.Clauses.{joined}
use Rattle.runs.proofs.Built.{each-++}
use Rattle.problem.specs.Faults.{axiom_fault, goal_fault}
use Rattle.problem.specs.Tables.{with_axiom, with_rule, with_goal}
use Rattle.file_format.specs.Fields.{label_fine}
use Rattle.file_format.specs.Reading.{labelled_fault}
use Rattle.file_format.specs.Layout.{axiom_bytes, rule_bytes, goal_bytes, rules_bytes}
use Rattle.file_format.proofs.Growth.{an_axiom, a_rule, a_goal, Grows, over, next}
use Rattle.file_format.proofs.Faults.{axiom_iff, rule_iff, goal_iff}
use Rattle.file_format.proofs.Fit.{Fit, fit_axiom, fit_rule, fit_goal}

-- a problem with more in its tables
abbrev pub extended : Problem → List Axiom → List Rule → List Goal → Problem
extended p axs rs gs = record { facts = p.facts; start = p.start; axioms = p.axioms ++ axs; rules = p.rules ++ rs; goals = p.goals ++ gs }

-- the fields after the start list
abbrev pub table_bytes : List Axiom → List Rule → List (List ℕ) → List Goal → List ℕ
table_bytes axs rs labels gs = joined axiom_bytes axs ++ (rules_bytes rs labels ++ joined goal_bytes gs)

-- the bytes lay out what q's tables have beyond p's, with a label for each rule and no tag below low
pub record Laid (q : Problem) (low : ℕ) (p : Problem) (bs : List ℕ) (axs : List Axiom) (rs : List Rule) (labels : List (List ℕ)) (gs : List Goal) : Type 0 where
  pub a_label_each : length labels ≡ length rs
  pub fine : Each (λ l. label_fine l ≡ true) labels
  pub no_axioms : 3 < low → axs ≡ []
  pub no_rules : 4 < low → rs ≡ []
  pub all : q ≡ extended p axs rs gs
  pub bytes : bs ≡ table_bytes axs rs labels gs

-- tables by their parts
pub same : (n : ℕ) (start : List ℕ) {axs bxs : List Axiom} {rs ss : List Rule} {gs hs : List Goal} → axs ≡ bxs → rs ≡ ss → gs ≡ hs → ◌≡◌ {A = Problem} (record { facts = n; start = start; axioms = axs; rules = rs; goals = gs }) (record { facts = n; start = start; axioms = bxs; rules = ss; goals = hs })
same n start x y z = λ i. record { facts = n; start = start; axioms = x i; rules = y i; goals = z i }

pub laid : {q p : Problem} {low : ℕ} {bs : List ℕ} → Grows q low p bs → (axs : List Axiom) × (rs : List Rule) × (labels : List (List ℕ)) × (gs : List Goal) × Laid q low p bs axs rs labels gs
laid {q} (over h) = ([], [], [], [], grind (arith, append-nil q.axioms, append-nil q.rules, append-nil q.goals))
laid {q} {p} (next h (an_axiom a f) g) =
    let k = laid g in
    (a ∷ k.0, k.1, k.2, k.3, grind (arith, append_assoc p.axioms (a ∷ []) k.0, append_assoc (axiom_bytes a) (joined axiom_bytes k.0) (rules_bytes k.1 k.2 ++ joined goal_bytes k.3)))
laid {q} {p} (next h (a_rule r l f) g) =
    let k = laid g in
    let fine = ((rule_iff p r l).0 f).2 in
    ([], r ∷ k.1, l ∷ k.2, k.3, grind (arith, append_assoc p.rules (r ∷ []) k.1, append_assoc (rule_bytes r l) (rules_bytes k.1 k.2) (joined goal_bytes k.3)))
laid {q} {p} (next h (a_goal g f) more) =
    let k = laid more in
    ([], [], [], g ∷ k.3, grind (arith, append_assoc p.goals (g ∷ []) k.3))

-- and q is proper if p is so far
pub fit_end : {q p : Problem} {low : ℕ} {bs : List ℕ} → Grows q low p bs → (low ≤ 3 → p.rules ≡ []) → Fit p → Fit q × (0 < length q.goals)
fit_end (over h) e k = (k, h)
fit_end {p = p} (next h (an_axiom a f) g) e k = fit_end g (λ l. e h) (fit_axiom p k a (e h) f)
fit_end {p = p} (next h (a_rule r l f) g) e k = fit_end g (λ l. absurd (omega arith)) (fit_rule p k r l f)
fit_end {p = p} (next h (a_goal g f) more) e k = fit_end more (λ l. absurd (omega arith)) (fit_goal p k g f)

-- the next record has no fault, if all together fit
module _ (p : Problem) (axs : List Axiom) (rs : List Rule) (gs : List Goal) where
  axiom_fits : (a : Axiom) → Fit (extended p (a ∷ axs) rs gs) → axiom_fault p a ≡ None
  axiom_fits a f = (axiom_iff p a).1 (((each-++ _ p.axioms (a ∷ axs)).0 f.axioms).1.0, omega (arith, length-append p.axioms (a ∷ axs)))

  rule_fits : (r : Rule) (l : List ℕ) → label_fine l ≡ true → Fit (extended p [] (r ∷ rs) gs) → labelled_fault p r l ≡ None
  rule_fits r l h f =
      (rule_iff p r l).1 (rw append-nil at (((each-++ _ p.rules (r ∷ rs)).0 f.rules).1.0), omega (arith, length-append p.rules (r ∷ rs)), h)

  goal_fits : (g : Goal) → Fit (extended p [] [] (g ∷ gs)) → goal_fault p g ≡ None
  goal_fits g f = (goal_iff p g).1 (((each-++ _ p.goals (g ∷ gs)).0 f.goals).1.0, omega (arith, length-append p.goals (g ∷ gs)))

pub grows_laid : (q : Problem) → Fit q → 0 < length q.goals → (low : ℕ) (p : Problem) (bs : List ℕ) (axs : List Axiom) (rs : List Rule) (labels : List (List ℕ)) (gs : List Goal) → low ≤ 5 → Laid q low p bs axs rs labels gs → Grows q low p bs
grows_laid q f s low p bs [] [] [] [] h k =
    let same : q ≡ p = grind (arith, append-nil p.axioms, append-nil p.rules, append-nil p.goals) in
    rw (k.bytes, ← same) (over s)
grows_laid q f s low p bs [] [] [] (g ∷ gs) h k =
    rw k.bytes
    (next h (a_goal g (goal_fits p [] [] gs g (subst Fit k.all f)))
    (grows_laid q f s 5 (with_goal p g) (joined goal_bytes gs) [] [] [] gs (omega arith) (grind (arith, append_assoc p.goals (g ∷ []) gs))))
grows_laid q f s low p bs [] [] (l ∷ labels) gs h k = absurd (omega (arith, k.a_label_each))
grows_laid q f s low p bs [] (r ∷ rs) [] gs h k = absurd (omega (arith, k.a_label_each))
grows_laid q f s low p bs [] (r ∷ rs) (l ∷ labels) gs h k =
    let tag : low ≤ 4 = grind (arith, k.no_rules) in
    rw (k.bytes, append_assoc (rule_bytes r l) (rules_bytes rs labels) (joined goal_bytes gs))
    (next tag (a_rule r l (rule_fits p [] rs gs r l k.fine.0 (subst Fit k.all f)))
    (grows_laid q f s 4 (with_rule p r) (rules_bytes rs labels ++ joined goal_bytes gs) [] rs labels gs (omega arith) (grind (arith, append_assoc p.rules (r ∷ []) rs))))
grows_laid q f s low p bs (a ∷ axs) rs labels gs h k =
    let tag : low ≤ 3 = grind (arith, k.no_axioms) in
    rw (k.bytes, append_assoc (axiom_bytes a) (joined axiom_bytes axs) (rules_bytes rs labels ++ joined goal_bytes gs))
    (next tag (an_axiom a (axiom_fits p axs rs gs a (subst Fit k.all f)))
    (grows_laid q f s 3 (with_axiom p a) (table_bytes axs rs labels gs) axs rs labels gs (omega arith) (grind (arith, append_assoc p.axioms (a ∷ []) axs))))
