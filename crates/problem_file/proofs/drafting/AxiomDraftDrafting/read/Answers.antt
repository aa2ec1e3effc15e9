use Rattle.std.proofs.Common.{sym, ap, ◌∙◌, inr}
use Rattle.std.proofs.lemmas.Result.{err_from_is_err_and}
use Rattle.problem.specs.Faults.{axiom_shape}
use Rattle.problem.specs.Tables.{axioms_drafted}
use Rattle.problem_file.specs.Lists.{axiom_listed}
use Rattle.problem_file.proofs.Taking.{axiom_wrong}
use Rattle.problem_file.proofs.drafting.AxiomDraftDrafting.read.Goals as goal

pub returns-in_err-judge_axiom : goal.returns-in_err-judge_axiom
returns-in_err-judge_axiom c =
    let q = err_from_is_err_and c.from_residual-in_err-judge_axiom.result c.from_residual-in_err-judge_axiom.ensures.1 in
    let p = axioms_drafted c.args.self.now in
    rw (q.1, q.2) (inr (axiom_wrong p c.args.value.now _ (axiom_listed c.in_ok-lists.lists) c.in_ok-lists.ensures (ap (axiom_shape p) (sym c.lent.ensures) ∙ sym c.in_err-judge_axiom.ensures)))
