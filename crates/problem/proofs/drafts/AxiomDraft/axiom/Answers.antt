use Rattle.std.proofs.Common.{arith}
use Rattle.std.proofs.lemmas.Grind.{common_steps}
use Rattle.problem.proofs.drafts.AxiomDraft.axiom.Goals as goal

pub invariant_of-self : goal.invariant_of-self
invariant_of-self c = record {
  facts_in = c.args.self.now.facts_in;
  start_in = c.args.self.now.start_in;
  few = grind (arith, common_steps);
  inside = grind (arith, common_steps);
}
