use Rattle.std.proofs.Common.{◌≡◌, take}
use Rattle.propagation.specs.Chains.{added_clause}
use Rattle.propagation.specs.Made.{chains}
use Rattle.propagation.proofs.index.Index.add_clause.Given as goal

abbrev pub invariant-loop-lit : goal.invariant-loop-lit
invariant-loop-lit l = (chains l.self ≡ added_clause (chains l.initial.self) (take l.lit-index l.clause) l.i) × (l.self.most ≡ l.initial.self.most)
