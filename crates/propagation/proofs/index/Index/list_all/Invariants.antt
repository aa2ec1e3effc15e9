use Rattle.std.proofs.Common.{◌≡◌, ◌+◌, length, take}
use Rattle.clause_store.specs.Made.{stood_of}
use Rattle.propagation.specs.Chains.{added_all, no_chains}
use Rattle.propagation.specs.Made.{chains}
use Rattle.propagation.proofs.index.Index.list_all.Given as goal

abbrev pub invariant-loop-i : goal.invariant-loop-i
invariant-loop-i l = (chains l.self ≡ added_all (no_chains (l.n + 1)) (take (length l.yielded) (stood_of l.store).held) 0) × (l.self.most ≡ l.initial.self.most)
