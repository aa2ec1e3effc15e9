use Rattle.std.proofs.Common.{◌+◌, ◌-◌, ◌≤◌, length, vec_items}
use Rattle.refusals.specs.Limits.{most_variables}
use Rattle.clause_store.specs.Made.{stood_of}
use Rattle.forcing.specs.Boards.{assigned, trailed}
use Rattle.propagation.proofs.Steps.{Come}
use Rattle.propagation.proofs.Turning.{Turning, depth}
use Rattle.propagation.specs.Chains.{Leads}
use Rattle.propagation.specs.Made.{chains}
use Rattle.propagation.specs.Waits.{Awake, NoneElse, Ready}
use Rattle.propagation.proofs.propagate.propagate.Given as goal

abbrev pub invariant-queue : goal.invariant-queue
invariant-queue l =
    Ready (stood_of l.store).held (chains l.index) (assigned l.initial.board) (trailed l.initial.board) l.start
    → Come (stood_of l.store).held (assigned l.initial.board) (trailed l.initial.board) (assigned l.board) (trailed l.board)
    × (l.from ≤ length (trailed l.board))
    × Awake (stood_of l.store).held (assigned l.board) (trailed l.board) l.from NoneElse

abbrev pub decreases-queue : goal.decreases-queue
decreases-queue l = most_variables + 1 - l.from

abbrev pub invariant-chain : goal.invariant-chain
invariant-chain l =
    Turning (stood_of l.store).held (chains l.index) (assigned l.initial.board) (trailed l.initial.board) l.from l.initial.link
    → Come (stood_of l.store).held (assigned l.initial.board) (trailed l.initial.board) (assigned l.board) (trailed l.board)
    × (l.from ≤ length (trailed l.board))
    × Awake (stood_of l.store).held (assigned l.board) (trailed l.board) l.from (λ i. Leads (vec_items l.index.entries) l.link i)

abbrev pub decreases-chain : goal.decreases-chain
decreases-chain l = depth l.link
