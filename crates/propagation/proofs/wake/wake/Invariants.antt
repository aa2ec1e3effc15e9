use Rattle.std.proofs.Common.{length}
use Rattle.clause_store.specs.Made.{stood_of}
use Rattle.trials.specs.Exist.{Within}
use Rattle.forcing.specs.Boards.{assigned, trailed}
use Rattle.propagation.proofs.Steps.{Come}
use Rattle.propagation.proofs.Watching.{WatchedTo}
use Rattle.propagation.proofs.wake.wake.Given as goal

abbrev pub invariant-clauses : goal.invariant-clauses
invariant-clauses l =
    Within (length (assigned l.initial.board)) (stood_of l.store).held
    → Come (stood_of l.store).held (assigned l.initial.board) (trailed l.initial.board) (assigned l.board) (trailed l.board)
    × WatchedTo (stood_of l.store).held (assigned l.board) (trailed l.board) (length (trailed l.initial.board)) (length l.yielded)
