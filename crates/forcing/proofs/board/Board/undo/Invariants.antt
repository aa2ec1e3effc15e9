use Rattle.std.proofs.Common.{◌≡◌, length, take, drop}
use Rattle.forcing.specs.Boards.{assigned, trailed, unset}
use Rattle.forcing.proofs.board.Board.undo.Given as goal

abbrev pub invariant-loop-self : goal.invariant-loop-self
invariant-loop-self l =
    (take l.mark (trailed l.self) ≡ take l.mark (trailed l.initial.self))
    × (unset (assigned l.self) (drop l.mark (trailed l.self)) ≡ unset (assigned l.initial.self) (drop l.mark (trailed l.initial.self)))

abbrev pub decreases-loop-self : goal.decreases-loop-self
decreases-loop-self l = length (trailed l.self)
