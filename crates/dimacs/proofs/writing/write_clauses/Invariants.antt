use Rattle.std.proofs.Common.{◌≡◌, ◌++◌, take, string_bytes}
use Rattle.runs.specs.Clauses.{joined}
use Rattle.dimacs.specs.Text.{clause_text}
use Rattle.dimacs.proofs.writing.write_clauses.Given as goal

-- the first clauses are written
abbrev pub invariant-loop-i : goal.invariant-loop-i
invariant-loop-i g l =
    g.H.Holder.orderly l.holder
    → string_bytes l.out ≡ string_bytes l.initial.out ++ joined clause_text (take l.i (g.H.Holder.stood l.holder).held)
