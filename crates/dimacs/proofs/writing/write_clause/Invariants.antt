use Rattle.std.proofs.Common.{◌≡◌, [], ◌++◌, get_or, take, string_bytes}
use Rattle.runs.specs.Clauses.{joined}
use Rattle.dimacs.specs.Text.{literal_text}
use Rattle.dimacs.proofs.writing.write_clause.Given as goal

-- the first literals are written
abbrev pub invariant-loop-j : goal.invariant-loop-j
invariant-loop-j g l =
    g.H.Holder.orderly l.holder
    → string_bytes l.out ≡ string_bytes l.initial.out ++ joined literal_text (take l.j (get_or (g.H.Holder.stood l.holder).held l.i []))
