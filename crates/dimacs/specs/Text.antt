-- A page: the DIMACS text of a list of clauses.
use Rattle.std.specs.Prelude.{ℕ, List, ◌++◌, length, ℤ, codes, decimal}
use Rattle.std.specs.Fmt.{signed_decimal}
use Rattle.runs.specs.Clauses.{joined}

-- a literal and a space
abbrev pub literal_text : ℤ → List ℕ
literal_text l = signed_decimal l ++ codes " "

-- the literals, and 0 at the end of the line
abbrev pub clause_text : List ℤ → List ℕ
clause_text ls = joined literal_text ls ++ codes "0\n"

abbrev pub header_text : ℕ → ℕ → List ℕ
header_text v c = codes "p cnf " ++ (decimal v ++ (codes " " ++ (decimal c ++ codes "\n")))

-- v variables, and a line for each clause
abbrev pub page_text : ℕ → List (List ℤ) → List ℕ
page_text v cs = header_text v (length cs) ++ joined clause_text cs
