-- The largest variable of clauses.
use Rattle.std.specs.Prelude.{ℕ, suc, max, List, [], ◌∷◌, ℤ, pos, negsuc}

-- the variable of a literal
abbrev pub variable : ℤ → ℕ
variable (pos n) = n
variable (negsuc n) = suc n

-- the largest variable of a clause; 0 if it has none
unfoldable pub widest_of : List ℤ → ℕ
widest_of [] = 0
widest_of (l ∷ c) = max (variable l) (widest_of c)

-- the largest variable of a list of clauses
unfoldable pub widest : List (List ℤ) → ℕ
widest [] = 0
widest (c ∷ cs) = max (widest_of c) (widest cs)
