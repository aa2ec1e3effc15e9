-- Clauses that are held within caps.
use Rattle.std.specs.Prelude.{ℕ, ◌+◌, ◌-◌, ◌≤◌, Bool, true, ◌&&◌, List, [], ◌∷◌, ◌++◌, length, take, ℤ, pos, negsuc, nat_le, nat_lt}
use Rattle.refusals.specs.Limits.{most_variables, longest_clause}
use Rattle.holder.specs.declared.size.Size.{Size}

-- how many literals there are in all
abbrev pub size : List (List ℤ) → ℕ
size [] = 0
size (c ∷ cs) = length c + size cs

-- a literal of a variable from 1 to the largest
abbrev pub literal_fine : ℤ → Bool
literal_fine (pos n) = nat_lt 0 n && nat_le n most_variables
literal_fine (negsuc n) = nat_lt n most_variables

abbrev pub all_fine : List ℤ → Bool
all_fine [] = true
all_fine (l ∷ c) = literal_fine l && all_fine c

-- a clause that can be taken: from 1 literal to the most, each of a variable that there is
abbrev pub proper : List ℤ → Bool
proper c = nat_lt 0 (length c) && (nat_le (length c) longest_clause && all_fine c)

-- what a settler has besides: its allowance, and its reach over clauses, variables and allowance
pub record Rest : Type 0 where
  pub allowance : ℕ
  pub reach : List (List ℤ) → ℕ → ℕ → Bool

-- what the contracts see of a holder
pub record Stood : Type 0 where
  pub held : List (List ℤ)
  pub limits : Size
  pub rest : Rest

-- with these clauses in place of its own
abbrev pub holding : Stood → List (List ℤ) → Stood
holding s cs = record { held = cs; limits = s.limits; rest = s.rest }

-- with these clauses more
abbrev pub grown : Stood → List (List ℤ) → Stood
grown s cs = holding s (s.held ++ cs)

-- with the first n clauses
abbrev pub cut_to : Stood → ℕ → Stood
cut_to s n = holding s (take n s.held)

abbrev pub size_of : List (List ℤ) → Size
size_of cs = record { clauses = length cs; literals = size cs }

abbrev pub fits : Stood → Bool
fits s = nat_le (length s.held) s.limits.clauses && nat_le (size s.held) s.limits.literals

pub record Fits (s : Stood) : Type 0 where
  pub clauses : length s.held ≤ s.limits.clauses
  pub literals : size s.held ≤ s.limits.literals

abbrev pub room_of : Stood → Size
room_of s = record { clauses = s.limits.clauses - length s.held; literals = s.limits.literals - size s.held }
