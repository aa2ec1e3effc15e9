-- The limits, by name. Theory and contracts speak of them by these names only.
use Rattle.std.specs.Prelude.{ℕ, ◌+◌, ◌*◌}

abbrev pub most_facts : ℕ
most_facts = 240

abbrev pub most_axioms : ℕ
most_axioms = 96

abbrev pub most_rules : ℕ
most_rules = 96

abbrev pub most_goals : ℕ
most_goals = 8

-- facts in one list of an axiom, a rule or a goal
abbrev pub longest_list : ℕ
longest_list = 8

-- bytes of a rule's label
abbrev pub longest_label : ℕ
longest_label = 24

abbrev pub deepest : ℕ
deepest = 16

-- the last goal of the largest problem at the largest depth
abbrev pub most_variables : ℕ
most_variables = most_facts + deepest * (most_rules + most_facts + most_axioms) + most_goals

-- literals of one clause
abbrev pub longest_clause : ℕ
longest_clause = 200

-- a holder's caps, on clauses and on literals
abbrev pub most_held : ℕ
most_held = 4000000

abbrev pub most_allowed : ℕ
most_allowed = 1000000

-- bytes of a file that the programs read
abbrev pub most_file_bytes : ℕ
most_file_bytes = 8192

-- the caps and the allowance of the settlers that the programs use
abbrev pub program_clauses : ℕ
program_clauses = 4000

abbrev pub program_literals : ℕ
program_literals = 12000

abbrev pub program_allowance : ℕ
program_allowance = 10000
