-- The reading of any bytes as a problem, or as the first fault with the byte at which its field begins.
use Rattle.std.specs.Prelude.{ℕ, zero, suc, ◌+◌, cond, List, [], ◌∷◌, length, Some, None, Option, ◌==◌, nat_lt}
use Rattle.runs.specs.Problems.{Axiom, Rule, Goal, Problem}
use Rattle.refusals.specs.Limits.{most_facts}
use Rattle.refusals.specs.declared.refusal.Refusal.{Refusal}
use Rattle.refusals.specs.declared.refusal.Refusal.TheVariants.{CutShort, WrongTag, Missing, WrongLength, OutOfRange, BadLabel}
use Rattle.problem.specs.Lists.{fact_of}
use Rattle.problem.specs.Faults.{unless, first, start_fault, axiom_fault, rule_shape, rule_law, goal_fault}
use Rattle.problem.specs.Tables.{with_axiom, with_rule, with_goal}
use Rattle.file_format.specs.Fields.{Found, ended, short, wrong, field, next_field, axiom_in_value, rule_in_value, goal_in_value, label_fine}

-- what became of a record: refused, or the tables with it
pub data Taken : Type 0 where
  refused : Refusal → Taken
  grown : Problem → Taken

abbrev pub unless_refused : Option Refusal → Problem → Taken
unless_refused (Some r) p = refused r
unless_refused None p = grown p

abbrev pub take_axiom : Problem → Option Axiom → Taken
take_axiom p None = refused WrongLength
take_axiom p (Some a) = unless_refused (axiom_fault p a) (with_axiom p a)

-- the label is judged after the rule by itself, and before what the rule does to axioms
abbrev pub labelled_fault : Problem → Rule → List ℕ → Option Refusal
labelled_fault p r label = first (rule_shape p r) (unless (label_fine label) BadLabel (rule_law p r))

abbrev pub take_rule : Problem → Option (Rule × List ℕ) → Taken
take_rule p None = refused WrongLength
take_rule p (Some e) = unless_refused (labelled_fault p e.0 e.1) (with_rule p e.0)

abbrev pub take_goal : Problem → Option Goal → Taken
take_goal p None = refused WrongLength
take_goal p (Some g) = unless_refused (goal_fault p g) (with_goal p g)

-- a value under the tag 3, 4 or 5
abbrev pub take_value : ℕ → Problem → List ℕ → Taken
take_value t p v = cond (t == 3) (take_axiom p (axiom_in_value v)) (cond (t == 4) (take_rule p (rule_in_value v)) (take_goal p (goal_in_value v)))

-- a problem, or a fault and the byte at which it stands
pub data Read : Type 0 where
  whole : Problem → Read
  fault : Refusal → ℕ → Read

abbrev pub go_on : (Problem → Read) → ℕ → Taken → Read
go_on rest at (refused r) = fault r at
go_on rest at (grown p) = rest p

abbrev pub after : (ℕ → Problem → ℕ → List ℕ → Read) → Problem → ℕ → Found → Read
after rest p at ended = cond (nat_lt 0 (length p.goals)) (whole p) (fault Missing at)
after rest p at short = fault CutShort at
after rest p at wrong = fault WrongTag at
after rest p at (field t v bs) = go_on (λ q. rest t q (at + 3 + length v) bs) at (take_value t p v)

-- the fields after the start list, n at most: no tag below the one before
abbrev pub fields : ℕ → ℕ → Problem → ℕ → List ℕ → Read
fields zero low p at bs = fault WrongTag at
fields (suc n) low p at bs = after (fields n) p at (next_field low 5 bs)

-- there are fewer fields than bytes
abbrev pub all_fields : ℕ → Problem → ℕ → List ℕ → Read
all_fields low p at bs = fields (suc (length bs)) low p at bs

abbrev pub opened : ℕ → List ℕ → Problem
opened n start = record { facts = n; start = start; axioms = []; rules = []; goals = [] }

abbrev pub started : ℕ → ℕ → List ℕ → List ℕ → Option Refusal → Read
started n at v bs (Some r) = fault r at
started n at v bs None = all_fields 3 (opened n v) (at + 3 + length v) bs

abbrev pub read_start : ℕ → ℕ → Found → Read
read_start n at ended = fault Missing at
read_start n at short = fault CutShort at
read_start n at wrong = fault WrongTag at
read_start n at (field t v bs) = started n at v bs (start_fault n v)

-- the one byte of the first field
abbrev pub number_of_facts : List ℕ → List ℕ → Read
number_of_facts [] bs = fault WrongLength 0
number_of_facts (n ∷ []) bs = cond (fact_of most_facts n) (read_start n 4 (next_field 2 2 bs)) (fault OutOfRange 0)
number_of_facts (n ∷ m ∷ v) bs = fault WrongLength 0

abbrev pub read_facts : Found → Read
read_facts ended = fault Missing 0
read_facts short = fault CutShort 0
read_facts wrong = fault WrongTag 0
read_facts (field t v bs) = number_of_facts v bs

-- a file
abbrev pub read : List ℕ → Read
read bs = read_facts (next_field 1 1 bs)
