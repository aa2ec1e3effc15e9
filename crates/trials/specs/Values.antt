-- Assignments: a list with the value of variable n at place n. What is past its end is open.
use Rattle.std.specs.Prelude.{ℕ, suc, Bool, true, false, not, List, [], ◌∷◌, map, take, drop, ℤ, pos, negsuc, Some, None, Option, slice_index_or, slice_set}
use Rattle.holder.specs.Widest.{variable}

-- what an assignment says of a variable: true, false, or nothing while it is open
abbrev pub Value : Type 0
Value = Option Bool

-- the value of the negated literal
abbrev pub flip : Value → Value
flip None = None
flip (Some b) = Some (not b)

-- whether a value is false
abbrev pub is_false : Value → Bool
is_false None = false
is_false (Some true) = false
is_false (Some false) = true

-- whether a value is true
abbrev pub is_true : Value → Bool
is_true None = false
is_true (Some true) = true
is_true (Some false) = false

-- the value of a literal's variable that makes it true
abbrev pub sign : ℤ → Value
sign (pos n) = Some true
sign (negsuc n) = Some false

-- the value of a literal
abbrev pub value : List Value → ℤ → Value
value a (pos n) = slice_index_or a n None
value a (negsuc n) = flip (slice_index_or a (suc n) None)

-- the assignment in which l is true besides
abbrev pub holding : List Value → ℤ → List Value
holding a l = slice_set a (variable l) (sign l)

-- how many of the listed variables are open
unfoldable pub opens : List Value → ℕ
opens [] = 0
opens (None ∷ a) = suc (opens a)
opens (Some b ∷ a) = opens a

-- the values of the variables 1 to n, an open one as false
abbrev pub model_of : ℕ → List Value → List Bool
model_of n a = map is_true (take n (drop 1 a))
