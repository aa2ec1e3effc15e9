-- The trials of a search from the start, and what it comes to.
use Rattle.std.specs.Prelude.{◌≡◌, ℕ, suc, ◌<◌, ◌≤◌, max, Bool, true, List, [], length, replicate, ℤ, Some, None, Option, nat_le, slice_index_or}
use Rattle.std.proofs.Common.{arith}
use Rattle.std.proofs.lemmas.List.{length-replicate}
use Rattle.runs.specs.Models.{Model}
use Rattle.holder.specs.Clauses.{all_fine}
use Rattle.trials.specs.Values.{Value, opens, model_of}
use Rattle.holder.specs.Widest.{widest}
use Rattle.trials.specs.Courses.{Course, tried, ended}
use Rattle.trials.specs.Exist.{course, within_all}

-- all variables open
abbrev pub blank : List (List ℤ) → ℕ → List Value
blank cs n = replicate (suc (max n (widest cs))) None

-- a course of the search from the start
unfoldable pub whole : (cs : List (List ℤ)) (n : ℕ) → Course cs n (blank cs n)
whole cs n =
    let e = length-replicate {A = Value} (suc (max n (widest cs))) None in
    course cs n (suc (opens (blank cs n))) (blank cs n) (omega arith) (omega arith) (within_all cs (length (blank cs n)) (omega arith))

-- how many trials the search makes, to its end
unfoldable pub trials : List (List ℤ) → ℕ → ℕ
trials cs n = tried (whole cs n)

-- the assignment that the search ends in, if it finds one
unfoldable pub outcome : List (List ℤ) → ℕ → Option (List Value)
outcome cs n = ended (whole cs n)

-- the search ends within the allowance
unfoldable pub reached : List (List ℤ) → ℕ → ℕ → Bool
reached cs n allowance = nat_le (trials cs n) allowance

-- Whatever course the search takes from the start, it makes these trials.
abbrev pub AnyCourse : Type 0
AnyCourse = (cs : List (List ℤ)) (n : ℕ) (p : Course cs n (blank cs n)) → tried p ≡ trials cs n

-- Whatever course the search takes from the start, it ends in this assignment.
abbrev pub AnyEnd : Type 0
AnyEnd = (cs : List (List ℤ)) (n : ℕ) (p : Course cs n (blank cs n)) → ended p ≡ outcome cs n

-- what an outcome says of the models over the variables 1 to n
abbrev pub Says : ℕ → List (List ℤ) → Option (List Value) → Type 0
Says n cs (Some b) = Model n cs (model_of n b)
Says n cs None = (m : List Bool) → Model n cs m → ⊥

-- The outcome gives a model, or there is none.
abbrev pub RightOutcome : Type 0
RightOutcome = (cs : List (List ℤ)) (n : ℕ) → ((i : ℕ) → i < length cs → all_fine (slice_index_or cs i []) ≡ true) → widest cs ≤ n → Says n cs (outcome cs n)
