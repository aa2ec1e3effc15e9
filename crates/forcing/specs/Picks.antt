-- The smallest open variable.
use Rattle.std.specs.Prelude.{◌≡◌, ℕ, ◌<◌, ◌≤◌, List, get_or, Some, None, Option, ◌≢◌, slice_index_or}
use Rattle.trials.specs.Values.{Value}
use Rattle.trials.specs.Courses.{FirstOpen, Complete}

-- none of the variables from one to below another is open
abbrev pub SetBetween : ℕ → ℕ → List Value → Type 0
SetBetween from to a = (w : ℕ) → from ≤ w → w < to → slice_index_or a w None ≢ None

-- the smallest open variable of from to n
pub record Smallest (from n : ℕ) (a : List Value) (v : ℕ) : Type 0 where
  pub low : from ≤ v
  pub high : v ≤ n
  pub opened : get_or a v None ≡ None
  pub before : SetBetween from v a

-- none of from to n is open, or the smallest that is
abbrev pub Picked : ℕ → ℕ → List Value → Option ℕ → Type 0
Picked from n a None = (w : ℕ) → from ≤ w → w ≤ n → slice_index_or a w None ≢ None
Picked from n a (Some v) = Smallest from n a v

-- what is picked of 1 to n
abbrev pub FirstOf : ℕ → List Value → Option ℕ → Type 0
FirstOf n a None = Complete n a
FirstOf n a (Some v) = FirstOpen n a v

-- Where no variable below from is open, what is picked from there is what is picked of all.
abbrev pub PicksFirst : Type 0
PicksFirst = (from n : ℕ) (a : List Value) (r : Option ℕ) → 1 ≤ from → SetBetween 1 from a → Picked from n a r → FirstOf n a r
