-- The course of a search over the variables 1 to n, and its trials.
use Rattle.std.specs.Prelude.{◌≡◌, ℕ, ◌+◌, ◌<◌, ◌≤◌, Bool, true, false, cond, ◌||◌, List, get_or, ℤ, Some, None, Option, ◌≢◌, slice_index_or, slice_set}
use Rattle.trials.specs.Values.{Value}
use Rattle.trials.specs.Forcing.{Forcing, Conflict, Quiet}

-- the smallest open variable of 1 to n is v
pub record FirstOpen (n : ℕ) (a : List Value) (v : ℕ) : Type 0 where
  pub low : 1 ≤ v
  pub high : v ≤ n
  pub opened : get_or a v None ≡ None
  pub before : (w : ℕ) → 1 ≤ w → w < v → slice_index_or a w None ≢ None

-- none of them is open
abbrev pub Complete : ℕ → List Value → Type 0
Complete n a = (w : ℕ) → 1 ≤ w → w ≤ n → slice_index_or a w None ≢ None

-- After forcing, a conflict fails; no open variable is an end; else the smallest open variable is tried true, and false.
pub data Course (cs : List (List ℤ)) (n : ℕ) : List Value → Type 0 where
  fails : {a : List Value} (b : List Value) → Forcing cs a b → Conflict cs b → Course cs n a
  ends : {a : List Value} (b : List Value) → Forcing cs a b → Quiet cs b → Complete n b → Course cs n a
  tries : {a : List Value} (b : List Value) (v : ℕ) → Forcing cs a b → Quiet cs b → FirstOpen n b v → Course cs n (slice_set b v (Some true)) → Course cs n (slice_set b v (Some false)) → Course cs n a

-- some way through the trials comes to an end
unfoldable pub found : {cs : List (List ℤ)} {n : ℕ} {a : List Value} → Course cs n a → Bool
found (fails b f c) = false
found (ends b f q e) = true
found (tries b v f q o t u) = found t || found u

-- each value tried is one trial, and false is tried only if true failed
unfoldable pub tried : {cs : List (List ℤ)} {n : ℕ} {a : List Value} → Course cs n a → ℕ
tried (fails b f c) = 0
tried (ends b f q e) = 0
tried (tries b v f q o t u) = cond (found t) (1 + tried t) (2 + (tried t + tried u))

-- All courses from one assignment find the same by the same number of trials.
abbrev pub OneCourse : Type 0
OneCourse = (cs : List (List ℤ)) (n : ℕ) (a : List Value) (p q : Course cs n a) → (found p ≡ found q) × (tried p ≡ tried q)

-- the assignment at the end of the first way that comes to an end, true before false
unfoldable pub ended : {cs : List (List ℤ)} {n : ℕ} {a : List Value} → Course cs n a → Option (List Value)
ended (fails b f c) = None
ended (ends b f q e) = Some b
ended (tries b v f q o t u) = cond (found t) (ended t) (ended u)

-- All courses from one assignment end in the same assignment, or none does.
abbrev pub OneEnd : Type 0
OneEnd = (cs : List (List ℤ)) (n : ℕ) (a : List Value) (p q : Course cs n a) → ended p ≡ ended q
