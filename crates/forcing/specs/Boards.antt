-- What a board holds, how it changes and how it goes back.
use Rattle.std.specs.Prelude.{◌≡◌, ℕ, Bool, cond, ◌&&◌, List, [], ◌∷◌, ◌++◌, length, take, drop, ℤ, vec_items, MatchBool, nat_lt, slice_index_or, slice_set, None, is_none, is_some}
use Rattle.trials.specs.Values.{Value}
use Rattle.trials.specs.Forcing.{Forcing, Conflict, Quiet}
use Rattle.forcing.specs.declared.board.Board.{Board}

-- the value of each variable, at its number
abbrev pub assigned : Board → List Value
assigned b = vec_items b.values

-- the variables that were set, in their order
abbrev pub trailed : Board → List ℕ
trailed b = vec_items b.trail

-- a variable that is listed and open, and a value that is not
abbrev pub settable : List Value → ℕ → Value → Bool
settable a v x = nat_lt v (length a) && (is_none (slice_index_or a v None) && is_some x)

-- the assignment and the trail before and after v is set to x
pub record WasPut (a : List Value) (ts : List ℕ) (v : ℕ) (x : Value) (b : List Value) (us : List ℕ) : Type 0 where
  pub values : b ≡ cond (settable a v x) (slice_set a v x) a
  pub trail : us ≡ cond (settable a v x) (ts ++ v ∷ []) ts

-- the variables vs open again
unfoldable pub unset : List Value → List ℕ → List Value
unset a [] = a
unset a (v ∷ vs) = slice_set (unset a vs) v None

-- what the trail got after ts, undone, leads back to a
pub record Back (a : List Value) (ts : List ℕ) (b : List Value) (us : List ℕ) : Type 0 where
  pub front : take (length ts) us ≡ ts
  pub undone : unset b (drop (length ts) us) ≡ a
  pub long : length b ≡ length a

-- forcing from a to b, to its end or to a conflict
pub record ForcedTo (cs : List (List ℤ)) (a : List Value) (ts : List ℕ) (quiet : Bool) (b : List Value) (us : List ℕ) : Type 0 where
  pub run : Forcing cs a b
  pub back : Back a ts b us
  pub end : MatchBool quiet (Quiet cs b) (Conflict cs b)
