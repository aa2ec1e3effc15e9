-- An assignment as bytes.
use Rattle.std.specs.Prelude.{◌≡◌, ℕ, ◌+◌, ◌<◌, ◌≤◌, List, length, take, drop, ℤ, slice_index, slice_index_or, None, Some, true, false}
use Rattle.runs.specs.Models.{Model}
use Rattle.settler.specs.Settling.{Fills}
use Rattle.trials.specs.Values.{Value, model_of}

-- 1 for true, else 0
abbrev pub byte : Value → ℕ
byte None = 0
byte (Some true) = 1
byte (Some false) = 0

-- of the first n bytes, byte k has the value of variable k + 1; the others are left
pub record Shown (n : ℕ) (a : List Value) (b b' : List ℕ) : Type 0 where
  pub at : (k : ℕ) → k < n → k < length b → slice_index b' k ≡ byte (slice_index_or a (k + 1) None)
  pub after : drop n b' ≡ drop n b
  pub long : length b' ≡ length b

-- An assignment of all variables 1 to n that stands for a model fills a buffer with it.
abbrev pub ShownFills : Type 0
ShownFills = (n : ℕ) (cs : List (List ℤ)) (a : List Value) (b b' : List ℕ) → n < length a → n ≤ length b → Shown n a b b' → Model n cs (model_of n a) → Fills n cs (take n b')
