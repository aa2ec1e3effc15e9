-- Forcing: while a clause has all its literals false but one that is open, that one becomes true.
use Rattle.std.specs.Prelude.{◌≡◌, ℕ, ◌<◌, cond, List, [], ◌∷◌, length, ℤ, ◌≢◌, slice_index_or, None}
use Rattle.trials.specs.Values.{Value, value, is_false, holding}

-- the literals of a clause that are not false, each as often as it stands there
unfoldable pub live : List Value → List ℤ → List ℤ
live a [] = []
live a (l ∷ c) = cond (is_false (value a l)) (live a c) (l ∷ live a c)

-- some clause is wholly false
pub record Conflict (cs : List (List ℤ)) (a : List Value) : Type 0 where
  pub clause : ℕ
  pub held : clause < length cs
  pub dead : live a (slice_index_or cs clause []) ≡ []

-- some clause has all its literals false but one, which is l and open
pub record Forced (cs : List (List ℤ)) (a : List Value) (l : ℤ) : Type 0 where
  pub clause : ℕ
  pub held : clause < length cs
  pub alone : live a (slice_index_or cs clause []) ≡ l ∷ []
  pub opened : value a l ≡ None

-- b comes from a by forced literals, in any order
pub data Forcing (cs : List (List ℤ)) : List Value → List Value → Type 0 where
  rest : {a : List Value} → Forcing cs a a
  next : {a b : List Value} (l : ℤ) → Forced cs a l → Forcing cs (holding a l) b → Forcing cs a b

-- nothing more is forced
abbrev pub Maximal : List (List ℤ) → List Value → Type 0
Maximal cs a = (l : ℤ) → Forced cs a l → ⊥

-- a clause that is not wholly false and forces nothing
pub record Calm (a : List Value) (c : List ℤ) : Type 0 where
  pub alive : live a c ≡ [] → ⊥
  pub still : (l : ℤ) → live a c ≡ l ∷ [] → value a l ≢ None

-- no conflict, and nothing more is forced
abbrev pub Quiet : List (List ℤ) → List Value → Type 0
Quiet cs a = (i : ℕ) → i < length cs → Calm a (slice_index_or cs i [])

-- Whatever the order, forcing that meets no conflict ends in the same assignment, and where one order meets a conflict, each does.
pub record Confluent : Type 0 where
  pub same_end : (cs : List (List ℤ)) (a b b' : List Value) → Forcing cs a b → Quiet cs b → Forcing cs a b' → Quiet cs b' → b ≡ b'
  pub same_conflict : (cs : List (List ℤ)) (a b b' : List Value) → Forcing cs a b → Conflict cs b → Forcing cs a b' → Maximal cs b' → Conflict cs b'
