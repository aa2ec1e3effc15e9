-- Clauses that have to be looked at again.
use Rattle.std.specs.Prelude.{◌≡◌, ℕ, ◌<◌, ◌≤◌, Bool, List, [], length, ℤ, pos, MatchBool, slice_index, slice_index_or, None, Some, true, false, Option}
use Rattle.holder.specs.Widest.{variable}
use Rattle.trials.specs.Values.{Value, value}
use Rattle.trials.specs.Forcing.{Calm, Forcing, Conflict}
use Rattle.forcing.specs.Boards.{Back}
use Rattle.trials.specs.Exist.{Within}
use Rattle.propagation.specs.Chains.{Chains, heads_at, Indexes}

-- a literal of the clause is false by a variable that was set as number head or later
pub record Waits (c : List ℤ) (b : List Value) (us : List ℕ) (head : ℕ) : Type 0 where
  pub at : ℕ
  pub low : head ≤ at
  pub high : at < length us
  pub place : ℕ
  pub within : place < length c
  pub named : variable (slice_index_or c place (pos 0)) ≡ slice_index us at
  pub dead : value b (slice_index_or c place (pos 0)) ≡ Some false

-- calm, or waiting, or known otherwise
pub data Watched (c : List ℤ) (b : List Value) (us : List ℕ) (head : ℕ) (E : Type 0) : Type 0 where
  calm : Calm b c → Watched c b us head E
  waits : Waits c b us head → Watched c b us head E
  other : E → Watched c b us head E

-- every clause is calm, or waits, or is one of those of which E holds
abbrev pub Awake : List (List ℤ) → List Value → List ℕ → ℕ → (ℕ → Type 0) → Type 0
Awake cs b us head E = (i : ℕ) → i < length cs → Watched (slice_index_or cs i []) b us head (E i)

-- no other clause
abbrev pub NoneElse : ℕ → Type 0
NoneElse i = ⊥

-- a board that has every variable, an index of the clauses, and no clause to look at but those that wait since number start
pub record Ready (cs : List (List ℤ)) (s : Chains) (a : List Value) (ts : List ℕ) (start : ℕ) : Type 0 where
  pub within : Within (length a) cs
  pub indexed : Indexes cs (length a) s
  pub low : start ≤ length ts
  pub awake : Awake cs a ts start NoneElse

-- where the chain of the literal of v begins that is false where v has a value
abbrev pub against : Chains → ℕ → Value → Option ℕ
against s v None = None
against s v (Some true) = (heads_at s.heads v).negative
against s v (Some false) = (heads_at s.heads v).positive

-- forcing from a to b, and what is left then, or a conflict
pub record Woken (cs : List (List ℤ)) (a : List Value) (ts : List ℕ) (quiet : Bool) (b : List Value) (us : List ℕ) : Type 0 where
  pub run : Forcing cs a b
  pub back : Back a ts b us
  pub end : MatchBool quiet (Awake cs b us (length ts) NoneElse) (Conflict cs b)
