-- One clause after another.
use Rattle.std.proofs.Common.{◌≡◌, ℕ, ◌+◌, ◌<◌, ◌≤◌, List, [], ◌∷◌, ◌++◌, length, get_or, set, None, ℤ, refl, arith}
use Rattle.std.proofs.lemmas.Grind.{common_steps}
use Rattle.trials.specs.Values.{Value}
use Rattle.trials.specs.Forcing.{Calm}
use Rattle.propagation.specs.Waits.{Watched, Awake, NoneElse}
use Rattle.propagation.proofs.Waiting.{watched_put}

-- the first n clauses are calm or wait
abbrev pub WatchedTo : List (List ℤ) → List Value → List ℕ → ℕ → ℕ → Type 0
WatchedTo cs b us from n = (i : ℕ) → i < n → Watched (get_or cs i []) b us from ⊥

pub watched_calm : (cs : List (List ℤ)) (b : List Value) (us : List ℕ) (from n m : ℕ) → m ≡ n + 1 → Calm b (get_or cs n []) → WatchedTo cs b us from n → WatchedTo cs b us from m
watched_calm cs b us from n m s k a i h = grind (arith, common_steps)

pub watched_forced : (cs : List (List ℤ)) (b : List Value) (us : List ℕ) (from n v : ℕ) (x : Value) → get_or b v None ≡ None → from ≤ length us → Calm (set b v x) (get_or cs n []) → WatchedTo cs b us from n → WatchedTo cs (set b v x) (us ++ v ∷ []) from (n + 1)
watched_forced cs b us from n v x o l k a = watched_calm cs (set b v x) (us ++ v ∷ []) from n (n + 1) refl k (λ i h. watched_put b v x o (get_or cs i []) us from ⊥ l (a i h))

pub watched_all : (cs : List (List ℤ)) (b : List Value) (us : List ℕ) (from n : ℕ) → length cs ≤ n → WatchedTo cs b us from n → Awake cs b us from NoneElse
watched_all cs b us from n l a i h = a i (omega arith)
