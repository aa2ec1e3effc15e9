-- What a judgement says of a clause.
use Rattle.std.specs.Prelude.{◌≡◌, List, [], ◌∷◌, ℤ, None}
use Rattle.trials.specs.Values.{Value, value}
use Rattle.forcing.specs.declared.judge.Judgement.{Judgement}
use Rattle.forcing.specs.declared.judge.Judgement.TheVariants as judgement
use Rattle.trials.specs.Forcing.{live}
use Rattle.trials.specs.Forcing as forcing

-- the literals that are not false: none, one that is open, or else the clause is calm
abbrev pub JudgedAs : List Value → List ℤ → Judgement → Type 0
JudgedAs a c judgement.Dead = live a c ≡ []
JudgedAs a c (judgement.Forces l) = (live a c ≡ l ∷ []) × (value a l ≡ None)
JudgedAs a c judgement.Calm = forcing.Calm a c
