-- What is claimed of files.
use Rattle.std.specs.Prelude.{◌≡◌, ℕ, ◌<◌, List}
use Rattle.runs.specs.Problems.{Problem, Each}
use Rattle.file_format.specs.Reading.{read, whole}
use Rattle.file_format.specs.Layout.{LaysOut}

-- reading accepts exactly the bytes that lay out a problem, and gives that problem
abbrev pub Accepts : Type 0
Accepts = (bs : List ℕ) → Each (λ b. b < 256) bs → (p : Problem) → (read bs ≡ whole p → LaysOut bs p) × (LaysOut bs p → read bs ≡ whole p)
