-- What reading a whole file answers, by what its bytes say.
use Rattle.std.specs.Prelude.{◌≡◌, ℕ, cond, ◌⊎◌, List, length, drop, Ok, Err, Result, nat_lt}
use Rattle.refusals.specs.declared.refusal.Refusal.TheVariants.{Missing, OutOfMemory}
use Rattle.runs.specs.Problems as runs
use Rattle.problem.specs.Tables.{view}
use Rattle.problem.specs.declared.drafts.Problem.{Problem}
use Rattle.file_format.specs.Fields.{next_field}
use Rattle.file_format.specs.Reading.{Read, whole, fault, all_fields}
use Rattle.problem_file.specs.Next.{over, next_record}
use Rattle.problem_file.specs.Layers.{layer_of}
use Rattle.problem_file.specs.declared.faults.ProblemFault.{ProblemFault}

-- the fault that the bytes have, with the layer that finds it; or memory was short
abbrev pub FaultIs : Read → ProblemFault → Type 0
FaultIs x e = (e.refusal ≡ OutOfMemory) ⊎ ((x ≡ fault e.refusal e.at) × (e.layer ≡ layer_of e.refusal))

-- what the bytes say is a problem, and this is it; or a fault, and this is it
abbrev pub FileSays : Read → Result Problem ProblemFault → Type 0
FileSays x (Ok p) = x ≡ whole (view p)
FileSays x (Err e) = FaultIs x e

-- the end of the file
abbrev pub ended_with : runs.Problem → ℕ → Read
ended_with p at = cond (nat_lt 0 (length p.goals)) (whole p) (fault Missing at)

-- all records with the tag t, from a place on: what the bytes say from there is what they say of the tables and the place afterwards, and there no such record comes
abbrev pub TableSays : {D : Type 0} → (D → runs.Problem) → List ℕ → ℕ → runs.Problem → ℕ → Result D ProblemFault → ℕ → Type 0
TableSays drafted file t p at (Ok d) after = (all_fields t p at (drop at file) ≡ all_fields t (drafted d) after (drop after file)) × (next_record t (drafted d) (next_field t 5 (drop after file)) ≡ over)
TableSays drafted file t p at (Err e) after = FaultIs (all_fields t p at (drop at file)) e
