-- What the two opening fields of a file are, and what reading them answers.
use Rattle.std.specs.Prelude.{◌≡◌, ℕ, ◌+◌, ◌≤◌, ◌⊎◌, List, [], ◌∷◌, length, drop, Some, None, Ok, Err, Option, Result}
use Rattle.refusals.specs.Limits.{most_facts}
use Rattle.refusals.specs.declared.refusal.Refusal.{Refusal}
use Rattle.refusals.specs.declared.refusal.Refusal.TheVariants.{CutShort, WrongTag, Missing, WrongLength, OutOfRange, OutOfMemory}
use Rattle.problem.specs.Lists.{fact_of}
use Rattle.problem.specs.Faults.{unless, start_fault}
use Rattle.problem.specs.Tables.{axioms_drafted}
use Rattle.problem.specs.declared.drafts.AxiomDraft.{AxiomDraft}
use Rattle.file_format.specs.Fields.{Found, ended, short, wrong, field}
use Rattle.file_format.specs.Reading.{opened}
use Rattle.problem_file.specs.Layers.{layer_of}
use Rattle.problem_file.specs.Says.{FieldSays}
use Rattle.problem_file.specs.declared.field.Field.{Field}
use Rattle.problem_file.specs.declared.faults.FieldFault.{FieldFault}
use Rattle.problem_file.specs.declared.faults.RecordFault.{RecordFault}

-- why a field that is owed is refused, where a value is judged by `due`
abbrev pub owed : (List ℕ → Option Refusal) → Found → Option Refusal
owed due ended = Some Missing
owed due short = Some CutShort
owed due wrong = Some WrongTag
owed due (field t v bs) = due v

-- of a field that is owed, and the place afterwards
abbrev pub OwedSays : List ℕ → ℕ → Found → Result Field FieldFault → ℕ → Type 0
OwedSays file at found (Ok f) after = FieldSays file at found (Ok (Some f)) after
OwedSays file at found (Err e) after = (owed (λ v. None) found ≡ Some e.refusal) × (e.at ≡ at) × (after ≡ at)

-- the number of facts has one byte, and is in range
abbrev pub facts_due : List ℕ → Option Refusal
facts_due [] = Some WrongLength
facts_due (n ∷ []) = unless (fact_of most_facts n) OutOfRange None
facts_due (n ∷ m ∷ v) = Some WrongLength

-- the fault that is due; or memory was short
pub record Owing (due : Option Refusal) (at : ℕ) (e : RecordFault) : Type 0 where
  pub stands : e.at ≡ at
  pub why : (e.refusal ≡ OutOfMemory) ⊎ ((due ≡ Some e.refusal) × (e.layer ≡ layer_of e.refusal))

abbrev pub FactsIn : List ℕ → Result ℕ Refusal → Type 0
FactsIn v (Ok n) = (v ≡ n ∷ []) × (facts_due v ≡ None)
FactsIn v (Err e) = facts_due v ≡ Some e

abbrev pub FactsSay : List ℕ → ℕ → Found → Result ℕ RecordFault → ℕ → Type 0
FactsSay file at found (Ok n) after = (found ≡ field 1 (n ∷ []) (drop after file)) × (facts_due (n ∷ []) ≡ None) × (after ≡ at + 4) × (after ≤ length file)
FactsSay file at found (Err e) after = Owing (owed facts_due found) at e × (after ≡ at)

abbrev pub StartIn : ℕ → List ℕ → Result AxiomDraft Refusal → Type 0
StartIn n v (Ok d) = (start_fault n v ≡ None) × (axioms_drafted d ≡ opened n v)
StartIn n v (Err e) = (e ≡ OutOfMemory) ⊎ (start_fault n v ≡ Some e)

abbrev pub StartSays : List ℕ → ℕ → ℕ → Found → Result AxiomDraft RecordFault → ℕ → Type 0
StartSays file at n found (Ok d) after = (found ≡ field 2 (axioms_drafted d).start (drop after file)) × (start_fault n (axioms_drafted d).start ≡ None) × (axioms_drafted d ≡ opened n (axioms_drafted d).start) × (after ≡ at + 3 + length (axioms_drafted d).start) × (after ≤ length file)
StartSays file at n found (Err e) after = Owing (owed (start_fault n) found) at e × (after ≡ at)
