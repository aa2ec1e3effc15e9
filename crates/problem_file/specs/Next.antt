-- What the next field of a file is to a reader of one kind of record.
use Rattle.std.specs.Prelude.{◌≡◌, ℕ, ◌+◌, ◌≤◌, cond, ◌⊎◌, List, length, Some, None, Option, ◌==◌}
use Rattle.refusals.specs.declared.refusal.Refusal.{Refusal}
use Rattle.refusals.specs.declared.refusal.Refusal.TheVariants.{CutShort, WrongTag, WrongLength, BadLabel, OutOfMemory}
use Rattle.runs.specs.Problems.{Axiom, Rule, Goal, Problem}
use Rattle.problem.specs.Faults.{unless, first, axiom_shape, rule_shape, goal_shape}
use Rattle.file_format.specs.Fields.{Found, ended, short, wrong, field, label_fine}
use Rattle.file_format.specs.Reading.{Taken, refused, grown, take_value}
use Rattle.problem_file.specs.Layers.{layer_of}
use Rattle.problem_file.specs.declared.faults.ProblemFault.{ProblemFault}
use Rattle.problem_file.specs.declared.records.Placed.{Placed}

-- no such record comes; or the field is refused; or it gives something
pub data Next (A : Type 0) : Type 0 where
  over : Next A
  stopped : Refusal → Next A
  goes : A → Next A

-- of a field with the tag t
abbrev pub tagged_next : {A : Type 0} → ℕ → (List ℕ → Next A) → Found → Next A
tagged_next t use_of ended = over
tagged_next t use_of short = stopped CutShort
tagged_next t use_of wrong = stopped WrongTag
tagged_next t use_of (field u v bs) = cond (u == t) (use_of v) over

-- why a value is refused by itself and by its table's room
abbrev pub axiom_due : Problem → Option Axiom → Option Refusal
axiom_due p None = Some WrongLength
axiom_due p (Some a) = axiom_shape p a

abbrev pub rule_due : Problem → Option (Rule × List ℕ) → Option Refusal
rule_due p None = Some WrongLength
rule_due p (Some e) = first (rule_shape p e.0) (unless (label_fine e.1) BadLabel None)

abbrev pub goal_due : Problem → Option Goal → Option Refusal
goal_due p None = Some WrongLength
goal_due p (Some g) = goal_shape p g

abbrev pub with_value : List ℕ → Taken → Next (Problem × List ℕ)
with_value v (refused r) = stopped r
with_value v (grown p) = goes (p, v)

-- the tables with the next record, and its value
abbrev pub next_record : ℕ → Problem → Found → Next (Problem × List ℕ)
next_record t p found = tagged_next t (λ v. with_value v (take_value t p v)) found

-- the fault that is due at the field, with its layer; or memory was short
pub record Faulty {A : Type 0} (at : ℕ) (next : Next A) (e : ProblemFault) : Type 0 where
  pub stands : e.at ≡ at
  pub due : (e.refusal ≡ OutOfMemory) ⊎ ((next ≡ stopped e.refusal) × (e.layer ≡ layer_of e.refusal))

-- a record with its value, and the place after its field
pub record Took {X : Type 0} (reads : List ℕ → X → Type 0) (file : List ℕ) (at : ℕ) (v : List ℕ) (x : Placed X) (after : ℕ) : Type 0 where
  pub holds : reads v x.«record»
  pub begins : x.at ≡ at
  pub ends : after ≡ at + 3 + length v
  pub inside : after ≤ length file
