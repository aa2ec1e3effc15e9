-- Faults from layer to layer.
use Rattle.refusals.specs.declared.refusal.Refusal.{Refusal}
use Rattle.refusals.specs.declared.refusal.Refusal.TheVariants.{CutShort, WrongTag, Missing, WrongLength, OutOfRange, Unordered, WrongCount, TableFull, LowConclusion, RemovesAxiomFact, ForbidsConclusion, EmptyGoal, BadLabel, ShortBuffer, BeyondList, BadAllowance, BadClause, CutBeyond, BadVariables, SheetBlank, SheetBegun, NotClean, TooDeep, NoRoom, NotFound, AlreadySettled, OutOfMemory}
use Rattle.problem_file.specs.declared.faults.Layer.{Layer}
use Rattle.problem_file.specs.declared.faults.Layer.TheVariants.{Field, Record, Problem}
use Rattle.problem_file.specs.declared.faults.FieldFault.{FieldFault}
use Rattle.problem_file.specs.declared.faults.RecordFault.{RecordFault}
use Rattle.problem_file.specs.declared.faults.ProblemFault.{ProblemFault}

abbrev pub of_field : FieldFault → RecordFault
of_field e = record { refusal = e.refusal; layer = Field; at = e.at }

abbrev pub of_record : RecordFault → ProblemFault
of_record e = record { refusal = e.refusal; layer = e.layer; at = e.at }

-- the layer that finds a refusal; of those that no file is refused with, the last
abbrev pub layer_of : Refusal → Layer
layer_of CutShort = Field
layer_of WrongTag = Field
layer_of Missing = Field
layer_of WrongLength = Record
layer_of OutOfRange = Record
layer_of Unordered = Record
layer_of WrongCount = Record
layer_of TableFull = Record
layer_of LowConclusion = Problem
layer_of RemovesAxiomFact = Problem
layer_of ForbidsConclusion = Problem
layer_of EmptyGoal = Problem
layer_of BadLabel = Record
layer_of ShortBuffer = Problem
layer_of BeyondList = Problem
layer_of BadAllowance = Problem
layer_of BadClause = Problem
layer_of CutBeyond = Problem
layer_of BadVariables = Problem
layer_of SheetBlank = Problem
layer_of SheetBegun = Problem
layer_of NotClean = Problem
layer_of TooDeep = Problem
layer_of NoRoom = Problem
layer_of NotFound = Problem
layer_of AlreadySettled = Problem
layer_of OutOfMemory = Problem
