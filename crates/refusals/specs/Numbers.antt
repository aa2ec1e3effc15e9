-- The numbers of the refusals: 1 to 19 come from the input, 20 to 26 from the state; want of memory has none.
use Rattle.std.specs.Prelude.{ℕ, Some, None, Option}
use Rattle.refusals.specs.declared.refusal.Refusal.{Refusal}
use Rattle.refusals.specs.declared.refusal.Refusal.TheVariants.{CutShort, WrongTag, Missing, WrongLength, OutOfRange, Unordered, WrongCount, TableFull, LowConclusion, RemovesAxiomFact, ForbidsConclusion, EmptyGoal, BadLabel, ShortBuffer, BeyondList, BadAllowance, BadClause, CutBeyond, BadVariables, SheetBlank, SheetBegun, NotClean, TooDeep, NoRoom, NotFound, AlreadySettled, OutOfMemory}

abbrev pub number_of : Refusal → Option ℕ
number_of CutShort = Some 1
number_of WrongTag = Some 2
number_of Missing = Some 3
number_of WrongLength = Some 4
number_of OutOfRange = Some 5
number_of Unordered = Some 6
number_of WrongCount = Some 7
number_of TableFull = Some 8
number_of LowConclusion = Some 9
number_of RemovesAxiomFact = Some 10
number_of ForbidsConclusion = Some 11
number_of EmptyGoal = Some 12
number_of BadLabel = Some 13
number_of ShortBuffer = Some 14
number_of BeyondList = Some 15
number_of BadAllowance = Some 16
number_of BadClause = Some 17
number_of CutBeyond = Some 18
number_of BadVariables = Some 19
number_of SheetBlank = Some 20
number_of SheetBegun = Some 21
number_of NotClean = Some 22
number_of TooDeep = Some 23
number_of NoRoom = Some 24
number_of NotFound = Some 25
number_of AlreadySettled = Some 26
number_of OutOfMemory = None
