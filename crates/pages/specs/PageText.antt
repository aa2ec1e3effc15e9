-- The text that the page program prints for any input.
use Rattle.std.specs.Prelude.{◌≡◌, ℕ, Bool, cond, ◌&&◌, ◌⊎◌, List, [], ◌∷◌, ◌++◌, length, take, codes, decimal, nat_le, Some, None, Option}
use Rattle.std.specs.Option.{unwrap_or}
use Rattle.refusals.specs.Limits.{deepest, most_file_bytes, program_clauses, program_literals}
use Rattle.refusals.specs.Numbers.{number_of}
use Rattle.refusals.specs.declared.refusal.Refusal.{Refusal}
use Rattle.refusals.specs.declared.refusal.Refusal.TheVariants.{CutShort, TooDeep, NoRoom, OutOfMemory}
use Rattle.runs.specs.Problems.{Problem}
use Rattle.runs.specs.Clauses.{clause_list, variables}
use Rattle.holder.specs.Clauses.{size}
use Rattle.dimacs.specs.Text.{page_text}
use Rattle.file_format.specs.Reading.{Read, whole, fault, read}

abbrev pub refused_line : ℕ → List ℕ
refused_line n = codes "refused " ++ (decimal n ++ codes "\n")

-- with the byte at which the file is at fault
abbrev pub refused_at_line : ℕ → ℕ → List ℕ
refused_at_line n at = codes "refused " ++ (decimal n ++ (codes " at " ++ (decimal at ++ codes "\n")))

-- a refusal, by its number
abbrev pub refused_text : Refusal → List ℕ
refused_text r = refused_line (unwrap_or (number_of r) 0)

abbrev pub refused_at_text : Refusal → ℕ → List ℕ
refused_at_text r at = refused_at_line (unwrap_or (number_of r) 0) at

-- whether the programs' caps take the list at depth k
abbrev pub list_fits : Problem → ℕ → Bool
list_fits p k = nat_le (length (clause_list p k)) program_clauses && nat_le (size (clause_list p k)) program_literals

-- the page at depth k of what a file was read as
abbrev pub read_page_text : ℕ → Read → List ℕ
read_page_text k (fault r at) = refused_at_text r at
read_page_text k (whole p) = cond (list_fits p k) (page_text (variables p k) (clause_list p k)) (refused_text NoRoom)

-- the depth, and then the file, of which only the first bytes count
abbrev pub printed : List ℕ → List ℕ
printed [] = refused_at_text CutShort 0
printed (k ∷ file) = cond (nat_le k deepest) (read_page_text k (read (take most_file_bytes file))) (refused_text TooDeep)

-- the line of a refusal, with or without a byte
abbrev pub told : Refusal → Option ℕ → List ℕ
told r None = refused_text r
told r (Some at) = refused_at_text r at

-- a refusal is the one that the text tells; or memory was short
abbrev pub Tells : Refusal → Option ℕ → List ℕ → Type 0
Tells r at text = (r ≡ OutOfMemory) ⊎ (text ≡ told r at)
