-- The fields of a problem file, and the records in their values.
use Rattle.std.specs.Prelude.{ℕ, ◌+◌, ◌*◌, Bool, cond, ◌&&◌, List, [], ◌∷◌, length, take, drop, Some, None, Option, nat_le}
use Rattle.runs.specs.Problems.{Axiom, Rule, Goal}
use Rattle.refusals.specs.Limits.{longest_label}
use Rattle.problem.specs.Lists.{every}

-- what stands at the head of some bytes: nothing, a field that is cut short, one with a wrong tag, or a field with its tag, its value and what follows it
pub data Found : Type 0 where
  ended : Found
  short : Found
  wrong : Found
  field : ℕ → List ℕ → List ℕ → Found

-- a tag, from low to high, with a value of n bytes
abbrev pub tagged : ℕ → ℕ → ℕ → ℕ → List ℕ → Found
tagged low high t n bs = cond (nat_le n (length bs)) (cond (nat_le low t && nat_le t high) (field t (take n bs) (drop n bs)) wrong) short

-- a field is a tag, two bytes for the length of its value, high byte first, and the value
abbrev pub next_field : ℕ → ℕ → List ℕ → Found
next_field low high [] = ended
next_field low high (t ∷ []) = short
next_field low high (t ∷ h ∷ []) = short
next_field low high (t ∷ h ∷ l ∷ bs) = tagged low high t (256 * h + l) bs

-- a count, so many bytes, and what follows them
abbrev pub counted : List ℕ → Option (List ℕ × List ℕ)
counted [] = None
counted (n ∷ bs) = cond (nat_le n (length bs)) (Some (take n bs, drop n bs)) None

-- counted lists, one after another, handed on with what follows
abbrev pub then : {A : Type 0} → Option (List ℕ × List ℕ) → (List ℕ → List ℕ → Option A) → Option A
then None next = None
then (Some e) next = next e.0 e.1

-- an axiom: its premises, counted, and its conclusion
abbrev pub concluded : List ℕ → List ℕ → Option Axiom
concluded ps [] = None
concluded ps (c ∷ []) = Some (record { premises = ps; conclusion = c })
concluded ps (c ∷ d ∷ bs) = None

abbrev pub axiom_in_value : List ℕ → Option Axiom
axiom_in_value v = then (counted v) concluded

-- a rule with its label: three counted lists, and the rest is the label
abbrev pub rule_in_value : List ℕ → Option (Rule × List ℕ)
rule_in_value v =
    then (counted v) (λ needed bs. then (counted bs) (λ forbidden cs. then (counted cs)
    (λ left label. Some (record { needed = needed; forbidden = forbidden; left = left }, label))))

-- a goal: two counted lists, and nothing after them
abbrev pub closed : List ℕ → List ℕ → List ℕ → Option Goal
closed wanted unwanted [] = Some (record { wanted = wanted; unwanted = unwanted })
closed wanted unwanted (b ∷ bs) = None

abbrev pub goal_in_value : List ℕ → Option Goal
goal_in_value v = then (counted v) (λ wanted bs. then (counted bs) (closed wanted))

-- a visible ASCII character
abbrev pub visible : ℕ → Bool
visible b = nat_le 33 b && nat_le b 126

abbrev pub label_fine : List ℕ → Bool
label_fine l = nat_le (length l) longest_label && every visible l
