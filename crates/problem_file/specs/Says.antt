-- What each layer of the reader answers, by what the bytes say.
use Rattle.std.specs.Prelude.{◌≡◌, ℕ, ◌+◌, ◌<◌, ◌≤◌, ◌⊎◌, List, length, drop, Some, None, Ok, Err, Option, Result}
use Rattle.refusals.specs.declared.refusal.Refusal.{Refusal}
use Rattle.refusals.specs.declared.refusal.Refusal.TheVariants.{CutShort, WrongTag}
use Rattle.file_format.specs.Fields.{Found, ended, short, wrong, field}
use Rattle.problem_file.specs.declared.faults.FieldFault.{FieldFault}
use Rattle.problem_file.specs.declared.field.Field.{Field}
use Rattle.problem_file.specs.declared.field.Field.TheVariants as fields
use Rattle.problem_file.specs.declared.field.Tag.{Tag}
use Rattle.problem_file.specs.declared.field.Tag.TheVariants.{Facts, Start, Axiom, Rule, Goal}

-- the byte that stands for a tag
abbrev pub tag_number : Tag → ℕ
tag_number Facts = 1
tag_number Start = 2
tag_number Axiom = 3
tag_number Rule = 4
tag_number Goal = 5

-- the tag for which the byte stands; or there is none
abbrev pub Decodes : ℕ → Result Tag Refusal → Type 0
Decodes b (Ok t) = tag_number t ≡ b
Decodes b (Err e) = (e ≡ WrongTag) × ((b < 1) ⊎ (5 < b))

-- the tag of a field, and its value
abbrev pub tag_of : Field → Tag
tag_of (fields.Facts v) = Facts
tag_of (fields.Start v) = Start
tag_of (fields.Axiom v) = Axiom
tag_of (fields.Rule v) = Rule
tag_of (fields.Goal v) = Goal

abbrev pub value_of : Field → List ℕ
value_of (fields.Facts v) = v.now
value_of (fields.Start v) = v.now
value_of (fields.Axiom v) = v.now
value_of (fields.Rule v) = v.now
value_of (fields.Goal v) = v.now

-- why a field is refused
abbrev pub field_refusal : Found → Option Refusal
field_refusal ended = None
field_refusal short = Some CutShort
field_refusal wrong = Some WrongTag
field_refusal (field t v bs) = None

-- of what was found at the head of some bytes
abbrev pub HeadSays : List ℕ → Found → Result (Option Field) Refusal → Type 0
HeadSays bs found (Ok None) = found ≡ ended
HeadSays bs found (Ok (Some f)) = (found ≡ field (tag_number (tag_of f)) (value_of f) (drop (3 + length (value_of f)) bs)) × (3 + length (value_of f) ≤ length bs)
HeadSays bs found (Err e) = field_refusal found ≡ Some e

-- of what was found at a place, and the place afterwards
abbrev pub FieldSays : List ℕ → ℕ → Found → Result (Option Field) FieldFault → ℕ → Type 0
FieldSays file at found (Ok None) after = (found ≡ ended) × (after ≡ at)
FieldSays file at found (Ok (Some f)) after = (found ≡ field (tag_number (tag_of f)) (value_of f) (drop after file)) × (after ≡ at + 3 + length (value_of f)) × (after ≤ length file)
FieldSays file at found (Err e) after = (field_refusal found ≡ Some e.refusal) × (e.at ≡ at) × (after ≡ at)
