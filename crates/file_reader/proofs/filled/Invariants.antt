use Rattle.std.proofs.Common.{◌≡◌, ◌-◌, length, drop}
use Rattle.file_format.specs.Reading.{all_fields}
use Rattle.problem_file.specs.Says.{tag_number}
use Rattle.file_reader.proofs.filled.Given as goal

abbrev pub invariant-loop-draft : goal.invariant-loop-draft
invariant-loop-draft g l = all_fields (tag_number g.D.Tagged.TAG) (g.D.Tagged.drafted l.initial.draft) l.initial.place.at (drop l.initial.place.at l.file.bytes.now) ≡ all_fields (tag_number g.D.Tagged.TAG) (g.D.Tagged.drafted l.draft) l.place.at (drop l.place.at l.file.bytes.now)

abbrev pub decreases-loop-draft : goal.decreases-loop-draft
decreases-loop-draft g l = length l.file.bytes.now - l.place.at
