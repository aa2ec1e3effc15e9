use Rattle.std.proofs.Common.{◌≡◌, Ok, drop, subst, rules}
use Rattle.std.proofs.lemmas.Result.{err_from_is_err_and}
use Rattle.file_format.specs.Fields.{next_field}
use Rattle.problem_file.specs.declared.faults.Layer.TheVariants.{Problem}
use Rattle.file_format.specs.Reading.{take_value}
use Rattle.problem_file.specs.Says.{tag_number}
use Rattle.problem_file.specs.Records.{Judges, Drafts}
use Rattle.problem_file.proofs.Telling.{mapped, take_faulty}
use Rattle.problem_file.proofs.file.ProblemFile.next_record.Goals as goal

pub returns-in_err-map_err : goal.returns-in_err-map_err
returns-in_err-map_err g c =
    let file = c.args.self.bytes.now in
    let at = c.args.place.now.at in
    let t = tag_number g.D.Tagged.TAG in
    let p = g.D.Tagged.drafted c.args.draft.now in
    let x = c.in-Some.placed in
    let f = c.in_err-map_err.field-0.0 in
    let m = mapped c.take.result f _ c.in_err-map_err.ensures.cases in
    let is : (f.refusal ≡ m.0) × (f.layer ≡ Problem) × (f.at ≡ x.at) = search rules in
    let q = err_from_is_err_and c.from_residual-in_err-map_err.result c.from_residual-in_err-map_err.ensures.1 in
    let H = g.D.Drafting.holds in
    let due = g.D.Drafting.due p in
    let found = next_field t 5 (drop at file) in
    let after = c.judged_record.new.place.at in
    let new = g.D.Tagged.drafted c.take.new.self in
    let here : c.over-guard.result.place.now.at ≡ at = search rules in
    let judged = subst (λ i. Judges H file i t p due (next_field t 5 (drop i file)) (Ok c.in_ok-placed.field-0) after) here c.in_ok-placed.ensures in
    let one = subst (λ o. Judges H file at t p due found (Ok o) after) c.in-Some.is judged in
    let z = take_faulty H file at t p new due found x after m.0 f one (λ v h d. subst (λ r. Drafts (take_value t p v) p r new) m.1 (c.take.ensures v h d)) is in
    rw (q.1, q.2) (z.0, z.1, search rules)
