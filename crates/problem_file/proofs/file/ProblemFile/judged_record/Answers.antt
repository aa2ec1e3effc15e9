use Rattle.std.proofs.Common.{◌≡◌, Some, Ok, drop, subst, rules}
use Rattle.std.proofs.lemmas.Result.{err_from_is_err_and}
use Rattle.file_format.specs.Fields.{next_field}
use Rattle.file_format.specs.Reading.{take_value}
use Rattle.problem_file.specs.declared.faults.Layer.TheVariants.{Record}
use Rattle.problem_file.specs.Says.{tag_number, tag_of, value_of, FieldSays}
use Rattle.problem_file.specs.Records.{Reads}
use Rattle.problem_file.proofs.Telling.{mapped, read_faulty}
use Rattle.problem_file.proofs.file.ProblemFile.judged_record.Goals as goal

pub returns-in_err-record-in-Some : goal.returns-in_err-record-in-Some
returns-in_err-record-in-Some g c =
    let file = c.args.self.bytes.now in
    let at = c.args.place.now.at in
    let t = g.D.Tagged.TAG in
    let p = g.D.Tagged.drafted c.args.draft.now in
    let x = c.in-Some.field in
    let says : FieldSays file at (next_field (tag_number t) 5 (drop at file)) (Ok (Some x)) c.next_field.new.place.at = search rules in
    let same : tag_of x ≡ t = search rules in
    let f = c.in_err-record-in-Some.field-0.0 in
    let m = mapped c.read.result f _ c.in_err-record-in-Some.ensures.cases in
    let is : (f.refusal ≡ m.0) × (f.layer ≡ Record) × (f.at ≡ at) = search rules in
    let due = g.D.Drafting.due p (value_of x) in
    let taken = take_value (tag_number t) p (value_of x) in
    let read = subst (λ w. Reads (g.D.Drafting.due p w) (take_value (tag_number t) p w) (g.D.Drafting.holds w) c.read.result) c.value.ensures c.read.ensures in
    let why = subst (Reads due taken (g.D.Drafting.holds (value_of x))) m.1 read in
    let q = err_from_is_err_and c.from_residual-in_err-record-in-Some.result c.from_residual-in_err-record-in-Some.ensures.1 in
    rw (q.1, q.2) (read_faulty t x p due file at _ _ m.0 f says same is why)
