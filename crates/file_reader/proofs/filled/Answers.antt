use Rattle.std.proofs.Common.{drop, rules}
use Rattle.std.proofs.lemmas.Result.{err_from_is_err_and}
use Rattle.problem_file.specs.Says.{tag_number}
use Rattle.file_reader.proofs.Steps.{fault_told, record_told}
use Rattle.file_reader.proofs.filled.Goals as goal

pub returns-in_err-next_record : goal.returns-in_err-next_record
returns-in_err-next_record g c =
    let p = err_from_is_err_and c.from_residual.result c.from_residual.ensures.1 in
    let at = c.loop-draft.place.at in
    rw (p.1, p.2) (fault_told (tag_number g.D.Tagged.TAG) (g.D.Tagged.drafted c.loop-draft.draft) at (drop at c.args.file.bytes.now) _ _ c.loop-draft.invariant c.in_err-next_record.ensures.0)

pub loop-draft-preserved-in-Some : goal.loop-draft-preserved-in-Some
loop-draft-preserved-in-Some g c =
    let took = rw c.in-Some.is at c.in_ok-next_record.ensures in
    search (rules, record_told)
