use Rattle.std.proofs.Common.{[], get_or, take, pos, string_bytes, append_assoc, w32, SFits, rules}
use Rattle.std.proofs.lemmas.Int.{to_z-of_z}
use Rattle.std.proofs.lemmas.List.{take_more}
use Rattle.runs.specs.Clauses.{joined}
use Rattle.dimacs.specs.Text.{literal_text}
use Rattle.dimacs.proofs.Coming.{joined_push}
use Rattle.dimacs.proofs.writing.write_clause.Goals as goal

pub loop-j-preserved : goal.loop-j-preserved
loop-j-preserved g c o =
    let k = get_or (g.H.Holder.stood c.args.holder.now).held c.args.i [] in
    let j = c.loop-j.j in
    let at = c.in-Ok.ensures o in
    let f : SFits w32 c.in-Ok.l = search rules in
    let same = to_z-of_z w32 c.in-Ok.l f in
    let read = at.2 (pos 0) in
    let before = c.loop-j.invariant o in
    let now = c.in_ok-write_literal.ensures in
    let more = take_more k j (pos 0) at.1 in
    let push = joined_push literal_text (take j k) (get_or k j (pos 0)) in
    let whole = append_assoc (string_bytes c.args.out.now) (joined literal_text (take j k)) (literal_text (get_or k j (pos 0))) in
    cc
