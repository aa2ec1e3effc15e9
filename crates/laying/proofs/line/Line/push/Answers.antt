use Rattle.std.proofs.Common.{◌≡◌, ◌<◌, ◌≤◌, true, [], ◌∷◌, ◌++◌, length, take, sym, ◌∙◌, subst, arith, w32, SFits, to_z, of_z, rules}
use Rattle.std.proofs.lemmas.List.{take_all, take-append-le, length-take-le, length-append}
use Rattle.std.proofs.lemmas.Int.{to_z-of_z}
use Rattle.refusals.specs.Limits.{longest_clause}
use Rattle.holder.specs.Clauses.{all_fine}
use Rattle.laying.specs.Written.{lits, value}
use Rattle.laying.proofs.Pushed.{fine_push, written}
use Rattle.laying.proofs.line.Line.push.Goals as goal

pub invariant_of-self : goal.invariant_of-self
invariant_of-self c =
    let s = c.args.self.now in
    let long : length s.places ≡ longest_clause = search rules in
    let room = c.if-self-lt-LONGEST_CLAUSE.true in
    let n = c.from.result in
    let h : s.used < length s.places = omega arith in
    let f : SFits w32 n = search rules in
    let e = written s.places s.used n (to_z w32 (of_z w32 n)) h (to_z-of_z w32 n f) in
    record {
      room = omega arith;
      fine = subst (λ y. all_fine y ≡ true) (sym e) (fine_push (take s.used s.places) n s.fine c.from.ensures.1);
    }

pub returns-then-self-lt-LONGEST_CLAUSE : goal.returns-then-self-lt-LONGEST_CLAUSE
returns-then-self-lt-LONGEST_CLAUSE c =
    let s = c.args.self.now in
    let long : length s.places ≡ longest_clause = search rules in
    let room = c.if-self-lt-LONGEST_CLAUSE.true in
    let n = c.from.result in
    let l = value c.args.l in
    let h : s.used < length s.places = omega arith in
    let f : SFits w32 n = search rules in
    let k = length-take-le s.used s.places (omega arith) in
    let m = length-append (lits s) (l ∷ []) in
    let few : length (lits s ++ l ∷ []) ≤ longest_clause = omega arith in
    written s.places s.used l (to_z w32 (of_z w32 n)) h (to_z-of_z w32 n f ∙ c.from.ensures.0) ∙ sym (take_all longest_clause (lits s ++ l ∷ []) few)

pub returns-else-self-lt-LONGEST_CLAUSE : goal.returns-else-self-lt-LONGEST_CLAUSE
returns-else-self-lt-LONGEST_CLAUSE c =
    let s = c.args.self.now in
    let long : length s.places ≡ longest_clause = search rules in
    let full = c.if-self-lt-LONGEST_CLAUSE.false in
    let k = length-take-le s.used s.places (omega (arith, s.room)) in
    let fits : length (lits s) ≤ longest_clause = omega (arith, s.room) in
    let over : longest_clause ≤ length (lits s) = omega arith in
    sym (take-append-le longest_clause (lits s) (value c.args.l ∷ []) over ∙ take_all longest_clause (lits s) fits)
