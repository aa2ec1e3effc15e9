-- The two opening fields, and what the bytes say after them.
use Rattle.std.proofs.Common.{◌≡◌, ℕ, Bool, true, List, length, drop, vec_items, Some, None, Ok, sym, ap, ◌∙◌, inl, inr, arith}
use Rattle.std.proofs.lemmas.List.{length-map}
use Rattle.std.proofs.lemmas.Bool.{cond-true, lt-ltb}
use Rattle.refusals.specs.Limits.{most_facts}
use Rattle.refusals.specs.declared.refusal.Refusal.{Refusal}
use Rattle.refusals.specs.declared.refusal.Refusal.TheVariants.{OutOfRange}
use Rattle.problem.specs.Lists.{fact_of}
use Rattle.problem.specs.Faults.{unless, start_fault}
use Rattle.problem.specs.Views.{goal_view}
use Rattle.problem.specs.Tables.{axioms_drafted, view}
use Rattle.problem.specs.declared.drafts.Problem.{Problem as CodeProblem}
use Rattle.runs.specs.Problems.{Problem}
use Rattle.file_reader.specs.Whole.{FaultIs, ended_with}
use Rattle.problem.specs.declared.drafts.AxiomDraft.{AxiomDraft}
use Rattle.file_format.specs.Fields.{Found, ended, short, wrong, field, next_field}
use Rattle.file_format.specs.Reading.{Read, whole, fault, read, read_start, started, all_fields}
use Rattle.problem_file.specs.declared.faults.RecordFault.{RecordFault}
use Rattle.problem_file.specs.Layers.{of_record}
use Rattle.problem_file.specs.Opens.{owed, Owing, FactsSay, StartSays}

in_range : (b : Bool) → unless b OutOfRange None ≡ None → b ≡ true
in_range b e = grind arith

-- both were read
pub opening_read : (file : List ℕ) (n at place : ℕ) (d : AxiomDraft) → FactsSay file 0 (next_field 1 1 file) (Ok n) at → StartSays file at n (next_field 2 2 (drop at file)) (Ok d) place → read file ≡ all_fields 3 (axioms_drafted d) place (drop place file)
opening_read file n at place d f s =
    let four : at ≡ 4 = omega (arith, f.2) in
    let fine = in_range (fact_of most_facts n) f.1 in
    cc (f.0, s.0, s.1, s.2, s.3)

-- a finished draft, and the end of the file
pub ended_whole : (p : CodeProblem) (q : Problem) (at : ℕ) → view p ≡ q → ended_with q at ≡ whole (view p)
ended_whole p q at e =
    let n = length-map (vec_items p.tables.goals) goal_view in
    ap (λ r. ended_with r at) (sym e) ∙ cond-true _ _ _ (lt-ltb 0 (length (view p).goals) (omega (arith, p.some, p.tables.goals.ok.0)))

-- the number of facts was read
pub facts_read : (file : List ℕ) (n place : ℕ) → FactsSay file 0 (next_field 1 1 file) (Ok n) place → read file ≡ read_start n place (next_field 2 2 (drop place file))
facts_read file n place s =
    let four : place ≡ 4 = omega (arith, s.2) in
    let fine = in_range (fact_of most_facts n) s.1 in
    cc (s.0)

-- the start list too
pub start_read : (file : List ℕ) (n at place : ℕ) (d : AxiomDraft) → StartSays file at n (next_field 2 2 (drop at file)) (Ok d) place → read_start n at (next_field 2 2 (drop at file)) ≡ all_fields 3 (axioms_drafted d) place (drop place file)
start_read file n at place d s = cc (s.0, s.1, s.2, s.3)

owed_read : (n at : ℕ) (found : Found) (r : Refusal) → owed (start_fault n) found ≡ Some r → read_start n at found ≡ fault r at
owed_read n at ended r e = cc
owed_read n at short r e = cc
owed_read n at wrong r e = cc
owed_read n at (field t v bs) r e = ap (started n at v bs) e

pub start_faulty : (n at : ℕ) (found : Found) (x : Read) (e : RecordFault) → x ≡ read_start n at found → Owing (owed (start_fault n) found) at e → FaultIs x (of_record e)
start_faulty n at found x e same o = elim o.why [ inl m ↦ inl m | inr w ↦ inr (same ∙ owed_read n at found e.refusal w.0 ∙ ap (fault e.refusal) (sym o.stands), w.1) ]
