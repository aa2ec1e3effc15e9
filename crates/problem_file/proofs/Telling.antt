-- What becomes of the value of a field, as the reader tells it.
use Rattle.std.proofs.Common.{◌≡◌, ℕ, ◌⊎◌, List, drop, Some, None, Ok, Err, Option, Result, MatchResult, refl, sym, ap, ◌∙◌, inl, inr}
use Rattle.std.proofs.lemmas.Bool.{eq-eqb, cond-true}
use Rattle.refusals.specs.declared.refusal.Refusal.{Refusal}
use Rattle.refusals.specs.declared.refusal.Refusal.TheVariants.{OutOfMemory}
use Rattle.runs.specs.Problems.{Problem}
use Rattle.file_format.specs.Fields.{Found, field}
use Rattle.file_format.specs.Reading.{refused, take_value}
use Rattle.problem_file.specs.declared.faults.Layer.TheVariants.{Record as AtRecord, Problem as AtProblem}
use Rattle.problem_file.specs.declared.faults.RecordFault.{RecordFault}
use Rattle.problem_file.specs.declared.faults.ProblemFault.{ProblemFault}
use Rattle.problem_file.specs.declared.records.Placed.{Placed}
use Rattle.problem_file.specs.declared.field.Tag.{Tag}
use Rattle.problem_file.specs.declared.field.Field.{Field}
use Rattle.problem_file.specs.Says.{tag_number, tag_of, value_of, FieldSays}
use Rattle.problem_file.specs.Layers.{of_record, layer_of}
use Rattle.problem_file.specs.Next.{stopped, with_value, next_record, Faulty}
use Rattle.problem_file.specs.Records.{Drafts, Judges}

pub mapped : {T E F : Type 0} (r : Result T E) (f : F) (P : E → Type 0) → MatchResult r (λ x. ◌≡◌ {A = Result T F} (Err f) (Ok x)) P → (e : E) × (r ≡ Err e) × P e
mapped (Ok x) f P c = absurd (cc)
mapped (Err e) f P c = (e, refl, c)

-- a field with the tag that is read
pub next_is : (t : ℕ) (p : Problem) (v bs : List ℕ) → next_record t p (field t v bs) ≡ with_value v (take_value t p v)
next_is t p v bs = cond-true _ _ _ (eq-eqb t t refl)

-- a refusal of its value by itself
pub read_faulty : (t : Tag) (x : Field) (p : Problem) (due : Option Refusal) (file : List ℕ) (at after : ℕ) (found : Found) (e : Refusal) (f : RecordFault) → FieldSays file at found (Ok (Some x)) after → tag_of x ≡ t → (f.refusal ≡ e) × (f.layer ≡ AtRecord) × (f.at ≡ at) → (e ≡ OutOfMemory) ⊎ ((due ≡ Some e) × (take_value (tag_number t) p (value_of x) ≡ refused e) × (AtRecord ≡ layer_of e)) → Faulty at (next_record (tag_number t) p found) (of_record f)
read_faulty t x p due file at after found e f says same is why =
    let here : next_record (tag_number t) p found ≡ with_value (value_of x) (take_value (tag_number t) p (value_of x)) = ap (next_record (tag_number t) p) says.0 ∙ ap (λ u. next_record (tag_number t) p (field (tag_number u) (value_of x) (drop after file))) same ∙ next_is (tag_number t) p (value_of x) (drop after file) in
    record {
      stands = is.2;
      due = elim why [ inl m ↦ inl (is.0 ∙ m) | inr s ↦ inr (here ∙ ap (with_value (value_of x)) s.1 ∙ ap stopped (sym is.0), is.1 ∙ s.2 ∙ ap layer_of (sym is.0)) ];
    }

-- a record that was judged, given to the draft and refused
pub take_faulty : {X : Type 0} (holds : List ℕ → X → Type 0) (file : List ℕ) (at t : ℕ) (p q : Problem) (due : List ℕ → Option Refusal) (found : Found) (x : Placed X) (after : ℕ) (e : Refusal) (f : ProblemFault) → Judges holds file at t p due found (Ok (Some x)) after → ((v : List ℕ) → holds v x.«record» → due v ≡ None → Drafts (take_value t p v) p (Err e) q) → (f.refusal ≡ e) × (f.layer ≡ AtProblem) × (f.at ≡ x.at) → Faulty at (next_record t p found) f × (q ≡ p)
take_faulty holds file at t p q due found x after e f judged takes is =
    let v = judged.0 in
    let w = takes v judged.3.holds judged.2 in
    let why = elim w.0 as (λ _. (f.refusal ≡ OutOfMemory) ⊎ ((next_record t p found ≡ stopped f.refusal) × (f.layer ≡ layer_of f.refusal))) [ inl m ↦ inl (is.0 ∙ m) | inr s ↦ inr (judged.1 ∙ ap (with_value v) s.0 ∙ ap stopped (sym is.0), is.1 ∙ s.1 ∙ ap layer_of (sym is.0)) ] in
    (record { stands = is.2 ∙ judged.3.begins; due = why }, w.1)
