-- Steps of what is printed.
use Rattle.std.proofs.Common.{◌≡◌, ℕ, ◌<◌, ◌≤◌, Bool, true, false, List, [], ◌∷◌, length, get_or, take, drop, is_some, IfOk, Ok, Err, Result, sym, ap, ◌∙◌, inl, inr, arith}
use Rattle.std.proofs.lemmas.Bool.{cond-true, le-leb}
use Rattle.refusals.specs.Limits.{deepest, most_file_bytes}
use Rattle.refusals.specs.Numbers.{number_of}
use Rattle.file_format.specs.Reading.{Read, read}
use Rattle.problem_file.specs.declared.faults.ProblemFault.{ProblemFault}
use Rattle.file_reader.specs.Whole.{FaultIs}
use Rattle.pages.specs.PageText.{refused_at_text, read_page_text, printed}

-- the first byte of an input is the depth
pub split : (input : List ℕ) → 0 < length input → get_or input 0 0 ≤ deepest → printed input ≡ read_page_text (get_or input 0 0) (read (take most_file_bytes (drop 1 input)))
split [] h k = absurd (omega arith)
split (d ∷ file) h k = cond-true _ _ _ (le-leb d deepest k)

-- a fault has a number, unless memory was short
pub fault_text : {A B : Type 0} (bytes : A → List ℕ) (k : ℕ) (x : Read) (e : ProblemFault) (r : Result A B) → FaultIs x e → IfOk r (λ t. (is_some (number_of e.refusal) ≡ true) × (bytes t ≡ refused_at_text e.refusal e.at)) → IfOk r (λ t. bytes t ≡ read_page_text k x)
fault_text bytes k x e (Err b) f m = tt
fault_text bytes k x e (Ok t) (inl out) m = absurd (let z : ◌≡◌ {A = Bool} true false = sym m.0 ∙ ap (λ r. is_some (number_of r)) out in let y : ◌≡◌ {A = ℕ} 0 1 = cc in omega arith)
fault_text bytes k x e (Ok t) (inr s) m = m.1 ∙ sym (ap (read_page_text k) s.0)
