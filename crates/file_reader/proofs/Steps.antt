-- One field after another: what the bytes say from a place on.
use Rattle.std.proofs.Common.{◌≡◌, ℕ, zero, suc, ◌+◌, ◌*◌, ◌<◌, ◌≤◌, cond, eqb, List, [], ◌∷◌, length, drop, Result, refl, ap, ◌∙◌, subst, inl, inr, arith}
use Rattle.std.proofs.lemmas.List.{length-drop, length-take-le, drop-drop}
use Rattle.std.proofs.lemmas.Bool.Decides.{nat_tests}
use Rattle.refusals.specs.declared.refusal.Refusal.{Refusal}
use Rattle.runs.specs.Problems.{Problem}
use Rattle.file_format.specs.Fields.{Found, ended, short, wrong, field, next_field}
use Rattle.file_format.specs.Reading.{Taken, refused, grown, take_value, Read, fault, go_on, after, fields, all_fields}
use Rattle.problem_file.specs.Next.{over, stopped, goes, tagged_next, with_value, next_record, Faulty}
use Rattle.problem_file.specs.declared.faults.ProblemFault.{ProblemFault}
use Rattle.file_reader.specs.Whole.{FaultIs, FileSays, ended_with}
use Rattle.problem.specs.declared.drafts.Problem.{Problem as CodeProblem}

-- a field that was found: its tag is within the limits, and it is cut from the bytes
pub record Cut (low high u : ℕ) (v cs bs : List ℕ) : Type 0 where
  pub above : low ≤ u
  pub below : u ≤ high
  pub long : 3 + length v ≤ length bs
  pub rest : cs ≡ drop (3 + length v) bs
  pub again : (l h : ℕ) → l ≤ u → u ≤ h → next_field l h bs ≡ field u v cs

pub cut_at : (low high u : ℕ) (v rest bs : List ℕ) → next_field low high bs ≡ field u v rest → Cut low high u v rest bs
cut_at low high u v rest [] e = absurd (cc)
cut_at low high u v rest (a ∷ []) e = absurd (cc)
cut_at low high u v rest (a ∷ b ∷ []) e = absurd (cc)
cut_at low high u v rest (t ∷ h ∷ l ∷ bs) e =
    let n = 256 * h + l in
    let three : drop (3 + n) (t ∷ h ∷ l ∷ bs) ≡ drop n bs = ap (λ i. drop i (t ∷ h ∷ l ∷ bs)) {y = suc (suc (suc n))} (omega arith) in
    let parts : (rest ≡ drop (3 + length v) (t ∷ h ∷ l ∷ bs)) × (3 + length v ≤ length (t ∷ h ∷ l ∷ bs)) = grind (arith, nat_tests, length-take-le n bs) in
    record {
      above = grind (arith, nat_tests);
      below = grind (arith, nat_tests);
      long = parts.1;
      rest = parts.0;
      again = λ x y p q. grind (arith, nat_tests);
    }

-- more turns than bytes change nothing
module _ (turns more : ℕ) (ih : (low : ℕ) (p : Problem) (at : ℕ) (bs : List ℕ) → length bs < turns → length bs < more → fields turns low p at bs ≡ fields more low p at bs) (low : ℕ) (p : Problem) (at : ℕ) (bs : List ℕ) where
  steady_taken : (u : ℕ) (v cs : List ℕ) (x : Taken) → length cs < turns → length cs < more → go_on (λ q. fields turns u q (at + 3 + length v) cs) at x ≡ go_on (λ q. fields more u q (at + 3 + length v) cs) at x
  steady_taken u v cs x a b = grind (arith, ih)

  steady_found : (found : Found) → next_field low 5 bs ≡ found → length bs < suc turns → length bs < suc more → after (fields turns) p at found ≡ after (fields more) p at found
  steady_found ended e h k = refl
  steady_found short e h k = refl
  steady_found wrong e h k = refl
  steady_found (field u v cs) e h k =
      let c = cut_at low 5 u v cs bs e in
      let l = ap length c.rest ∙ length-drop (3 + length v) bs in
      let long = c.long in
      steady_taken u v cs (take_value u p v) (omega arith) (omega arith)

pub steady : (turns more low : ℕ) (p : Problem) (at : ℕ) (bs : List ℕ) → length bs < turns → length bs < more → fields turns low p at bs ≡ fields more low p at bs
steady zero more low p at bs h k = absurd (omega arith)
steady (suc turns) zero low p at bs h k = absurd (omega arith)
steady (suc turns) (suc more) low p at bs h k = steady_found turns more (steady turns more) low p at bs (next_field low 5 bs) refl h k

-- what a value under the tag u is to a reader of the tag t
module _ (t u : ℕ) (v : List ℕ) (x : Taken) where
  goes_by : (q : Problem) (w : List ℕ) → cond (eqb u t) (with_value v x) over ≡ goes (q, w) → (u ≡ t) × (x ≡ grown q) × (v ≡ w)
  goes_by q w e = grind (arith, nat_tests)

  stops_by : (r : Refusal) → cond (eqb u t) (with_value v x) over ≡ stopped r → (u ≡ t) × (x ≡ refused r)
  stops_by r e = grind (arith, nat_tests)

goes_same : {A : Type 0} {x y : A} → goes x ≡ goes y → x ≡ y
goes_same e = cc

module _ (t : ℕ) (p q : Problem) (at : ℕ) (bs : List ℕ) where
  -- the value of a field with the tag t
  taken_goes : (v w : List ℕ) (x : Taken) → with_value v x ≡ goes (q, w) → (x ≡ grown q) × (v ≡ w)
  taken_goes v w x e = grind arith

  taken_stops : (v : List ℕ) (r : Refusal) (x : Taken) → with_value v x ≡ stopped r → x ≡ refused r
  taken_stops v r x e = grind arith

  -- by what is found
  goes_found : (v : List ℕ) (found : Found) → next_field t 5 bs ≡ found → next_record t p found ≡ goes (q, v) → (all_fields t p at bs ≡ all_fields t q (at + 3 + length v) (drop (3 + length v) bs)) × (3 + length v ≤ length bs)
  goes_found v ended f e = absurd (cc)
  goes_found v short f e = absurd (cc)
  goes_found v wrong f e = absurd (cc)
  goes_found v (field u w cs) f e =
      let s = goes_by t u w (take_value t p w) q v e in
      let c = cut_at t 5 u w cs bs f in
      let l = ap length c.rest ∙ length-drop (3 + length w) bs in
      let long = c.long in
      let part = c.rest in
      let there = steady (length bs) (suc (length cs)) t q (at + 3 + length w) cs (omega arith) (omega arith) in
      (cc, subst (λ z. 3 + length z ≤ length bs) s.2 long)

  -- a record more: the bytes say what they say after it
  pub goes_on : (v : List ℕ) → next_record t p (next_field t 5 bs) ≡ goes (q, v) → (all_fields t p at bs ≡ all_fields t q (at + 3 + length v) (drop (3 + length v) bs)) × (3 + length v ≤ length bs)
  goes_on v e = goes_found v _ refl e

  stops_found : (r : Refusal) (found : Found) → next_field t 5 bs ≡ found → next_record t p found ≡ stopped r → all_fields t p at bs ≡ fault r at
  stops_found r ended f e = absurd (cc)
  stops_found r short f e = cc
  stops_found r wrong f e = cc
  stops_found r (field u v cs) f e = let s = stops_by t u v (take_value t p v) r e in cc

  -- a field that is refused
  pub stops_here : (r : Refusal) → next_record t p (next_field t 5 bs) ≡ stopped r → all_fields t p at bs ≡ fault r at
  stops_here r e = stops_found r _ refl e

-- the same for what the reader tells
pub fault_told : (t : ℕ) (p : Problem) (at : ℕ) (bs : List ℕ) (x : Read) (e : ProblemFault) → x ≡ all_fields t p at bs → Faulty at (next_record t p (next_field t 5 bs)) e → FaultIs x e
fault_told t p at bs x e same f = elim f.due [ inl m ↦ inl m | inr s ↦ inr (cc (stops_here t p p at bs e.refusal s.0), s.1) ]

-- a record was taken: what the bytes say from the place after it
pub record_told : (t : ℕ) (p q : Problem) (at : ℕ) (file v : List ℕ) (place : ℕ) (x : Read) → x ≡ all_fields t p at (drop at file) → next_record t p (next_field t 5 (drop at file)) ≡ goes (q, v) → place ≡ at + 3 + length v → x ≡ all_fields t q place (drop place file)
record_told t p q at file v place x same g ends =
    let on = (goes_on t p q at (drop at file) v g).0 in
    let where_to : drop (3 + length v) (drop at file) ≡ drop place file = drop-drop (3 + length v) at file ∙ ap (λ i. drop i file) (omega arith) in
    cc

-- no such record comes: another field does, or none
module _ (t : ℕ) (taken : List ℕ → Taken) (bs : List ℕ) where
  passed : tagged_next t (λ v. with_value v (taken v)) (next_field t 5 bs) ≡ over → next_field t 5 bs ≡ next_field (suc t) 5 bs
  passed e = grind (arith, nat_tests)

  none_last : tagged_next 5 (λ v. with_value v (taken v)) (next_field 5 5 bs) ≡ over → next_field 5 5 bs ≡ ended
  none_last e = grind (arith, nat_tests)

-- no further goal comes: the file is at its end
pub all_read : (p : Problem) (at : ℕ) (bs : List ℕ) → next_record 5 p (next_field 5 5 bs) ≡ over → all_fields 5 p at bs ≡ ended_with p at
all_read p at bs o = ap (after (fields (length bs)) p at) (none_last 5 (take_value 5 p) bs o)

-- all records with the tag t were read, and the draft of the next kind is what they left
pub next_table : (t : ℕ) (p q r : Problem) (at : ℕ) (file : List ℕ) (place : ℕ) → (all_fields t p at (drop at file) ≡ all_fields t q place (drop place file)) × (next_record t q (next_field t 5 (drop place file)) ≡ over) → r ≡ q → all_fields t p at (drop at file) ≡ all_fields (suc t) r place (drop place file)
next_table t p q r at file place s e = let same = passed t (take_value t q) (drop place file) s.1 in cc

-- what the bytes say, said of equal readings
pub file_says : {x y : Read} (r : Result CodeProblem ProblemFault) → x ≡ y → FileSays y r → FileSays x r
file_says r e s = rw e s
