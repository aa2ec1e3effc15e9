-- The fields after the start list are read to the end exactly if they add, one by one, records without fault. Assumes nothing.
use Rattle.std.proofs.Common.{◌≡◌, ℕ, zero, suc, ◌+◌, ◌<◌, ◌≤◌, Bool, cond, ltb, List, [], ◌++◌, length, Some, None, Option, sym, refl, subst, subst₂, arith}
use Rattle.std.proofs.lemmas.List.{length-append}
use Rattle.std.proofs.lemmas.Bool.Decides.{nat_tests}
use Rattle.refusals.specs.declared.refusal.Refusal.{Refusal}
use Rattle.refusals.specs.declared.refusal.Refusal.TheVariants.{Missing}
use Rattle.runs.specs.Problems.{Axiom, Rule, Goal, Problem, Each}
use Rattle.runs.proofs.Built.{each-++}
use Rattle.problem.specs.Faults.{axiom_fault, goal_fault}
use Rattle.problem.specs.Tables.{with_axiom, with_rule, with_goal}
use Rattle.file_format.specs.Fields.{Found, ended, short, wrong, field, next_field, axiom_in_value, rule_in_value, goal_in_value}
use Rattle.file_format.specs.Reading.{Taken, refused, grown, unless_refused, take_axiom, take_rule, take_goal, take_value, labelled_fault, Read, whole, fault, go_on, after, fields}
use Rattle.file_format.specs.Layout.{field_bytes}
use Rattle.file_format.proofs.Values.{axiom_value, rule_value, goal_value, axiom_of, axiom_is, rule_of, rule_is, goal_of, goal_is, field_of, field_is, none_left}

abbrev pub Bytes : List ℕ → Type 0
Bytes bs = Each (λ b. b < 256) bs

-- what follows a field
pub bytes_after : (t : ℕ) (v cs bs : List ℕ) → Bytes bs → bs ≡ field_bytes t v ++ cs → Bytes cs
bytes_after t v cs bs b e = ((each-++ _ (field_bytes t v) cs).0 (subst Bytes e b)).1

-- a value under its tag adds a record without fault to tables, which are then s
pub data Adds (p : Problem) : ℕ → List ℕ → Problem → Type 0 where
  an_axiom : (a : Axiom) → axiom_fault p a ≡ None → Adds p 3 (axiom_value a) (with_axiom p a)
  a_rule : (r : Rule) (l : List ℕ) → labelled_fault p r l ≡ None → Adds p 4 (rule_value r l) (with_rule p r)
  a_goal : (g : Goal) → goal_fault p g ≡ None → Adds p 5 (goal_value g) (with_goal p g)

-- fields add records to tables, no tag below the one before, until the tables are q's
pub data Grows (q : Problem) : ℕ → Problem → List ℕ → Type 0 where
  over : {low : ℕ} → 0 < length q.goals → Grows q low q []
  next : {low t : ℕ} {p s : Problem} {v bs : List ℕ} → low ≤ t → Adds p t v s → Grows q t s bs → Grows q low p (field_bytes t v ++ bs)

-- what was refused has not grown
unless_is : (o : Option Refusal) (p s : Problem) → unless_refused o p ≡ grown s → (o ≡ None) × (p ≡ s)
unless_is o p s e = grind arith

module _ (p s : Problem) (v : List ℕ) where
  axiom_added : (o : Option Axiom) → axiom_in_value v ≡ o → take_axiom p o ≡ grown s → Adds p 3 v s
  axiom_added o i e = grind (arith, axiom_is v, an_axiom)

  rule_added : (o : Option (Rule × List ℕ)) → rule_in_value v ≡ o → take_rule p o ≡ grown s → Adds p 4 v s
  rule_added None i e = cc
  rule_added (Some k) i e = let u = unless_is _ _ _ e in subst₂ (Adds p 4) (sym (rule_is v k.0 k.1 i)) u.1 (a_rule k.0 k.1 u.0)

  goal_added : (o : Option Goal) → goal_in_value v ≡ o → take_goal p o ≡ grown s → Adds p 5 v s
  goal_added o i e = grind (arith, goal_is v, a_goal)

  -- a value that was taken adds a record
  adds_from : (t : ℕ) → 3 ≤ t → t ≤ 5 → take_value t p v ≡ grown s → Adds p t v s
  adds_from t h k e = grind (arith, nat_tests, axiom_added _ refl, rule_added _ refl, goal_added _ refl)

-- and one that adds a record is taken
taken : {p s : Problem} {t : ℕ} {v : List ℕ} → Adds p t v s → (t ≤ 5) × (take_value t p v ≡ grown s)
taken (an_axiom a f) = (omega arith, cc (axiom_of a, f))
taken (a_rule r l f) = (omega arith, cc (rule_of r l, f))
taken (a_goal g f) = (omega arith, cc (goal_of g, f))

-- one field, if what follows it is as claimed
module _ (q : Problem) (rest : ℕ → Problem → ℕ → List ℕ → Read) (ih : (low : ℕ) (p : Problem) (at : ℕ) (bs : List ℕ) → 3 ≤ low → Bytes bs → rest low p at bs ≡ whole q → Grows q low p bs) where
  value_first : (low t : ℕ) (p : Problem) (at : ℕ) (v bs : List ℕ) → Bytes bs → 3 ≤ low → low ≤ t → t ≤ 5 → (x : Taken) → take_value t p v ≡ x → go_on (λ s. rest t s (at + 3 + length v) bs) at x ≡ whole q → Grows q low p (field_bytes t v ++ bs)
  value_first low t p at v bs b h k l (refused r) i e = cc
  value_first low t p at v bs b h k l (grown s) i e = next k (adds_from p s v t (omega arith) l i) (ih t s (at + 3 + length v) bs (omega arith) b e)

  ended_there : (low : ℕ) (p : Problem) (at : ℕ) (t : Bool) → ltb 0 (length p.goals) ≡ t → cond t (whole p) (fault Missing at) ≡ whole q → Grows q low p []
  ended_there low p at t u e = grind (arith, nat_tests, over)

  found_first : (low : ℕ) (p : Problem) (at : ℕ) (bs : List ℕ) → 3 ≤ low → Bytes bs → (f : Found) → next_field low 5 bs ≡ f → after rest p at f ≡ whole q → Grows q low p bs
  found_first low p at bs h b ended i e = rw (none_left low 5 bs i) (ended_there low p at (ltb 0 (length p.goals)) refl e)
  found_first low p at bs h b short i e = cc
  found_first low p at bs h b wrong i e = cc
  found_first low p at bs h b (field t v cs) i e =
      let k = field_is low 5 t v cs bs b i in
      subst (Grows q low p) (sym k.0) (value_first low t p at v cs (bytes_after t v cs bs b k.0) h k.1 k.2 (take_value t p v) refl e)

pub grows_from : (q : Problem) (n low : ℕ) (p : Problem) (at : ℕ) (bs : List ℕ) → 3 ≤ low → Bytes bs → fields n low p at bs ≡ whole q → Grows q low p bs
grows_from q zero low p at bs h b e = cc
grows_from q (suc n) low p at bs h b e = found_first q (fields n) (grows_from q n) low p at bs h b (next_field low 5 bs) refl e

-- with as many steps as bytes and one more, all fields are read
pub reads_whole : {q p : Problem} {low : ℕ} {bs : List ℕ} → Grows q low p bs → (n at : ℕ) → length bs < n → fields n low p at bs ≡ whole q
reads_whole (over h) zero at k = absurd (omega arith)
reads_whole (over h) (suc n) at k = grind (arith, nat_tests)
reads_whole (next h a g) zero at k = absurd (omega arith)
reads_whole {p = p} {low = low} (next {t = t} {v = v} {bs = bs} h a g) (suc n) at k =
    let u = taken a in
    let f = field_of low 5 t v bs h u.0 in
    let more = reads_whole g n (at + 3 + length v) (omega (arith, length-append v bs)) in
    cc
