-- A file is read whole exactly if it begins with a number of facts and a list of facts, and what follows grows its tables. Assumes nothing.
use Rattle.std.proofs.Common.{◌≡◌, ℕ, suc, ◌+◌, Bool, true, cond, List, [], ◌∷◌, ◌++◌, length, Some, None, Option, refl, ◌∙◌, subst, arith}
use Rattle.refusals.specs.Limits.{most_facts}
use Rattle.refusals.specs.declared.refusal.Refusal.{Refusal}
use Rattle.refusals.specs.declared.refusal.Refusal.TheVariants.{OutOfRange}
use Rattle.runs.specs.Problems.{Problem, Facts}
use Rattle.problem.specs.Lists.{fact_of}
use Rattle.problem.specs.Faults.{start_fault}
use Rattle.file_format.specs.Fields.{Found, ended, short, wrong, field, next_field}
use Rattle.file_format.specs.Reading.{Read, all_fields, whole, fault, opened, started, read_start, number_of_facts, read_facts, read}
use Rattle.file_format.specs.Layout.{field_bytes}
use Rattle.file_format.proofs.Faults.{start_iff}
use Rattle.file_format.proofs.Values.{field_of, field_is}
use Rattle.file_format.proofs.Growth.{Bytes, bytes_after, Grows, grows_from, reads_whole}

pub record Opens (q : Problem) (bs : List ℕ) : Type 0 where
  pub number : ℕ
  pub start : List ℕ
  pub rest : List ℕ
  pub bytes : bs ≡ field_bytes 1 (number ∷ []) ++ (field_bytes 2 start ++ rest)
  pub facts : fact_of most_facts number ≡ true
  pub listed : Facts number start
  pub grows : Grows q 3 (opened number start) rest

module _ (q : Problem) where
  -- where nothing was refused
  unfaulted : (n : ℕ) (v ds : List ℕ) (o : Option Refusal) → started n 4 v ds o ≡ whole q → (o ≡ None) × (all_fields 3 (opened n v) (4 + 3 + length v) ds ≡ whole q)
  unfaulted n v ds None e = (refl, e)
  unfaulted n v ds (Some r) e = cc

  passed : (b : Bool) (x : Read) → cond b x (fault OutOfRange 0) ≡ whole q → (b ≡ true) × (x ≡ whole q)
  passed b x e = grind arith

module _ (q : Problem) (n : ℕ) (bs cs : List ℕ) (b : Bytes cs) (is : bs ≡ field_bytes 1 (n ∷ []) ++ cs) (h : fact_of most_facts n ≡ true) where
  start_listed : (v ds : List ℕ) → cs ≡ field_bytes 2 v ++ ds → (o : Option Refusal) → start_fault n v ≡ o → started n 4 v ds o ≡ whole q → Opens q bs
  start_listed v ds i o f e =
      let u = unfaulted q n v ds o e in
      record {
        number = n;
        start = v;
        rest = ds;
        bytes = cc;
        facts = h;
        listed = ((start_iff n v).0 (f ∙ u.0)).1;
        grows = grows_from q (suc (length ds)) 3 (opened n v) (4 + 3 + length v) ds (omega arith) (bytes_after 2 v ds cs b i) u.1;
      }

module _ (q : Problem) (bs : List ℕ) where
  start_found : (n : ℕ) (cs : List ℕ) → Bytes cs → bs ≡ field_bytes 1 (n ∷ []) ++ cs → fact_of most_facts n ≡ true → (f : Found) → next_field 2 2 cs ≡ f → read_start n 4 f ≡ whole q → Opens q bs
  start_found n cs b is h (field t v ds) i e =
      let k = field_is 2 2 t v ds cs b i in
      let two : t ≡ 2 = omega (arith, k.1, k.2) in
      start_listed q n bs cs b is h v ds (subst (λ s. cs ≡ field_bytes s v ++ ds) two k.0) (start_fault n v) refl e
  start_found n cs b is h ended i e = cc
  start_found n cs b is h short i e = cc
  start_found n cs b is h wrong i e = cc

  number_found : (v cs : List ℕ) → Bytes cs → bs ≡ field_bytes 1 v ++ cs → number_of_facts v cs ≡ whole q → Opens q bs
  number_found (n ∷ []) cs b i e = let u = passed q _ _ e in start_found n cs b i u.0 (next_field 2 2 cs) refl u.1
  number_found [] cs b i e = cc
  number_found (n ∷ m ∷ v) cs b i e = cc

  facts_found : Bytes bs → (f : Found) → next_field 1 1 bs ≡ f → read_facts f ≡ whole q → Opens q bs
  facts_found b (field t v cs) i e =
      let k = field_is 1 1 t v cs bs b i in
      let one : t ≡ 1 = omega (arith, k.1, k.2) in
      number_found v cs (bytes_after t v cs bs b k.0) (subst (λ s. bs ≡ field_bytes s v ++ cs) one k.0) e
  facts_found b ended i e = cc
  facts_found b short i e = cc
  facts_found b wrong i e = cc

  pub opens_from : Bytes bs → read bs ≡ whole q → Opens q bs
  opens_from b e = facts_found b (next_field 1 1 bs) refl e

  pub reads_open : Opens q bs → read bs ≡ whole q
  reads_open o =
      let n = o.number in
      let v = o.start in
      let one = field_of 1 1 1 (n ∷ []) (field_bytes 2 v ++ o.rest) (omega arith) (omega arith) in
      let two = field_of 2 2 2 v o.rest (omega arith) (omega arith) in
      let fine = (start_iff n v).1 (o.facts, o.listed) in
      let all = reads_whole o.grows (suc (length o.rest)) (4 + 3 + length v) (omega arith) in
      cc
