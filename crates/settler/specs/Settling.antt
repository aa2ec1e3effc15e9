-- What each call of a settler answers.
use Rattle.std.specs.Prelude.{◌≡◌, ℕ, ◌<◌, ◌≤◌, Bool, true, false, cond, ◌&&◌, List, map, length, take, drop, ℤ, is_ok, Ok, Err, Result, nat_eq, nat_le, nat_lt, slice_index}
use Rattle.refusals.specs.Limits.{most_variables, most_allowed}
use Rattle.refusals.specs.declared.refusal.Refusal.{Refusal}
use Rattle.refusals.specs.declared.refusal.Refusal.TheVariants.{ShortBuffer, BadAllowance, BadVariables}
use Rattle.runs.specs.Models.{Model}
use Rattle.holder.specs.Clauses.{Stood}
use Rattle.holder.specs.Widest.{widest}
use Rattle.settler.specs.declared.verdict.Verdict.{Verdict}
use Rattle.settler.specs.declared.verdict.Verdict.TheVariants as verdict

-- with this allowance in place of its own
abbrev pub allowing : Stood → ℕ → Stood
allowing s n = record { held = s.held; limits = s.limits; rest = record { allowance = n; reach = s.rest.reach } }

-- an allowance is never lowered, and has a limit
abbrev pub allowed : Stood → ℕ → Result (Unit {0}) Refusal
allowed s n = cond (nat_le s.rest.allowance n && nat_le n most_allowed) (Ok tt) (Err BadAllowance)

-- before and after allow: nothing but the allowance changes
pub record WasAllowed (s : Stood) (n : ℕ) (r : Result (Unit {0}) Refusal) (s' : Stood) : Type 0 where
  pub value : r ≡ allowed s n
  pub after : s' ≡ cond (is_ok r) (allowing s n) s

-- a number of variables over which the clauses can be settled
abbrev pub Fit : List (List ℤ) → ℕ → Type 0
Fit cs v = (v ≤ most_variables) × (widest cs ≤ v)

-- bytes as values: 1 is true
abbrev pub bits : List ℕ → List Bool
bits bs = map (λ b. nat_eq b 1) bs

-- v bytes, each 0 or 1, under which every clause is true
pub record Fills (v : ℕ) (cs : List (List ℤ)) (bs : List ℕ) : Type 0 where
  pub small : (i : ℕ) → i < v → slice_index bs i < 2
  pub model : Model v cs (bits bs)

-- no values make every clause true
abbrev pub Modelless : ℕ → List (List ℤ) → Type 0
Modelless v cs = (m : List Bool) → Model v cs m → ⊥

-- what each answer says: whether the clauses are reached, and the buffer before and after
abbrev pub Settled : Bool → List (List ℤ) → ℕ → Result Verdict Refusal → List ℕ → List ℕ → Type 0
Settled reached cs v (Ok verdict.Model) b b' = (v ≤ length b) × Fit cs v × (reached ≡ true) × Fills v cs (take v b') × (drop v b' ≡ drop v b)
Settled reached cs v (Ok verdict.None) b b' = (v ≤ length b) × Fit cs v × (reached ≡ true) × Modelless v cs × (b' ≡ b)
Settled reached cs v (Ok verdict.Open) b b' = (v ≤ length b) × Fit cs v × (reached ≡ false) × (b' ≡ b)
Settled reached cs v (Err e) b b' = (e ≡ cond (nat_lt (length b) v) ShortBuffer BadVariables) × (v ≤ length b → Fit cs v → ⊥) × (b' ≡ b)

-- before and after settle: the settler stands as it stood
pub record WasSettled (s : Stood) (v : ℕ) (r : Result Verdict Refusal) (b b' : List ℕ) (s' : Stood) : Type 0 where
  pub settled : Settled (s.rest.reach s.held v s.rest.allowance) s.held v r b b'
  pub kept : s' ≡ s
