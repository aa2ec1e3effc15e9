-- What each call of a holder answers.
use Rattle.std.specs.Prelude.{◌≡◌, ℕ, ◌<◌, ◌≤◌, cond, List, [], ◌∷◌, length, ℤ, is_ok, Ok, Err, Result, nat_le, slice_index_or}
use Rattle.refusals.specs.declared.refusal.Refusal.{Refusal}
use Rattle.refusals.specs.declared.refusal.Refusal.TheVariants.{BeyondList, BadClause, CutBeyond, NoRoom}
use Rattle.holder.specs.Clauses.{Stood, grown, cut_to, fits, proper}

abbrev pub taken : Stood → List ℤ → Result (Unit {0}) Refusal
taken s c = cond (proper c) (cond (fits (grown s (c ∷ []))) (Ok tt) (Err NoRoom)) (Err BadClause)

pub record Took (s : Stood) (c : List ℤ) (r : Result (Unit {0}) Refusal) (s' : Stood) : Type 0 where
  pub value : r ≡ taken s c
  pub after : s' ≡ cond (is_ok r) (grown s (c ∷ [])) s

abbrev pub was_cut : Stood → ℕ → Result (Unit {0}) Refusal
was_cut s n = cond (nat_le n (length s.held)) (Ok tt) (Err CutBeyond)

pub record WasCut (s : Stood) (n : ℕ) (r : Result (Unit {0}) Refusal) (s' : Stood) : Type 0 where
  pub value : r ≡ was_cut s n
  pub after : s' ≡ cond (is_ok r) (cut_to s n) s

abbrev pub LiteralAt : List (List ℤ) → ℕ → ℕ → Result ℤ Refusal → Type 0
LiteralAt cs i j (Ok l) = (i < length cs) × (j < length (slice_index_or cs i [])) × ((d : ℤ) → l ≡ slice_index_or (slice_index_or cs i []) j d)
LiteralAt cs i j (Err e) = (e ≡ BeyondList) × ((i < length cs) → length (slice_index_or cs i []) ≤ j)
