-- The text after a call that adds to it, at its `Ok`. Assumes nothing.
use Rattle.std.proofs.Common.{◌≡◌, ℕ, cond, List, ◌++◌, is_ok, IfOk, Ok, Err, Result, ◌∙◌}

module _ {T E : Type 0} where
  -- from what `push` and `push_str` ensure
  pub once_pushed : (r : Result T E) (now was ys : List ℕ) {all : List ℕ} → now ≡ cond (is_ok r) (was ++ ys) was → was ++ ys ≡ all → IfOk r (λ _. now ≡ all)
  once_pushed (Ok x) now was ys e f = e ∙ f
  once_pushed (Err y) now was ys e f = tt

  pub once_made : (r : Result T E) (now mid : List ℕ) {all : List ℕ} → IfOk r (λ _. now ≡ mid) → mid ≡ all → IfOk r (λ _. now ≡ all)
  once_made (Ok x) now mid e f = e ∙ f
  once_made (Err y) now mid e f = tt
