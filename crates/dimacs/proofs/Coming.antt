-- What a loop that writes an item a turn has written. Assumes nothing.
use Rattle.std.proofs.Common.{◌≡◌, ℕ, zero, suc, ◌+◌, ◌<◌, ◌≤◌, List, [], ◌∷◌, ◌++◌, length, get_or, drop, ℤ, codes, sym, refl, ap, ◌∙◌, append_assoc, append-nil, arith}
use Rattle.std.proofs.lemmas.List.{take_more, take_all, at_drop_more, at_drop_all}
use Rattle.runs.specs.Clauses.{joined}
use Rattle.holder.specs.Clauses.{size}
use Rattle.dimacs.specs.Text.{literal_text, clause_text}

pub joined_push : {X : Type 0} (f : X → List ℕ) (xs : List X) (x : X) → joined f (xs ++ x ∷ []) ≡ joined f xs ++ f x
joined_push f [] x = append-nil (f x)
joined_push f (y ∷ xs) x = ap (λ z. f y ++ z) (joined_push f xs x) ∙ sym (append_assoc (f y) (joined f xs) (f x))

-- no clause is longer than all together
pub clause_short : (cs : List (List ℤ)) (i : ℕ) → length (get_or cs i []) ≤ size cs
clause_short [] i = omega arith
clause_short (c ∷ cs) zero = omega arith
clause_short (c ∷ cs) (suc i) = let h = clause_short cs i in omega arith

pub ruleset written = (joined_push, clause_short, take_more, take_all, append_assoc, append-nil)

-- where what is still to come is counted too: F writes a list, and f its first item
module _ {X : Type 0} (F : List X → List ℕ) (xs : List X) (i : ℕ) (out : List ℕ) {all : List ℕ} (inv : out ++ F (drop i xs) ≡ all) where
  pub one_more : (f : X → List ℕ) → ((x : X) (r : List X) → F (x ∷ r) ≡ f x ++ F r) → (next : List ℕ) (d : X) → i < length xs → next ≡ out ++ f (get_or xs i d) → next ++ F (drop (i + 1) xs) ≡ all
  one_more f step next d h e =
      let x = get_or xs i d in
      let r = drop (i + 1) xs in
      ap (λ z. z ++ F r) e ∙ append_assoc out (f x) (F r) ∙ ap (λ z. out ++ z) (sym (at_drop_more F xs i d h ∙ step x r)) ∙ inv

  pub all_written : length xs ≤ i → out ++ F [] ≡ all
  all_written h = ap (λ z. out ++ z) (sym (at_drop_all F xs i h)) ∙ inv

pub clause_step : (l : ℤ) (r : List ℤ) → clause_text (l ∷ r) ≡ literal_text l ++ clause_text r
clause_step l r = append_assoc (literal_text l) (joined literal_text r) (codes "0\n")

pub clauses_step : (c : List ℤ) (r : List (List ℤ)) → joined clause_text (c ∷ r) ≡ clause_text c ++ joined clause_text r
clauses_step c r = refl
