-- What `all` and `any` answer, by the subject's words.
use Rattle.std.proofs.Common.{◌≡◌, Bool, ◌&&◌, ◌||◌, List, map, refl}
use Rattle.std.specs.List.{list_all, list_any}
use Rattle.std.proofs.lemmas.List.Recursion.{same_from_clauses}
use Rattle.runs.specs.Steps.{any}
use Rattle.problem.specs.Lists.{every}

pub every_is : {A : Type 0} (P : A → Bool) (xs : List A) → list_all P xs ≡ every P xs
every_is P xs = same_from_clauses (list_all P) (every P) (λ x r. P x && r) refl (λ _ _. refl) (λ _ _. refl) xs

-- over a view of the entries
pub any_view : {X Y : Type 0} (v : X → Y) (P : Y → Bool) (xs : List X) → list_any (λ x. P (v x)) xs ≡ any P (map v xs)
any_view v P xs = same_from_clauses (list_any (λ x. P (v x))) (λ l. any P (map v l)) (λ x r. P (v x) || r) refl (λ _ _. refl) (λ _ _. refl) xs
