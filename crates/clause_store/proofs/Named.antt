-- Literals that lie one after another: all fine, and the largest variable.
use Rattle.std.proofs.Common.{◌≡◌, ℕ, zero, suc, ◌-◌, ◌<◌, max, true, ◌&&◌, List, [], ◌∷◌, ◌++◌, length, get_or, take, drop, ℤ, sym, refl, ap, ◌∙◌, arith}
use Rattle.std.specs.List.{list_all}
use Rattle.std.proofs.lemmas.Bool.{and_parts, and_from, eqb-true}
use Rattle.std.proofs.lemmas.List.{drop_all, drop-drop, take-append-drop}
use Rattle.std.proofs.lemmas.List.Folds.{list_all-append}
use Rattle.std.proofs.lemmas.List.Recursion.{same_from_clauses}
use Rattle.holder.specs.Clauses.{literal_fine, all_fine, proper}
use Rattle.holder.specs.Widest.{variable, widest_of, widest}
use Rattle.clause_store.specs.Flat.{cut_up, ordered}
use Rattle.clause_store.specs.Sizes.{ordered_head}

pub all_fine_is : (xs : List ℤ) → all_fine xs ≡ list_all literal_fine xs
all_fine_is = same_from_clauses all_fine (list_all literal_fine) (λ x b. literal_fine x && b) refl (λ _ _. refl) (λ _ _. refl)

fine_append : (xs ys : List ℤ) → all_fine (xs ++ ys) ≡ (all_fine xs && all_fine ys)
fine_append xs ys = cc (all_fine_is (xs ++ ys), list_all-append literal_fine xs ys, all_fine_is xs, all_fine_is ys)

pub fine_push : (xs c : List ℤ) → all_fine xs ≡ true → proper c ≡ true → all_fine (xs ++ c) ≡ true
fine_push xs c h k = fine_append xs c ∙ and_from _ _ h (and_parts _ _ (and_parts _ _ k).1).1

pub fine_take : (k : ℕ) (xs : List ℤ) → all_fine xs ≡ true → all_fine (take k xs) ≡ true
fine_take k xs h = (and_parts _ _ (sym (fine_append (take k xs) (drop k xs)) ∙ ap all_fine (take-append-drop k xs) ∙ h)).0

widest-append : (xs ys : List ℤ) → widest_of (xs ++ ys) ≡ max (widest_of xs) (widest_of ys)
unfolding widest_of
widest-append [] ys = omega arith
widest-append (x ∷ xs) ys = let h = widest-append xs ys in omega arith

pub widest-cut_up : (s : ℕ) (es : List ℕ) (xs : List ℤ) → ordered s es (length xs) ≡ true → widest (cut_up s es xs) ≡ widest_of (drop s xs)
unfolding cut_up ordered widest widest_of
widest-cut_up s [] xs h = let e = eqb-true s (length xs) h in sym (ap widest_of (drop_all s xs (omega arith)))
widest-cut_up s (e ∷ es) xs h =
    let t = ordered_head s e es (length xs) h in
    let r = widest-cut_up e es xs t.2 in
    let p : drop (e - s) (drop s xs) ≡ drop e xs = drop-drop (e - s) s xs ∙ ap (λ (z : ℕ). drop z xs) (omega arith) in
    let a = widest-append (take (e - s) (drop s xs)) (drop (e - s) (drop s xs)) in
    let q = take-append-drop (e - s) (drop s xs) in
    cc

pub proper_fine : (c : List ℤ) → proper c ≡ true → all_fine c ≡ true
proper_fine c h = (and_parts _ _ (and_parts _ _ h).1).1

fine_drop : (k : ℕ) (xs : List ℤ) → all_fine xs ≡ true → all_fine (drop k xs) ≡ true
fine_drop k xs h = (and_parts _ _ (sym (fine_append (take k xs) (drop k xs)) ∙ ap all_fine (take-append-drop k xs) ∙ h)).1

-- each clause of what is held
pub fine_clauses : (s : ℕ) (es : List ℕ) (xs : List ℤ) → all_fine xs ≡ true → (i : ℕ) → i < length es → all_fine (get_or (cut_up s es xs) i []) ≡ true
unfolding cut_up
fine_clauses s [] xs h i l = absurd (omega arith)
fine_clauses s (e ∷ es) xs h zero l = fine_take (e - s) (drop s xs) (fine_drop s xs h)
fine_clauses s (e ∷ es) xs h (suc i) l = fine_clauses e es xs h i (omega arith)

pub widest_none : widest_of [] ≡ 0
unfolding widest_of
widest_none = refl

pub widest_more : (l : ℤ) (c : List ℤ) → widest_of (l ∷ c) ≡ max (variable l) (widest_of c)
unfolding widest_of
widest_more l c = refl
