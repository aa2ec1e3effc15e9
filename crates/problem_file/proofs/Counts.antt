-- A counted list at the head of bytes.
use Rattle.std.proofs.Common.{◌≡◌, ℕ, ◌+◌, ◌-◌, ◌<◌, ◌≤◌, List, [], ◌∷◌, length, get_or, take, drop, Some, sym, ap, ◌∙◌, one-add, arith}
use Rattle.std.proofs.lemmas.List.{take_rest}
use Rattle.std.proofs.lemmas.Bool.{le-leb, cond-true}
use Rattle.file_format.specs.Fields.{counted}

pub counted_at : (bs : List ℕ) → 0 < length bs → get_or bs 0 0 ≤ length bs - 1 → counted bs ≡ Some (take (1 + get_or bs 0 0 - 1) (drop 1 bs), take (length bs - (1 + get_or bs 0 0)) (drop (1 + get_or bs 0 0) bs))
counted_at [] h k = absurd (omega arith)
counted_at (n ∷ bs) h k =
    let fits : n ≤ length bs = omega (arith, k) in
    let front : take n bs ≡ take (1 + n - 1) bs = ap (λ m. take m bs) (omega arith) in
    let back : drop n bs ≡ take (length (n ∷ bs) - (1 + n)) (drop (1 + n) (n ∷ bs)) = ap (λ m. drop m (n ∷ bs)) (sym (one-add n)) ∙ sym (take_rest (n ∷ bs) (1 + n)) in
    cond-true _ _ _ (le-leb n (length bs) fits) ∙ ap (λ l. Some (l, drop n bs)) front ∙ ap (λ l. Some (take (1 + n - 1) bs, l)) back
