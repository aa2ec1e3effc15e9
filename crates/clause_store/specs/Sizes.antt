-- What the law of holders rests on here: the sizes of clauses that lie one after another.
use Rattle.std.specs.Prelude.{◌≡◌, ℕ, suc, ◌+◌, ◌-◌, ◌≤◌, true, List, [], ◌∷◌, length, ℤ, slice_range, refl}
use Rattle.std.proofs.Common.{ap, arith, length-take, length-drop}
use Rattle.std.proofs.lemmas.Bool.{and_parts, leb-true, eqb-true}
use Rattle.holder.specs.Clauses.{size}
use Rattle.clause_store.specs.Flat.{cut_up, ordered}

pub ordered_below : (s : ℕ) (es : List ℕ) (n : ℕ) → ordered s es n ≡ true → s ≤ n
unfolding ordered
ordered_below s [] n h = let e = eqb-true s n h in omega arith
ordered_below s (e ∷ es) n h = let t = and_parts _ _ h in let a = leb-true s e t.0 in let b = ordered_below e es n t.1 in omega arith

pub ordered_head : (s e : ℕ) (es : List ℕ) (n : ℕ) → ordered s (e ∷ es) n ≡ true → (s ≤ e) × (e ≤ n) × (ordered e es n ≡ true)
unfolding ordered
ordered_head s e es n h = let t = and_parts _ _ h in (leb-true s e t.0, ordered_below e es n t.1, t.1)

pub length-cut_up : (s : ℕ) (es : List ℕ) (xs : List ℤ) → length (cut_up s es xs) ≡ length es
unfolding cut_up
length-cut_up s [] xs = refl
length-cut_up s (e ∷ es) xs = ap suc (length-cut_up e es xs)

pub size-cut_up : (s : ℕ) (es : List ℕ) (xs : List ℤ) → ordered s es (length xs) ≡ true → size (cut_up s es xs) + s ≡ length xs
unfolding cut_up ordered
size-cut_up s [] xs h = let e = eqb-true s (length xs) h in omega arith
size-cut_up s (e ∷ es) xs h =
    let t = ordered_head s e es (length xs) h in
    let r = size-cut_up e es xs t.2 in
    let l : length (slice_range xs s e) ≡ e - s = simp (length-take, length-drop) (omega arith) in
    omega arith
